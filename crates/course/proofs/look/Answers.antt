-- `course::look` meets its contract. Assumes nothing.
use Rattle.std.specs.Prelude.{Option, ℕ}
use mathlib.Core.Path.{sym, ap, ◌∙◌}
use mathlib.Core.Bool.{Bool, ◌||◌}
use Rattle.course.specs.Course.{impossible_after}
use Rattle.course.proofs.look.Goals as goal

pub returns-in-None : goal.returns-in-None
returns-in-None c =
    let g = c.args in (
      c.looked_by.ensures.0
          ∙ ap (λ (b : Bool). g.busy || b) c.is_at.ensures
          ∙ sym (ap (λ (l : Option ℕ). impossible_after g.system l g.t g.place g.busy) c.in-None.is),
      c.looked_by.ensures.1,
      c.looked_by.ensures.2,
    )

pub returns-in-Some : goal.returns-in-Some
returns-in-Some c =
    let g = c.args in
    (c.look_after.ensures.0 ∙ sym (ap (λ (l : Option ℕ). impossible_after g.system l g.t g.place g.busy) c.in-Some.is), c.look_after.ensures.1, c.look_after.ensures.2)
