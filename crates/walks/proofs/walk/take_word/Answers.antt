-- `walks::walk::take_word` meets its contract. Assumes nothing.
use Rattle.std.proofs.Common.{◌≡◌, ℕ, length, sym, ap, ◌∙◌, ap₂}
use Rattle.machine.specs.declared.step.Step.{Step}
use Rattle.machine.specs.Machine.{step_of}
use Rattle.machine.specs.Walk.{stored}
use Rattle.machine.proofs.StepLaws.{step_classed}
use Rattle.machine.proofs.Kept.{step_steady}
use Rattle.walks.proofs.walk.take_word.Given.{Over}
use Rattle.walks.proofs.walk.take_word.Goals as goal
use Rattle.walks.proofs.walk.take_word.Goals.{After-step_by-s}

-- the step is that of the word
step_is : (g : Over) (s : After-step_by-s g) →
    let a = s.args in
    s.step_by-s.result ≡ step_of a.mode (length (g.P.Piece.words a.room.now)) a.phase a.w
step_is g s =
    let a = s.args in
    s.step_by-s.ensures ∙ step_classed a.mode s.count.result a.phase a.w _ s.class_of.ensures.0 ∙ ap (λ (n : ℕ). step_of a.mode n a.phase a.w) s.count.ensures

pub put_value-requires : goal.put_value-requires
put_value-requires g c = λ e.
    let a = c.args in
    let is = step_is g (goal.at.put_value-requires g c).After-step_by-s in
    rw c.collected_of.ensures
    ((step_steady a.mode (length (g.P.Piece.words a.room.now)) a.phase a.w).inside (sym (ap (λ (x : Step). x.keeps) is) ∙ e))

pub returns : goal.returns
returns g c =
    let a = c.args in (
      step_is g (goal.at.returns g c).After-step_by-s,
      c.put_value.ensures
          ∙ ap₂ (λ (m x : ℕ). stored c.step_by-s.result.keeps m x (g.P.Piece.words a.room.now)) c.collected_of.ensures c.value_of.ensures,
    )
