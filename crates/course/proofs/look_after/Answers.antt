-- `course::look_after` meets its contract. Assumes nothing.
use mathlib.Core.Path.{◌≡◌, sym, ap, ◌∙◌}
use mathlib.Core.Bool.{Bool, true, false, ◌&&◌, ◌||◌, not}
use Prim.Native.Nat.{ℕ}
use lib.Dec.{leb}
use borrow.Author.Tests.{ne_eqb}
use Rattle.lists.proofs.Tests.{or_left, or_right, pick_true, pick_false}
use Rattle.line.specs.declared.systems.System.{System}
use Rattle.line.specs.Systems.{system_of}
use Rattle.line.specs.Fixed.{is_variable}
use Rattle.line.specs.Settings.{settings_fault}
use Rattle.course.specs.Course.{blocks_end, misplaced}
use Rattle.course.specs.Looks.{misplaced_by}
use Rattle.course.proofs.CourseLaws.{off_found, asked_after}
use Rattle.course.proofs.look_after.Goals as goal
use Rattle.course.proofs.look_after.Goals.{After-end_by-end}

-- a bound by the system that was looked up
bound : (s r : System) (x : ℕ) → s ≡ r → not (leb 1 x && leb x s.lines) ≡ not (leb 1 x && leb x r.lines)
bound s r x e = ap (λ (y : System). not (leb 1 x && leb x y.lines)) e

-- what was found when the place is asked
module _ (c : After-end_by-end) (v : Bool) (is : is_variable c.args.t.block ≡ v) where
  off : misplaced_by v c.end_by-end.result c.find_fault-found.result.row.size c.args.place
      ≡ misplaced (system_of c.args.system).payload c.args.t.block
      c.args.t.flag c.args.place
  off =
      let g = c.args in
      off_found _ g.t.block g.t.flag g.place _ v _ c.find_fault-found.ensures.1 is
      (c.end_by-end.ensures ∙ ap (λ (x : System). blocks_end x.payload g.t.block g.t.flag) c.system_of-s.ensures)

  numbered : not
      (leb 1 c.args.x
      && leb c.args.x (system_of c.args.system).lines) ≡ false
  numbered =
      sym (bound _ _ c.args.x c.system_of-s.ensures) ∙ ap not c.if-not-x-s.false

  clean : settings_fault c.args.system c.args.t ≡ 0
  clean = sym c.find_fault-found.ensures.0 ∙ c.if-found-ne0.false

pub returns-then-found-ne0 : goal.returns-then-found-ne0
returns-then-found-ne0 c =
    let g = c.args in (
      c.looked_by.ensures.0
          ∙ sym (or_right (not (leb 1 g.x && leb g.x (system_of g.system).lines)) _ (or_left _ _ (ap not (ne_eqb (settings_fault g.system g.t) 0 (λ e. c.if-found-ne0.true (c.find_fault-found.ensures.0 ∙ e)))))),
      c.looked_by.ensures.1,
      c.looked_by.ensures.2,
    )

pub returns-then-not-x-s : goal.returns-then-not-x-s
returns-then-not-x-s c =
    let g = c.args in
    (c.looked_by-then-not-x-s.ensures.0 ∙ sym (or_left _ _ (sym (bound _ _ g.x c.system_of-s.ensures) ∙ ap not c.if-not-x-s.true)), c.looked_by-then-not-x-s.ensures.1, c.looked_by-then-not-x-s.ensures.2)

pub looked_by-requires-then-is_variable : goal.looked_by-requires-then-is_variable
looked_by-requires-then-is_variable c = c.find_fault-found.ensures.1

pub returns-then-is_variable : goal.returns-then-is_variable
returns-then-is_variable c =
    let g = c.args in
    let v = sym c.is_variable.ensures ∙ c.if-is_variable.true in (
      c.looked_by-then-is_variable.ensures.0
          ∙ c.misplaced_by-beyond.ensures
          ∙ off (goal.at.returns-then-is_variable c).After-end_by-end true v
          ∙ sym (asked_after g.system g.x g.t g.place g.busy (numbered (goal.at.returns-then-is_variable c).After-end_by-end true v) (clean (goal.at.returns-then-is_variable c).After-end_by-end true v) ∙ pick_true _ _ v),
      c.looked_by-then-is_variable.ensures.1,
      c.looked_by-then-is_variable.ensures.2,
    )

pub looked_by-requires-2 : goal.looked_by-requires-2
looked_by-requires-2 c = c.find_fault-found.ensures.1

pub returns : goal.returns
returns c =
    let g = c.args in
    let v = sym c.is_variable.ensures ∙ c.if-is_variable.false in (
      c.looked_by-2.ensures.0
          ∙ ap (λ (o : Bool). o || g.busy) (c.misplaced_by-off.ensures ∙ off (goal.at.returns c).After-end_by-end false v)
          ∙ sym (asked_after g.system g.x g.t g.place g.busy (numbered (goal.at.returns c).After-end_by-end false v) (clean (goal.at.returns c).After-end_by-end false v) ∙ pick_false _ _ v),
      c.looked_by-2.ensures.1,
      c.looked_by-2.ensures.2,
    )
