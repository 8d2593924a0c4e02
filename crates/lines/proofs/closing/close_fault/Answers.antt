-- `lines::closing::close_fault` meets its contract. Assumes nothing.
use mathlib.Core.Path.{ap, ap₂, ◌∙◌}
use Prim.Native.Nat.{ℕ}
use mathlib.Core.Bool.{Bool, ◌&&◌, ◌||◌, not}
use Rattle.lists.proofs.Refusals.{LowestOf, low_none, low_step}
use Rattle.writer.specs.Adding.{is_full}
use Rattle.writer.specs.Closing.{close_faults, close_fault}
use Rattle.lines.proofs.closing.close_fault.Goals as goal

pub returns : goal.returns
unfolding close_fault
returns c =
    let g = c.args in
    let full = c.is_full.ensures ∙ ap (λ (e : ℕ). is_full e g.w.place) c.end_in.ensures in
    let left = ap₂ (λ (a b : Bool). a && not b) c.is_part.ensures full in
    let l : LowestOf (close_faults g.w g.long) c.or_else.result =
    low_step 1 c.or_else.ensures (ap not c.is_fit.ensures)
    (low_step 2 c.or_else-r2.ensures c.is_impossible.ensures
    (low_step 20 c.or_else-r20.ensures (ap₂ (λ (a b : Bool). not a || b) c.is_at.ensures left) low_none)) in
    l.is
