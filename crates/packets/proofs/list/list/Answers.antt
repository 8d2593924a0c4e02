-- `packets::list::list` meets its contract. Assumes nothing.
use mathlib.Core.Path.{◌≡◌, sym, ap, ◌∙◌}
use mathlib.Core.List.{List, []}
use Prim.Native.Nat.{ℕ}
use native.Mathlib.Omega.{arith}
use Rattle.line.specs.declared.check.Checked.{Checked}
use Rattle.line.specs.Systems.{system_of}
use Rattle.line.specs.Check.{line_fault}
use Rattle.packets.specs.declared.list.Listed.{Listed}
use Rattle.packets.specs.Gap.{list_in}
use Rattle.packets.specs.Listing.{outcome, listed_of}
use Rattle.packets.proofs.ListingLaws.{checked_fault, list_1, list_fault_lem, list_done, gap_in, gap_lent}
use Rattle.packets.proofs.list.list.Goals as goal
use Rattle.packets.proofs.list.list.Goals.{Else-fault-ne0}

-- the line is accepted
clean : (e : Else-fault-ne0) → let a = e.args in line_fault a.system a.mode a.line.now ≡ 0
clean e =
    let a = e.args in
    sym (ap (λ (x : Checked). x.fault) e.check-fault.ensures ∙ checked_fault a.system a.mode a.line.now []) ∙ e.if-fault-ne0.false

pub returns-then-out-gap : goal.returns-then-out-gap
returns-then-out-gap c =
    let a = c.args in
    ap (λ (x : Listed). outcome x a.out.now) c.none_listed.ensures
    ∙ sym (list_1 a.system a.mode a.line.now a.out.now (λ e. c.if-out-gap.true (e ∙ sym c.gap_length-gap.ensures)))

pub returns-then-fault-ne0 : goal.returns-then-fault-ne0
returns-then-fault-ne0 c =
    let a = c.args in
    let is = ap (λ (x : Checked). x.fault) c.check-fault.ensures ∙ checked_fault a.system a.mode a.line.now a.out.now in
    ap (λ (x : Listed). outcome x a.out.now) c.none_listed-then-fault-ne0.ensures
    ∙ sym (list_fault_lem a.system a.mode a.line.now a.out.now (c.if-out-gap.false ∙ c.gap_length-gap.ensures) _ (sym is) c.if-fault-ne0.true)

pub slice_bounds-list_from-end : goal.slice_bounds-list_from-end
slice_bounds-list_from-end c =
    let a = c.args in
    omega (arith, c.gap_length-gap.ensures, gap_in a.system a.mode a.line.now [] (clean (goal.at.slice_bounds-list_from-end c).Else-fault-ne0))

pub returns : goal.returns
returns c =
    let a = c.args in
    c.list_from.ensures
    ∙ ap (λ (g : List ℕ). listed_of (list_in g) a.out.now) (gap_lent (system_of a.system) a.line.now _ c.gap_length-gap.ensures)
    ∙ sym (list_done a.system a.mode a.line.now a.out.now (c.if-out-gap.false ∙ c.gap_length-gap.ensures) (clean (goal.at.returns c).Else-fault-ne0))
