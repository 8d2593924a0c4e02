-- `lines::packing::pack_fault` meets its contract. Assumes nothing.
use mathlib.Core.Path.{◌≡◌, sym, ap, ap₂, ◌∙◌}
use mathlib.Core.Bool.{false, not}
use Prim.Native.Nat.{ℕ, ◌+◌}
use lib.Dec.{ltb}
use lib.ListN.{length}
use borrow.Author.Tests.{lt-ltb, le-ltb}
use Rattle.lists.specs.Lists.{each}
use Rattle.lists.proofs.Refusals.{LowestOf, low_none, low_hit, low_miss, low_step}
use Rattle.line.specs.Check.{fits_length}
use Rattle.writer.specs.State.{impossible}
use Rattle.writer.specs.Packing.{pack_faults, pack_fault}
use Rattle.lines.proofs.packing.pack_fault.Goals as goal
use Rattle.lines.proofs.packing.pack_fault.Goals.{Else-not-is_fit, Else-is_impossible, Else-not-all_below}

-- the conditions of the tests that were passed
fits : (c : Else-not-is_fit) → let a = c.args in not (fits_length a.w.system a.w.mode a.long) ≡ false
fits c = sym (ap not c.is_fit.ensures) ∙ ap not c.if-not-is_fit.false

possible : (c : Else-is_impossible) → impossible c.args.w ≡ false
possible c = sym c.is_impossible.ensures ∙ c.if-is_impossible.false

nine : (c : Else-not-all_below) → not (each (λ v. ltb v 512) c.args.values.now) ≡ false
nine c = sym (ap not c.all_below.ensures) ∙ ap not c.if-not-all_below.false

pub returns-then-not-is_fit : goal.returns-then-not-is_fit
unfolding pack_fault
returns-then-not-is_fit c =
    let a = c.args in
    let lowest : LowestOf (pack_faults a.w a.long a.values.now) 1 = low_hit 1 (sym (ap not c.is_fit.ensures) ∙ ap not c.if-not-is_fit.true) in
    lowest.is

pub returns-then-is_impossible : goal.returns-then-is_impossible
unfolding pack_fault
returns-then-is_impossible c =
    let a = c.args in
    let lowest : LowestOf (pack_faults a.w a.long a.values.now) 2 =
    low_miss 1 (fits (goal.at.returns-then-is_impossible c).Else-not-is_fit) (low_hit 2 (sym c.is_impossible.ensures ∙ c.if-is_impossible.true)) in
    lowest.is

pub returns-then-not-all_below : goal.returns-then-not-all_below
unfolding pack_fault
returns-then-not-all_below c =
    let a = c.args in
    let lowest : LowestOf (pack_faults a.w a.long a.values.now) 17 =
    low_miss 1 (fits (goal.at.returns-then-not-all_below c).Else-not-is_fit) (low_miss 2 (possible (goal.at.returns-then-not-all_below c).Else-is_impossible) (low_hit 17 (sym (ap not c.all_below.ensures) ∙ ap not c.if-not-all_below.true))) in
    lowest.is

pub returns-then-n-gt255 : goal.returns-then-n-gt255
unfolding pack_fault
returns-then-n-gt255 c =
    let a = c.args in
    let lowest : LowestOf (pack_faults a.w a.long a.values.now) 18 =
    low_miss 1 (fits (goal.at.returns-then-n-gt255 c).Else-not-is_fit) (low_miss 2 (possible (goal.at.returns-then-n-gt255 c).Else-is_impossible) (low_miss 17 (nine (goal.at.returns-then-n-gt255 c).Else-not-all_below) (low_hit 18 (lt-ltb 255 (length a.values.now) c.if-n-gt255.true)))) in
    lowest.is

pub returns : goal.returns
unfolding pack_fault
returns c =
    let a = c.args in
    let room = ap₂ (λ (n u : ℕ). ltb n (u + (length a.values.now + 7))) c.gap_length.ensures c.from.ensures in
    let lowest : LowestOf (pack_faults a.w a.long a.values.now) c.or_else.result =
    low_miss 1 (fits (goal.at.returns c).Else-not-is_fit) (low_miss 2 (possible (goal.at.returns c).Else-is_impossible) (low_miss 17 (nine (goal.at.returns c).Else-not-all_below) (low_miss 18 (le-ltb 255 (length a.values.now) c.if-n-gt255.false)
    (low_step 20 c.or_else.ensures (ap not c.is_at.ensures) (low_step 24 c.or_else-r24.ensures room low_none))))) in
    lowest.is
