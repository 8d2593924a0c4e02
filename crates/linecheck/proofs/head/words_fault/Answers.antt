-- `linecheck::head::words_fault` meets its contract. Assumes nothing.
use mathlib.Core.Path.{ap, ◌∙◌}
use Prim.Native.Nat.{ℕ}
use mathlib.Core.Bool.{not}
use native.Mathlib.Omega.{arith}
use lib.Dec.{eqb}
use lib.ListN.{get_or, drop}
use Rattle.lists.proofs.Refusals.{LowestOf, low_none, low_step}
use Rattle.line.proofs.Fronts.{one_word}
use Rattle.line.specs.Check.{crc_stands, head_faults}
use Rattle.linecheck.proofs.head.words_fault.Goals as goal

pub returns : goal.returns
unfolding head_faults crc_stands
returns c =
    let a = c.args in
    let sum = ap (λ (x : ℕ). eqb (get_or a.line.now 56 0) x) c.checksum_of-sum.ensures ∙ one_word 56 _ a.line.now (omega (arith, c.requires)) in
    let lowest : LowestOf (drop 2 (head_faults a.s a.line.now)) c.or_else.result =
    low_step 5 c.or_else.ensures (ap not c.is_formed.ensures)
    (low_step 6 c.or_else-r6.ensures (ap not sum)
    (low_step 7 c.or_else-r7.ensures (ap not c.crc_stands-2.ensures)
    (low_step 8 c.or_else-r8.ensures (ap not c.crc_stands.ensures)
    (low_step 9 c.or_else-r9.ensures (ap not c.is_numbered.ensures) low_none)))) in
    lowest.is
