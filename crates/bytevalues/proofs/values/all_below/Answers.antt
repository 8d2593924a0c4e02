use mathlib.Core.Path.{ap}
use Prim.Native.Nat.{ℕ}
use native.Mathlib.Omega.{arith}
use lib.Dec.{ltb}
use Rattle.lists.proofs.Loops.{test_start, test_turn, test_end}
use Rattle.octets.proofs.BytesLaws.{length_words}
use Rattle.bytevalues.proofs.values.all_below.Goals as goal

pub loop-i-init : goal.loop-i-init
loop-i-init c = test_start _ _

pub loop-i-preserved : goal.loop-i-preserved
loop-i-preserved c =
    let a = c.args in
    test_turn (λ v. ltb v a.limit) _ _ _ _ c.loop-i.invariant (omega (arith, c.loop-i-test.true, length_words a.bytes.now)) (ap (λ (v : ℕ). ltb v a.limit) c.word_at.ensures)

pub returns : goal.returns
returns c =
    let a = c.args in
    test_end (λ v. ltb v a.limit) _ _ _ c.loop-i.invariant (omega (arith, c.loop-i-test.false, length_words a.bytes.now))
