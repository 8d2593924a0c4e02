use mathlib.Core.Path.{◌≡◌, ap, ◌∙◌}
use Prim.Native.Nat.{◌+◌, ◌%◌, ◌≤◌}
use native.Mathlib.Omega.{arith}
use lib.ListN.{length, drop, drop_of_length-le}
use Rattle.words.specs.Forms.{data_word}
use Rattle.words.specs.Checksum.{sum_of, checksum}
use Rattle.words.proofs.SumLaws.{sum_next}
use borrow.Author.Rules.{rules}
use Rattle.sums.proofs.checksum.checksum_of.Goals as goal

pub loop-w-preserved : goal.loop-w-preserved
loop-w-preserved c =
    let l = c.loop-w in
    (search rules, sum_next l.sum l.w-index c.args.s.now c.loop-w-test.true ∙ l.invariant.1)

pub returns : goal.returns
unfolding sum_of checksum
returns c =
    let s = c.args.s.now in
    let l = c.loop-w in
    let e : (l.sum + sum_of (drop l.w-index s)) % 512 ≡ sum_of s % 512 = l.invariant.1 in
    let all : length s ≤ l.w-index = search rules in
    let z : sum_of (drop l.w-index s) ≡ 0 = ap sum_of (drop_of_length-le s all) in
    c.data_word.ensures ∙ ap data_word (omega arith)
