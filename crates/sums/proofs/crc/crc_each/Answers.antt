use mathlib.Core.Path.{sym, ap, ◌∙◌, subst}
use Prim.Native.Nat.{ℕ, ◌+◌, ◌^◌, ◌<◌, ◌≤◌}
use lib.ListN.{length, drop, drop_of_length-le}
use Rattle.words.specs.Crc.{crc_of}
use Rattle.words.proofs.CrcLaws.{crc_none, crc_next, word_lt}
use borrow.Author.Rules.{rules}
use Rattle.sums.proofs.crc.crc_each.Goals as goal

pub loop-w-preserved : goal.loop-w-preserved
loop-w-preserved c =
    let l = c.loop-w in
    let s = c.args.s.now in
    (subst (λ (r : ℕ). r < 2 ^ 18) (sym c.crc_word-x.ensures) (word_lt l.x _), ap (λ (r : ℕ). crc_of r (drop (l.w-index + 1) s)) c.crc_word-x.ensures ∙ crc_next l.x l.w-index s c.loop-w-test.true ∙ l.invariant.1)

pub returns : goal.returns
returns c =
    let l = c.loop-w in
    let s = c.args.s.now in
    let all : length s ≤ l.w-index = search rules in
    sym (ap (crc_of l.x) (drop_of_length-le s all) ∙ crc_none l.x l.invariant.0) ∙ l.invariant.1
