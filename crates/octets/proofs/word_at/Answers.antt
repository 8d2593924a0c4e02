-- `octets::word_at` meets its contract. Assumes nothing.
use mathlib.Core.Path.{sym, ◌∙◌}
use native.Mathlib.Omega.{arith}
use lib.ListN.{get_or-eq_default}
use Rattle.octets.specs.Bytes.{words_of}
use Rattle.octets.proofs.BytesLaws.{length_words, word_at}
use Rattle.octets.proofs.word_at.Goals as goal

pub returns-then-i-bytes : goal.returns-then-i-bytes
returns-then-i-bytes c =
    let b = c.before.before.before in
    let a = b.args in
    c.joined.ensures ∙ sym (word_at a.bytes.now a.i (omega (arith, b.if-i-bytes.true, length_words a.bytes.now)))

pub returns-else-i-bytes : goal.returns-else-i-bytes
returns-else-i-bytes c =
    let a = c.args in
    sym (get_or-eq_default (words_of a.bytes.now) 0 {n = a.i} (omega (arith, c.if-i-bytes.false, length_words a.bytes.now)))
