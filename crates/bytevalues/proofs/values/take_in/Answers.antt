-- `bytevalues::values::take_in` meets its contract: the words stand in the front of the part, or others as many as it has room for. Assumes nothing.
use mathlib.Core.Path.{refl, sym, ◌∙◌}
use native.Mathlib.Nat.{le_refl}
use native.Mathlib.Omega.{arith}
use lib.ListN.{length}
use Rattle.octets.specs.Bytes.{words_of}
use Rattle.octets.proofs.BytesLaws.{length_words}
use Rattle.octets.proofs.PartLaws.{converted}
use Rattle.bytevalues.proofs.Beyond.{few_standing, stood}
use Rattle.bytevalues.proofs.values.take_in.Goals as goal

pub returns-then-most-n : goal.returns-then-most-n
returns-then-most-n c =
    let a = c.args in
    let many = length_words a.bytes.now in
    (le_refl _, stood a.limit _ a.out.now (words_of a.bytes.now) c.requires.0 (omega (arith, c.if-most-n.true, many)) c.stand_in.ensures)

pub returns : goal.returns
returns c =
    let a = c.args in
    let many = length_words a.bytes.now in (
      c.if-most-n.false,
      converted a.bytes.now a.out.now _ _ c.words_of.ensures refl c.if-most-n.false
          ∙ sym (few_standing a.limit (length a.out.now) (words_of a.bytes.now) (omega (arith, c.if-most-n.false, many))),
    )
