-- `words::forms::byte_word` meets its contract. Assumes nothing.
use native.Mathlib.Omega.{arith}
use Rattle.words.specs.Forms.{data_word, byte_word}
use Rattle.words.proofs.FormLaws.{parity_low}
use Rattle.words.proofs.forms.byte_word.Goals as goal

pub returns : goal.returns
unfolding byte_word data_word
returns c =
    let v = c.args.v in
    let p = parity_low v in
    omega (arith, c.parity_of.ensures)
