-- `line::header::lay_crc` meets its contract. Assumes nothing.
use mathlib.Core.Path.{ap, ◌∙◌, subst}
use Prim.Native.Nat.{ℕ}
use mathlib.Core.List.{List}
use Rattle.words.specs.Crc.{register_words, crc_words}
use Rattle.line.specs.Cuts.{Laid}
use Rattle.line.proofs.header.lay_crc.Goals as goal

pub returns : goal.returns
unfolding crc_words
returns c =
    let a = c.args in
    subst (λ (ws : List ℕ). Laid a.e ws a.out.now c.lay_words.new.out)
    (c.crc_words.ensures ∙ ap register_words c.crc_of-c.ensures)
    c.lay_words.ensures
