-- `line::header::header_words` meets its contract. Assumes nothing.
use mathlib.Core.Path.{refl, ap, ◌∙◌, subst}
use Prim.Native.Nat.{ℕ}
use mathlib.Core.List.{[], ◌∷◌}
use lib.ListN.{replicate}
use Rattle.line.specs.Header.{header_words}
use Rattle.line.specs.Cuts.{Laid}
use Rattle.line.proofs.Written.{written}
use Rattle.line.proofs.header.header_words.Goals as goal

pub returns : goal.returns
returns c =
    let n = c.args.number in
    let s = c.held-s in
    let sum = subst (λ (x : ℕ). Laid 52 (x ∷ []) c.lay_crc-2.new.out c.lay_words-2.new.out) c.checksum_of-sum.ensures c.lay_words-2.ensures in
    written n s.result s.ensures.1 (replicate 53 0) _ _ _ _ _ _ _ _ _ _ refl
    c.lay_words.ensures
    c.lay_bytes.ensures
    c.lay_crc.ensures
    c.lay_bytes-2.ensures
    c.lay_bytes-3.ensures
    c.lay_bytes-4.ensures
    c.lay_bytes-5.ensures
    c.lay_bytes-6.ensures
    c.lay_crc-2.ensures
    sum
    ∙ ap (header_words n) s.ensures.0
