-- `packets::packet::lay_body` meets its contract. Assumes nothing.
use mathlib.Core.Path.{ap, ap₂, ◌∙◌}
use mathlib.Core.List.{[], ◌∷◌, ◌++◌}
use Prim.Native.Nat.{ℕ}
use lib.ListN.{length}
use Rattle.words.specs.Forms.{byte_word, data_word}
use Rattle.words.proofs.FormLaws.{byte_of_low}
use Rattle.packets.specs.Packet.{body_words}
use Rattle.packets.proofs.packet.lay_body.Goals as goal

pub returns : goal.returns
unfolding body_words
returns c =
    let g = c.args in
    let head =
    c.copy_from_slice.ensures.after
    ∙ ap₂ (λ (x y : ℕ). x ∷ y ∷ c.byte_word-count.result ∷ []) (c.byte_word-first.ensures ∙ ap byte_word c.from.ensures) (c.byte_word-next.ensures ∙ ap byte_word c.from-2.ensures)
    ∙ ap (λ (x : ℕ). byte_word g.did ∷ byte_word g.second ∷ x ∷ []) (c.byte_word-count.ensures ∙ byte_of_low (length g.values.now)) in
    ap₂ ◌++◌ head (c.put.ensures data_word (λ w v e. e))
