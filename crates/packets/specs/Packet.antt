-- The words of a packet.
-- Assumes nothing.
use Rattle.std.specs.Prelude.{ℕ, ◌+◌, Bool, List, [], ◌∷◌, ◌++◌, map, eqb, leb, length}
use Rattle.lists.specs.Tests.{pick}
use Rattle.words.specs.Forms.{byte_word, data_word}
use Rattle.words.specs.Checksum.{checksum}
use Rattle.line.specs.Header.{flag_words}

-- DID, second word and count in byte form, and the user words in data form: what the checksum is of
unfoldable pub body_words : ℕ → ℕ → List ℕ → List ℕ
body_words did second values = byte_word did ∷ byte_word second ∷ byte_word (length values) ∷ map data_word values

-- 000h 3FFh 3FFh, then DID, second word, count, the user words, and the checksum: n+7 words
unfoldable pub packet_words : ℕ → ℕ → List ℕ → List ℕ
unfolding body_words
packet_words did second values = flag_words ++ (body_words did second values ++ (checksum (body_words did second values) ∷ []))

-- a packet: the DID, the second word, which is a block number (DID 80h or above, type 1) or an SDID, and the values of the user words
pub record Packet : Type 0 where
  pub did : ℕ
  pub second : ℕ
  pub values : List ℕ

abbrev pub is_numbered : Packet → Bool
is_numbered p = leb 0x80 p.did

abbrev pub words_of : Packet → List ℕ
words_of p = packet_words p.did p.second p.values

-- packets one behind another
abbrev pub packed : List Packet → List ℕ
packed [] = []
packed (p ∷ ps) = words_of p ++ packed ps

-- the packet's words into a part that is as long as they are; no other part is changed
abbrev pub laid_in : ℕ → ℕ → List ℕ → List ℕ → List ℕ
laid_in did second values out = pick (eqb (length out) (length values + 7)) (packet_words did second values) out

-- the packets listed flat: DID, second word, how many user words, and these
abbrev pub entry_of : Packet → List ℕ
entry_of p = p.did ∷ p.second ∷ length p.values ∷ p.values

abbrev pub flat : List Packet → List ℕ
flat [] = []
flat (p ∷ ps) = entry_of p ++ flat ps
