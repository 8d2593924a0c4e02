-- The 53 header words.
-- Assumes nothing.
use Rattle.std.specs.Prelude.{ℕ, ◌+◌, ◌*◌, ◌/◌, ◌%◌, List, [], ◌∷◌, ◌++◌, map}
use Rattle.words.specs.Forms.{byte_word}
use Rattle.words.specs.Checksum.{checksum}
use Rattle.words.specs.Crc.{crc_words}
use Rattle.line.specs.declared.settings.Settings.{Settings}

-- the six words that are the same in each header: three, and three from which the checksum and the line CRC go
abbrev pub flag_words : List ℕ
flag_words = 0x000 ∷ 0x3ff ∷ 0x3ff ∷ []

abbrev pub id_words : List ℕ
id_words = 0x140 ∷ 0x101 ∷ 0x22e ∷ []

-- Line number, 2 words in byte form: L7-L0; then L8 in B0, L9 in B1, B7-B2 zero.
unfoldable pub number_words : ℕ → List ℕ
number_words n = map byte_word (n % 256 ∷ n / 256 % 4 ∷ [])

-- Code in B3-B0 with AAI in B7-B4; destination 16, source 16; block type; CRC flag; reserved 5: 40 bytes.
unfoldable pub settings_bytes : Settings → List ℕ
settings_bytes s = (s.code % 16 + s.aai % 16 * 16) ∷ s.destination ++ (s.source ++ (s.block ∷ s.flag ∷ s.reserved))

unfoldable pub settings_words : Settings → List ℕ
settings_words s = map byte_word (settings_bytes s)

-- What the checksum covers. The line CRC covers the five words from 140h through the line number; the header CRC the 40 words of the settings.
unfoldable pub summed_words : ℕ → Settings → List ℕ
summed_words number s =
    let five = id_words ++ number_words number in
    five ++ (crc_words five ++ (settings_words s ++ crc_words (settings_words s)))

unfoldable pub header_words : ℕ → Settings → List ℕ
header_words number s =
    let summed = summed_words number s in
    flag_words ++ (summed ++ (checksum summed ∷ []))
