-- The 18-bit CRC. A register is a number, C0 its lowest bit, and only its 18 lowest bits count; bits come one after another.
-- Assumes nothing.
use Rattle.std.specs.Prelude.{ℕ, zero, suc, ◌+◌, ◌-◌, ◌*◌, ◌/◌, ◌%◌, ◌^◌, List, [], ◌∷◌, ◌++◌}
use Rattle.std.specs.Int.Bits.{bit_xor}
use Rattle.words.specs.Forms.{data_word}

-- start all ones
abbrev pub crc_start : ℕ
crc_start = 2 ^ 18 - 1

-- 18 bits: C17-C0 of any number
abbrev pub register : ℕ → ℕ
register c = c % 2 ^ 18

-- C17, C13 and C12
abbrev pub taps : ℕ
taps = 2 ^ 17 + 2 ^ 13 + 2 ^ 12

-- For a bit: f is the bit xor C0; shift towards C0; C17 becomes f; C13 and C12 are xored with f.
unfoldable pub crc_bit : ℕ → ℕ → ℕ
crc_bit c b =
    let f = bit_xor b (c % 2) in
    bit_xor (register c / 2) (f * taps)

-- the n lowest bits of w, B0 first
unfoldable pub low_bits : ℕ → ℕ → List ℕ
low_bits zero w = []
low_bits (suc n) w = w % 2 ∷ low_bits n (w / 2)

-- each word's ten bits, B0 first
unfoldable pub bits_of : List ℕ → List ℕ
unfolding low_bits
bits_of [] = []
bits_of (w ∷ ws) = low_bits 10 w ++ bits_of ws

-- the register after the bits
unfoldable pub crc_bits : ℕ → List ℕ → ℕ
unfolding crc_bit
crc_bits c [] = register c
crc_bits c (b ∷ bs) = crc_bits (crc_bit c b) bs

-- the register after the words
unfoldable pub crc_of : ℕ → List ℕ → ℕ
unfolding crc_bits bits_of
crc_of c ws = crc_bits c (bits_of ws)

-- the two words of a register: C8-C0 in B8-B0, then C17-C9, each in data form
unfoldable pub register_words : ℕ → List ℕ
unfolding data_word
register_words c = data_word (c % 512) ∷ data_word (c / 512 % 512) ∷ []

-- the two CRC words of words, from the start
unfoldable pub crc_words : List ℕ → List ℕ
unfolding crc_of register_words
crc_words ws = register_words (crc_of crc_start ws)
