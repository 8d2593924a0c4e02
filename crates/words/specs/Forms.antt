-- The forms of a word. A word is a number, B0 its lowest bit.
-- Assumes nothing.
use Rattle.std.specs.Prelude.{ℕ, zero, suc, ◌+◌, ◌-◌, ◌*◌, ◌/◌, ◌%◌, ◌^◌, Bool, ◌&&◌, ltb, eqb}
use Rattle.std.specs.Int.Bits.{bit_xor}

-- bit k of w
abbrev pub bit : ℕ → ℕ → ℕ
bit k w = w / 2 ^ k % 2

-- the exclusive or of the n lowest bits of v
unfoldable pub xor_of : ℕ → ℕ → ℕ
xor_of zero v = 0
xor_of (suc n) v = bit_xor (v % 2) (xor_of n (v / 2))

-- the exclusive or of B7-B0
unfoldable pub parity : ℕ → ℕ
unfolding xor_of
parity v = xor_of 8 v

-- Data form: a 10-bit word in which B9 is the complement of B8.
unfoldable pub is_data : ℕ → Bool
is_data w = ltb w 0x400 && eqb (bit 9 w) (1 - bit 8 w)

-- Byte form: data form, and B8 is the exclusive or of B7-B0.
unfoldable pub is_byte : ℕ → Bool
unfolding is_data parity
is_byte w = is_data w && eqb (bit 8 w) (parity w)

-- the word in data form with v in B8-B0
unfoldable pub data_word : ℕ → ℕ
data_word v = (1 - bit 8 v) * 0x200 + v % 0x200

-- the word in byte form with v in B7-B0
unfoldable pub byte_word : ℕ → ℕ
unfolding parity data_word
byte_word v = data_word (parity v * 0x100 + v % 0x100)
