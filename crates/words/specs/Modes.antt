-- Values and their words in 8-bit and 9-bit mode. The mode is the number 8 or 9; any other number is taken as 9.
-- Assumes nothing.
use Rattle.std.specs.Prelude.{ℕ, ◌%◌, Bool, ◌||◌, eqb}
use Rattle.lists.specs.Tests.{pick}
use Rattle.words.specs.Forms.{data_word, byte_word}

-- the modes that there are
unfoldable pub is_mode : ℕ → Bool
is_mode mode = eqb mode 8 || eqb mode 9

-- how many values there are: 8-bit mode 0-255, 9-bit mode 0-511
unfoldable pub values : ℕ → ℕ
unfolding pick
values mode = pick (eqb mode 8) 256 512

-- 8-bit mode writes a value in byte form; 9-bit mode writes it in B8-B0, B9 the complement of B8.
unfoldable pub word_of : ℕ → ℕ → ℕ
unfolding pick
word_of mode v = pick (eqb mode 8) (byte_word v) (data_word v)

-- a value is the word's low nine (8-bit: eight) bits
unfoldable pub value_of : ℕ → ℕ → ℕ
unfolding values
value_of mode w = w % values mode
