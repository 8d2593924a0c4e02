-- The words of a block.
-- Assumes nothing.
use Rattle.std.specs.Prelude.{ℕ, ◌/◌, ◌%◌, List, [], ◌∷◌, ◌++◌, map, length}
use Rattle.words.specs.Forms.{byte_word}
use Rattle.words.specs.Modes.{word_of}
use Rattle.words.specs.Class.{separator, end_code}

-- count of data words as four byte-form words, lowest byte first
unfoldable pub count_words : ℕ → List ℕ
count_words n = byte_word (n % 256) ∷ byte_word (n / 256 % 256) ∷ byte_word (n / 65536 % 256) ∷ byte_word (n / 16777216 % 256) ∷ []

-- A block is 309h, type (byte form), count, the data, 30Ah: n+7 words.
unfoldable pub block_words : ℕ → ℕ → List ℕ → List ℕ
unfolding count_words
block_words mode kind values = separator ∷ byte_word kind ∷ count_words (length values) ++ (map (word_of mode) values ++ (end_code ∷ []))

-- a place of a fixed line: type and data
unfoldable pub fixed_words : ℕ → ℕ → List ℕ → List ℕ
fixed_words mode kind values = byte_word kind ∷ map (word_of mode) values
