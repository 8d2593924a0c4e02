-- The checksum of words.
-- Assumes nothing.
use Rattle.std.specs.Prelude.{ℕ, ◌+◌, ◌%◌, List, [], ◌∷◌}
use Rattle.words.specs.Forms.{data_word}

-- the sum of the nine low bits of the words
unfoldable pub sum_of : List ℕ → ℕ
sum_of [] = 0
sum_of (w ∷ ws) = w % 512 + sum_of ws

-- that sum modulo 512, in data form
unfoldable pub checksum : List ℕ → ℕ
unfolding data_word sum_of
checksum ws = data_word (sum_of ws % 512)
