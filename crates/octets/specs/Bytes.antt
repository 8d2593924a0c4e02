-- Words from bytes and bytes from words: two bytes a word, low byte first.
-- Assumes nothing.
use Rattle.std.specs.Prelude.{ℕ, ◌+◌, ◌*◌, ◌/◌, ◌%◌, Bool, List, [], ◌∷◌, eqb, length}

-- a last byte without its fellow makes no word
abbrev pub words_of : List ℕ → List ℕ
words_of [] = []
words_of (a ∷ []) = []
words_of (a ∷ b ∷ s) = (a + b * 256) ∷ words_of s

-- the other way
abbrev pub bytes_of : List ℕ → List ℕ
bytes_of [] = []
bytes_of (w ∷ s) = (w % 256) ∷ (w / 256) ∷ bytes_of s

-- an even number of bytes: words, and no byte without its fellow
abbrev pub is_even : List ℕ → Bool
is_even s = eqb (length s % 2) 0
