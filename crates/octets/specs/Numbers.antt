-- A number in decimal, read from its text.
-- Assumes nothing.
use Rattle.std.specs.Prelude.{ℕ, ◌+◌, ◌-◌, ◌*◌, ◌&&◌, List, [], ◌∷◌, ltb, leb}
use Rattle.lists.specs.Tests.{pick}

-- one digit more; where it is none, or the number would be above 9,999, 10000 is the answer, and stays
unfoldable pub digit_more : ℕ → ℕ → ℕ
digit_more x b = pick (ltb x 1000 && (leb 48 b && leb b 57)) (x * 10 + (b - 48)) 10000

abbrev pub digits_more : ℕ → List ℕ → ℕ
digits_more x [] = x
digits_more x (b ∷ s) = digits_more (digit_more x b) s

-- no digit makes no number
abbrev pub number_of : List ℕ → ℕ
number_of [] = 10000
number_of (b ∷ s) = digits_more 0 (b ∷ s)
