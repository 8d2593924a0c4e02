-- Rows of the listing as text: words of a row, and numbers in decimal. A character is its ASCII number.
-- Assumes nothing.
use Rattle.std.specs.Prelude.{ℕ, zero, suc, ◌+◌, ◌/◌, ◌%◌, Bool, true, false, List, [], ◌∷◌, ◌++◌, ltb, ℤ, pos, negsuc}
use Rattle.lists.specs.Tests.{pick}

-- a digit
abbrev pub digit : ℕ → ℕ
digit d = 48 + d

-- n in decimal with no zero in front, where k digits are enough
unfoldable pub digits_by : ℕ → ℕ → List ℕ
digits_by zero n = []
digits_by (suc k) n = let front = digits_by k (n / 10) in pick (ltb n 10) (digit n ∷ []) (front ++ (digit (n % 10) ∷ []))

-- the numbers here have no more than 20 digits
unfoldable pub decimal : ℕ → List ℕ
decimal n = digits_by 20 n

-- with a minus sign in front where it is below 0
abbrev pub signed : ℤ → List ℕ
signed (pos n) = decimal n
signed (negsuc n) = 45 ∷ decimal (suc n)

-- `begun `, `refused `, `block `, `drop `, `end`, `unknown`, ` dropped`, a space and the line's end
abbrev pub begun_text : List ℕ
begun_text = 98 ∷ 101 ∷ 103 ∷ 117 ∷ 110 ∷ 32 ∷ []

abbrev pub refused_text : List ℕ
refused_text = 114 ∷ 101 ∷ 102 ∷ 117 ∷ 115 ∷ 101 ∷ 100 ∷ 32 ∷ []

abbrev pub block_text : List ℕ
block_text = 98 ∷ 108 ∷ 111 ∷ 99 ∷ 107 ∷ 32 ∷ []

abbrev pub drop_text : List ℕ
drop_text = 100 ∷ 114 ∷ 111 ∷ 112 ∷ 32 ∷ []

abbrev pub end_text : List ℕ
end_text = 101 ∷ 110 ∷ 100 ∷ []

abbrev pub unknown_text : List ℕ
unknown_text = 117 ∷ 110 ∷ 107 ∷ 110 ∷ 111 ∷ 119 ∷ 110 ∷ []

abbrev pub dropped_text : Bool → List ℕ
dropped_text true = 32 ∷ 100 ∷ 114 ∷ 111 ∷ 112 ∷ 112 ∷ 101 ∷ 100 ∷ []
dropped_text false = []

abbrev pub space : List ℕ
space = 32 ∷ []

abbrev pub newline : List ℕ
newline = 10 ∷ []
