-- A choice by a test, and refusals: each has its number, and the lowest whose condition holds is given.
-- Assumes nothing.
use Rattle.std.specs.Prelude.{ℕ, zero, suc, Bool, true, false, ◌&&◌, ◌||◌, List, [], ◌∷◌, eqb, ltb}

-- the first where the test holds, else the second
unfoldable pub pick : {A : Type 0} → Bool → A → A → A
pick true a b = a
pick false a b = b

-- the first number unless it is 0, which says that nothing was found: then the second
abbrev pub or_next : ℕ → ℕ → ℕ
or_next zero next = next
or_next (suc n) next = suc n

-- a refusal: its number, and whether its condition holds
pub record Refusal : Type 0 where
  pub number : ℕ
  pub holds : Bool

abbrev pub when : ℕ → Bool → Refusal
when n b = record { number = n; holds = b }

-- the lowest number whose condition holds, of refusals in the order of their numbers; 0 where none holds
abbrev pub lowest_of : List Refusal → ℕ
lowest_of [] = 0
lowest_of (r ∷ rs) = pick r.holds r.number (lowest_of rs)

-- the numbers rise strictly, from above n on
abbrev pub rising_from : ℕ → List Refusal → Bool
rising_from n [] = true
rising_from n (r ∷ rs) = ltb n r.number && rising_from r.number rs

-- the numbers rise strictly, and none is 0
abbrev pub rising : List Refusal → Bool
rising rs = rising_from 0 rs

-- a refusal of the number n is among them, and its condition holds
abbrev pub holds_at : ℕ → List Refusal → Bool
holds_at n [] = false
holds_at n (r ∷ rs) = (eqb n r.number && r.holds) || holds_at n rs
