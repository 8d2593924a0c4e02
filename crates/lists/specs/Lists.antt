-- Lists of numbers: a part, equality, a test of each.
-- Assumes nothing.
use Rattle.std.specs.Prelude.{ℕ, Bool, true, false, ◌&&◌, List, [], ◌∷◌, eqb, take, drop}

-- the n elements from index a on
abbrev pub part : ℕ → ℕ → List ℕ → List ℕ
part a n l = take n (drop a l)

-- the two lists are equal
abbrev pub same : List ℕ → List ℕ → Bool
same [] [] = true
same [] (y ∷ ys) = false
same (x ∷ xs) [] = false
same (x ∷ xs) (y ∷ ys) = eqb x y && same xs ys

-- the test holds of each element
abbrev pub each : (ℕ → Bool) → List ℕ → Bool
each f [] = true
each f (x ∷ xs) = f x && each f xs
