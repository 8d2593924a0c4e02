-- Parts as elements, the test of equality by parts, and an array of two: by these laws a field is judged byte by byte.
-- Assumes nothing.
use mathlib.Core.Path.{◌≡◌, refl, ap, ◌∙◌}
use mathlib.Core.Bool.{Bool, true, false, ◌&&◌}
use mathlib.Core.List.{List, [], ◌∷◌, ◌++◌}
use Prim.Native.Nat.{ℕ, zero, suc, ◌+◌, ◌≤◌}
use native.Mathlib.Omega.{arith}
use lib.Dec.{eqb}
use lib.ListN.{length, get_or, take}
use lib.Seq.{drop-cons}
use Rattle.lists.specs.Lists.{part, same}

-- ---- parts as elements
-- k elements from index a on
abbrev pub upto : List ℕ → ℕ → ℕ → List ℕ
upto b a zero = []
upto b a (suc k) = get_or b a 0 ∷ upto b (suc a) k

pub part_upto : (b : List ℕ) (a k : ℕ) → a + k ≤ length b → part a k b ≡ upto b a k
part_upto b a zero h = refl
part_upto b a (suc k) h = ap (take (suc k)) (drop-cons b a 0 (omega arith)) ∙ ap (λ (l : List ℕ). get_or b a 0 ∷ l) (part_upto b (suc a) k (omega arith))

-- ---- the test of equality by parts
pub same_append : (xs ys zs ws : List ℕ) → length xs ≡ length ys → same (xs ++ zs) (ys ++ ws) ≡ (same xs ys && same zs ws)
same_append [] [] zs ws e = refl
same_append [] (y ∷ ys) zs ws e = absurd (omega (arith, e))
same_append (x ∷ xs) [] zs ws e = absurd (omega (arith, e))
same_append (x ∷ xs) (y ∷ ys) zs ws e = step (eqb x y) (same_append xs ys zs ws (omega (arith, e)))
  where
    step : (b : Bool) → same (xs ++ zs) (ys ++ ws) ≡ (same xs ys && same zs ws) → (b && same (xs ++ zs) (ys ++ ws)) ≡ ((b && same xs ys) && same zs ws)
    step true h = h
    step false h = refl

-- ---- an array of two
pub two_of : (m t : List ℕ) → length m ≡ 2 → get_or m 0 0 ∷ get_or m 1 0 ∷ t ≡ m ++ t
two_of [] t h = absurd (omega arith)
two_of (a ∷ []) t h = absurd (omega arith)
two_of (a ∷ b ∷ []) t h = refl
two_of (a ∷ b ∷ x ∷ s) t h = absurd (omega arith)
