-- What std's `starts_with` and `==` say of words that stand in a line.
-- Assumes nothing.
use mathlib.Core.Path.{◌≡◌, refl, sym, ap, ap₂, ◌∙◌}
use mathlib.Core.Bool.{Bool, true, false, ◌&&◌}
use mathlib.Core.List.{List, [], ◌∷◌}
use Prim.Native.Nat.{ℕ, ◌-◌, ◌<◌}
use native.Mathlib.Omega.{arith}
use lib.Dec.{eqb}
use lib.ListN.{length, get_or, take, drop, length-drop}
use lib.Seq.{take_all}
use lib.Pointwise.{pointwise}
use borrow.Author.Tests.{eqb-true, eqb-false, eq-eqb, ne_eqb}
use Rattle.lists.specs.Lists.{part, same}
use Rattle.lists.proofs.Loops.{next_drop}

turned : (a b : ℕ) → eqb a b ≡ eqb b a
turned a b = go (eqb b a) refl
  where
    go : (t : Bool) → eqb b a ≡ t → eqb a b ≡ t
    go true e = eq-eqb a b (omega (arith, eqb-true b a e))
    go false e = ne_eqb a b (λ z. eqb-false b a e (omega (arith, z)))

pointwise_turned : (n s : List ℕ) → pointwise eqb n s ≡ same s n
pointwise_turned [] [] = refl
pointwise_turned [] (y ∷ s) = refl
pointwise_turned (x ∷ n) [] = refl
pointwise_turned (x ∷ n) (y ∷ s) = ap₂ ◌&&◌ (turned x y) (pointwise_turned n s)

pub in_front : (n s : List ℕ) → pointwise eqb n (take (length n) s) ≡ same (take (length n) s) n
in_front n s = pointwise_turned n (take (length n) s)

-- the words n, which are m, stand in front; and from index k on
pub stands : (b : Bool) (n m s : List ℕ) → b ≡ pointwise eqb n (take (length n) s) → n ≡ m → b ≡ same (take (length m) s) m
stands b n m s e f = e ∙ in_front n s ∙ ap (λ (x : List ℕ). same (take (length x) s) x) f

pub stands_at : (b : Bool) (k : ℕ) (n m s : List ℕ) → b ≡ pointwise eqb n (take (length n) (take (length s - k) (drop k s))) → n ≡ m → b ≡ same (part k (length m) s) m
stands_at b k n m s e f =
    stands b n m (take (length s - k) (drop k s)) e f ∙ ap (λ (x : List ℕ). same (take (length m) x) m) (take_all (length s - k) (drop k s) (simp length-drop (omega arith)))

-- one word
and_end : (a : Bool) → (a && true) ≡ a
and_end true = refl
and_end false = refl

pub one_word : (i x : ℕ) (s : List ℕ) → i < length s → eqb (get_or s i 0) x ≡ same (part i 1 s) (x ∷ [])
one_word i x s h = sym (ap (λ (l : List ℕ). same (take 1 l) (x ∷ [])) (next_drop s i h) ∙ and_end (eqb (get_or s i 0) x))
