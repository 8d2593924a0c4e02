-- What holds of each of a list: with one more, of what is behind, of two lists, of all, and by another law.
-- Assumes nothing.
use mathlib.Core.List.{List, [], ◌∷◌, ◌++◌}
use Rattle.demands.specs.All.{All}

module _ {A : Type 0} (P : A → Type 0) where
  pub all_more : (xs : List A) (x : A) → All P xs → P x → All P (xs ++ (x ∷ []))
  all_more [] x h one = (one, tt)
  all_more (y ∷ xs) x h one = (h.0, all_more xs x h.1 one)

  pub all_behind : (xs ys : List A) → All P (xs ++ ys) → All P ys
  all_behind [] ys h = h
  all_behind (x ∷ xs) ys h = all_behind xs ys h.1

  pub all_append : (xs ys : List A) → All P xs → All P ys → All P (xs ++ ys)
  all_append [] ys h k = k
  all_append (x ∷ xs) ys h k = (h.0, all_append xs ys h.1 k)

  pub all_each : ((x : A) → P x) → (xs : List A) → All P xs
  all_each h [] = tt
  all_each h (x ∷ xs) = (h x, all_each h xs)

pub all_by : {A : Type 0} (P Q : A → Type 0) → ((x : A) → P x → Q x) → (xs : List A) → All P xs → All Q xs
all_by P Q f [] h = tt
all_by P Q f (x ∷ xs) h = (f x h.0, all_by P Q f xs h.1)
