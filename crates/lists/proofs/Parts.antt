-- A list laid by two parts that are lent one after the other, [..a] and then [a..].
-- Assumes nothing.
use mathlib.Core.Path.{◌≡◌, ap, ap₂, ◌∙◌}
use mathlib.Core.List.{List, ◌++◌, append-nil}
use Prim.Native.Nat.{ℕ, ◌+◌, ◌-◌, ◌≤◌}
use native.Mathlib.Nat.{le_refl}
use native.Mathlib.Omega.{arith}
use lib.ListN.{length, take, drop, length-append, length-drop, drop_of_length-le}
use lib.Seq.{length-take-le, take_at, take_all}
use borrow.Rule.Slice.PartMut.{put_mid}

-- ---- two parts of d: xs comes back for [..a]
module _ (d xs : List ℕ) (a : ℕ) (inside : a ≤ length d) (front : length xs ≡ a) where
  pub first_back : length (xs ++ drop a d) ≡ length d
  first_back = length-append xs (drop a d) ∙ ap₂ ◌+◌ front (length-drop a d) ∙ omega arith

  -- the second part, as it is lent
  pub second_long : length (take (length (xs ++ drop a d) - a) (drop a (xs ++ drop a d))) ≡ length d - a
  second_long =
      length-take-le (length (xs ++ drop a d) - a) (drop a (xs ++ drop a d)) (rw (length-drop a (xs ++ drop a d)) (le_refl _))
      ∙ ap (λ (i : ℕ). i - a) first_back

  -- and ys for [a..]
  pub both_back : (ys : List ℕ) → put_mid a (length (xs ++ drop a d) - a) (xs ++ drop a d) ys ≡ xs ++ ys
  both_back ys =
      ap₂ (λ (l r : List ℕ). l ++ (ys ++ r)) (take_at xs (drop a d) a front)
      (drop_of_length-le (drop a (xs ++ drop a d)) {i = length (xs ++ drop a d) - a} (rw (length-drop a (xs ++ drop a d)) (le_refl _)))
      ∙ ap (λ (l : List ℕ). xs ++ l) (append-nil ys)

-- the first part is filled with ws, the second with what f gives for its length
pub by_two : (d xs ys ws : List ℕ) (f : ℕ → List ℕ) (a : ℕ) → a ≤ length d → length ws ≡ a → xs ≡ ws
    → ys ≡ f (length (take (length (xs ++ drop a d) - a) (drop a (xs ++ drop a d))))
    → put_mid a (length (xs ++ drop a d) - a) (xs ++ drop a d) ys ≡ ws ++ f (length d - a)
by_two d xs ys ws f a inside long is e =
    let front = ap length is ∙ long in
    both_back d xs a inside front ys ∙ ap₂ ◌++◌ is (e ∙ ap f (second_long d xs a inside front))

-- all from a on
pub rest_of : (a : ℕ) (l : List ℕ) → take (length l - a) (drop a l) ≡ drop a l
rest_of a l = take_all (length l - a) (drop a l) (rw (length-drop a l) (le_refl _))

-- behind the first part there are n words more
pub behind : (d xs : List ℕ) (a n : ℕ) → length d ≡ n + a → length xs ≡ a → length (take (length (xs ++ drop a d) - a) (drop a (xs ++ drop a d))) ≡ n
behind d xs a n h e = second_long d xs a (omega arith) e ∙ omega arith
