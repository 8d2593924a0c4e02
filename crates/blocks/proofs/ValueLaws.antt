-- Values below a power of two, asked of their bits together.
-- Assumes nothing.
use Rattle.std.proofs.Math.Bool.{and_assoc, and-true}
use mathlib.Core.Path.{◌≡◌, refl, sym, ap, ap₂, ◌∙◌, subst}
use mathlib.Core.Bool.{Bool, true, false, ◌&&◌}
use mathlib.Core.List.{List, [], ◌∷◌, ◌++◌}
use mathlib.Core.Logic.{⊎_elim}
use Prim.Native.Nat.{ℕ, ◌+◌, ◌^◌, ◌<◌}
use native.Mathlib.Omega.{arith}
use lib.Dec.{eqb, ltb}
use lib.ListN.{length, get_or, drop}
use lib.Bits.{bit_or, or_lt, or_add_and, and_le_l, and_le_r}
use borrow.Author.Tests.{lt-ltb, le-ltb}
use Rattle.lists.specs.Tests.{pick}
use Rattle.lists.specs.Lists.{each}
use Rattle.lists.proofs.Tests.{and_none, lt_or_le}
use Rattle.lists.proofs.Loops.{next_drop}
use Rattle.words.specs.Modes.{values}

-- a number is below 2^n with others exactly if each is
pub or_below : (n a b : ℕ) → ltb (bit_or a b) (2 ^ n) ≡ (ltb a (2 ^ n) && ltb b (2 ^ n))
or_below n a b =
    ⊎_elim
    (λ h.
    ⊎_elim
    (λ k. lt-ltb (bit_or a b) (2 ^ n) (or_lt n a b h k) ∙ sym (ap₂ ◌&&◌ (lt-ltb a (2 ^ n) h) (lt-ltb b (2 ^ n) k)))
    (λ k. le-ltb (bit_or a b) (2 ^ n) (omega (arith, k, or_add_and a b, and_le_l a b)) ∙ sym (and_none (ltb a (2 ^ n)) _ (le-ltb b (2 ^ n) k)))
    (lt_or_le b (2 ^ n)))
    (λ h. le-ltb (bit_or a b) (2 ^ n) (omega (arith, h, or_add_and a b, and_le_r a b)) ∙ sym (ap₂ ◌&&◌ (le-ltb a (2 ^ n) h) refl))
    (lt_or_le a (2 ^ n))

-- ---- the loops that lay bits together: what they have said with what is left to ask
pub record Together (s : List ℕ) (bits : ℕ) (left : List ℕ) : Type 0 where
  pub is : (n : ℕ) → (ltb bits (2 ^ n) && each (λ v. ltb v (2 ^ n)) left) ≡ each (λ v. ltb v (2 ^ n)) s

abbrev Below : List ℕ → ℕ → Type 0
Below s bits = (n : ℕ) → ltb bits (2 ^ n) ≡ each (λ v. ltb v (2 ^ n)) s

each_join : (f : ℕ → Bool) (xs ys : List ℕ) → each f (xs ++ ys) ≡ (each f xs && each f ys)
each_join f [] ys = refl
each_join f (x ∷ xs) ys = ap (λ (b : Bool). f x && b) (each_join f xs ys) ∙ sym (and_assoc (f x) (each f xs) (each f ys))

pub bits_chunk : (s xs left : List ℕ) (bits more : ℕ) → Together s bits (xs ++ left) → Below xs more → Together s (bit_or bits more) left
bits_chunk s xs left bits more t e =
    record {
      is =
          λ n.
          ap (λ (b : Bool). b && each (λ v. ltb v (2 ^ n)) left) (or_below n bits more ∙ ap (λ (b : Bool). ltb bits (2 ^ n) && b) (e n))
          ∙ and_assoc (ltb bits (2 ^ n)) (each (λ v. ltb v (2 ^ n)) xs) (each (λ v. ltb v (2 ^ n)) left)
          ∙ ap (λ (b : Bool). ltb bits (2 ^ n) && b) (sym (each_join (λ v. ltb v (2 ^ n)) xs left))
          ∙ t.is n;
    }

pub bits_turn : (s : List ℕ) (bits i : ℕ) → Together s bits (drop i s) → i < length s → Together s (bit_or bits (get_or s i 0)) (drop (i + 1) s)
bits_turn s bits i t h =
    let x = get_or s i 0 in
    bits_chunk s (x ∷ []) (drop (i + 1) s) bits x (subst (Together s bits) (next_drop s i h) t) (λ n. sym (and-true (ltb x (2 ^ n))))

pub bits_end : (s left : List ℕ) (bits : ℕ) → Together s bits left → length left ≡ 0 → Below s bits
bits_end s [] bits t h n = sym (and-true (ltb bits (2 ^ n))) ∙ t.is n
bits_end s (x ∷ left) bits t h n = absurd (omega (arith, h))

-- how many values a mode has is a power of two
pub bits_valued : (mode : ℕ) (s : List ℕ) (bits : ℕ) → Below s bits → ltb bits (values mode) ≡ each (λ v. ltb v (values mode)) s
unfolding values pick
bits_valued mode s bits h = go (eqb mode 8)
  where
    go : (b : Bool) → ltb bits (pick b 256 512) ≡ each (λ v. ltb v (pick b 256 512)) s
    go true = h 8
    go false = h 9
