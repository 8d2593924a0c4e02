-- Laws of numbers as bytes, of any width: each goes by one byte more. The loops that put and read numbers go by them too.
-- Assumes nothing.
use mathlib.Core.Path.{◌≡◌, refl, sym, ap, ap₂, ◌∙◌}
use mathlib.Core.Bool.{Bool, true, false}
use mathlib.Core.List.{List, [], ◌∷◌, ◌++◌, reverse, append_assoc, append-nil}
use Prim.Native.Nat.{ℕ, zero, suc, ◌+◌, ◌-◌, ◌*◌, ◌/◌, ◌%◌, ◌^◌, ◌<◌, ◌≤◌}
use native.Mathlib.Nat.{add-zero, pow-suc, pow-le-pow_right, mod-add-div', div-lt_iff_lt-mul}
use native.Mathlib.Numerals.{add-one}
use native.Mathlib.Omega.{arith}
use lib.Dec.{eqb, leb}
use lib.ListN.{length, get_or, take, drop, set, replicate, drop_of_length-le, length-append, length-drop}
use lib.Seq.{length-take-le, take_all, take-suc-set}
use Rattle.std.proofs.lemmas.List.{length-reverse, get_or-reverse, get_or_default}
use borrow.Author.Tests.{ltb-true, lt-ltb, le-leb, eqb-true, eq-eqb}
use Rattle.lists.specs.Lists.{each, part, same}
use Rattle.lists.specs.Tests.{pick}
use Rattle.lists.proofs.Lists.{part_two, length_part, each_all, same_eq, eq_same}
use Rattle.lists.proofs.Tests.{both_true, true_false, pick_true}
use Rattle.lists.proofs.Loops.{next_drop}
use Rattle.line.specs.Settings.{small}
use Rattle.fields.specs.Fields.{bytes_for, number_from}

pub length_bytes : (k n : ℕ) → length (bytes_for k n) ≡ k
unfolding bytes_for
length_bytes zero n = refl
length_bytes (suc k) n = ap suc (length_bytes k (n / 256))

-- ---- there and back
pub number_bytes : (k n : ℕ) → n < 256 ^ k → number_from (bytes_for k n) ≡ n
unfolding bytes_for number_from
number_bytes zero n h = omega arith
number_bytes (suc k) n h =
    let less : n < 256 ^ k * 256 = rw pow-suc at h in
    ap (λ (x : ℕ). n % 256 + x * 256) (number_bytes k (n / 256) ((div-lt_iff_lt-mul (omega arith)).1 less)) ∙ mod-add-div' n 256

low : (b x : ℕ) → b < 256 → (b + x * 256) % 256 ≡ b
low b x h = omega arith

high : (b x : ℕ) → b < 256 → (b + x * 256) / 256 ≡ x
high b x h = omega arith

pub bytes_number : (b : List ℕ) → each small b ≡ true → bytes_for (length b) (number_from b) ≡ b
unfolding bytes_for number_from
bytes_number [] h = refl
bytes_number (b ∷ s) h =
    let (one, rest) = both_true (small b) (each small s) h in
    let less = ltb-true b 256 one in
    ap₂ (λ (x : ℕ) (l : List ℕ). x ∷ l) (low b (number_from s) less) (ap (bytes_for (length s)) (high b (number_from s) less) ∙ bytes_number s rest)

-- elements below 256 are bytes
pub each_small : (b : List ℕ) → ((i : ℕ) → get_or b i 0 < 256) → each small b ≡ true
each_small b h = each_all small b (λ i _. lt-ltb (get_or b i 0) 256 (h i))

-- ---- how large a number is
more : (p b x : ℕ) → b < 256 → x < p → b + x * 256 < p * 256
more p b x h l = omega arith

pub number_more : (k b x : ℕ) → b < 256 → x < 256 ^ k → b + x * 256 < 256 ^ suc k
number_more k b x h l = rw pow-suc (more (256 ^ k) b x h l)

pub number_less : (b : List ℕ) → each small b ≡ true → number_from b < 256 ^ length b
unfolding number_from
number_less [] h = omega arith
number_less (b ∷ s) h =
    let (one, rest) = both_true (small b) (each small s) h in
    number_more (length s) b (number_from s) (ltb-true b 256 one) (number_less s rest)

pub fits_eight : (k : ℕ) → k ≤ 8 → 256 ^ k ≤ 2 ^ 64
fits_eight k h = pow-le-pow_right (omega arith) h

-- ---- a loop that puts k bytes: i stand, and `left` has the others
-- the byte that is next, and those behind it
byte_next : (k i left : ℕ) → i < k → bytes_for (k - i) left ≡ left % 256 ∷ bytes_for (k - (i + 1)) (left / 256)
unfolding bytes_for
byte_next k i left h = ap (λ (m : ℕ). bytes_for m left) (one k i h)
  where
    one : (k i : ℕ) → i < k → k - i ≡ suc (k - (i + 1))
    one k i h = omega arith

pub put_turn : (k left i : ℕ) (out ws : List ℕ) → length out ≡ k → i < k → take i out ++ bytes_for (k - i) left ≡ ws
    → take (i + 1) (set out i (left % 256)) ++ bytes_for (k - (i + 1)) (left / 256) ≡ ws
put_turn k left i out ws long h e =
    ap (λ (l : List ℕ). l ++ bytes_for (k - (i + 1)) (left / 256)) (ap (λ (m : ℕ). take m (set out i (left % 256))) (add-one i) ∙ take-suc-set out i (left % 256) (omega (arith, long)))
    ∙ append_assoc (take i out) (left % 256 ∷ []) (bytes_for (k - (i + 1)) (left / 256))
    ∙ ap (λ (l : List ℕ). take i out ++ l) (sym (byte_next k i left h))
    ∙ e

pub put_end : (k left i : ℕ) (out ws : List ℕ) → length out ≡ k → k ≤ i → take i out ++ bytes_for (k - i) left ≡ ws → out ≡ ws
unfolding bytes_for
put_end k left i out ws long h e =
    let none : k - i ≡ 0 = omega arith in
    sym (append-nil out)
    ∙ ap₂ (λ (l r : List ℕ). l ++ r) (sym (take_all i out (omega (arith, long)))) (ap (λ (m : ℕ). bytes_for m left) (sym none))
    ∙ e

-- ---- a loop that reads a number from its last byte on: x is spelled by the last n bytes
pub record Spelling (b : List ℕ) (x n : ℕ) : Type 0 where
  pub within : n ≤ length b
  pub is : x ≡ number_from (drop (length b - n) b)
  pub less : x < 256 ^ n
  pub back : bytes_for n x ≡ drop (length b - n) b

pub spell_start : (b : List ℕ) → Spelling b 0 0
unfolding number_from bytes_for
spell_start b =
    let none = drop_of_length-le b {i = length b - 0} (omega arith) in
    record { within = omega arith; is = sym (ap number_from none); less = omega arith; back = sym none }

-- the bytes of a number with one byte more
one_more : (k b x : ℕ) → b < 256 → bytes_for (suc k) (b + x * 256) ≡ b ∷ bytes_for k x
unfolding bytes_for
one_more k b x h = ap₂ (λ (y z : ℕ). y ∷ bytes_for k z) (low b x h) (high b x h)

-- the element that is next from the last on
pub next_back : (b : List ℕ) (n v r : ℕ) → r ≡ v → (n < length (reverse b)) × (v ≡ get_or (reverse b) n v) → (n < length b) × (r ≡ get_or b (length b - 1 - n) 0)
next_back b n v r e (within, is) =
    let less : n < length b = omega (arith, within, length-reverse b) in
    let inside : length b - 1 - n < length b = omega arith in
    (less, e ∙ is ∙ get_or-reverse b n v less ∙ get_or_default b (length b - 1 - n) v 0 inside)

pub spell_turn : (b : List ℕ) (x n v : ℕ) → Spelling b x n → (n < length b) × (v ≡ get_or b (length b - 1 - n) 0) → v < 256 → Spelling b (v + x * 256) (n + 1)
unfolding number_from
spell_turn b x n v s (h, e) l =
    let j = length b - 1 - n in
    let inside : j < length b = omega arith in
    let there : length b - (n + 1) ≡ j = omega arith in
    let behind : j + 1 ≡ length b - n = omega arith in
    let next : drop (length b - (n + 1)) b ≡ v ∷ drop (length b - n) b =
    ap (λ (m : ℕ). drop m b) there ∙ next_drop b j inside ∙ ap₂ (λ (y m : ℕ). y ∷ drop m b) (sym e) behind
    in
    record {
      within = omega arith;
      is = ap (λ (y : ℕ). v + y * 256) s.is ∙ sym (ap number_from next);
      less = rw (add-one n) (number_more n v x l s.less);
      back = ap (λ (k : ℕ). bytes_for k (v + x * 256)) (add-one n) ∙ one_more n v x l ∙ ap (λ (t : List ℕ). v ∷ t) s.back ∙ sym next;
    }

-- the number read so far, with one byte more, fits where there are no more than eight bytes
pub spell_fits : (b : List ℕ) (x n v : ℕ) → Spelling b x n → n < length b → length b ≤ 8 → v < 256 → v + x * 256 < 2 ^ 64
spell_fits b x n v s h e l =
    let less = number_more n v x l s.less in
    let top = fits_eight (suc n) (omega arith) in
    under _ _ _ less top
  where
    under : (a b c : ℕ) → a < b → b ≤ c → a < c
    under a b c x y = omega arith

pub spell_end : (b : List ℕ) (x n : ℕ) → Spelling b x n → n ≡ length b → (x ≡ number_from b) × (x < 256 ^ length b) × (bytes_for (length b) x ≡ b)
spell_end b x n s h =
    let first : length b - n ≡ 0 = omega arith in
    (s.is ∙ ap (λ (m : ℕ). number_from (drop m b)) first, rw h at s.less, ap (λ (m : ℕ). bytes_for m x) (sym h) ∙ s.back ∙ ap (λ (m : ℕ). drop m b) first)

-- a number of two bytes of b
pub number_two : (a : ℕ) (b : List ℕ) → a + 2 ≤ length b → number_from (part a 2 b) ≡ get_or b a 0 + get_or b (suc a) 0 * 256
unfolding number_from
number_two a b h =
    ap number_from (part_two a b h) ∙ ap (λ (n : ℕ). get_or b a 0 + n * 256) (add-zero (get_or b (suc a) 0))

-- a number read from so many bytes of b, at most eight
pub part_known : (a k : ℕ) (b : List ℕ) (r : ℕ) → a + k ≤ length b → k ≤ 8 → (r ≡ pick (leb (length (part a k b)) 8) (number_from (part a k b)) 0) × (each small (part a k b) ≡ true)
    → (r ≡ number_from (part a k b)) × (r < 256 ^ k) × (bytes_for k (number_from (part a k b)) ≡ part a k b)
part_known a k b r h short (known, low) =
    let p = part a k b in
    let long = length_part a k b h in
    let is : r ≡ number_from p = known ∙ pick_true _ _ (le-leb (length p) 8 (omega (arith, long, short))) in
    let less : r < 256 ^ length p = rw is (number_less p low) in
    (is, rw long at less, ap (λ (n : ℕ). bytes_for n (number_from p)) (sym long) ∙ bytes_number p low)

-- a part that its number spells again is the bytes of that number and of no other
pub same_number : (k n : ℕ) (p : List ℕ) → bytes_for k (number_from p) ≡ p → n < 256 ^ k → eqb (number_from p) n ≡ same p (bytes_for k n)
same_number k n p back less = go (eqb (number_from p) n) refl
  where
    go : (b : Bool) → eqb (number_from p) n ≡ b → eqb (number_from p) n ≡ same p (bytes_for k n)
    go true e = e ∙ sym (eq_same p (bytes_for k n) (sym back ∙ ap (bytes_for k) (eqb-true (number_from p) n e)))
    go false e = e ∙ sym (other (same p (bytes_for k n)) refl)
      where
        other : (c : Bool) → same p (bytes_for k n) ≡ c → c ≡ false
        other false f = refl
        other true f = absurd (true_false (sym (eq-eqb (number_from p) n (ap number_from (same_eq p (bytes_for k n) f) ∙ number_bytes k n less)) ∙ e))

-- a number of two bytes in ten
pub wide : (n : ℕ) → n < 2 ^ 16 → bytes_for 10 n ≡ bytes_for 2 n ++ replicate 8 0
unfolding bytes_for
wide n h =
    let none : n / 256 / 256 ≡ 0 = omega arith in
    ap (λ (m : ℕ). n % 256 ∷ n / 256 % 256 ∷ bytes_for 8 m) none
