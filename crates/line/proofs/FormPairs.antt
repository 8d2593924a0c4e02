-- Byte form of two words at once: their low bytes side by side go through the folds of the parity together.
-- Assumes nothing.
use mathlib.Core.Path.{◌≡◌, refl, sym, ap, ap₂, ◌∙◌, subst₂}
use mathlib.Core.Bool.{Bool, true, false, ◌&&◌}
use mathlib.Core.List.{List}
use Prim.Native.Nat.{ℕ, ◌+◌, ◌-◌, ◌*◌, ◌/◌, ◌%◌, ◌^◌, ◌<◌, ◌≤◌}
use native.Mathlib.Nat.{mod-lt}
use native.Mathlib.Omega.{arith}
use lib.Dec.{eqb, lit<}
use lib.ListN.{length, get_or, take, drop, drop_of_length-le}
use lib.Bits.{bit_xor, bit_or, xor_zero_l, xor_self, or_add_and, and_le_l, and_le_r}
use borrow.Author.Tests.{eqb-true, eqb-false, eq-eqb, ne_eqb}
use Rattle.lists.specs.Lists.{part, each}
use Rattle.lists.proofs.Loops.{next_drop, Testing, test_start, test_chunk}
use Rattle.words.specs.Forms.{is_byte}
use Rattle.words.proofs.Xor.{Linear, linear_self, linear_shr, linear_mod, linear_xor, agree_below, xor_back}
use Rattle.words.proofs.FormLaws.{folded_is, byte_halves}

-- the three folds of any number
abbrev pub three : ℕ → ℕ
three n =
    let a = bit_xor n (n / 16) in
    let b = bit_xor a (a / 4) in
    bit_xor b (b / 2)

three_linear : {f : ℕ → ℕ} → Linear f → Linear (λ n. three (f n))
three_linear l =
    let a = linear_xor l (linear_shr 4 l) in
    let b = linear_xor a (linear_shr 2 a) in
    linear_xor b (linear_shr 1 b)

-- its first bit is the parity of the low byte, and the bit 8 places above that of the high byte
low_parity : (n : ℕ) → n < 2 ^ 16 → three n % 2 ≡ three (n % 256) % 2
low_parity n h = agree_below (λ n. three n % 2) (λ n. three (n % 256) % 2) (linear_mod 1 (three_linear linear_self)) (linear_mod 1 (three_linear (linear_mod 8 linear_self))) 16 tt n h

high_parity : (n : ℕ) → n < 2 ^ 16 → three n / 256 % 2 ≡ three (n / 256) % 2
high_parity n h =
    agree_below (λ n. three n / 256 % 2) (λ n. three (n / 256) % 2) (linear_mod 1 (linear_shr 8 (three_linear linear_self))) (linear_mod 1 (three_linear (linear_shr 8 linear_self))) 16 tt n h

-- ---- what two words are off by
xor_none : (a b : ℕ) → eqb (bit_xor a b) 0 ≡ eqb a b
xor_none a b = go (eqb a b) refl
  where
    go : (t : Bool) → eqb a b ≡ t → eqb (bit_xor a b) 0 ≡ t
    go true e = eq-eqb (bit_xor a b) 0 (ap (λ (x : ℕ). bit_xor x b) (eqb-true a b e) ∙ xor_self b)
    go false e = ne_eqb (bit_xor a b) 0 (λ z. eqb-false a b e (sym (xor_back a b) ∙ ap (λ (x : ℕ). bit_xor x b) z ∙ xor_zero_l b))

-- two bytes side by side are two others exactly if each is
side_by_side : (a b p q : ℕ) → a < 256 → p < 2 → q < 2 → eqb (a + b * 256) (514 - (p + q * 256)) ≡ (eqb a (2 - p) && eqb b (2 - q))
side_by_side a b p q ha hp hq = go (eqb a (2 - p)) refl (eqb b (2 - q)) refl
  where
    go : (t : Bool) → eqb a (2 - p) ≡ t → (u : Bool) → eqb b (2 - q) ≡ u → eqb (a + b * 256) (514 - (p + q * 256)) ≡ (t && u)
    go true e true f = eq-eqb (a + b * 256) (514 - (p + q * 256)) (omega (arith, eqb-true a (2 - p) e, eqb-true b (2 - q) f, hp, hq))
    go true e false f = ne_eqb (a + b * 256) (514 - (p + q * 256)) (λ z. eqb-false b (2 - q) f (omega (arith, z, eqb-true a (2 - p) e, hp, hq)))
    go false e u f = ne_eqb (a + b * 256) (514 - (p + q * 256)) (λ z. eqb-false a (2 - p) e (omega (arith, z, ha, hp, hq)))

pub off_is : (v w : ℕ) → v < 65536 →
    let c = three (v % 256 + w % 256 * 256) in
    eqb (bit_xor (v / 256 + w / 256 * 256) (514 - (c % 2 + c / 256 % 2 * 256))) 0 ≡ (is_byte v && is_byte w)
off_is v w h =
    let n = v % 256 + w % 256 * 256 in
    let c = three n in
    let small : n < 65536 = omega arith in
    let first : n % 256 ≡ v % 256 = omega arith in
    let second : n / 256 ≡ w % 256 = omega arith in
    let p = low_parity n small ∙ ap (λ (x : ℕ). three x % 2) first ∙ folded_is (v % 256) (mod-lt v (lit< tt)) in
    let q = high_parity n small ∙ ap (λ (x : ℕ). three x % 2) second ∙ folded_is (w % 256) (mod-lt w (lit< tt)) in
    xor_none (v / 256 + w / 256 * 256) (514 - (c % 2 + c / 256 % 2 * 256))
    ∙ side_by_side (v / 256) (w / 256) (c % 2) (c / 256 % 2) (omega arith) (mod-lt c (lit< tt)) (mod-lt (c / 256) (lit< tt))
    ∙ ap₂ ◌&&◌ (byte_halves v (c % 2) p (mod-lt c (lit< tt))) (byte_halves w (c / 256 % 2) q (mod-lt (c / 256) (lit< tt)))

-- ---- the loop over two lists: what is off among their first i
or_none : (a b : ℕ) → eqb (bit_or a b) 0 ≡ (eqb a 0 && eqb b 0)
or_none a b = go (eqb a 0) refl (eqb b 0) refl
  where
    go : (t : Bool) → eqb a 0 ≡ t → (u : Bool) → eqb b 0 ≡ u → eqb (bit_or a b) 0 ≡ (t && u)
    go true e true f = eq-eqb (bit_or a b) 0 (omega (arith, eqb-true a 0 e, eqb-true b 0 f, or_add_and a b))
    go true e false f = ne_eqb (bit_or a b) 0 (λ z. eqb-false b 0 f (omega (arith, z, or_add_and a b, and_le_l a b)))
    go false e u f = ne_eqb (bit_or a b) 0 (λ z. eqb-false a 0 e (omega (arith, z, or_add_and a b, and_le_r a b)))

shuffled : (x p q r u : Bool) → ((x && (p && q)) && (r && u)) ≡ (x && ((p && r) && (q && u)))
shuffled false p q r u = refl
shuffled true true true r u = refl
shuffled true true false true u = refl
shuffled true true false false u = refl
shuffled true false q r u = refl

pub record Pairs (s t : List ℕ) (off i : ℕ) : Type 0 where
  pub within : i ≤ length s
  pub is : (eqb off 0 && (each is_byte (drop i s) && each is_byte (drop i t))) ≡ (each is_byte s && each is_byte t)

pub pairs_start : (s t : List ℕ) → Pairs s t 0 0
pairs_start s t = record { within = omega arith; is = refl }

pub pairs_turn : (s t : List ℕ) (off o i : ℕ) → length s ≡ length t → Pairs s t off i → i < length s → eqb o 0 ≡ (is_byte (get_or s i 0) && is_byte (get_or t i 0))
    → Pairs s t (bit_or off o) (i + 1)
pairs_turn s t off o i long p h e =
    record {
      within = omega arith;
      is =
          ap (λ (b : Bool). b && (each is_byte (drop (i + 1) s) && each is_byte (drop (i + 1) t))) (or_none off o ∙ ap (λ (b : Bool). eqb off 0 && b) e)
          ∙ shuffled (eqb off 0) (is_byte (get_or s i 0)) (is_byte (get_or t i 0)) (each is_byte (drop (i + 1) s)) (each is_byte (drop (i + 1) t))
          ∙ ap₂ (λ (x y : List ℕ). eqb off 0 && (each is_byte x && each is_byte y)) (sym (next_drop s i h)) (sym (next_drop t i (omega (arith, long))))
          ∙ p.is;
    }

and_all : (a : Bool) → a ≡ (a && (true && true))
and_all true = refl
and_all false = refl

pub pairs_end : (s t : List ℕ) (off i : ℕ) → length s ≡ length t → Pairs s t off i → length s ≤ i → eqb off 0 ≡ (each is_byte s && each is_byte t)
pairs_end s t off i long p h =
    let short : length t ≤ i = omega (arith, long) in
    and_all (eqb off 0)
    ∙ sym (ap₂ (λ (x y : List ℕ). eqb off 0 && (each is_byte x && each is_byte y)) (drop_of_length-le s h) (drop_of_length-le t short))
    ∙ p.is

-- ---- a list by its halves
pub halves : (s : List ℕ) (half : ℕ) (b : Bool) → half * 2 ≤ length s → b ≡ (each is_byte (take half s) && each is_byte (part half (half * 2 - half) s))
    → Testing is_byte s b (half * 2)
halves s half b h e =
    let one = test_chunk is_byte s true (each is_byte (part 0 (0 + half - 0) s)) 0 half (test_start is_byte s) (omega arith) refl in
    let two = test_chunk is_byte s (each is_byte (part 0 (0 + half - 0) s)) (each is_byte (part (0 + half) (0 + half + half - (0 + half)) s)) (0 + half) half one (omega arith) refl in
    let first : 0 + half - 0 ≡ half = omega arith in
    let start : 0 + half ≡ half = omega arith in
    let second : 0 + half + half - (0 + half) ≡ half * 2 - half = omega arith in
    let end : 0 + half + half ≡ half * 2 = omega arith in
    subst₂ (λ (x : Bool) (k : ℕ). Testing is_byte s x k)
    (ap₂ ◌&&◌ (ap (λ (k : ℕ). each is_byte (part 0 k s)) first) (ap₂ (λ (i k : ℕ). each is_byte (part i k s)) start second) ∙ sym e) end two
