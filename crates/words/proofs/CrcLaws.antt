-- Laws of the CRC: only 18 bits of a register count, over an append, linear, and its register below 2^18.
-- Assumes nothing.
use mathlib.Core.Path.{◌≡◌, refl, sym, ap, ap₂, ◌∙◌, subst}
use mathlib.Core.List.{List, [], ◌∷◌, ◌++◌}
use Prim.Native.Nat.{ℕ, zero, suc, ◌+◌, ◌-◌, ◌*◌, ◌/◌, ◌%◌, ◌^◌, ◌<◌}
use native.Mathlib.Nat.{lt_of_le_of_lt, div-le_self, mod-lt, mod-mod, mod-eq_of_lt}
use native.Mathlib.Omega.{arith}
use lib.Dec.{lit<}
use lib.Pow.{mod-mod-pow}
use lib.Bits.{bit_xor, xor_lt, xor_mod}
use lib.ListN.{length, take, drop, get_or, replicate, length-drop, take-append-drop, replicate-append-replicate}
use lib.Seq.{take_all, drop-drop}
use Rattle.lists.specs.Lists.{part}
use Rattle.lists.proofs.Loops.{next_drop}
use Rattle.words.specs.Crc.{register, low_bits, bits_of, crc_bit, crc_bits, crc_of, taps}
use Rattle.words.proofs.Xor.{below2, odd_lt, xor_half, xor_odd, xor_cross, xor_times}

-- ---- only 18 bits of a register count
pub bit_register : (c b : ℕ) → crc_bit (register c) b ≡ crc_bit c b
unfolding crc_bit
bit_register c b = ap₂ (λ (x y : ℕ). bit_xor (x / 2) (bit_xor b y * taps)) (mod-mod c (2 ^ 18)) (mod-mod-pow c 17 1)

bits_register : (c : ℕ) (bs : List ℕ) → crc_bits (register c) bs ≡ crc_bits c bs
unfolding crc_bits
bits_register c [] = mod-mod c (2 ^ 18)
bits_register c (b ∷ bs) = ap (λ (x : ℕ). crc_bits x bs) (bit_register c b)

pub crc_register : (c : ℕ) (ws : List ℕ) → crc_of (register c) ws ≡ crc_of c ws
unfolding crc_of
crc_register c ws = bits_register c (bits_of ws)

-- ---- over a list
pub bits_append : (c : ℕ) (xs ys : List ℕ) → crc_bits c (xs ++ ys) ≡ crc_bits (crc_bits c xs) ys
unfolding crc_bits
bits_append c [] ys = sym (bits_register c ys)
bits_append c (x ∷ xs) ys = bits_append (crc_bit c x) xs ys

pub crc_nil : (c : ℕ) → crc_of c [] ≡ register c
unfolding crc_of
crc_nil c = refl

pub crc_none : (c : ℕ) → c < 2 ^ 18 → crc_of c [] ≡ c
crc_none c h = crc_nil c ∙ mod-eq_of_lt h

pub crc_cons : (c w : ℕ) (ws : List ℕ) → crc_of c (w ∷ ws) ≡ crc_of (crc_bits c (low_bits 10 w)) ws
unfolding crc_of
crc_cons c w ws = bits_append c (low_bits 10 w) (bits_of ws)

pub crc_append : (c : ℕ) (xs ys : List ℕ) → crc_of c (xs ++ ys) ≡ crc_of (crc_of c xs) ys
crc_append c [] ys = sym (ap (λ (x : ℕ). crc_of x ys) (crc_nil c) ∙ crc_register c ys)
crc_append c (x ∷ xs) ys =
    crc_cons c x (xs ++ ys) ∙ crc_append (crc_bits c (low_bits 10 x)) xs ys ∙ ap (λ (d : ℕ). crc_of d ys) (sym (crc_cons c x xs))

-- a loop's turn
pub crc_next : (x i : ℕ) (s : List ℕ) → i < length s → crc_of (crc_bits x (low_bits 10 (get_or s i 0))) (drop (i + 1) s) ≡ crc_of x (drop i s)
crc_next x i s h = sym (ap (crc_of x) (next_drop s i h) ∙ crc_cons x (get_or s i 0) (drop (i + 1) s))

-- a part, and what stands behind it
pub crc_part : (x i n : ℕ) (s : List ℕ) → crc_of (crc_of x (part i n s)) (drop (i + n) s) ≡ crc_of x (drop i s)
crc_part x i n s =
    sym (crc_append x (part i n s) (drop (i + n) s))
    ∙ ap (crc_of x) (ap (λ (l : List ℕ). part i n s ++ l) (sym (drop-drop n i s)) ∙ take-append-drop n (drop i s))

-- filler in two parts
pub crc_fillers : (x n m w : ℕ) → crc_of (crc_of x (replicate n w)) (replicate m w) ≡ crc_of x (replicate (n + m) w)
crc_fillers x n m w = sym (crc_append x (replicate n w) (replicate m w)) ∙ ap (crc_of x) (replicate-append-replicate n m w)

-- ---- linear
pub bit_linear : (c d a b : ℕ) → a < 2 → b < 2 → crc_bit (bit_xor c d) (bit_xor a b) ≡ bit_xor (crc_bit c a) (crc_bit d b)
unfolding crc_bit
bit_linear c d a b ha hb =
    let p = register c / 2 in
    let q = register d / 2 in
    ap₂ (λ (x y : ℕ). bit_xor x (bit_xor (bit_xor a b) y * taps)) (ap (λ (x : ℕ). x / 2) (xor_mod c d 18) ∙ xor_half (register c) (register d)) (xor_odd c d)
    ∙ ap (λ (x : ℕ). bit_xor (bit_xor p q) (x * taps)) (xor_cross a b (c % 2) (d % 2))
    ∙ ap (bit_xor (bit_xor p q))
    (xor_times taps (bit_xor a (c % 2)) (bit_xor b (d % 2)) (xor_lt 1 a (c % 2) ha (odd_lt c)) (xor_lt 1 b (d % 2) hb (odd_lt d)))
    ∙ xor_cross p q (bit_xor a (c % 2) * taps) (bit_xor b (d % 2) * taps)

pub word_linear : (n c d w v : ℕ) → crc_bits (bit_xor c d) (low_bits n (bit_xor w v)) ≡ bit_xor (crc_bits c (low_bits n w)) (crc_bits d (low_bits n v))
unfolding crc_bits low_bits
word_linear zero c d w v = xor_mod c d 18
word_linear (suc n) c d w v =
    ap₂ (λ (x y : ℕ). crc_bits x (low_bits n y)) (ap (crc_bit (bit_xor c d)) (xor_odd w v) ∙ bit_linear c d (w % 2) (v % 2) (odd_lt w) (odd_lt v)) (xor_half w v)
    ∙ word_linear n (crc_bit c (w % 2)) (crc_bit d (v % 2)) (w / 2) (v / 2)

-- two lists of words, word by word
abbrev pub xor_words : List ℕ → List ℕ → List ℕ
xor_words [] vs = []
xor_words (w ∷ ws) [] = []
xor_words (w ∷ ws) (v ∷ vs) = bit_xor w v ∷ xor_words ws vs

pub crc_linear : (c d : ℕ) (ws vs : List ℕ) → length ws ≡ length vs → crc_of (bit_xor c d) (xor_words ws vs) ≡ bit_xor (crc_of c ws) (crc_of d vs)
crc_linear c d [] [] e = crc_nil (bit_xor c d) ∙ xor_mod c d 18 ∙ sym (ap₂ bit_xor (crc_nil c) (crc_nil d))
crc_linear c d [] (v ∷ vs) e = absurd (omega arith)
crc_linear c d (w ∷ ws) [] e = absurd (omega arith)
crc_linear c d (w ∷ ws) (v ∷ vs) e =
    crc_cons (bit_xor c d) (bit_xor w v) (xor_words ws vs)
    ∙ ap (λ (x : ℕ). crc_of x (xor_words ws vs)) (word_linear 10 c d w v)
    ∙ crc_linear (crc_bits c (low_bits 10 w)) (crc_bits d (low_bits 10 v)) ws vs (omega arith)
    ∙ sym (ap₂ bit_xor (crc_cons c w ws) (crc_cons d v vs))

-- ---- the register keeps 18 bits
pub step_lt : (c b : ℕ) → b < 2 → crc_bit c b < 2 ^ 18
unfolding crc_bit
step_lt c b hb =
    xor_lt 18 (register c / 2) (bit_xor b (c % 2) * taps) (lt_of_le_of_lt (div-le_self (register c) 2) (mod-lt c (lit< tt)))
    (below2 (λ f. f * taps < 2 ^ 18) (lit< tt) (lit< tt) (bit_xor b (c % 2)) (xor_lt 1 b (c % 2) hb (odd_lt c)))

pub bits_lt : (c : ℕ) (bs : List ℕ) → crc_bits c bs < 2 ^ 18
unfolding crc_bits
bits_lt c [] = mod-lt c (lit< tt)
bits_lt c (b ∷ bs) = bits_lt (crc_bit c b) bs

pub crc_lt : (c : ℕ) (ws : List ℕ) → crc_of c ws < 2 ^ 18
unfolding crc_of
crc_lt c ws = bits_lt c (bits_of ws)

pub word_lt : (c w : ℕ) → crc_bits c (low_bits 10 w) < 2 ^ 18
word_lt c w = bits_lt c (low_bits 10 w)

-- ---- loops: words taken on, with r the register after all
-- n words at a turn
pub crc_turn : (r x y i n : ℕ) (s : List ℕ) → y ≡ crc_of x (part i (i + n - i) s) → crc_of x (drop i s) ≡ r → (y < 2 ^ 18) × (crc_of y (drop (i + n) s) ≡ r)
crc_turn r x y i n s e l =
    let m : i + n - i ≡ n = omega arith in (
      subst (λ (z : ℕ). z < 2 ^ 18) (sym e) (crc_lt x (part i (i + n - i) s)),
      ap (λ (z : ℕ). crc_of z (drop (i + n) s)) (e ∙ ap (λ (k : ℕ). crc_of x (part i k s)) m) ∙ crc_part x i n s ∙ l,
    )

-- what is left
-- n words, which stand in front of the rest
pub crc_front : (r x y n : ℕ) (s front rest : List ℕ) → front ≡ take n s → rest ≡ drop n s → y ≡ crc_of x front → crc_of x s ≡ r → (y < 2 ^ 18) × (crc_of y rest ≡ r)
crc_front r x y n s front rest f d e l = (
  subst (λ (z : ℕ). z < 2 ^ 18) (sym e) (crc_lt x front),
  ap₂ crc_of (e ∙ ap (crc_of x) f) d ∙ sym (crc_append x (take n s) (drop n s)) ∙ ap (crc_of x) (take-append-drop n s) ∙ l,
)

-- k of the words of filler that are left, and m more
pub filler_turn : (r x y left k m w : ℕ) → y ≡ crc_of x (replicate k w) → k + m ≡ left → crc_of x (replicate left w) ≡ r
    → (y < 2 ^ 18) × (crc_of y (replicate m w) ≡ r)
filler_turn r x y left k m w e s l = (
  subst (λ (z : ℕ). z < 2 ^ 18) (sym e) (crc_lt x (replicate k w)),
  ap (λ (z : ℕ). crc_of z (replicate m w)) e ∙ crc_fillers x k m w ∙ ap (λ (j : ℕ). crc_of x (replicate j w)) s ∙ l,
)
