-- Laws of the forms: what the code computes is what the definitions say, and what is written reads back, each by a test at all words.
-- Assumes nothing.
use mathlib.Core.Path.{◌≡◌, refl, sym, ap, ap₂, ◌∙◌}
use mathlib.Core.Bool.{Bool, true, false, ◌&&◌}
use mathlib.Core.Logic.{⊎_elim}
use Prim.Native.Nat.{ℕ, zero, suc, ◌+◌, ◌-◌, ◌*◌, ◌/◌, ◌%◌, ◌^◌, ◌<◌}
use native.Mathlib.Nat.{mod-mod}
use native.Mathlib.Numerals.{add-one}
use native.Mathlib.Omega.{arith}
use lib.Dec.{eqb, leb, ltb, eqb→eq}
use lib.Pow.{mod-mod-pow, field}
use lib.Bits.{bit_xor}
use borrow.Author.Tests.{le-ltb, le-leb, eq-eqb, ne_eqb, ltb-true, eqb-true}
use Rattle.lists.specs.Tests.{pick}
use Rattle.lists.proofs.Tests.{true_false, agree, agree→eq, implies, implied, below, both_true, lt_or_le}
use Rattle.std.specs.Prelude.{[], ◌∷◌}
use Rattle.std.specs.Int.{to_le_bytes}
use Rattle.std.proofs.Common.{w16}
use Rattle.words.specs.Forms.{bit, xor_of, parity, data_word, byte_word, is_data, is_byte}
use Rattle.words.specs.Modes.{values, word_of, value_of}

-- ---- the exclusive or of eight bits
xor_low : (n v : ℕ) → xor_of n (v % 2 ^ n) ≡ xor_of n v
unfolding xor_of
xor_low zero v = refl
xor_low (suc n) v =
    ap₂ bit_xor (ap (λ (x : ℕ). v % 2 ^ x % 2) (sym (add-one n)) ∙ mod-mod-pow v n 1)
    (ap (xor_of n) (ap (λ (x : ℕ). v % 2 ^ x / 2) (sym (add-one n)) ∙ field v n 1) ∙ xor_low n (v / 2))

pub parity_low : (v : ℕ) → parity (v % 256) ≡ parity v
unfolding parity
parity_low v = xor_low 8 v

-- in three folds
abbrev pub folded : ℕ → ℕ
folded v =
    let a = bit_xor v (v / 16) in
    let b = bit_xor a (a / 4) in
    bit_xor b (b / 2) % 2

pub folded_is : (v : ℕ) → v < 256 → folded v ≡ parity v
unfolding parity
folded_is v h = eqb→eq (folded v) (parity v) (below 256 (λ v. eqb (folded v) (parity v)) tt v h)

-- ---- the forms
-- data form is exactly 100h to 2FFh
pub data_range : (w : ℕ) → is_data w ≡ (leb 0x100 w && ltb w 0x300)
unfolding is_data
data_range w =
    ⊎_elim
    (λ h. agree→eq (is_data w) (leb 0x100 w && ltb w 0x300) (below 1024 (λ w. agree (is_data w) (leb 0x100 w && ltb w 0x300)) tt w h))
    (λ h. simp (le-ltb w 1024 h, le-ltb w 0x300 (omega arith), le-leb 0x100 w (omega arith)))
    (lt_or_le w 1024)

pub data_lt : (v : ℕ) → data_word v < 1024
unfolding data_word
data_lt v = omega arith

-- a word is in byte form where it is the byte form of its low byte
byte_is_low : (w : ℕ) → eqb (byte_word (w % 256)) w ≡ is_byte w
unfolding is_byte byte_word
byte_is_low w =
    ⊎_elim
    (λ h. agree→eq (eqb (byte_word (w % 256)) w) (is_byte w) (below 1024 (λ w. agree (eqb (byte_word (w % 256)) w) (is_byte w)) tt w h))
    (λ h. simp (le-ltb w 1024 h, ne_eqb (byte_word (w % 256)) w (λ e. omega (arith, e, data_lt (parity (w % 256) * 256 + w % 256 % 256)))))
    (lt_or_le w 1024)

-- only the low byte counts
pub byte_of_low : (v : ℕ) → byte_word (v % 256) ≡ byte_word v
unfolding byte_word
byte_of_low v = ap₂ (λ (p r : ℕ). data_word (p * 256 + r)) (parity_low v) (mod-mod v 256)

-- above the low byte stands 2 less its exclusive or
pub byte_above : (w : ℕ) → eqb (w / 256 + parity (w % 256)) 2 ≡ is_byte w
unfolding is_byte parity
byte_above w =
    ⊎_elim
    (λ h. agree→eq (eqb (w / 256 + parity (w % 256)) 2) (is_byte w) (below 1024 (λ w. agree (eqb (w / 256 + parity (w % 256)) 2) (is_byte w)) tt w h))
    (λ h. simp (le-ltb w 1024 h, ne_eqb (w / 256 + parity (w % 256)) 2 (λ e. omega (arith, e, h))))
    (lt_or_le w 1024)

-- the same, with what stands above alone on its side
-- the two bytes of a word
pub two_bytes : (w : ℕ) → w < 65536 → to_le_bytes w16 w ≡ (w % 256) ∷ (w / 256) ∷ []
two_bytes w h = let high : w / 256 % 256 ≡ w / 256 = omega arith in ap (λ (x : ℕ). (w % 256) ∷ x ∷ []) high

pub byte_halves : (w p : ℕ) → p ≡ parity (w % 256) → p < 2 → eqb (w / 256) (2 - p) ≡ is_byte w
byte_halves w p e h = go (eqb (w / 256) (2 - p)) refl ∙ ap (λ (q : ℕ). eqb (w / 256 + q) 2) e ∙ byte_above w
  where
    go : (b : Bool) → eqb (w / 256) (2 - p) ≡ b → eqb (w / 256) (2 - p) ≡ eqb (w / 256 + p) 2
    go true f = f ∙ sym (eq-eqb (w / 256 + p) 2 (let g = eqb-true (w / 256) (2 - p) f in omega (arith, g, h)))
    go false f = f ∙ sym (ne_eqb (w / 256 + p) 2 (λ g. true_false (sym (eq-eqb (w / 256) (2 - p) (omega (arith, g, h))) ∙ f)))

-- ---- what is written reads back, each a test at all values
pub byte_low : (v : ℕ) → v < 256 → byte_word v % 256 ≡ v
unfolding byte_word
byte_low v h = eqb→eq (byte_word v % 256) v (below 256 (λ v. eqb (byte_word v % 256) v) tt v h)

pub data_low : (v : ℕ) → v < 512 → data_word v % 512 ≡ v
unfolding data_word
data_low v h = eqb→eq (data_word v % 512) v (below 512 (λ v. eqb (data_word v % 512) v) tt v h)

pub byte_in : (v : ℕ) → v < 256 → is_byte (byte_word v) ≡ true
unfolding byte_word is_byte
byte_in v h = agree→eq (is_byte (byte_word v)) true (below 256 (λ v. agree (is_byte (byte_word v)) true) tt v h)

pub data_in : (v : ℕ) → v < 512 → is_data (data_word v) ≡ true
unfolding data_word is_data
data_in v h = agree→eq (is_data (data_word v)) true (below 512 (λ v. agree (is_data (data_word v)) true) tt v h)

-- ---- what is read writes again
pub byte_back : (w : ℕ) → is_byte w ≡ true → byte_word (w % 256) ≡ w
byte_back w e = eqb-true (byte_word (w % 256)) w (byte_is_low w ∙ e)

pub data_back : (w : ℕ) → is_data w ≡ true → data_word (w % 512) ≡ w
unfolding data_word
data_back w e =
    let r = sym (data_range w) ∙ e in
    let hi = ltb-true w 0x300 (both_true (leb 0x100 w) (ltb w 0x300) r).1 in
    eqb→eq (data_word (w % 512)) w
    (implied (leb 0x100 w && ltb w 0x300) (eqb (data_word (w % 512)) w)
    (below 0x300 (λ w. implies (leb 0x100 w && ltb w 0x300) (eqb (data_word (w % 512)) w)) tt w hi) r)

pub byte_data : (w : ℕ) → is_byte w ≡ true → is_data w ≡ true
unfolding is_byte
byte_data w e = (both_true (is_data w) (eqb (bit 8 w) (parity w)) e).0

-- ---- the same by mode
by_mode : (v : ℕ) (b : Bool) → v < pick b 256 512 → pick b (byte_word v) (data_word v) % pick b 256 512 ≡ v
unfolding pick
by_mode v true h = byte_low v h
by_mode v false h = data_low v h

pub value_back : (mode v : ℕ) → v < values mode → value_of mode (word_of mode v) ≡ v
unfolding value_of word_of values
value_back mode v h = by_mode v (eqb mode 8) h
