-- Many bits at one step: the bits are xored into the register first, bits that are 0 are shifted in after them, and what that gives
-- is linear, so that a formula by shifts is right where it is right at each single bit.
-- Assumes nothing.
use mathlib.Core.Path.{◌≡◌, refl, sym, ap, ap₂, ◌∙◌, subst}
use mathlib.Core.List.{List, [], ◌∷◌, ◌++◌}
use Prim.Native.Nat.{ℕ, zero, suc, ◌+◌, ◌-◌, ◌*◌, ◌/◌, ◌%◌, ◌^◌, ◌<◌, ◌≤◌}
use native.Mathlib.Nat.{mul-one, mul_comm, zero-add, suc-add, div-one, mod-lt, mod-mod, mod-eq_of_lt, div-eq_of_lt, lt_of_lt_of_le}
use native.Mathlib.Numerals.{add-one, one-add}
use native.Mathlib.Omega.{arith}
use lib.Dec.{lit<}
use lib.Arith.{lt-one, digits_lt, digits_div, digits_mod}
use lib.Pow.{pow_pos, pow-add, pow_mono, split, shl_lt, shr_lt, shr-shr, field, mod-mod-pow}
use lib.Bits.{bit_xor, xor_lt, xor_comm, xor_zero_r, xor_shr, xor_mod, xor_shifted, shifted_half, shifted_even}
use lib.ListN.{length, get_or, drop, length-drop, drop_of_length-le, replicate}
use Rattle.lists.proofs.Loops.{next_drop}
use Rattle.words.specs.Shifts.{fed, quiet_bit, quiet, packed}
use Rattle.words.specs.Crc.{low_bits, bits_of, crc_bit, crc_bits, crc_of, taps}
use Rattle.words.proofs.Xor.{odd_lt, xor_half, xor_odd, xor_assoc, xor_swap, xor_times, Linear, linear_self, linear_shl, linear_shr, linear_mod, linear_xor, agree_below}
use Rattle.words.proofs.CrcLaws.{step_lt}

digit_linear : Linear (λ x. x % 2 * taps)
digit_linear = record { splits = λ a b. ap (λ (x : ℕ). x * taps) (xor_odd a b) ∙ xor_times taps (a % 2) (b % 2) (odd_lt a) (odd_lt b) }

bit_quiet : Linear quiet_bit
unfolding quiet_bit
bit_quiet = linear_xor (linear_shr 1 linear_self) digit_linear

pub quiet_linear : (n : ℕ) → Linear (quiet n)
unfolding quiet
quiet_linear zero = record { splits = λ a b. refl }
quiet_linear (suc n) = record { splits = λ a b. ap (quiet n) (bit_quiet.splits a b) ∙ (quiet_linear n).splits (quiet_bit a) (quiet_bit b) }

half_lt : {n : ℕ} (k : ℕ) → n < 2 ^ suc k → n / 2 < 2 ^ k
half_lt {n} k h = shr_lt k 1 (subst (λ (x : ℕ). n < 2 ^ x) (sym (add-one k)) h)

-- ---- the bits may be xored into the register first
fold_bit : (c w : ℕ) → c < 2 ^ 18 → bit_xor (crc_bit c (w % 2)) (w / 2) ≡ quiet_bit (bit_xor c w)
unfolding crc_bit quiet_bit
fold_bit c w r =
    ap (λ (x : ℕ). bit_xor (bit_xor (x / 2) (bit_xor (w % 2) (c % 2) * taps)) (w / 2)) (mod-eq_of_lt r)
    ∙ xor_swap (c / 2) (bit_xor (w % 2) (c % 2) * taps) (w / 2)
    ∙ ap₂ (λ (x y : ℕ). bit_xor x (y * taps)) (sym (xor_half c w)) (xor_comm (w % 2) (c % 2) ∙ sym (xor_odd c w))

pub fold_in : (n c w : ℕ) → c < 2 ^ 18 → w < 2 ^ n → crc_bits c (low_bits n w) ≡ quiet n (bit_xor c w)
unfolding crc_bits low_bits quiet
fold_in zero c w r h = mod-eq_of_lt r ∙ sym (ap (bit_xor c) (lt-one h) ∙ xor_zero_r c)
fold_in (suc n) c w r h = fold_in n (crc_bit c (w % 2)) (w / 2) (step_lt c (w % 2) (odd_lt w)) (half_lt n h) ∙ ap (quiet n) (fold_bit c w r)

-- ---- what stands above the n low bits is only shifted
high_bit : (n h l : ℕ) → quiet_bit (bit_xor (h * 2 ^ suc n) l) ≡ bit_xor (h * 2 ^ n) (quiet_bit l)
unfolding quiet_bit
high_bit n h l =
    ap₂ (λ (x y : ℕ). bit_xor x (y * taps))
    (xor_half (h * 2 ^ suc n) l ∙ ap (λ (x : ℕ). bit_xor x (l / 2)) (shifted_half h n))
    (xor_odd (h * 2 ^ suc n) l ∙ ap (λ (x : ℕ). bit_xor x (l % 2)) (shifted_even h n))
    ∙ xor_assoc (h * 2 ^ n) (l / 2) (l % 2 * taps)

high_bits : (n h l : ℕ) → quiet n (bit_xor (h * 2 ^ n) l) ≡ bit_xor h (quiet n l)
unfolding quiet
high_bits zero h l = ap (λ (x : ℕ). bit_xor x l) (mul-one h)
high_bits (suc n) h l = ap (quiet n) (high_bit n h l) ∙ high_bits n h (quiet_bit l)

split_bits : (n x : ℕ) → quiet n x ≡ bit_xor (x / 2 ^ n) (quiet n (x % 2 ^ n))
split_bits n x =
    ap (quiet n) (sym (split x n) ∙ sym (xor_shifted (x / 2 ^ n) n (x % 2 ^ n) (mod-lt x (pow_pos n)))) ∙ high_bits n (x / 2 ^ n) (x % 2 ^ n)

-- only the n low bits of the word count
pub low_bits_lem : (n w : ℕ) → low_bits n (w % 2 ^ n) ≡ low_bits n w
unfolding low_bits
low_bits_lem zero w = refl
low_bits_lem (suc n) w =
    ap₂ {B = List ℕ} (λ (x : ℕ) (l : List ℕ). x ∷ l)
    (ap (λ (x : ℕ). w % 2 ^ x % 2) (sym (add-one n)) ∙ mod-mod-pow w n 1)
    (ap (low_bits n) (ap (λ (x : ℕ). w % 2 ^ x / 2) (sym (add-one n)) ∙ field w n 1) ∙ low_bits_lem n (w / 2))

-- ---- one word
ten_shifts : ℕ → ℕ
ten_shifts x = bit_xor (bit_xor (x * 2 ^ 8) (x * 2 ^ 4)) (x * 2 ^ 3)

ten_linear : Linear ten_shifts
unfolding ten_shifts
ten_linear = linear_xor (linear_xor (linear_shl 8 linear_self) (linear_shl 4 linear_self)) (linear_shl 3 linear_self)

ten_is : (x : ℕ) → x < 2 ^ 10 → ten_shifts x ≡ quiet 10 x
unfolding ten_shifts quiet
ten_is x h = agree_below ten_shifts (quiet 10) ten_linear (quiet_linear 10) 10 tt x h

pub word_by_shifts : (c w : ℕ) → c < 2 ^ 18 → let x = bit_xor c w % 1024 in bit_xor (bit_xor (bit_xor (c / 1024) (x * 256)) (x * 16)) (x * 8) ≡ crc_bits c (low_bits 10 w)
unfolding ten_shifts
word_by_shifts c w r =
    let x = bit_xor c w % 1024 in
    let m = w % 1024 in
    let small : m < 2 ^ 10 = mod-lt w (pow_pos 10) in
    let high : bit_xor c m / 2 ^ 10 ≡ c / 1024 = xor_shr c m 10 ∙ ap (bit_xor (c / 1024)) (div-eq_of_lt small) ∙ xor_zero_r (c / 1024) in
    let low : bit_xor c m % 2 ^ 10 ≡ x = xor_mod c m 10 ∙ ap (bit_xor (c % 1024)) (mod-mod w 1024) ∙ sym (xor_mod c w 10) in
    xor_assoc (bit_xor (c / 1024) (x * 256)) (x * 16) (x * 8)
    ∙ xor_assoc (c / 1024) (x * 256) (bit_xor (x * 16) (x * 8))
    ∙ ap (bit_xor (c / 1024)) (sym (xor_assoc (x * 256) (x * 16) (x * 8)) ∙ ten_is x (mod-lt (bit_xor c w) (pow_pos 10)))
    ∙ sym (ap (crc_bits c) (sym (low_bits_lem 10 w)) ∙ fold_in 10 c m r small ∙ split_bits 10 (bit_xor c m) ∙ ap₂ (λ (h l : ℕ). bit_xor h (quiet 10 l)) high low)

-- ---- six words
pub fed_linear : (i j k : ℕ) {f : ℕ → ℕ} → Linear f → Linear (λ x. fed i j k (f x))
unfolding fed
fed_linear i j k l =
    linear_xor (linear_xor (linear_xor l (linear_mod 64 (linear_shl i l))) (linear_mod 64 (linear_shl j l))) (linear_mod 64 (linear_shl k l))

-- what sixty bits feed back, each at its place
abbrev pub sixty : ℕ → ℕ
sixty x = fed 52 56 60 (fed 26 28 36 (fed 13 14 18 x)) % 2 ^ 60

sixty_linear : Linear sixty
sixty_linear = linear_mod 60 (fed_linear 52 56 60 (fed_linear 26 28 36 (fed_linear 13 14 18 linear_self)))

abbrev pub sixty_shifts : ℕ → ℕ
sixty_shifts x = bit_xor (bit_xor (sixty x / 2 ^ 42) (sixty x / 2 ^ 46)) (sixty x / 2 ^ 47)

pub sixty_is : (x : ℕ) → x < 2 ^ 60 → sixty_shifts x ≡ quiet 60 x
unfolding fed quiet
sixty_is x h =
    agree_below sixty_shifts (quiet 60)
    (linear_xor (linear_xor (linear_shr 42 sixty_linear) (linear_shr 46 sixty_linear)) (linear_shr 47 sixty_linear))
    (quiet_linear 60) 60 tt x h

-- the bits of words
abbrev pub tens : List ℕ → ℕ
tens [] = 0
tens (w ∷ ws) = 10 + tens ws

packed_lt : (ws : List ℕ) → packed ws < 2 ^ tens ws
packed_lt [] = lit< tt
packed_lt (w ∷ ws) =
    subst (λ (x : ℕ). packed ws * 1024 + w % 1024 < x) (mul_comm (2 ^ tens ws) (2 ^ 10) ∙ sym (pow-add 2 10 (tens ws))) (digits_lt (packed_lt ws) (mod-lt w (lit< tt)))

bits_join : (m n x : ℕ) → low_bits (m + n) x ≡ low_bits m x ++ low_bits n (x / 2 ^ m)
unfolding low_bits
bits_join zero n x = ap₂ low_bits (zero-add n) (sym (div-one x))
bits_join (suc m) n x =
    ap (λ (k : ℕ). low_bits k x) (suc-add m n)
    ∙ ap (λ (l : List ℕ). x % 2 ∷ l)
    (bits_join m n (x / 2) ∙ ap (λ (y : ℕ). low_bits m (x / 2) ++ low_bits n y) (shr-shr x 1 m ∙ ap (λ (k : ℕ). x / 2 ^ k) (one-add m)))

packed_bits : (ws : List ℕ) → bits_of ws ≡ low_bits (tens ws) (packed ws)
unfolding bits_of
packed_bits [] = refl
packed_bits (w ∷ ws) =
    sym (bits_join 10 (tens ws) (packed ws * 1024 + w % 1024)
    ∙ ap₂ ◌++◌
    (sym (low_bits_lem 10 (packed ws * 1024 + w % 1024)) ∙ ap (low_bits 10) (digits_mod (packed ws) (mod-lt w (lit< tt))) ∙ low_bits_lem 10 w)
    (ap (low_bits (tens ws)) (digits_div (packed ws) (mod-lt w (lit< tt))) ∙ sym (packed_bits ws)))

pub crc_packed : (c : ℕ) (ws : List ℕ) → c < 2 ^ 18 → crc_of c ws ≡ quiet (tens ws) (bit_xor c (packed ws))
unfolding crc_of
crc_packed c ws r = ap (crc_bits c) (packed_bits ws) ∙ fold_in (tens ws) c (packed ws) r (packed_lt ws)

-- a list of words from place i on, side by side
pub packed_next : (s : List ℕ) (i : ℕ) → i < length s → packed (drop i s) ≡ packed (drop (i + 1) s) * 1024 + get_or s i 0 % 1024
packed_next s i h = ap packed (next_drop s i h)

tens_length : (s : List ℕ) → tens s ≡ 10 * length s
tens_length [] = refl
tens_length (w ∷ s) = let e = tens_length s in omega arith

module _ (c : ℕ) (s : List ℕ) (below : c < 2 ^ 18) (six : length s ≡ 6) (t0 t1 t2 t3 t4 t5 : ℕ)
    (e0 : t0 ≡ get_or s 0 0 % 1024) (e1 : t1 ≡ get_or s 1 0 % 1024) (e2 : t2 ≡ get_or s 2 0 % 1024)
    (e3 : t3 ≡ get_or s 3 0 % 1024) (e4 : t4 ≡ get_or s 4 0 % 1024) (e5 : t5 ≡ get_or s 5 0 % 1024) where
  joined : ((t5 * 1024 + t4) * 1024 + t3) * 1073741824 + ((t2 * 1024 + t1) * 1024 + t0) ≡ packed s
  joined =
      let n0 = packed_next s 0 (omega arith) in
      let n1 = packed_next s 1 (omega arith) in
      let n2 = packed_next s 2 (omega arith) in
      let n3 = packed_next s 3 (omega arith) in
      let n4 = packed_next s 4 (omega arith) in
      let n5 = packed_next s 5 (omega arith) in
      let n6 : packed (drop 6 s) ≡ 0 = ap packed (drop_of_length-le s {i = 6} (omega arith)) in
      omega arith

  pub six_words : quiet 60 (bit_xor c (((t5 * 1024 + t4) * 1024 + t3) * 1073741824 + ((t2 * 1024 + t1) * 1024 + t0))) ≡ crc_of c s
  six_words = ap (λ (p : ℕ). quiet 60 (bit_xor c p)) joined ∙ ap (λ (n : ℕ). quiet n (bit_xor c (packed s))) (sym (tens_length s ∙ ap (λ (n : ℕ). 10 * n) six)) ∙ sym (crc_packed c s below)

-- ---- less than six words: bits that are 0 under them are only shifted out
quiet_zero : (n : ℕ) → quiet n 0 ≡ 0
unfolding quiet quiet_bit
quiet_zero zero = refl
quiet_zero (suc n) = quiet_zero n

shifted_out : (m x : ℕ) → quiet m (x * 2 ^ m) ≡ x
shifted_out m x = ap (quiet m) (sym (xor_zero_r (x * 2 ^ m))) ∙ high_bits m x 0 ∙ ap (bit_xor x) (quiet_zero m) ∙ xor_zero_r x

quiet_more : (m n x : ℕ) → quiet (m + n) x ≡ quiet n (quiet m x)
unfolding quiet
quiet_more zero n x = ap (λ (k : ℕ). quiet k x) (zero-add n)
quiet_more (suc m) n x = ap (λ (k : ℕ). quiet k x) (suc-add m n) ∙ quiet_more m n (quiet_bit x)

pub packed_small : (s : List ℕ) (i : ℕ) → length s ≤ 6 → 0 < i → i ≤ length s → packed (drop i s) < 2 ^ 50
packed_small s i h p q =
    lt_of_lt_of_le (packed_lt (drop i s)) (pow_mono {i = tens (drop i s)} {j = 50} (omega (arith, tens_length (drop i s), length-drop i s)))

module _ (c : ℕ) (s : List ℕ) (below : c < 2 ^ 18) (some : 2 ≤ length s) (few : length s ≤ 6) where
  up : ℕ
  up = 60 - 10 * length s

  long : tens s + up ≡ 60
  unfolding up
  long = let e = tens_length s in omega arith

  both_lt : bit_xor c (packed s) < 2 ^ tens s
  both_lt = xor_lt (tens s) c (packed s) (lt_of_lt_of_le below (pow_mono {i = 18} {j = tens s} (omega (arith, tens_length s)))) (packed_lt s)

  pub few_fit : bit_xor c (packed s) * 2 ^ (60 - 10 * length s) < 2 ^ 60
  unfolding up
  few_fit = subst (λ (n : ℕ). bit_xor c (packed s) * 2 ^ (60 - 10 * length s) < 2 ^ n) long (shl_lt (tens s) (60 - 10 * length s) both_lt)

  -- nothing of it is above 64 bits
  pub few_shifted : (z : ℕ) → z ≡ packed s → bit_xor c z * 2 ^ (60 - 10 * length s) % 2 ^ 64 ≡ bit_xor c (packed s) * 2 ^ (60 - 10 * length s)
  few_shifted z e =
      ap (λ (x : ℕ). bit_xor c x * 2 ^ (60 - 10 * length s) % 2 ^ 64) e ∙ mod-eq_of_lt (lt_of_lt_of_le few_fit (pow_mono {i = 60} {j = 64} (omega arith)))

  pub few_words : quiet 60 (bit_xor c (packed s) * 2 ^ (60 - 10 * length s)) ≡ crc_of c s
  unfolding up
  few_words =
      let m = 60 - 10 * length s in
      let e : m + tens s ≡ 60 = omega (arith, long) in
      ap (λ (n : ℕ). quiet n (bit_xor c (packed s) * 2 ^ m)) (sym e)
      ∙ quiet_more m (tens s) (bit_xor c (packed s) * 2 ^ m)
      ∙ ap (quiet (tens s)) (shifted_out m (bit_xor c (packed s)))
      ∙ sym (crc_packed c s below)

-- ---- six words of filler
pub six_fillers : (c : ℕ) → c < 2 ^ 18 → quiet 60 (bit_xor c 0x802008020080200) ≡ crc_of c (replicate 6 0x200)
six_fillers c r = sym (crc_packed c (replicate 6 0x200) r)
