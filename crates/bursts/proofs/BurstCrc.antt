-- Bits changed within at most 18 consecutive places change the CRC. A step loses nothing, so that registers which differ stay different under the
-- same bits; and up to 18 bits may be xored into the register first, so that bits which differ make it differ.
-- Assumes nothing.
use mathlib.Core.Path.{◌≡◌, refl, sym, ap, ap₂, ◌∙◌, subst}
use mathlib.Core.List.{List, [], ◌∷◌, ◌++◌}
use Prim.Native.Nat.{ℕ, zero, suc, ◌+◌, ◌*◌, ◌/◌, ◌%◌, ◌^◌, ◌<◌, ◌≤◌}
use native.Mathlib.Nat.{lt_of_lt_of_le, div-eq_of_lt, div-add-mod', pow-suc, mod-eq_of_lt, mod-lt}
use native.Mathlib.Omega.{arith}
use lib.Dec.{lit<}
use lib.Arith.{digits_lt, digits_div, digits_mod}
use lib.Pow.{pow_pos, pow_mono, shr_lt}
use lib.Bits.{bit_xor, xor_lt, xor_comm, xor_shr, xor_zero_r}
use lib.ListN.{length, get_or, take, drop, length-take, length-drop, length-append, take-append-drop}
use lib.Seq.{drop-drop}
use Rattle.words.specs.Crc.{crc_start, register, taps, low_bits, bits_of, crc_bit, crc_bits, crc_of, register_words, crc_words}
use Rattle.words.specs.Shifts.{quiet}
use Rattle.words.proofs.Xor.{below2, odd_lt, xor_cancel}
use Rattle.words.proofs.FormLaws.{data_low}
use Rattle.words.proofs.CrcLaws.{bits_append, step_lt, bits_lt, crc_lt}
use Rattle.words.proofs.Shifts.{fold_in}
use Rattle.words.proofs.PolynomialLaws.{Binary, bits_binary, low_binary, low_length}

-- ---- a step loses nothing
-- C17 after it is f
top : (c b : ℕ) → b < 2 → crc_bit c b / 2 ^ 17 ≡ bit_xor b (c % 2)
unfolding crc_bit
top c b h =
    let f = bit_xor b (c % 2) in
    xor_shr (register c / 2) (f * taps) 17
    ∙ ap₂ bit_xor (div-eq_of_lt (shr_lt 17 1 (mod-lt c (lit< tt)))) (below2 (λ f. f * taps / 2 ^ 17 ≡ f) refl refl f (xor_lt 1 b (c % 2) h (odd_lt c)))

step_inj : (c d b : ℕ) → c < 2 ^ 18 → d < 2 ^ 18 → b < 2 → crc_bit c b ≡ crc_bit d b → c ≡ d
unfolding crc_bit
step_inj c d b hc hd hb e =
    let f : bit_xor b (c % 2) ≡ bit_xor b (d % 2) = sym (top c b hb) ∙ ap (λ (x : ℕ). x / 2 ^ 17) e ∙ top d b hb in
    let low : c % 2 ≡ d % 2 = xor_cancel (c % 2) (d % 2) b (xor_comm (c % 2) b ∙ f ∙ xor_comm b (d % 2)) in
    let high : register c / 2 ≡ register d / 2 =
    xor_cancel (register c / 2) (register d / 2) (bit_xor b (d % 2) * taps) (ap (λ (x : ℕ). bit_xor (register c / 2) (x * taps)) (sym f) ∙ e) in
    let half : (x : ℕ) → x < 2 ^ 18 → register x / 2 ≡ x / 2 = (λ x h. ap (λ (y : ℕ). y / 2) (mod-eq_of_lt h)) in
    sym (div-add-mod' c 2) ∙ ap₂ (λ (x y : ℕ). x * 2 + y) (sym (half c hc) ∙ high ∙ half d hd) low ∙ div-add-mod' d 2

bits_inj : (c d : ℕ) (bs : List ℕ) → c < 2 ^ 18 → d < 2 ^ 18 → Binary bs → crc_bits c bs ≡ crc_bits d bs → c ≡ d
unfolding crc_bits
bits_inj c d [] hc hd p e = sym (mod-eq_of_lt hc) ∙ e ∙ mod-eq_of_lt hd
bits_inj c d (b ∷ bs) hc hd p e =
    step_inj c d b hc hd p.0 (bits_inj (crc_bit c b) (crc_bit d b) bs (step_lt c b p.0) (step_lt d b p.0) p.1 e)

-- ---- bits as a number, the first lowest
number : List ℕ → ℕ
number [] = 0
number (b ∷ bs) = number bs * 2 + b

number_lt : (bs : List ℕ) → Binary bs → number bs < 2 ^ length bs
unfolding number
number_lt [] p = lit< tt
number_lt (b ∷ bs) p = subst (λ (x : ℕ). number bs * 2 + b < x) (sym (pow-suc 2 (length bs))) (digits_lt (number_lt bs p.1) p.0)

number_bits : (bs : List ℕ) → Binary bs → low_bits (length bs) (number bs) ≡ bs
unfolding number low_bits
number_bits [] p = refl
number_bits (b ∷ bs) p =
    ap₂ {B = List ℕ} (λ (x : ℕ) (l : List ℕ). x ∷ l) (digits_mod (number bs) p.0)
    (ap (low_bits (length bs)) (digits_div (number bs) p.0) ∙ number_bits bs p.1)

-- ---- at most 18 bits
module _ (c : ℕ) (h : c < 2 ^ 18) where
  xored_lt : (bs : List ℕ) → Binary bs → length bs ≤ 18 → bit_xor c (number bs) < 2 ^ 18
  xored_lt bs p k = xor_lt 18 c (number bs) h (lt_of_lt_of_le (number_lt bs p) (pow_mono k))

  -- they may be xored into the register, and as many zeros taken after that
  xored : (bs : List ℕ) → Binary bs → length bs ≤ 18 → crc_bits c bs ≡ crc_bits (bit_xor c (number bs)) (low_bits (length bs) 0)
  xored bs p k =
      let n = length bs in
      let x = bit_xor c (number bs) in
      ap (crc_bits c) (sym (number_bits bs p)) ∙ fold_in n c (number bs) h (number_lt bs p)
      ∙ sym (fold_in n x 0 (xored_lt bs p k) (pow_pos n) ∙ ap (quiet n) (xor_zero_r x))

  window : (xs ys : List ℕ) → Binary xs → Binary ys → length xs ≡ length ys → length ys ≤ 18 → crc_bits c xs ≡ crc_bits c ys → xs ≡ ys
  window xs ys px py l k e =
      let k' : length xs ≤ 18 = subst (λ (n : ℕ). n ≤ 18) (sym l) k in
      let r : bit_xor c (number xs) ≡ bit_xor c (number ys) =
      bits_inj (bit_xor c (number xs)) (bit_xor c (number ys)) (low_bits (length ys) 0) (xored_lt xs px k') (xored_lt ys py k) (low_binary (length ys) 0)
      (ap (λ (n : ℕ). crc_bits (bit_xor c (number xs)) (low_bits n 0)) (sym l) ∙ sym (xored xs px k') ∙ e ∙ xored ys py k) in
      let n : number xs ≡ number ys = xor_cancel (number xs) (number ys) c (xor_comm (number xs) c ∙ r ∙ xor_comm c (number ys)) in
      sym (number_bits xs px) ∙ ap₂ low_bits l n ∙ number_bits ys py

-- ---- two lists of bits that are the same before place a and from place a + w on
binary_take : (n : ℕ) (bs : List ℕ) → Binary bs → Binary (take n bs)
binary_take zero bs p = tt
binary_take (suc n) [] p = tt
binary_take (suc n) (b ∷ bs) p = (p.0, binary_take n bs p.1)

binary_drop : (n : ℕ) (bs : List ℕ) → Binary bs → Binary (drop n bs)
binary_drop zero bs p = p
binary_drop (suc n) [] p = tt
binary_drop (suc n) (b ∷ bs) p = binary_drop n bs p.1

module _ (a w : ℕ) where
  middle : List ℕ → List ℕ
  middle l = take w (drop a l)

  parts : (l : List ℕ) → l ≡ take a l ++ (middle l ++ drop (a + w) l)
  unfolding middle
  parts l = sym (ap (λ (r : List ℕ). take a l ++ r) (ap (λ (r : List ℕ). middle l ++ r) (sym (drop-drop w a l)) ∙ take-append-drop w (drop a l)) ∙ take-append-drop a l)

  by_parts : (c : ℕ) (l : List ℕ) → crc_bits c l ≡ crc_bits (crc_bits (crc_bits c (take a l)) (middle l)) (drop (a + w) l)
  by_parts c l =
      ap (crc_bits c) (parts l) ∙ bits_append c (take a l) (middle l ++ drop (a + w) l) ∙ bits_append (crc_bits c (take a l)) (middle l) (drop (a + w) l)

  same_bits : (c : ℕ) (xs ys : List ℕ) → w ≤ 18 → Binary xs → Binary ys → length xs ≡ length ys
      → take a xs ≡ take a ys → drop (a + w) xs ≡ drop (a + w) ys → crc_bits c xs ≡ crc_bits c ys → xs ≡ ys
  unfolding middle
  same_bits c xs ys short px py l front back e =
      let d = crc_bits c (take a xs) in
      let rest = drop (a + w) xs in
      let last : crc_bits (crc_bits d (middle xs)) rest ≡ crc_bits (crc_bits d (middle ys)) rest =
      sym (by_parts c xs) ∙ e ∙ by_parts c ys ∙ ap₂ (λ (f r : List ℕ). crc_bits (crc_bits (crc_bits c f) (middle ys)) r) (sym front) (sym back) in
      let mids : middle xs ≡ middle ys =
      window d (bits_lt c (take a xs)) (middle xs) (middle ys) (binary_take w (drop a xs) (binary_drop a xs px)) (binary_take w (drop a ys) (binary_drop a ys py))
      (simp (length-take, length-drop, l)) (simp length-take (omega arith))
      (bits_inj (crc_bits d (middle xs)) (crc_bits d (middle ys)) rest (bits_lt d (middle xs)) (bits_lt d (middle ys)) (binary_drop (a + w) xs px) last) in
      parts xs ∙ ap₂ (λ (f r : List ℕ). f ++ (middle xs ++ r)) front back ∙ ap (λ (m : List ℕ). take a ys ++ (m ++ drop (a + w) ys)) mids ∙ sym (parts ys)

-- ---- the two CRC words say the whole register
register_said : (c d : ℕ) → c < 2 ^ 18 → d < 2 ^ 18 → register_words c ≡ register_words d → c ≡ d
unfolding register_words
register_said c d hc hd e =
    let low : c % 512 ≡ d % 512 =
    sym (data_low (c % 512) (mod-lt c (lit< tt))) ∙ ap (λ (l : List ℕ). get_or l 0 0 % 512) e ∙ data_low (d % 512) (mod-lt d (lit< tt)) in
    let high : c / 512 % 512 ≡ d / 512 % 512 =
    sym (data_low (c / 512 % 512) (mod-lt (c / 512) (lit< tt))) ∙ ap (λ (l : List ℕ). get_or l 1 0 % 512) e ∙ data_low (d / 512 % 512) (mod-lt (d / 512) (lit< tt)) in
    sym (div-add-mod' c 512) ∙ ap₂ (λ (x y : ℕ). x * 512 + y) (sym (mod-eq_of_lt (shr_lt 9 9 hc)) ∙ high ∙ mod-eq_of_lt (shr_lt 9 9 hd)) low ∙ div-add-mod' d 512

-- ---- words
bits_long : (ws : List ℕ) → length (bits_of ws) ≡ 10 * length ws
unfolding bits_of
bits_long [] = refl
bits_long (w ∷ ws) =
    let a = length-append (low_bits 10 w) (bits_of ws) in
    let b = low_length 10 w in
    let r = bits_long ws in
    omega arith

-- words whose bits are the same but for at most 18 consecutive ones, and which have the same CRC, have the same bits
pub same_covered : (a w : ℕ) (xs ys : List ℕ) → w ≤ 18 → length xs ≡ length ys
    → take a (bits_of xs) ≡ take a (bits_of ys) → drop (a + w) (bits_of xs) ≡ drop (a + w) (bits_of ys) → crc_words xs ≡ crc_words ys → bits_of xs ≡ bits_of ys
unfolding crc_words crc_of
same_covered a w xs ys short l front back e =
    same_bits a w crc_start (bits_of xs) (bits_of ys) short (bits_binary xs) (bits_binary ys) (bits_long xs ∙ ap (λ (n : ℕ). 10 * n) l ∙ sym (bits_long ys)) front back
    (register_said (crc_of crc_start xs) (crc_of crc_start ys) (crc_lt crc_start xs) (crc_lt crc_start ys) e)
