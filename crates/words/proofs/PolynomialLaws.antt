-- The CRC is division by G = x^18+x^5+x^4+1: the register after n bits is what is left of its start times x^n and the bits times x^18.
-- One bit is one step of the division, which is linear, so that it is right where it is right at each single bit of the register.
-- Assumes nothing.
use mathlib.Core.Path.{◌≡◌, refl, sym, ap, ap₂, ◌∙◌, subst}
use mathlib.Core.List.{List, [], ◌∷◌, ◌++◌}
use Prim.Native.Nat.{ℕ, zero, suc, ◌+◌, ◌*◌, ◌/◌, ◌%◌, ◌^◌, ◌<◌}
use native.Mathlib.Nat.{mul-one, mul_assoc, mul_comm, add_comm, zero-mul, one-mul, pow-suc, mul-div_cancel, div-eq_of_lt, mod-lt}
use native.Mathlib.Omega.{arith}
use lib.Dec.{lit<}
use lib.Pow.{pow_pos, shr-shr}
use lib.Bits.{bit_xor, xor_shr, xor_lt, xor_zero_r}
use lib.ListN.{length}
use Rattle.words.specs.Forms.{bit}
use Rattle.words.specs.Crc.{register, low_bits, bits_of, crc_bit, crc_bits, crc_of}
use Rattle.words.specs.Polynomial.{generator, polynomial, register_polynomial, remainder}
use Rattle.words.proofs.Xor.{below2, odd_lt, xor_half, xor_assoc, xor_swap, xor_times, Linear, linear_self, linear_shl, linear_shr, linear_mod, linear_xor, agree_below}
use Rattle.words.proofs.CrcLaws.{bit_register, bit_linear}
use Rattle.words.proofs.Shifts.{low_bits_lem}

-- ---- bits and their polynomial
-- each is 0 or 1
abbrev pub Binary : List ℕ → Type 0
Binary [] = Unit {0}
Binary (b ∷ bs) = (b < 2) × Binary bs

binary_append : (cs bs : List ℕ) → Binary cs → Binary bs → Binary (cs ++ bs)
binary_append [] bs p q = q
binary_append (c ∷ cs) bs p q = (p.0, binary_append cs bs p.1 q)

pub low_binary : (n w : ℕ) → Binary (low_bits n w)
unfolding low_bits
low_binary zero w = tt
low_binary (suc n) w = (odd_lt w, low_binary n (w / 2))

pub bits_binary : (ws : List ℕ) → Binary (bits_of ws)
unfolding bits_of
bits_binary [] = tt
bits_binary (w ∷ ws) = binary_append (low_bits 10 w) (bits_of ws) (low_binary 10 w) (bits_binary ws)

pub low_length : (n w : ℕ) → length (low_bits n w) ≡ n
unfolding low_bits
low_length zero w = refl
low_length (suc n) w = ap suc (low_length n (w / 2))

-- a coefficient of x^n
digit_lt : (b n : ℕ) → b < 2 → b * 2 ^ n < 2 ^ suc n
digit_lt b n h =
    let p = pow_pos n in
    let s = pow-suc 2 n in
    below2 (λ b. b * 2 ^ n < 2 ^ suc n) (subst (λ (x : ℕ). x < 2 ^ suc n) (sym (zero-mul (2 ^ n))) (pow_pos (suc n)))
    (subst (λ (x : ℕ). x < 2 ^ suc n) (sym (one-mul (2 ^ n))) (omega arith)) b h

pub polynomial_lt : (bs : List ℕ) → Binary bs → polynomial bs < 2 ^ length bs
unfolding polynomial
polynomial_lt [] p = lit< tt
polynomial_lt (b ∷ bs) p =
    let i = polynomial_lt bs p.1 in
    let s = pow-suc 2 (length bs) in
    xor_lt (suc (length bs)) (b * 2 ^ length bs) (polynomial bs) (digit_lt b (length bs) p.0) (omega arith)

-- ---- what is linear
low_next : (n x : ℕ) → polynomial (low_bits (suc n) x) ≡ bit_xor (x % 2 * 2 ^ n) (polynomial (low_bits n (x / 2)))
unfolding polynomial low_bits
low_next n x = ap (λ (k : ℕ). bit_xor (x % 2 * 2 ^ k) (polynomial (low_bits n (x / 2)))) (low_length n (x / 2))

low_linear : (n : ℕ) → Linear (λ x. polynomial (low_bits n x))
unfolding polynomial low_bits
low_linear zero = record { splits = λ a b. refl }
low_linear (suc n) =
    let half : Linear (λ x. polynomial (low_bits n (x / 2))) =
    record { splits = λ a b. ap (λ (x : ℕ). polynomial (low_bits n x)) (xor_half a b) ∙ (low_linear n).splits (a / 2) (b / 2) } in
    let both = linear_xor (linear_shl n (linear_mod 1 linear_self)) half in
    record { splits = λ a b. low_next n (bit_xor a b) ∙ both.splits a b ∙ sym (ap₂ bit_xor (low_next n a) (low_next n b)) }

register_linear : Linear register_polynomial
unfolding register_polynomial
register_linear = low_linear 18

zero_linear : Linear (λ c. crc_bit c 0)
zero_linear = record { splits = λ a b. bit_linear a b 0 0 (lit< tt) (lit< tt) }

-- one step of the division: q has one coefficient above those of a register
taken_off : ℕ → ℕ
taken_off q = bit_xor q (q / 2 ^ 18 % 2 * generator)

taken_linear : Linear taken_off
unfolding taken_off
taken_linear = linear_xor linear_self (record {
  splits = λ a b.
      ap (λ (x : ℕ). x * generator) ((linear_mod 1 (linear_shr 18 linear_self)).splits a b)
      ∙ xor_times generator (a / 2 ^ 18 % 2) (b / 2 ^ 18 % 2) (odd_lt (a / 2 ^ 18)) (odd_lt (b / 2 ^ 18));
})

-- ---- one bit
quiet_step : (c : ℕ) → c < 2 ^ 18 → register_polynomial (crc_bit c 0) ≡ taken_off (register_polynomial c * 2)
unfolding register_polynomial crc_bit taken_off
quiet_step c h =
    agree_below (λ c. register_polynomial (crc_bit c 0)) (λ c. taken_off (register_polynomial c * 2))
    (record { splits = λ a b. ap register_polynomial (zero_linear.splits a b) ∙ register_linear.splits (crc_bit a 0) (crc_bit b 0) })
    (record {
      splits = λ a b.
          ap taken_off ((linear_shl 1 register_linear).splits a b) ∙ taken_linear.splits (register_polynomial a * 2) (register_polynomial b * 2);
    })
    18 tt c h

bit_step : (b : ℕ) → b < 2 → register_polynomial (crc_bit 0 b) ≡ taken_off (b * 2 ^ 18)
unfolding register_polynomial crc_bit taken_off
bit_step b h = below2 (λ b. register_polynomial (crc_bit 0 b) ≡ taken_off (b * 2 ^ 18)) refl refl b h

-- a bit: x times the register and the bit times x^18, less G where that has x^18
small_step : (c b : ℕ) → c < 2 ^ 18 → b < 2 → register_polynomial (crc_bit c b) ≡ taken_off (bit_xor (register_polynomial c * 2) (b * 2 ^ 18))
small_step c b h hb =
    ap register_polynomial (sym (ap (λ (x : ℕ). crc_bit x b) (xor_zero_r c)) ∙ bit_linear c 0 0 b (lit< tt) hb)
    ∙ register_linear.splits (crc_bit c 0) (crc_bit 0 b)
    ∙ ap₂ bit_xor (quiet_step c h) (bit_step b hb)
    ∙ sym (taken_linear.splits (register_polynomial c * 2) (b * 2 ^ 18))

register_register : (c : ℕ) → register_polynomial (register c) ≡ register_polynomial c
unfolding register_polynomial
register_register c = ap polynomial (low_bits_lem 18 c)

division_one : (q : ℕ) → remainder 1 q ≡ taken_off q
unfolding remainder taken_off
division_one q = ap (bit_xor q) (mul-one (q / 2 ^ 18 % 2 * generator))

pub crc_step : (c b : ℕ) → b < 2 → register_polynomial (crc_bit c b) ≡ remainder 1 (bit_xor (register_polynomial c * 2) (b * 2 ^ 18))
crc_step c b hb =
    ap register_polynomial (sym (bit_register c b)) ∙ small_step (register c) b (mod-lt c (lit< tt)) hb
    ∙ ap (λ (x : ℕ). taken_off (bit_xor (x * 2) (b * 2 ^ 18))) (register_register c)
    ∙ sym (division_one (bit_xor (register_polynomial c * 2) (b * 2 ^ 18)))

-- ---- all bits
module _ (q m n : ℕ) (small : m < 2 ^ n) where
  -- the highest coefficient
  top : bit (18 + n) (bit_xor (q * 2 ^ n) (m * 2 ^ 18)) ≡ q / 2 ^ 18 % 2
  top = ap (λ (x : ℕ). x % 2) (xor_shr (q * 2 ^ n) (m * 2 ^ 18) (18 + n) ∙ ap₂ bit_xor upper lower ∙ xor_zero_r (q / 2 ^ 18))
    where
      upper : q * 2 ^ n / 2 ^ (18 + n) ≡ q / 2 ^ 18
      upper =
          ap (λ (k : ℕ). q * 2 ^ n / 2 ^ k) (add_comm 18 n) ∙ sym (shr-shr (q * 2 ^ n) n 18)
          ∙ ap (λ (x : ℕ). x / 2 ^ 18) (mul-div_cancel q (pow_pos n))

      lower : m * 2 ^ 18 / 2 ^ (18 + n) ≡ 0
      lower = sym (shr-shr (m * 2 ^ 18) 18 n) ∙ ap (λ (x : ℕ). x / 2 ^ n) (mul-div_cancel m (pow_pos 18)) ∙ div-eq_of_lt small

  -- a step of the division leaves what follows
  division_step : remainder (suc n) (bit_xor (q * 2 ^ n) (m * 2 ^ 18)) ≡ remainder n (bit_xor (taken_off q * 2 ^ n) (m * 2 ^ 18))
  unfolding remainder taken_off
  division_step =
      let p = bit_xor (q * 2 ^ n) (m * 2 ^ 18) in
      let f = q / 2 ^ 18 % 2 in
      ap (remainder n)
      (ap (λ (x : ℕ). bit_xor p (x * generator * 2 ^ n)) top ∙ xor_swap (q * 2 ^ n) (m * 2 ^ 18) (f * generator * 2 ^ n)
      ∙ ap (λ (x : ℕ). bit_xor x (m * 2 ^ 18)) (sym ((linear_shl n linear_self).splits q (f * generator))))

-- the register and the bits, side by side: the first bit comes down to the register
gather : (r b m n : ℕ) → bit_xor (r * 2 ^ suc n) (bit_xor (b * 2 ^ n) m * 2 ^ 18) ≡ bit_xor (bit_xor (r * 2) (b * 2 ^ 18) * 2 ^ n) (m * 2 ^ 18)
gather r b m n =
    ap₂ bit_xor one ((linear_shl 18 linear_self).splits (b * 2 ^ n) m ∙ ap (λ (x : ℕ). bit_xor x (m * 2 ^ 18)) two)
    ∙ sym (xor_assoc (r * 2 * 2 ^ n) (b * 2 ^ 18 * 2 ^ n) (m * 2 ^ 18))
    ∙ ap (λ (x : ℕ). bit_xor x (m * 2 ^ 18)) (sym ((linear_shl n linear_self).splits (r * 2) (b * 2 ^ 18)))
  where
    one : r * 2 ^ suc n ≡ r * 2 * 2 ^ n
    one = ap (λ (x : ℕ). r * x) (pow-suc 2 n ∙ mul_comm (2 ^ n) 2) ∙ sym (mul_assoc r 2 (2 ^ n))

    two : b * 2 ^ n * 2 ^ 18 ≡ b * 2 ^ 18 * 2 ^ n
    two = mul_assoc b (2 ^ n) (2 ^ 18) ∙ ap (λ (x : ℕ). b * x) (mul_comm (2 ^ n) (2 ^ 18)) ∙ sym (mul_assoc b (2 ^ 18) (2 ^ n))

-- the register after bits is what is left of the start times x^n and the bits times x^18, n the number of bits
pub crc_divides : (c : ℕ) (bs : List ℕ) → Binary bs
    → register_polynomial (crc_bits c bs) ≡ remainder (length bs) (bit_xor (register_polynomial c * 2 ^ length bs) (polynomial bs * 2 ^ 18))
unfolding crc_bits polynomial remainder
crc_divides c [] p = register_register c ∙ sym (xor_zero_r (register_polynomial c * 1) ∙ mul-one (register_polynomial c))
crc_divides c (b ∷ bs) p =
    let n = length bs in
    let q = bit_xor (register_polynomial c * 2) (b * 2 ^ 18) in
    crc_divides (crc_bit c b) bs p.1
    ∙ ap (λ (x : ℕ). remainder n (bit_xor (x * 2 ^ n) (polynomial bs * 2 ^ 18))) (crc_step c b p.0 ∙ division_one q)
    ∙ sym (ap (remainder (suc n)) (gather (register_polynomial c) b (polynomial bs) n) ∙ division_step q (polynomial bs) n (polynomial_lt bs p.1))

-- so it is of words, from any register
pub words_divided : (c : ℕ) (ws : List ℕ)
    → register_polynomial (crc_of c ws) ≡ remainder (length (bits_of ws)) (bit_xor (register_polynomial c * 2 ^ length (bits_of ws)) (polynomial (bits_of ws) * 2 ^ 18))
unfolding crc_of
words_divided c ws = crc_divides c (bits_of ws) (bits_binary ws)
