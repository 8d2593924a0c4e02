-- G, and division by it. A polynomial over 0 and 1 is a number, bit k the coefficient of x^k; a sum is an exclusive or, x^k times one is 2^k times it.
-- No contract cites this: proofs/PolynomialLaws shows that the rule for a bit is division by G.
-- Assumes nothing.
use Rattle.std.specs.Prelude.{ℕ, zero, suc, ◌+◌, ◌*◌, ◌^◌, List, [], ◌∷◌, length}
use Rattle.std.specs.Int.Bits.{bit_xor}
use Rattle.words.specs.Forms.{bit}
use Rattle.words.specs.Crc.{low_bits}

-- G = x^18+x^5+x^4+1
abbrev pub generator : ℕ
generator = 2 ^ 18 + 2 ^ 5 + 2 ^ 4 + 1

-- the polynomial of bits: the first is the coefficient of the highest power, the last that of 1
unfoldable pub polynomial : List ℕ → ℕ
polynomial [] = 0
polynomial (b ∷ bs) = bit_xor (b * 2 ^ length bs) (polynomial bs)

-- that of a register: C0 first, because bits are shifted towards C0
unfoldable pub register_polynomial : ℕ → ℕ
unfolding polynomial low_bits
register_polynomial c = polynomial (low_bits 18 c)

-- what is left of a polynomial of n coefficients above those of a register, divided by G: from the highest power down, x^k times G
-- is taken off where the coefficient of x^(18+k) is 1
unfoldable pub remainder : ℕ → ℕ → ℕ
remainder zero p = p
remainder (suc k) p = remainder k (bit_xor p (bit (18 + k) p * generator * 2 ^ k))
