-- What the code computes of the CRC in place of single bits. proofs/Shifts shows that it is the CRC.
-- Assumes nothing.
use Rattle.std.specs.Prelude.{ℕ, zero, suc, ◌+◌, ◌*◌, ◌/◌, ◌%◌, ◌^◌, List, [], ◌∷◌}
use Rattle.std.specs.Int.Bits.{bit_xor}
use Rattle.words.specs.Crc.{taps}

-- a bit that is 0, where bits to come stand above the register already: they are shifted towards C0 with it
unfoldable pub quiet_bit : ℕ → ℕ
quiet_bit x = bit_xor (x / 2) (x % 2 * taps)

-- n such bits
unfoldable pub quiet : ℕ → ℕ → ℕ
unfolding quiet_bit
quiet zero x = x
quiet (suc n) x = quiet n (quiet_bit x)

-- a number of 64 bits, xored with itself shifted up by i, by j and by k places
unfoldable pub fed : ℕ → ℕ → ℕ → ℕ → ℕ
fed i j k x = bit_xor (bit_xor (bit_xor x (x * 2 ^ i % 2 ^ 64)) (x * 2 ^ j % 2 ^ 64)) (x * 2 ^ k % 2 ^ 64)

-- words side by side in one number, the first lowest
abbrev pub packed : List ℕ → ℕ
packed [] = 0
packed (w ∷ ws) = packed ws * 1024 + w % 1024
