-- What the code makes of words before their CRC is taken. proofs/Folds shows that it keeps the CRC.
-- Assumes nothing.
use Rattle.std.specs.Prelude.{◌≡◌, List, ℕ, ◌+◌, ◌-◌, ◌^◌, ◌<◌, length, replicate, take, drop}
use Rattle.std.specs.Int.Bits.{bit_xor}
use Rattle.lists.specs.Lists.{part}
use Rattle.words.specs.Crc.{crc_of}

-- the register after n words that are 0
abbrev pub still : ℕ → ℕ → ℕ
still n c = crc_of c (replicate n 0)

-- z words that are 0 do what a of them, b of them and none do together: a word may stand z - a, z - b and z places later instead
pub record Folds (z a b : ℕ) : Type 0 where
  pub first : a < z
  pub second : b < z
  pub holds : (c : ℕ) → c < 2 ^ 18 → still z c ≡ bit_xor (bit_xor (still a c) (still b c)) c

-- the register that the first z words hold
abbrev pub held : ℕ → ℕ → ℕ → List ℕ → ℕ
held z a b f = bit_xor (bit_xor (crc_of 0 (take z f)) (crc_of 0 (take a f))) (crc_of 0 (take b f))

-- f, which was before, has gathered the first i words of s: from i on it holds the register after them, and where none will stand it is as before
pub record Gathered (z a b : ℕ) (s before f : List ℕ) (i : ℕ) : Type 0 where
  pub long : length f ≡ length before
  pub register : held z a b (drop i f) ≡ crc_of (held z a b before) (take i s)
  pub behind : drop (length s + z) f ≡ drop (length s + z) before

-- the register after the first n words of s, xored with those of f, with those from a on and with those from b on
abbrev pub mixed : ℕ → ℕ → ℕ → List ℕ → List ℕ → ℕ
mixed a b n s f = bit_xor (bit_xor (bit_xor (crc_of 0 (take n s)) (crc_of 0 (part a n f))) (crc_of 0 (part b n f))) (crc_of 0 (take n f))

-- the first i words are xored into f, which was before, a places further on: the first a are as before, and the CRC has that of the i words besides, taken on from there
pub record Xored (a : ℕ) (before f : List ℕ) (i : ℕ) : Type 0 where
  pub long : length f ≡ length before
  pub front : take a f ≡ take a before
  pub sum : crc_of 0 f ≡ bit_xor (crc_of 0 before) (still (length before - (a + i)) (crc_of 0 (take i before)))
