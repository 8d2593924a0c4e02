-- The timing words EAV and SAV.
-- Assumes nothing.
use Rattle.std.specs.Prelude.{ℕ, ◌+◌, ◌*◌, Bool, true, false, List, [], ◌∷◌}
use Rattle.std.specs.Bool.{xor}

-- a flag as a bit
abbrev pub bit_of : Bool → ℕ
bit_of true = 1
bit_of false = 0

-- B9 1, B8 F, B7 V, B6 H (1 in EAV), B5 V^H, B4 F^H, B3 F^V, B2 F^V^H, B1 and B0 0
unfoldable pub timing_word : Bool → Bool → Bool → ℕ
timing_word f v h =
    512 + bit_of f * 256 + bit_of v * 128 + bit_of h * 64 + bit_of (xor v h) * 32 + bit_of (xor f h) * 16 + bit_of (xor f v) * 8 + bit_of (xor (xor f v) h) * 4

-- EAV (h true) and SAV: 3FFh 000h 000h and then the fourth word
unfoldable pub timing_words : Bool → Bool → Bool → List ℕ
timing_words f v h = 0x3ff ∷ 0x000 ∷ 0x000 ∷ timing_word f v h ∷ []
