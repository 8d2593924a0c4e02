-- What every value of the types holds: numbers of their widths.
-- Assumes nothing.
use Rattle.std.specs.Prelude.{ℕ, ◌^◌, Bool, true, ltb, Option, Some, None}

-- numbers of 16, 32 and 64 bits
abbrev pub two : ℕ → Bool
two n = ltb n (2 ^ 16)

abbrev pub four : ℕ → Bool
four n = ltb n (2 ^ 32)

abbrev pub eight : ℕ → Bool
eight n = ltb n (2 ^ 64)

abbrev pub held_last : Option ℕ → Bool
held_last None = true
held_last (Some x) = two x

abbrev pub held_place : Option ℕ → Bool
held_place None = true
held_place (Some q) = eight q
