-- The signed jump.
-- Assumes nothing.
use Rattle.std.specs.Prelude.{ℕ, zero, suc, ◌-◌, ◌/◌, Bool, true, false, ◌||◌, List, [], ◌∷◌, leb, ℤ, pos, negsuc, neg_ℤ, Option, Some, None}
use Rattle.std.proofs.Math.IntN.{sub_ℕ}
use Rattle.lists.specs.Tests.{pick}
use Rattle.course.specs.Course.{next_number}

-- a distance that stays as it is: no more than half a frame; or a whole frame or more, which no two numbers 1..N are apart
abbrev pub stays : ℕ → ℕ → Bool
stays lines d = leb d (lines / 2) || leb lines d

-- a difference folded by N: what is more than half a frame ahead is the rest of the frame behind, and the other way round
unfoldable pub folded : ℕ → ℤ → ℤ
folded lines (pos d) = pick (stays lines d) (pos d) (neg_ℤ (pos (lines - d)))
folded lines (negsuc d) = pick (stays lines (suc d)) (negsuc d) (pos (lines - suc d))

-- line number less expected number, folded by N; the number after N is 1; with no last number, "unknown"
abbrev pub jump_from : ℕ → Option ℕ → ℕ → Option ℤ
jump_from lines None n = None
jump_from lines (Some x) n = Some (folded lines (sub_ℕ n (next_number lines x)))

-- the jump is 0
abbrev pub is_zero : Option ℤ → Bool
is_zero None = false
is_zero (Some (pos zero)) = true
is_zero (Some (pos (suc n))) = false
is_zero (Some (negsuc n)) = false

-- unknown: nothing; else the number
abbrev pub jump_numbers : Option ℤ → List ℤ
jump_numbers None = []
jump_numbers (Some z) = z ∷ []
