-- The jumps of 01 at work, in one checked list with one claim.
-- Assumes nothing.
use Rattle.std.specs.Prelude.{Option, Some, None, ℤ}
use mathlib.Core.List.{List, [], ◌∷◌}
use Prim.Native.Nat.{ℕ, suc}
use lib.Dec.{T}
use lib.IntN.{pos, negsuc}
use Rattle.lists.specs.Tests.{pick}
use Rattle.lists.proofs.Samples.{Case, case, hold}
use Rattle.course.specs.Course.{next_number}
use Rattle.reader.specs.Jump.{folded, jump_from}

-- a jump: 0 and how far ahead, 1 and how far behind, nothing where it is unknown
jumped : Option ℤ → List ℕ
jumped None = []
jumped (Some (pos n)) = 0 ∷ n ∷ []
jumped (Some (negsuc n)) = 1 ∷ suc n ∷ []

-- the number after N is 1; half a frame is the most either way
pub jumps : List Case
jumps =
    case (jumped (jump_from 525 (Some 525) 1)) (0 ∷ 0 ∷ [])
    ∷ case (jumped (jump_from 525 (Some 525) 525)) (1 ∷ 1 ∷ [])
    ∷ case (jumped (jump_from 525 (Some 20) 21)) (0 ∷ 0 ∷ [])
    ∷ case (jumped (jump_from 525 (Some 525) 263)) (0 ∷ 262 ∷ [])
    ∷ case (jumped (jump_from 525 (Some 525) 264)) (1 ∷ 262 ∷ [])
    ∷ case (jumped (jump_from 625 (Some 625) 313)) (0 ∷ 312 ∷ [])
    ∷ case (jumped (jump_from 625 (Some 625) 314)) (1 ∷ 312 ∷ [])
    ∷ case (jumped (jump_from 525 None 1)) []
    -- outside 1..N: 600 after 1, and 527, which is a frame ahead of the next one
    ∷ case (jumped (jump_from 525 (Some 1) 600)) (0 ∷ 598 ∷ [])
    ∷ case (jumped (jump_from 525 (Some 1) 527)) (0 ∷ 525 ∷ [])
    ∷ case (jumped (jump_from 525 (Some 524) 0)) (1 ∷ 525 ∷ [])
    ∷ case (jumped (jump_from 525 (Some 600) 1)) (0 ∷ 0 ∷ [])
    ∷ []

pub they_hold : T (hold jumps)
unfolding hold jumps jumped next_number folded pick
they_hold = tt
