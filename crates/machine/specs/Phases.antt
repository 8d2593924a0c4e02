-- The phase of the reader, and what 01 says of each.
-- Assumes nothing.
use Rattle.std.specs.Prelude.{ℕ, Bool, true, false, ◌&&◌, ◌||◌, not, List, [], ◌∷◌, eqb, ltb}
use Rattle.machine.specs.declared.phase.Mark.TheVariants.{Typed, Nulled}
use Rattle.machine.specs.declared.phase.Phase.{Phase}
use Rattle.machine.specs.declared.phase.Phase.TheVariants.{Idle, Kind, First, Second, Third, Fourth, Data}
use Rattle.machine.specs.declared.step.Met.{Met}
use Rattle.machine.specs.declared.step.Met.TheVariants.{Nothing, Whole, Lost}

-- idle, 0; type awaited, 1; count awaited with type and bytes so far, 2; data with type, count announced and number collected, 3; the
-- same two of a null, which has no type, 4 and 5
abbrev pub phase_numbers : Phase → List ℕ
phase_numbers Idle = 0 ∷ []
phase_numbers Kind = 1 ∷ []
phase_numbers (First (Typed k)) = 2 ∷ k ∷ []
phase_numbers (Second (Typed k) a) = 2 ∷ k ∷ a ∷ []
phase_numbers (Third (Typed k) a b) = 2 ∷ k ∷ a ∷ b ∷ []
phase_numbers (Fourth (Typed k) a b c) = 2 ∷ k ∷ a ∷ b ∷ c ∷ []
phase_numbers (Data (Typed k) n m) = 3 ∷ k ∷ n ∷ m ∷ []
phase_numbers (First Nulled) = 4 ∷ []
phase_numbers (Second Nulled a) = 4 ∷ a ∷ []
phase_numbers (Third Nulled a b) = 4 ∷ a ∷ b ∷ []
phase_numbers (Fourth Nulled a b c) = 4 ∷ a ∷ b ∷ c ∷ []
phase_numbers (Data Nulled n m) = 5 ∷ n ∷ m ∷ []

-- an open phase: every phase but idle
abbrev pub is_busy : Phase → Bool
is_busy Idle = false
is_busy Kind = true
is_busy (First k) = true
is_busy (Second k a) = true
is_busy (Third k a b) = true
is_busy (Fourth k a b c) = true
is_busy (Data k n m) = true

-- impossible: announced or collected above the room's length; collected above a nonzero count
abbrev pub misphased : ℕ → Phase → Bool
misphased room Idle = false
misphased room Kind = false
misphased room (First k) = false
misphased room (Second k a) = false
misphased room (Third k a b) = false
misphased room (Fourth k a b c) = false
misphased room (Data k n m) = ltb room n || (ltb room m || (not (eqb n 0) && ltb n m))

-- what a walk met: nothing, 0; a block with type and length, 2; a drop with its number, 3
abbrev pub met_numbers : Met → List ℕ
met_numbers Nothing = 0 ∷ []
met_numbers (Whole k n) = 2 ∷ k ∷ n ∷ []
met_numbers (Lost n) = 3 ∷ n ∷ []
