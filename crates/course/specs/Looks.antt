-- Where a place is off, by what was found of the settings. Only the promises of functions that the crate keeps to itself cite this; no
-- public function's does.
-- Assumes nothing.
use Rattle.std.specs.Prelude.{ℕ, ◌%◌, Bool, false, ◌&&◌, ◌||◌, not, eqb, ltb, Option, Some, None}

-- by the size of a block
abbrev pub off_by : ℕ → ℕ → Bool
off_by size q = eqb size 0 || not (eqb (q % size) 0)

-- by where blocks end and the size of one
abbrev pub misplaced_by : Bool → ℕ → ℕ → Option ℕ → Bool
misplaced_by v end size None = false
misplaced_by v end size (Some q) = ltb end q || (not v && off_by size q)
