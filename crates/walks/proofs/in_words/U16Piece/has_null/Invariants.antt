-- 100h among words lent as they are: four words at a time, then those that are left. Assumes nothing.
use Rattle.std.proofs.Common.{◌≡◌, ◌-◌, ◌≤◌, length, drop}
use Rattle.machine.specs.Places.{has_null}
use Rattle.walks.proofs.in_words.U16Piece.has_null.Given as goal

abbrev pub invariant-loop-i : goal.invariant-loop-i
invariant-loop-i l = (l.i ≤ length l.pieces) × (has_null (drop l.i l.pieces) ≡ has_null l.pieces)

abbrev pub decreases-loop-i : goal.decreases-loop-i
decreases-loop-i l = length l.pieces - l.i
