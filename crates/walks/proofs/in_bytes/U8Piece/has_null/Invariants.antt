-- 100h among words lent as bytes. Assumes nothing.
use Rattle.std.proofs.Common.{◌≡◌, ◌≤◌, ◌||◌, length, drop}
use Rattle.octets.specs.Bytes.{words_of}
use Rattle.machine.specs.Places.{has_null}
use Rattle.walks.proofs.in_bytes.U8Piece.has_null.Given as goal

abbrev pub invariant-loop-i : goal.invariant-loop-i
invariant-loop-i l = (l.i ≤ length (words_of l.pieces)) × ((l.found || has_null (drop l.i (words_of l.pieces))) ≡ has_null (words_of l.pieces))
