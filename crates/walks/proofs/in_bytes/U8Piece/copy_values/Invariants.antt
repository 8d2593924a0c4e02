-- The values of words lent as bytes. Assumes nothing.
use Rattle.std.proofs.Common.{◌≡◌, ◌≤◌, map, length}
use lib.Seq.{paste}
use Rattle.words.specs.Modes.{value_of}
use Rattle.octets.specs.Bytes.{words_of}
use Rattle.walks.proofs.in_bytes.U8Piece.copy_values.Given as goal

abbrev pub invariant-loop-i : goal.invariant-loop-i
invariant-loop-i l = (l.i ≤ length (words_of l.pieces))
    × (length l.room ≡ length l.initial.room)
    × (words_of l.room ≡ paste (words_of l.initial.room) l.m (map (value_of l.mode) (words_of l.pieces)) l.i)
