-- The values of words lent as they are. Assumes nothing.
use Rattle.std.proofs.Common.{map}
use Rattle.lists.proofs.Loops.{Filling}
use Rattle.words.specs.Modes.{value_of}
use Rattle.walks.proofs.in_words.U16Piece.copy_values.Given as goal

abbrev pub invariant-loop-i : goal.invariant-loop-i
invariant-loop-i l = Filling (map (value_of l.mode) l.pieces) l.initial.out l.out l.i
