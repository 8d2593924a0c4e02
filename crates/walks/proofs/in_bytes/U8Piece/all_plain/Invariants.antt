-- Plain words lent as bytes: the bits gathered so far pass where each word does. Assumes nothing.
use Rattle.octets.specs.Bytes.{words_of}
use Rattle.machine.proofs.PlainLaws.{Gathered}
use Rattle.walks.proofs.in_bytes.U8Piece.all_plain.Given as goal

abbrev pub invariant-loop-i : goal.invariant-loop-i
invariant-loop-i l = Gathered l.low (words_of l.pieces) l.bits l.i
