-- A part of the words is one of twice as many bytes. Assumes nothing.
use Rattle.std.proofs.Common.{◌*◌, ◌≤◌, length, arith, rules}
use Rattle.octets.proofs.BytesLaws.{length_words, words_part}
use Rattle.walks.proofs.in_bytes.U8Piece.part.Goals as goal
use Rattle.walks.proofs.in_bytes.U8Piece.part.Goals.{Start}

inside : (s : Start) → 2 * s.args.e ≤ length s.args.pieces.now
inside s = omega (arith, s.requires.1, length_words s.args.pieces.now)

pub overflow_mul-result : goal.overflow_mul-result
overflow_mul-result c = let h = inside (goal.at.overflow_mul-result c).Start in search rules

pub overflow_mul-result-2 : goal.overflow_mul-result-2
overflow_mul-result-2 c = let h = inside (goal.at.overflow_mul-result-2 c).Start in search rules

pub slice_bounds-result-end : goal.slice_bounds-result-end
slice_bounds-result-end c = let h = inside (goal.at.slice_bounds-result-end c).Start in search rules

pub returns : goal.returns
returns c = let a = c.args in words_part a.a a.e a.pieces.now
