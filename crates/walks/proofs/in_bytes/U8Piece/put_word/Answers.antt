-- The two bytes of a place are those of the word. Assumes nothing.
use Rattle.std.proofs.Common.{◌≡◌, ◌+◌, ◌*◌, ◌/◌, ◌%◌, ◌<◌, length, set, ap, ◌∙◌, arith, length-set, rules}
use Rattle.octets.specs.Bytes.{words_of}
use Rattle.octets.proofs.BytesLaws.{length_words, words_set}
use Rattle.walks.proofs.in_bytes.U8Piece.put_word.Goals as goal
use Rattle.walks.proofs.in_bytes.U8Piece.put_word.Goals.{Start}

inside : (s : Start) → 2 * s.args.i + 1 < length s.args.pieces.now
inside s = omega (arith, s.requires, length_words s.args.pieces.now)

pub overflow_mul-pieces : goal.overflow_mul-pieces
overflow_mul-pieces c = let h = inside (goal.at.overflow_mul-pieces c).Start in search rules

pub bounds-pieces-i : goal.bounds-pieces-i
bounds-pieces-i c = let h = inside (goal.at.bounds-pieces-i c).Start in search rules

pub overflow_mul-pieces-2 : goal.overflow_mul-pieces-2
overflow_mul-pieces-2 c = let h = inside (goal.at.overflow_mul-pieces-2 c).Start in search rules

pub overflow_add-pieces : goal.overflow_add-pieces
overflow_add-pieces c = let h = inside (goal.at.overflow_add-pieces c).Start in search rules

pub bounds-pieces-i-2 : goal.bounds-pieces-i-2
bounds-pieces-i-2 c = let h = inside (goal.at.bounds-pieces-i-2 c).Start in simp length-set (omega arith)

pub returns : goal.returns
returns c =
    let a = c.args in
    let whole : a.w % 256 + a.w / 256 * 256 ≡ a.w = omega arith in
    words_set a.pieces.now a.i (a.w % 256) (a.w / 256) c.requires ∙ ap (set (words_of a.pieces.now) a.i) whole
