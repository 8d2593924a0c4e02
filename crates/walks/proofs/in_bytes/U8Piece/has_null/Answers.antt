use Rattle.std.proofs.Common.{ℕ, ◌+◌, ◌<◌, Bool, ◌||◌, length, drop, ap, ◌∙◌, arith}
use Rattle.words.specs.Class.{class_of, is_null}
use Rattle.octets.specs.Bytes.{words_of}
use Rattle.octets.proofs.BytesLaws.{length_words}
use Rattle.machine.specs.Places.{has_null}
use Rattle.machine.proofs.PlaceLaws.{null_next, null_out}
use Rattle.walks.proofs.in_bytes.U8Piece.has_null.Goals as goal

pub loop-i-preserved : goal.loop-i-preserved
loop-i-preserved c =
    let l = c.loop-i in
    let ws = words_of c.args.pieces.now in
    let inside : l.i < length ws = omega (arith, c.loop-i-test.true, length_words c.args.pieces.now) in
    let null = c.is_null-found.ensures ∙ ap (λ (w : ℕ). is_null (class_of w)) c.word_at.ensures in
    (omega (arith, inside), ap (λ (b : Bool). (l.found || b) || has_null (drop (l.i + 1) ws)) null ∙ null_next l.found ws l.i inside ∙ l.invariant.1)

pub returns : goal.returns
returns c =
    let l = c.loop-i in
    null_out l.found _ l.i (omega (arith, c.loop-i-test.false, length_words c.args.pieces.now)) ∙ l.invariant.1
