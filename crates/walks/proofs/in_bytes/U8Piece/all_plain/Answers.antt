use Rattle.std.proofs.Common.{ℕ, ◌<◌, ◌≤◌, length, ap, ◌∙◌, arith, rules}
use Rattle.lists.specs.Lists.{each}
use Rattle.lists.proofs.Loops.{test_end}
use Rattle.octets.specs.Bytes.{words_of}
use Rattle.octets.proofs.BytesLaws.{length_words}
use Rattle.machine.specs.Runs.{is_from}
use Rattle.machine.proofs.PlainLaws.{gather_turn, plain_eight, plain_nine}
use Rattle.walks.proofs.in_bytes.U8Piece.all_plain.Goals as goal
use Rattle.walks.proofs.in_bytes.U8Piece.all_plain.Goals.{then-mode-eq8, else-mode-eq8}

pub loop-i-preserved : goal.loop-i-preserved
loop-i-preserved c =
    let l = c.loop-i in
    let ws = words_of c.args.pieces.now in
    let d = c.wrapping_sub_u16-bits.result in
    let small : d < 65536 = search rules in
    let low : c.if-mode-eq8.low ≤ 257 = elim c.if-mode-eq8.branch [ then-mode-eq8 w ↦ omega (arith, w.low-is) | else-mode-eq8 w ↦ omega (arith, w.low-is) ] in
    let inside : l.i < length ws = omega (arith, c.loop-i-test.true, length_words c.args.pieces.now) in
    gather_turn c.if-mode-eq8.low ws l.bits c.word_at.result d l.i low l.invariant inside c.word_at.ensures c.wrapping_sub_u16-bits.ensures.value small

pub returns : goal.returns
returns c =
    let a = c.args in
    let ws = words_of a.pieces.now in
    test_end (is_from c.if-mode-eq8.low) ws _ _ c.loop-i.invariant (omega (arith, c.loop-i-test.false, length_words a.pieces.now))
    ∙ elim c.if-mode-eq8.branch [
      | then-mode-eq8 w ↦ ap (λ (n : ℕ). each (is_from n) ws) w.low-is ∙ plain_eight a.mode ws w.if-mode-eq8.true
      | else-mode-eq8 w ↦ ap (λ (n : ℕ). each (is_from n) ws) w.low-is ∙ plain_nine a.mode ws w.if-mode-eq8.false
    ]
