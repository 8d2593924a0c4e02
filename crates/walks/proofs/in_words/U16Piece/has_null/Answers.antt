use Rattle.std.proofs.Common.{◌≡◌, ◌+◌, ◌≤◌, Bool, ◌||◌, length, drop, sym, ap, ◌∙◌}
use Rattle.machine.specs.Places.{has_null}
use Rattle.machine.proofs.PlaceLaws.{null_front, place_fits}
use Rattle.walks.proofs.in_words.U16Piece.has_null.Goals as goal
use Rattle.walks.proofs.in_words.U16Piece.has_null.Goals.{After-has_null_four}

-- four words are there
fits : (f : After-has_null_four) → f.loop-i.i + 4 ≤ length f.args.pieces.now
fits f = place_fits 4 _ _ f.loop-i.invariant.0 f.loop-i-test.true

-- those four, and the words behind them
turned : (f : After-has_null_four) → let ws = f.args.pieces.now in (f.has_null_four.result || has_null (drop (f.loop-i.i + 4) ws)) ≡ has_null ws
turned f =
    let ws = f.args.pieces.now in
    let i = f.loop-i.i in
    ap (λ (b : Bool). b || has_null (drop (i + 4) ws)) f.has_null_four.ensures ∙ sym (null_front ws i (fits f)) ∙ f.loop-i.invariant.1

pub returns-then-has_null_four : goal.returns-then-has_null_four
returns-then-has_null_four c =
    sym (ap (λ (b : Bool). b || has_null (drop (c.loop-i.i + 4) c.args.pieces.now)) c.if-has_null_four.true)
    ∙ turned (goal.at.returns-then-has_null_four c).After-has_null_four

pub loop-i-preserved : goal.loop-i-preserved
loop-i-preserved c =
    let f = (goal.at.loop-i-preserved c).After-has_null_four in
    (fits f, sym (ap (λ (b : Bool). b || has_null (drop (c.loop-i.i + 4) c.args.pieces.now)) c.if-has_null_four.false) ∙ turned f)
