use Rattle.std.proofs.Common.{◌<◌, length, sym, ap, ◌∙◌, arith}
use Rattle.machine.specs.Runs.{stops_by}
use Rattle.machine.proofs.RunLaws.{run_next, run_found, run_out}
use Rattle.walks.proofs.runs.run_by_words.Goals as goal

pub returns-then-stops : goal.returns-then-stops
returns-then-stops g c =
    let l = c.loop-i in
    let h : l.i < length (g.P.Piece.words c.args.words.now) = omega (arith, c.loop-i-test.true, c.count-long.ensures) in
    run_found _ _ l.i h (ap (stops_by c.args.mode) (sym c.word_at.ensures) ∙ sym c.stops.ensures ∙ c.if-stops.true) ∙ l.invariant.1

pub loop-i-preserved : goal.loop-i-preserved
loop-i-preserved g c =
    let l = c.loop-i in
    let h : l.i < length (g.P.Piece.words c.args.words.now) = omega (arith, c.loop-i-test.true, c.count-long.ensures) in
    (omega (arith, h), run_next _ _ l.i h (ap (stops_by c.args.mode) (sym c.word_at.ensures) ∙ sym c.stops.ensures ∙ c.if-stops.false) ∙ l.invariant.1)

pub returns : goal.returns
returns g c =
    let l = c.loop-i in
    let ws = g.P.Piece.words c.args.words.now in
    omega (arith, run_out c.args.mode ws l.i (omega (arith, c.loop-i-test.false, c.count-long.ensures)), l.invariant.0, l.invariant.1, c.loop-i-test.false, c.count-long.ensures)
