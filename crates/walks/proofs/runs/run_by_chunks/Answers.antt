use Rattle.std.proofs.Common.{◌+◌, ◌≤◌, length, sym, ap, ◌∙◌, arith}
use Rattle.lists.specs.Lists.{each}
use Rattle.machine.specs.Runs.{plain_by}
use Rattle.machine.proofs.PlainLaws.{plain_chunk}
use Rattle.walks.proofs.runs.run_by_chunks.Goals as goal

pub loop-i-preserved : goal.loop-i-preserved
loop-i-preserved g c =
    let a = c.args in
    let l = c.loop-i in
    let ws = g.P.Piece.words a.words.now in
    let h : l.i + a.n ≤ length ws = omega (arith, c.loop-i-test.true, l.invariant.0, c.count-long.ensures) in
    let all = ap (each (plain_by a.mode)) (sym c.part.ensures) ∙ sym c.all_plain.ensures ∙ c.if-not-all_plain.false in
    (h, plain_chunk a.mode ws l.i a.n h all ∙ l.invariant.1)
