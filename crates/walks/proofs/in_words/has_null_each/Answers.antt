use Rattle.std.proofs.Common.{◌+◌, Bool, ◌||◌, drop, ap, ◌∙◌, arith}
use Rattle.machine.specs.Places.{has_null}
use Rattle.machine.proofs.PlaceLaws.{null_next, null_out}
use Rattle.walks.proofs.in_words.has_null_each.Goals as goal

pub loop-w-preserved : goal.loop-w-preserved
loop-w-preserved c =
    let l = c.loop-w in
    let ws = c.args.words.now in
    let is = ap (λ (b : Bool). (l.found || b) || has_null (drop (l.w-index + 1) ws)) c.is_null-found.ensures in
    (omega (arith, c.loop-w-test.true), is ∙ null_next l.found ws l.w-index c.loop-w-test.true ∙ l.invariant.1)

pub returns : goal.returns
returns c = let l = c.loop-w in null_out l.found _ l.w-index c.loop-w-test.false ∙ l.invariant.1
