use mathlib.Core.Path.{sym, ap, ◌∙◌}
use mathlib.Core.Bool.{true}
use native.Mathlib.Omega.{arith}
use Rattle.lists.specs.Lists.{each}
use Rattle.lists.proofs.Loops.{test_start, test_chunk}
use Rattle.line.specs.Check.{legal}
use Rattle.line.proofs.AreaLaws.{all_formed}
use Rattle.linecheck.proofs.area.behind_formed.Goals as goal

pub loop-chunk-preserved : goal.loop-chunk-preserved
loop-chunk-preserved c v =
    let f = legal c.args.mode v in
    let left = c.loop-chunk.left.now in
    let cut = c.in-Some.ensures.cases in
    let formed = all_formed c.args.mode c.in-Some.chunk.now (sym c.all_formed.ensures ∙ c.if-not-all_formed.false) v ∙ ap (each f) cut.0 in
    ap (each f) cut.1
    ∙ (test_chunk f left true true 0 128 (test_start f left) (omega (arith, cut.2)) formed).is
    ∙ c.loop-chunk.invariant v
