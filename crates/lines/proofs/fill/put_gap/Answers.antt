use mathlib.Core.Path.{sym, ◌∙◌}
use lib.ListN.{length}
use Rattle.line.proofs.GapLaws.{gap_length_lem, gap_at_lem}
use Rattle.lists.proofs.Loops.{fill_start, fill_turn}
use Rattle.lines.proofs.GapFiller.{gap_odd}
use Rattle.lines.proofs.fill.put_gap.Goals as goal

pub loop-i-init : goal.loop-i-init
loop-i-init c = fill_start _ _ (sym (gap_length_lem c.args.index (length c.args.out.now)))

pub loop-i-preserved : goal.loop-i-preserved
loop-i-preserved c =
    let n = length c.args.out.now in
    let index = c.args.index in
    let i = c.loop-i.i in
    fill_turn _ _ _ _ _ c.loop-i.invariant (rw (gap_length_lem index n) (search (c.loop-i-test.true))) (c.gap_word.ensures ∙ gap_odd index i ∙ sym (gap_at_lem index n i (search (c.loop-i-test.true))))
