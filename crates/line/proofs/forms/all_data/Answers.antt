use Rattle.lists.proofs.Loops.{test_turn, test_end}
use Rattle.words.specs.Forms.{is_data}
use Rattle.line.proofs.forms.all_data.Goals as goal

pub loop-w-preserved : goal.loop-w-preserved
loop-w-preserved c = test_turn is_data _ _ _ _ c.loop-w.invariant c.loop-w-test.true c.is_data-ok.ensures

pub returns : goal.returns
returns c = test_end is_data _ _ _ c.loop-w.invariant c.loop-w-test.false
