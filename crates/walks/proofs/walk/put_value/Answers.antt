-- `walks::walk::put_value` meets its contract. Assumes nothing.
use Rattle.std.proofs.Common.{sym, ◌∙◌}
use Rattle.lists.proofs.Tests.{pick_true, pick_false}
use Rattle.machine.specs.Walk.{stored}
use Rattle.walks.proofs.walk.put_value.Goals as goal

pub returns-then-keeps : goal.returns-then-keeps
unfolding stored
returns-then-keeps g c = c.put_word.ensures ∙ sym (pick_true _ _ c.if-keeps.true)

pub returns-else-keeps : goal.returns-else-keeps
unfolding stored
returns-else-keeps g c = sym (pick_false _ _ c.if-keeps.false)
