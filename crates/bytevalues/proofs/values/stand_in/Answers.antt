-- `bytevalues::values::stand_in` meets its contract. Assumes nothing.
use mathlib.Core.Path.{sym, ◌∙◌}
use Rattle.lists.proofs.Tests.{pick_true, pick_false}
use Rattle.bytevalues.proofs.values.stand_in.Goals as goal

pub returns-then-all_below : goal.returns-then-all_below
returns-then-all_below c = sym (pick_true 0 65535 (sym c.all_below.ensures ∙ c.if-all_below.true))

pub returns-else-all_below : goal.returns-else-all_below
returns-else-all_below c = sym (pick_false 0 65535 (sym c.all_below.ensures ∙ c.if-all_below.false))
