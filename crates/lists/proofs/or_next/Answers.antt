-- `lists::or_next` meets its contract. Assumes nothing.
use mathlib.Core.Path.{sym}
use Rattle.lists.proofs.Refusals.{found_first}
use Rattle.lists.proofs.or_next.Goals as goal

pub returns-else-first-eq0 : goal.returns-else-first-eq0
returns-else-first-eq0 c = sym (found_first c.args.first c.args.next c.if-first-eq0.false)
