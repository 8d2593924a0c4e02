-- `bytewriter::closing::behind_area` meets its contract. Assumes nothing.
use mathlib.Core.Path.{sym}
use borrow.Author.Tests.{eq-eqb, ne_eqb}
use Rattle.lists.proofs.Tests.{pick_true, pick_false}
use Rattle.bytewriter.proofs.closing.behind_area.Goals as goal

pub returns-then-flag-eq1 : goal.returns-then-flag-eq1
returns-then-flag-eq1 c = sym (pick_true 2 0 (eq-eqb _ _ c.if-flag-eq1.true))

pub returns-else-flag-eq1 : goal.returns-else-flag-eq1
returns-else-flag-eq1 c = sym (pick_false 2 0 (ne_eqb _ _ c.if-flag-eq1.false))
