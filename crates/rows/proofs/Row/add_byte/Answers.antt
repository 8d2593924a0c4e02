-- `rows::Row::add_byte` meets its contract. Assumes nothing.
use mathlib.Core.Path.{sym}
use borrow.Author.Tests.{lt-ltb, le-ltb}
use Rattle.lists.proofs.Tests.{pick_true, pick_false}
use Rattle.rows.specs.Cuts.{put}
use Rattle.rows.proofs.Row.add_byte.Goals as goal

pub returns-then-self-lt48 : goal.returns-then-self-lt48
unfolding put
returns-then-self-lt48 c = sym (pick_true _ _ (lt-ltb _ 48 c.if-self-lt48.true))

pub returns-else-self-lt48 : goal.returns-else-self-lt48
unfolding put
returns-else-self-lt48 c = sym (pick_false _ _ (le-ltb _ 48 c.if-self-lt48.false))
