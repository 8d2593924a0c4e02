-- `bytereader::goes::ask` meets its contract. Assumes nothing.
use mathlib.Core.Path.{sym, ◌∙◌}
use Rattle.lists.proofs.Tests.{pick_true, pick_false}
use Rattle.bytereader.proofs.goes.ask.Goals as goal

pub returns-then-line-room : goal.returns-then-line-room
returns-then-line-room c = c.ask.ensures ∙ sym (pick_true _ _ c.if-line-room.true)

pub returns : goal.returns
returns c = sym (pick_false _ _ c.if-line-room.false)
