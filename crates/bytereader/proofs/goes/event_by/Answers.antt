-- `bytereader::goes::event_by` meets its contract. Assumes nothing.
use mathlib.Core.Path.{sym, ap}
use Rattle.bytereader.specs.Calls.{event_by}
use Rattle.bytereader.proofs.goes.event_by.Goals as goal

pub returns-in-Whole : goal.returns-in-Whole
returns-in-Whole c =
    sym (ap event_by c.in-Whole.is)

pub returns-in-Lost : goal.returns-in-Lost
returns-in-Lost c =
    sym (ap event_by c.in-Lost.is)
