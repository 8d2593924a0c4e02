-- `hostreads::reading::go_on` meets its contract. Assumes nothing.
use Rattle.calls.proofs.CallLaws.{filled}
use Rattle.hostreads.proofs.reading.go_on.Goals as goal

pub returns : goal.returns
returns c = (
  c.report_answer.ensures,
  filled 80 c.args.state.now _ _ c.requires.0 c.put_moved.ensures,
  filled 32 c.args.event.now _ _ c.requires.1 c.put_event.ensures,
)
