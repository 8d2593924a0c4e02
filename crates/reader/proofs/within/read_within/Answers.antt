-- `reader::within::read_within` meets its contract. Assumes nothing.
use Rattle.reader.proofs.WithinLaws.{within_numbered}
use Rattle.reader.proofs.within.read_within.Goals as goal

pub returns : goal.returns
returns c = within_numbered _ _ _ _ _ c.read_within_in.ensures
