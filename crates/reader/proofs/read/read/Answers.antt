-- `reader::read::read` meets its contract. Assumes nothing.
use Rattle.reader.proofs.NumberLaws.{reads_numbered}
use Rattle.reader.proofs.read.read.Goals as goal

pub returns : goal.returns
returns c = reads_numbered _ _ _ _ c.read_in.ensures
