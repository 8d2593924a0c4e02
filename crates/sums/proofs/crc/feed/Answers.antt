-- `sums::crc::feed` meets its contract. Assumes nothing.
use Rattle.words.specs.Shifts.{fed}
use borrow.Author.Rules.{rules}
use Rattle.sums.proofs.crc.feed.Goals as goal

pub overflow_shl-result : goal.overflow_shl-result
overflow_shl-result c = search rules

pub overflow_shl-result-2 : goal.overflow_shl-result-2
overflow_shl-result-2 c = search rules

pub overflow_shl-result-3 : goal.overflow_shl-result-3
overflow_shl-result-3 c = search rules

pub returns : goal.returns
unfolding fed
returns c = search rules
