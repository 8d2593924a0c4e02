-- `sums::crc::crc_word` meets its contract. Assumes nothing.
use Rattle.words.proofs.Shifts.{word_by_shifts}
use borrow.Author.Rules.{rules}
use Rattle.sums.proofs.crc.crc_word.Goals as goal

pub overflow_mul-result : goal.overflow_mul-result
overflow_mul-result c = search rules

pub overflow_mul-result-2 : goal.overflow_mul-result-2
overflow_mul-result-2 c = search rules

pub overflow_mul-result-3 : goal.overflow_mul-result-3
overflow_mul-result-3 c = search rules

pub returns : goal.returns
returns c = word_by_shifts c.args.c c.args.w c.requires
