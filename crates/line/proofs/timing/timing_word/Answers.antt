-- `line::timing::timing_word` meets its contract. Assumes nothing.
use Rattle.line.specs.Timing.{timing_word}
use borrow.Author.Rules.{rules}
use Rattle.line.proofs.timing.timing_word.Goals as goal

pub returns : goal.returns
unfolding timing_word mathlib.Core.Bool.xor
returns c = search rules
