-- How much a call laid, by its answer. Only the promises of functions that the crate keeps to itself cite this.
-- Assumes nothing.
use Rattle.std.specs.Prelude.{ℕ}
use Rattle.writer.specs.declared.state.Answer.{Answer}
use Rattle.writer.specs.declared.state.Answer.TheVariants.{Refused, Done}

-- n where the call was done, and 0 where it was refused
abbrev pub done_in : Answer → ℕ → ℕ
done_in (Refused k) n = 0
done_in Done n = n
