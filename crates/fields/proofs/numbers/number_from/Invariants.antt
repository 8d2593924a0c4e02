-- `fields::numbers::number_from` meets its contract: x is spelled by the bytes that were seen, the last ones. Assumes nothing.
use Rattle.std.proofs.Common.{length}
use Rattle.fields.proofs.NumberLaws.{Spelling}
use Rattle.fields.proofs.numbers.number_from.Given as goal

abbrev pub invariant-loop-v : goal.invariant-loop-v
invariant-loop-v l =
    (goal.iterator-loop-v).can_next l.v-iterator × (goal.iterator-loop-v).is_finite l.v-iterator × Spelling l.b l.x (length l.yielded)
