-- `blocks::values::all_below` meets its contract. Assumes nothing.
use lib.Dec.{ltb}
use Rattle.lists.proofs.Loops.{Testing}
use Rattle.blocks.proofs.values.all_below.Given as goal

abbrev pub invariant-loop-v : goal.invariant-loop-v
invariant-loop-v l = Testing (λ v. ltb v l.limit) l.s l.ok l.v-index
