-- `blocks::values::all_valued` meets its contract. Assumes nothing.
use lib.ListN.{length}
use Rattle.blocks.proofs.ValueLaws.{Together}
use Rattle.blocks.proofs.values.all_valued.Given as goal

abbrev pub invariant-loop-front : goal.invariant-loop-front
invariant-loop-front l = Together l.s l.bits l.left

abbrev pub decreases-loop-front : goal.decreases-loop-front
decreases-loop-front l = length l.left
