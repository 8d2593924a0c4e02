-- `blocks::values::bits_of` meets its contract. Assumes nothing.
use lib.ListN.{drop}
use Rattle.blocks.proofs.ValueLaws.{Together}
use Rattle.blocks.proofs.values.bits_of.Given as goal

abbrev pub invariant-loop-v : goal.invariant-loop-v
invariant-loop-v l = Together l.s l.bits (drop l.v-index l.s)
