use Rattle.blocks.proofs.ValueLaws.{bits_turn}
use Rattle.blocks.proofs.values.bits_of.Goals as goal

pub loop-v-preserved : goal.loop-v-preserved
loop-v-preserved c = bits_turn _ _ _ c.loop-v.invariant c.loop-v-test.true
