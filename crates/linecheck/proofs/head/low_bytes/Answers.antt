use mathlib.Core.Path.{refl}
use Rattle.line.specs.Check.{low}
use Rattle.lists.proofs.Loops.{map_turn}
use Rattle.linecheck.proofs.head.low_bytes.Goals as goal

pub loop-i-preserved : goal.loop-i-preserved
loop-i-preserved g c = map_turn low c.args.src.now _ _ _ _ c.loop-i.invariant c.loop-i-test.true refl
