use Rattle.lists.proofs.Loops.{map_start, map_turn, map_end}
use Rattle.packets.proofs.fill.put.Goals as goal

pub loop-i-init : goal.loop-i-init
loop-i-init g c m h = map_start m c.args.src.now _ c.requires.long

pub loop-i-preserved : goal.loop-i-preserved
loop-i-preserved g c m h = map_turn m c.args.src.now _ _ _ _ (c.loop-i.invariant m h) c.loop-i-test.true (h _ _ c.f.ensures)

pub returns : goal.returns
returns g c m h = map_end m c.args.src.now _ _ _ (c.loop-i.invariant m h) c.loop-i-test.false
