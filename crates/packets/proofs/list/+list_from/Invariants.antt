-- `packets::list::list_from` calls itself for what lies behind a packet, so the gap's length is its measure. Assumes nothing.
use Rattle.std.proofs.Common.{length}
use Rattle.packets.proofs.list.+list_from.Given as goal

abbrev pub decreases-list_from : goal.decreases-list_from
decreases-list_from l = length l.gap.now
