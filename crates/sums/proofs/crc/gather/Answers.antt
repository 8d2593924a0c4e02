use Rattle.sums.proofs.Gather.{gather_start, gather_turn}
use borrow.Author.Rules.{rules}
use Rattle.sums.proofs.crc.gather.Goals as goal

pub loop-i-init : goal.loop-i-init
loop-i-init c = gather_start c.requires.0 _ _

pub loop-i-preserved : goal.loop-i-preserved
loop-i-preserved c =
    let l = c.loop-i in
    let p = c.requires in
    gather_turn p.0 _ _ l.f l.i l.invariant (search rules) p.1
