use Rattle.sums.proofs.Moving.{onto_start, onto_turn}
use borrow.Author.Rules.{rules}
use Rattle.sums.proofs.crc.onto.Goals as goal

pub loop-i-init : goal.loop-i-init
loop-i-init c = onto_start _ _

pub loop-i-preserved : goal.loop-i-preserved
loop-i-preserved c =
    let l = c.loop-i in
    let p = c.requires in
    onto_turn _ _ _ l.f l.i l.invariant (search rules) p.0 p.1
