use Rattle.sums.proofs.Gather.{mix_start, mix_turn, mix_end}
use borrow.Author.Rules.{rules}
use Rattle.sums.proofs.crc.mix.Goals as goal

pub loop-i-init : goal.loop-i-init
loop-i-init c = mix_start _ _ _ _ _ c.requires.0

pub loop-i-preserved : goal.loop-i-preserved
loop-i-preserved c =
    let l = c.loop-i in
    let p = c.requires in
    mix_turn _ _ _ _ l.y l.i l.invariant (search rules) p.1.0 p.1.1

pub returns : goal.returns
returns c =
    let l = c.loop-i in
    mix_end _ _ _ _ l.y l.i l.invariant (search rules) (search rules)
