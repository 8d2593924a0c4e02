-- `sums::crc::moved` meets its contract. Assumes nothing.
use Rattle.sums.proofs.Moving.{carried}
use Rattle.sums.proofs.crc.moved.Goals as goal

pub returns : goal.returns
returns c =
    let third = c.before.before in
    let second = third.before.before.before.before in
    let first = second.before.before.before.before in
    let start = first.before.before.before in
    let p = start.requires in
    carried p.0 start.args.f.now p.1.0 p.1.1.0 p.1.1.1.0 p.1.1.1.1.0 p.1.1.1.1.1 _ _ _
    first.onto.ensures second.onto-2.ensures third.onto-3.ensures
