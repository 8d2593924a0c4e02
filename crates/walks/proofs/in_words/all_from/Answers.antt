use Rattle.std.proofs.Common.{◌<◌, refl, rules}
use Rattle.machine.proofs.PlainLaws.{gather_turn}
use Rattle.walks.proofs.in_words.all_from.Goals as goal

pub loop-w-preserved : goal.loop-w-preserved
loop-w-preserved c =
    let l = c.loop-w in
    let d = c.wrapping_sub_u16-bits.result in
    let small : d < 65536 = search rules in
    gather_turn c.args.low _ l.bits _ d l.w-index c.requires l.invariant c.loop-w-test.true refl c.wrapping_sub_u16-bits.ensures.value small
