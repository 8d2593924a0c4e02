use Rattle.words.proofs.CrcLaws.{crc_front}
use Rattle.sums.proofs.crc.crc_short.Goals as goal

pub loop-front-preserved : goal.loop-front-preserved
loop-front-preserved c =
    let parts = c.in-Some.ensures.cases in
    crc_front _ _ _ 6 _ _ _ parts.0 parts.1 c.crc_six-x.ensures c.loop-front.invariant.1
