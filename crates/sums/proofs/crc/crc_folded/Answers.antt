use Rattle.words.proofs.CrcLaws.{crc_front}
use Rattle.sums.proofs.crc.crc_folded.Goals as goal

pub loop-front-preserved : goal.loop-front-preserved
loop-front-preserved c =
    let parts = c.in-Some.ensures.cases in
    crc_front _ _ _ 18 _ _ _ parts.0 parts.1 c.crc_eighteen-x.ensures c.loop-front.invariant.1
