-- `sums::crc::crc_rest` meets its contract. Assumes nothing.
use Rattle.sums.proofs.crc.crc_rest.Goals as goal

pub crc_few-requires : goal.crc_few-requires
crc_few-requires c = let p = c.requires in (p.0, (c.if-s-lt2.false, p.1))

pub returns-then-s-lt2 : goal.returns-then-s-lt2
returns-then-s-lt2 c = c.crc_each.ensures

pub returns-else-s-lt2 : goal.returns-else-s-lt2
returns-else-s-lt2 c = c.crc_few.ensures
