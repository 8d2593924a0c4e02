-- `sums::crc::mix` meets its contract. Assumes nothing.
use Rattle.sums.proofs.Gather.{Mixing}
use Rattle.sums.proofs.crc.mix.Given as goal

abbrev pub invariant-loop-i : goal.invariant-loop-i
invariant-loop-i l = Mixing l.a l.b l.s l.f l.y l.i
