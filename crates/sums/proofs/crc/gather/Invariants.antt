-- `sums::crc::gather` meets its contract. Assumes nothing.
use Rattle.sums.specs.Folds.{Gathered}
use Rattle.sums.proofs.crc.gather.Given as goal

abbrev pub invariant-loop-i : goal.invariant-loop-i
invariant-loop-i l = Gathered l.z l.a l.b l.s l.initial.f l.f l.i
