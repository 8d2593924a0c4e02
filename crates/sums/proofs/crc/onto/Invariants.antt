-- `sums::crc::onto` meets its contract. Assumes nothing.
use Rattle.sums.specs.Folds.{Xored}
use Rattle.sums.proofs.crc.onto.Given as goal

abbrev pub invariant-loop-i : goal.invariant-loop-i
invariant-loop-i l = Xored l.a l.initial.f l.f l.i
