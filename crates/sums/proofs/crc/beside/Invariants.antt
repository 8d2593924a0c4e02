-- `sums::crc::beside` meets its contract: from the last word to the first. Assumes nothing.
use mathlib.Core.Path.{◌≡◌}
use lib.ListN.{drop}
use Rattle.words.specs.Shifts.{packed}
use Rattle.sums.proofs.crc.beside.Given as goal

abbrev pub invariant-loop-i : goal.invariant-loop-i
invariant-loop-i l = l.z ≡ packed (drop l.i l.s)
