-- `sums::checksum::checksum_of` meets its contract. Assumes nothing.
use mathlib.Core.Path.{◌≡◌}
use Prim.Native.Nat.{◌+◌, ◌%◌, ◌<◌}
use lib.ListN.{drop}
use Rattle.words.specs.Checksum.{sum_of}
use Rattle.sums.proofs.checksum.checksum_of.Given as goal

abbrev pub invariant-loop-w : goal.invariant-loop-w
invariant-loop-w l = (l.sum < 512) × ((l.sum + sum_of (drop l.w-index l.s)) % 512 ≡ sum_of l.s % 512)
