-- `sums::crc::crc_each` meets its contract. Assumes nothing.
use mathlib.Core.Path.{◌≡◌}
use Prim.Native.Nat.{◌^◌, ◌<◌}
use lib.ListN.{drop}
use Rattle.words.specs.Crc.{crc_of}
use Rattle.sums.proofs.crc.crc_each.Given as goal

abbrev pub invariant-loop-w : goal.invariant-loop-w
invariant-loop-w l = (l.x < 2 ^ 18) × (crc_of l.x (drop l.w-index l.s) ≡ crc_of l.c l.s)
