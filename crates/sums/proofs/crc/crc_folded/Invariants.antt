-- `sums::crc::crc_folded` meets its contract. Assumes nothing.
use mathlib.Core.Path.{◌≡◌}
use Prim.Native.Nat.{◌^◌, ◌<◌}
use lib.ListN.{length}
use Rattle.words.specs.Crc.{crc_of}
use Rattle.sums.proofs.crc.crc_folded.Given as goal

abbrev pub invariant-loop-front : goal.invariant-loop-front
invariant-loop-front l = (l.x < 2 ^ 18) × (crc_of l.x l.left ≡ crc_of l.c l.s)

abbrev pub decreases-loop-front : goal.decreases-loop-front
decreases-loop-front l = length l.left
