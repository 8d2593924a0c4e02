-- `sums::crc::filler_far` meets its contract. Assumes nothing.
use mathlib.Core.Path.{◌≡◌}
use Prim.Native.Nat.{◌-◌, ◌*◌, ◌^◌, ◌<◌}
use lib.ListN.{replicate}
use Rattle.words.specs.Crc.{crc_of}
use Rattle.sums.proofs.crc.filler_far.Given as goal

abbrev pub invariant-loop : goal.invariant-loop
invariant-loop l = (l.x < 2 ^ 18) × (crc_of l.x (replicate ((l.n - l.counter) * 156) 0x200) ≡ crc_of l.c (replicate (l.n * 156) 0x200))
