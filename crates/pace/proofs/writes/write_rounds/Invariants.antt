-- `pace::writes::write_rounds` meets its contract. Assumes nothing.
use mathlib.Core.Path.{◌≡◌}
use Prim.Native.Nat.{◌≤◌, ◌-◌}
use lib.ListN.{length}
use Rattle.pace.proofs.writes.write_rounds.Given as goal

abbrev pub invariant-loop-i : goal.invariant-loop-i
invariant-loop-i l = (l.i ≤ l.rounds) × (length l.batch ≡ length l.initial.batch)

abbrev pub decreases-loop-i : goal.decreases-loop-i
decreases-loop-i l = l.rounds - l.i
