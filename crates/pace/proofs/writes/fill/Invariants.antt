-- `pace::writes::fill` meets its contract. Assumes nothing.
use mathlib.Core.Path.{◌≡◌}
use Prim.Native.Nat.{◌≤◌, ◌-◌}
use lib.ListN.{length}
use Rattle.pace.proofs.writes.fill.Given as goal

abbrev pub invariant-loop-calls : goal.invariant-loop-calls
invariant-loop-calls l = (l.calls ≤ 300) × (length l.line ≡ length l.initial.line)

abbrev pub decreases-loop-calls : goal.decreases-loop-calls
decreases-loop-calls l = 300 - l.calls
