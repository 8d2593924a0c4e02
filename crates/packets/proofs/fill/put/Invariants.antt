-- `packets::fill::put` meets its contract. Assumes nothing.
use mathlib.Core.Path.{◌≡◌}
use mathlib.Core.List.{map}
use Prim.Native.Nat.{ℕ}
use Rattle.lists.proofs.Loops.{Filling}
use Rattle.packets.proofs.fill.put.Given as goal

abbrev pub invariant-loop-i : goal.invariant-loop-i
invariant-loop-i g l = (m : ℕ → ℕ) → ((w v : ℕ) → goal.F-post g l.f w v → v ≡ m w) → Filling (map m l.src) l.initial.out l.out l.i
