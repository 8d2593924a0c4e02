-- `linecheck::area::every` meets its contract. Assumes nothing.
use mathlib.Core.Path.{◌≡◌}
use mathlib.Core.Bool.{Bool}
use Prim.Native.Nat.{ℕ}
use Rattle.lists.proofs.Loops.{Testing}
use Rattle.linecheck.proofs.area.every.Given as goal

abbrev pub invariant-loop-w : goal.invariant-loop-w
invariant-loop-w g l = (p : ℕ → Bool) → ((w : ℕ) (b : Bool) → goal.F-post g l.test w b → b ≡ p w) → Testing p l.s l.ok l.w-index
