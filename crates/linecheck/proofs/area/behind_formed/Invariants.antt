-- `linecheck::area::behind_formed` meets its contract: what it passed over may stand in the area. Assumes nothing.
use mathlib.Core.Path.{◌≡◌}
use mathlib.Core.Bool.{Bool}
use lib.ListN.{length}
use Rattle.lists.specs.Lists.{each}
use Rattle.line.specs.Check.{legal}
use Rattle.linecheck.proofs.area.behind_formed.Given as goal

abbrev pub invariant-loop-chunk : goal.invariant-loop-chunk
invariant-loop-chunk l = (v : Bool) → each (legal l.mode v) l.left ≡ each (legal l.mode v) l.s

abbrev pub decreases-loop-chunk : goal.decreases-loop-chunk
decreases-loop-chunk l = length l.left
