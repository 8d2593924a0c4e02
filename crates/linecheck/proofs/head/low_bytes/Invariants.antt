-- `linecheck::head::low_bytes` meets its contract. Assumes nothing.
use mathlib.Core.List.{map}
use Rattle.line.specs.Check.{low}
use Rattle.lists.proofs.Loops.{Filling}
use Rattle.linecheck.proofs.head.low_bytes.Given as goal

abbrev pub invariant-loop-i : goal.invariant-loop-i
invariant-loop-i g l = Filling (map low l.src) l.initial.out l.out l.i
