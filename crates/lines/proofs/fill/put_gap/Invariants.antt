-- `lines::fill::put_gap` meets its contract. Assumes nothing.
use lib.ListN.{length}
use Rattle.line.specs.Layout.{gap_words}
use Rattle.lists.proofs.Loops.{Filling}
use Rattle.lines.proofs.fill.put_gap.Given as goal

abbrev pub invariant-loop-i : goal.invariant-loop-i
invariant-loop-i l = Filling (gap_words l.index (length l.initial.out)) l.initial.out l.out l.i
