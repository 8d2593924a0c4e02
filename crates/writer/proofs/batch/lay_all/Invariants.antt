-- `writer::batch::lay_all` meets its contract: what is left of the list, laid on what is held now, gives what all of it gives. Assumes nothing.
use Prim.Native.Nat.{◌-◌}
use lib.ListN.{length}
use Rattle.writer.proofs.BatchLaws.{Laying}
use Rattle.writer.proofs.batch.lay_all.Given as goal

abbrev pub invariant-loop-at : goal.invariant-loop-at
invariant-loop-at l = Laying l.g l.initial.now l.initial.line l.blocks l.now l.line l.at l.finished

abbrev pub decreases-loop-at : goal.decreases-loop-at
decreases-loop-at l = length l.blocks - l.at
