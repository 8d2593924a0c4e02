-- `bytevalues::batch::lay_each` meets its contract: what is left of the list, laid on what was left, gives what all of it gives. Assumes nothing.
use Prim.Native.Nat.{◌-◌}
use Rattle.octets.specs.Bytes.{words_of}
use Rattle.bytevalues.proofs.Entries.{Laying}
use Rattle.bytevalues.proofs.batch.lay_each.Given as goal

abbrev pub invariant-loop-at : goal.invariant-loop-at
invariant-loop-at l = Laying l.initial.now l.initial.line (words_of l.blocks) l.now l.line l.at l.finished

abbrev pub decreases-loop-at : goal.decreases-loop-at
decreases-loop-at l = l.n - l.at
