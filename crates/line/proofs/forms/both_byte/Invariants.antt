-- `line::forms::both_byte` meets its contract. Assumes nothing.
use lib.ListN.{length}
use Rattle.line.proofs.FormPairs.{Pairs}
use Rattle.line.proofs.forms.both_byte.Given as goal

abbrev pub invariant-loop-v : goal.invariant-loop-v
invariant-loop-v l = Pairs l.s l.t l.off (length l.yielded)
