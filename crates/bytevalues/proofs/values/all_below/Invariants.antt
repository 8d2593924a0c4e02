-- `bytevalues::values::all_below` meets its contract: the loop tests one word of the bytes after another. Assumes nothing.
use lib.Dec.{ltb}
use Rattle.lists.proofs.Loops.{Testing}
use Rattle.octets.specs.Bytes.{words_of}
use Rattle.bytevalues.proofs.values.all_below.Given as goal

abbrev pub invariant-loop-i : goal.invariant-loop-i
invariant-loop-i l = Testing (λ v. ltb v l.limit) (words_of l.bytes) l.ok l.i
