-- `fields::numbers::put_number` meets its contract: the bytes before the index stand, and `left` has the others. Assumes nothing.
use Rattle.std.proofs.Common.{◌≡◌, ◌-◌, ◌++◌, length, take}
use Rattle.fields.specs.Fields.{bytes_for}
use Rattle.fields.proofs.numbers.put_number.Given as goal

abbrev pub invariant-loop-b : goal.invariant-loop-b
invariant-loop-b l = take l.b-index l.out ++ bytes_for (length l.initial.out - l.b-index) l.left ≡ bytes_for (length l.initial.out) l.n
