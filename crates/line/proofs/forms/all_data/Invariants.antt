-- `line::forms::all_data` meets its contract. Assumes nothing.
use Rattle.lists.proofs.Loops.{Testing}
use Rattle.words.specs.Forms.{is_data}
use Rattle.line.proofs.forms.all_data.Given as goal

abbrev pub invariant-loop-w : goal.invariant-loop-w
invariant-loop-w l = Testing is_data l.s l.ok l.w-index
