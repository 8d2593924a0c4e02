-- `walks::in_words::all_from` meets its contract: the bits gathered so far pass where each word does. Assumes nothing.
use Rattle.machine.proofs.PlainLaws.{Gathered}
use Rattle.walks.proofs.in_words.all_from.Given as goal

abbrev pub invariant-loop-w : goal.invariant-loop-w
invariant-loop-w l = Gathered l.low l.words l.bits l.w-index
