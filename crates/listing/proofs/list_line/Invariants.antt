-- `listing::list_line` meets its contract. Assumes nothing.
use Rattle.listing.proofs.LoopLaws.{Lines}
use Rattle.listing.proofs.list_line.Given as goal

abbrev pub invariant-loop : goal.invariant-loop
invariant-loop l = Lines l.line l.initial.state l.initial.room l.initial.text l.state l.room l.text l.counter l.n
