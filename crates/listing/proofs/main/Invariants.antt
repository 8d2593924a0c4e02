-- The loop of `listing::main`. Assumes nothing.
use Rattle.listing.specs.Lines.{Between}
use Rattle.listing.proofs.main.Given as goal

abbrev pub invariant-loop : goal.invariant-loop
invariant-loop l = Between l.st
