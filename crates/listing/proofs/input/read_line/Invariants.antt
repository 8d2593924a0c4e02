-- The loop of `listing::input::read_line`. Assumes nothing.
use Rattle.std.proofs.Common.{◌≤◌, length}
use Rattle.listing.proofs.input.read_line.Given as goal

abbrev pub invariant-loop : goal.invariant-loop
invariant-loop g l = l.done ≤ length l.bytes
