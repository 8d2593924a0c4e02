-- `octets::number_of` meets its contract. Assumes nothing.
use mathlib.Core.Path.{◌≡◌}
use lib.ListN.{drop}
use Rattle.octets.specs.Numbers.{digits_more}
use Rattle.octets.proofs.number_of.Given as goal

abbrev pub invariant-loop-b : goal.invariant-loop-b
invariant-loop-b l = digits_more l.x (drop l.b-index l.text) ≡ digits_more 0 l.text
