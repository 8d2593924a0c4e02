-- `rows::Row::add_text` meets its contract. Assumes nothing.
use Rattle.std.proofs.Common.{◌≡◌}
use lib.ListN.{drop}
use Rattle.rows.specs.Cuts.{added}
use Rattle.rows.proofs.Row.add_text.Given as goal

abbrev pub invariant-loop-b : goal.invariant-loop-b
invariant-loop-b l = added l.self (drop l.b-index l.text) ≡ added l.initial.self l.text
