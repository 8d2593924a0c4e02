-- `walks::in_words::has_null_each` meets its contract. Assumes nothing.
use Rattle.std.proofs.Common.{◌≡◌, ◌≤◌, ◌||◌, length, drop}
use Rattle.machine.specs.Places.{has_null}
use Rattle.walks.proofs.in_words.has_null_each.Given as goal

abbrev pub invariant-loop-w : goal.invariant-loop-w
invariant-loop-w l = (l.w-index ≤ length l.words) × ((l.found || has_null (drop l.w-index l.words)) ≡ has_null l.words)
