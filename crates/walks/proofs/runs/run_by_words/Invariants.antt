-- `walks::runs::run_by_words` meets its contract. Assumes nothing.
use Rattle.std.proofs.Common.{◌≡◌, ◌+◌, ◌≤◌, length, drop}
use Rattle.machine.specs.Runs.{run_of}
use Rattle.walks.proofs.runs.run_by_words.Given as goal

abbrev pub invariant-loop-i : goal.invariant-loop-i
invariant-loop-i g l =
    let ws = g.P.Piece.words l.words in
    (l.i ≤ length ws) × (l.i + run_of l.mode (drop l.i ws) ≡ run_of l.mode ws)
