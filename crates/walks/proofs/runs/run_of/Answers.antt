-- `walks::runs::run_of` meets its contract: what is left is a run, or is searched. Assumes nothing.
use Rattle.std.proofs.Common.{◌<◌, ap, ◌∙◌, arith, rules}
use Rattle.machine.specs.Runs.{run_of}
use Rattle.machine.proofs.RunLaws.{run_long}
use Rattle.walks.proofs.Lent.{to_last}
use Rattle.walks.proofs.runs.run_of.Goals as goal

-- no more words than there are
pub overflow_add-result : goal.overflow_add-result
overflow_add-result g c =
    let a = c.args in
    let ws = g.P.Piece.words a.words.now in
    let k = c.run_by_chunks-a.result in
    let rest = to_last _ _ c.count-long.ensures c.part.ensures in
    let behind = c.run_of_few.ensures ∙ ap (run_of a.mode) rest in
    let small : c.count-long.result < 18446744073709551616 = search rules in
    record { fits = omega (arith, behind, c.run_by_chunks-a.ensures.1, run_long a.mode ws, c.count-long.ensures, small) }
