-- `walks::runs::run_of_few` meets its contract: the second search goes on where the first ends. Assumes nothing.
use Rattle.std.proofs.Common.{◌<◌, ap, ◌∙◌, arith, rules}
use Rattle.machine.specs.Runs.{run_of}
use Rattle.machine.proofs.RunLaws.{run_long}
use Rattle.walks.proofs.Lent.{to_last}
use Rattle.walks.proofs.runs.run_of_few.Goals as goal

-- no more words than there are
pub overflow_add-result : goal.overflow_add-result
overflow_add-result g c =
    let a = c.args in
    let ws = g.P.Piece.words a.words.now in
    let k = c.run_by_chunks-a.result in
    let rest = to_last _ _ c.count.ensures c.part.ensures in
    let behind = c.run_by_words.ensures ∙ ap (run_of a.mode) rest in
    let small : c.count.result < 18446744073709551616 = search rules in
    record { fits = omega (arith, behind, c.run_by_chunks-a.ensures.1, run_long a.mode ws, c.count.ensures, small) }
