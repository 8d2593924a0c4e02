-- `walks::walk::walk` meets its contract. Assumes nothing.
use Rattle.std.proofs.Common.{◌-◌}
use Rattle.machine.specs.Walk.{walk_of}
use Rattle.machine.proofs.Going.{Going}
use Rattle.walks.proofs.walk.walk.Given as goal

abbrev pub invariant-loop-i : goal.invariant-loop-i
invariant-loop-i g l =
    let ws = g.P.Piece.words in
    Going l.mode (ws l.words) (walk_of l.mode l.initial.p (ws l.words) (ws l.initial.room)) (ws l.room) l.p l.i

abbrev pub decreases-loop-i : goal.decreases-loop-i
decreases-loop-i g l = l.n - l.i
