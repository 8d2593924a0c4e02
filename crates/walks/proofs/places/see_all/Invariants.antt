-- `walks::places::see_all` meets its contract: the places that are left, whatever the phase. Assumes nothing.
use Rattle.std.proofs.Common.{◌≡◌, ◌-◌, ◌/◌, ◌≤◌, length, drop}
use Rattle.machine.specs.declared.phase.Phase.{Phase}
use Rattle.machine.specs.Walk.{past}
use Rattle.machine.specs.Places.{places_in, walk_places}
use Rattle.walks.proofs.places.see_all.Given as goal

-- the places that are left are those of the words from i on
abbrev pub invariant-loop-i : goal.invariant-loop-i
invariant-loop-i g l =
    let ws = g.P.Piece.words l.words in
    let room = g.P.Piece.words l.initial.room in
    (l.i ≤ length ws)
    × (l.room ≡ l.initial.room)
    × ((p : Phase) → past l.i (walk_places l.mode p (places_in l.size ((length ws - l.i) / l.size) (drop l.i ws)) room) ≡ walk_places l.mode p (places_in l.size (length ws / l.size) ws) room)

abbrev pub decreases-loop-i : goal.decreases-loop-i
decreases-loop-i g l = l.long - l.i
