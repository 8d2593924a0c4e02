-- `walks::places::walk_fixed` meets its contract: what its places show, with the phase that it had. Assumes nothing.
use Rattle.machine.proofs.WalkNumberLaws.{fixed_numbered}
use Rattle.walks.proofs.places.walk_fixed.Goals as goal

pub returns : goal.returns
returns g c =
    let a = c.args in
    fixed_numbered a.mode a.phase a.size (g.P.Piece.words a.words.now) (g.P.Piece.words a.room.now) _ (c.see_places-x.ensures a.phase)
