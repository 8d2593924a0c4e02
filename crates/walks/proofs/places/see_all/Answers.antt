use Rattle.std.proofs.Common.{ℕ, ◌+◌, ◌-◌, ◌≤◌, ◌<◌, List, map, length, sym, ap, ap₂, ◌∙◌, arith}
use Rattle.words.specs.Modes.{value_of}
use Rattle.machine.specs.Places.{met_at, place_room}
use Rattle.machine.proofs.PlaceLaws.{turn_stops, turn_goes, turns_end, one_left, none_left}
use Rattle.walks.proofs.places.see_all.Given.{Over}
use Rattle.walks.proofs.places.see_all.Goals as goal
use Rattle.walks.proofs.places.see_all.Goals.{In-loop-i}

-- a whole place is left
fits : (g : Over) (t : In-loop-i g) → t.loop-i.i + t.args.size ≤ length (g.P.Piece.words t.args.words.now)
fits g t = omega (arith, t.loop-i-test.true, t.loop-i.invariant.0, t.count-long.ensures)

pub returns-then-not-is_nothing : goal.returns-then-not-is_nothing
returns-then-not-is_nothing g c = λ p.
    let l = c.loop-i in
    let a = c.args in
    let ws = g.P.Piece.words a.words.now in
    let met = c.met_at-met.result in
    let h = fits g (goal.at.returns-then-not-is_nothing g c).In-loop-i in
    let is = c.met_at-met.ensures ∙ ap (met_at a.mode) c.part.ensures in
    let laid = c.put_place.ensures
    ∙ ap₂ (λ (vs r : List ℕ). place_room met (map (value_of a.mode) vs) r) c.part-then-not-is_nothing.ensures (ap g.P.Piece.words l.invariant.1) in
    turn_stops a.mode p a.size c.requires.0 _ _ l.i ws (g.P.Piece.words a.room.now) met (one_left _ _ _ c.requires.0 h) h is
    _ (l.invariant.2 p) _ (sym c.is_nothing.ensures ∙ c.if-not-is_nothing.true) laid

pub loop-i-preserved : goal.loop-i-preserved
loop-i-preserved g c =
    let l = c.loop-i in
    let a = c.args in
    let h = fits g (goal.at.loop-i-preserved g c).In-loop-i in
    let is = c.met_at-met.ensures ∙ ap (met_at a.mode) c.part.ensures in (
      h,
      l.invariant.1,
      λ p. turn_goes a.mode p a.size c.requires.0 _ _ l.i (g.P.Piece.words a.words.now) (g.P.Piece.words a.room.now) c.met_at-met.result (one_left _ _ _ c.requires.0 h) h is
          _ (l.invariant.2 p) (sym c.is_nothing.ensures ∙ c.if-not-is_nothing.false),
    )

pub returns : goal.returns
returns g c = λ p.
    let l = c.loop-i in
    let a = c.args in
    let ws = g.P.Piece.words a.words.now in
    let none : length ws - l.i < a.size = omega (arith, c.loop-i-test.false, c.count-long.ensures) in
    turns_end a.mode p a.size c.requires.0 _ l.i ws (g.P.Piece.words a.room.now) _ _ (none_left _ _ _ none) (ap g.P.Piece.words l.invariant.1) (l.invariant.2 p)
