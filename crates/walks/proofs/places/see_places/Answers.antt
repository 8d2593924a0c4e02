-- `walks::places::see_places` meets its contract: no place, the one in front, or all, whatever the phase. Assumes nothing.
use Rattle.std.proofs.Common.{◌≡◌, ℕ, ◌-◌, ◌/◌, ◌≤◌, ◌<◌, ◌||◌, List, map, eqb, ltb, length, sym, ap, ap₂, ◌∙◌, arith}
use Rattle.words.specs.Modes.{value_of}
use Rattle.machine.specs.declared.phase.Phase.{Phase}
use Rattle.machine.specs.Places.{places_in, met_at, place_room, walk_places, walk_fixed}
use Rattle.machine.proofs.PlaceLaws.{fixed_none, fixed_few, fixed_walk, fixed_fits, front_stops}
use Rattle.walks.proofs.Lent.{from_first}
use Rattle.walks.proofs.places.see_places.Given.{Over}
use Rattle.walks.proofs.places.see_places.Goals as goal
use Rattle.walks.proofs.places.see_places.Goals.{After-saturating_sub, Else-size-count}

-- the test is the definition's
asked : (g : Over) (l : After-saturating_sub g) →
    let a = l.args in
    (eqb a.size 0 || ltb l.count.result l.saturating_sub.result) ≡ (eqb a.size 0 || ltb (length (g.P.Piece.words a.room.now)) (a.size - 1))
asked g l = let a = l.args in ap₂ (λ (m n : ℕ). eqb a.size 0 || ltb m n) l.count.ensures l.saturating_sub.ensures

-- past it, a place has a word, and the room is as long as its values; the walk is over whole places
fitting : (g : Over) (o : Else-size-count g) → let a = o.args in (1 ≤ a.size) × (a.size - 1 ≤ length (g.P.Piece.words a.room.now))
fitting g o =
    let a = o.args in
    fixed_fits a.size (length (g.P.Piece.words a.room.now)) (sym (ap₂ (λ (m n : ℕ). eqb a.size 0 || ltb m n) o.count.ensures o.saturating_sub.ensures) ∙ o.if-size-count.false)

whole : (g : Over) (o : Else-size-count g) (p : Phase) →
    let a = o.args in
    let ws = g.P.Piece.words a.words.now in
    let room = g.P.Piece.words a.room.now in
    walk_places a.mode p (places_in a.size (length ws / a.size) ws) room ≡ walk_fixed a.mode p a.size ws room
whole g o p =
    let a = o.args in
    let f = fitting g o in
    sym (fixed_walk a.mode p a.size (g.P.Piece.words a.words.now) (g.P.Piece.words a.room.now) f.0 f.1)

pub returns-then-size-count : goal.returns-then-size-count
returns-then-size-count g c = λ p.
    let a = c.args in
    fixed_none a.mode p a.size (g.P.Piece.words a.words.now) (g.P.Piece.words a.room.now) (sym (asked g (goal.at.returns-then-size-count g c).After-saturating_sub) ∙ c.if-size-count.true)

pub returns-then-count-size : goal.returns-then-count-size
returns-then-count-size g c = λ p.
    let a = c.args in
    let f = fitting g (goal.at.returns-then-count-size g c).Else-size-count in
    let few : length (g.P.Piece.words a.words.now) < a.size = omega (arith, c.if-count-size.true, c.count-2.ensures) in
    fixed_few a.mode p a.size (g.P.Piece.words a.words.now) (g.P.Piece.words a.room.now) f.0 f.1 few

pub returns-then-is_nothing : goal.returns-then-is_nothing
returns-then-is_nothing g c = λ p. c.see_all.ensures p ∙ whole g (goal.at.returns-then-is_nothing g c).Else-size-count p

pub returns : goal.returns
returns g c = λ p.
    let a = c.args in
    let ws = g.P.Piece.words a.words.now in
    let met = c.met_at-met.result in
    let o = (goal.at.returns g c).Else-size-count in
    let many : a.size ≤ length ws = omega (arith, c.if-count-size.false, c.count-2.ensures) in
    let is = c.met_at-met.ensures ∙ ap (met_at a.mode) (from_first _ _ c.part.ensures) in
    let laid = c.put_place.ensures ∙ ap (λ (vs : List ℕ). place_room met (map (value_of a.mode) vs) (g.P.Piece.words a.room.now)) c.part-2.ensures in
    front_stops a.mode p a.size (fitting g o).0 ws (g.P.Piece.words a.room.now) _ met many is (sym c.is_nothing.ensures ∙ c.if-is_nothing.false) laid
    ∙ whole g o p
