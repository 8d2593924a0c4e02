-- `writer::adding::lay_part` meets its contract. Assumes nothing.
use Prim.Native.Nat.{◌+◌, ◌-◌}
use native.Mathlib.Nat.{le_refl}
use native.Mathlib.Omega.{arith}
use lib.ListN.{length}
use Rattle.writer.proofs.GroundLaws.{Room, room_by, whole_laid, cut_laid, part_filled}
use Rattle.writer.proofs.adding.lay_part.Goals as goal
use Rattle.writer.proofs.adding.lay_part.Goals.{After-laid_of-laid}

-- the sizes
room : (d : After-laid_of-laid) →
    let a = d.args in
    Room a.g d.place_of-place.result d.laid_of-laid.result (length a.values.now) a.kind (length a.line.now)
room d =
    room_by d.args.line.now d.requires.0.stands d.args.kind d.args.values.now d.requires.1 d.requires.2 _ _ d.place_of-place.ensures d.laid_of-laid.ensures

pub overflow_sub-left : goal.overflow_sub-left
overflow_sub-left c = omega (arith, (room c).laid)

pub overflow_sub-room : goal.overflow_sub-room
overflow_sub-room c = omega (arith, (room (goal.at.overflow_sub-room c).After-laid_of-laid).free)

pub overflow_add-a : goal.overflow_add-a
overflow_add-a c = let r = room (goal.at.overflow_add-a c).After-laid_of-laid in omega (arith, r.free, r.within, r.short)

-- all that is left
pub overflow_add-a-then-left-room : goal.overflow_add-a-then-left-room
overflow_add-a-then-left-room c = let r = room (goal.at.overflow_add-a-then-left-room c).After-laid_of-laid in omega (arith, r.free, r.within, r.short, c.if-left-room.true)

pub offset_bounds-line-a : goal.offset_bounds-line-a
offset_bounds-line-a c = let r = room (goal.at.offset_bounds-line-a c).After-laid_of-laid in omega (arith, r.free, r.within, r.short)

pub slice_bounds-lay_on-end : goal.slice_bounds-lay_on-end
slice_bounds-lay_on-end c = let r = room (goal.at.slice_bounds-lay_on-end c).After-laid_of-laid in omega (arith, r.free, r.within, r.short, c.if-left-room.true)

pub overflow_add-result : goal.overflow_add-result
overflow_add-result c = let r = room (goal.at.overflow_add-result c).After-laid_of-laid in omega (arith, r.free, r.within, r.short, c.if-left-room.true)

pub returns-then-left-room : goal.returns-then-left-room
returns-then-left-room c w s =
    let j = c.laid_of-laid.result in
    let on =
    part_filled c.args.line.now (c.args.g.start + c.place_of-place.result) (length c.args.values.now + 7 - j) c.args.g.mode c.args.kind j c.args.h.crc _
    c.args.values.now _ (room (goal.at.returns-then-left-room c).After-laid_of-laid).laid (le_refl _) c.lay_on-crc.ensures in
    whole_laid c.args.line.now s c.args.kind c.args.values.now c.requires.1 c.requires.2 _ _ c.place_of-place.ensures c.laid_of-laid.ensures _ _ on.1 c.if-left-room.true on.0

-- what fits
pub overflow_add-a-2 : goal.overflow_add-a-2
overflow_add-a-2 c = let r = room (goal.at.overflow_add-a-2 c).After-laid_of-laid in omega (arith, r.free, r.within, r.short)

pub offset_bounds-line-a-2 : goal.offset_bounds-line-a-2
offset_bounds-line-a-2 c = let r = room (goal.at.offset_bounds-line-a-2 c).After-laid_of-laid in omega (arith, r.free, r.within, r.short)

pub slice_bounds-lay_on-end-2 : goal.slice_bounds-lay_on-end-2
slice_bounds-lay_on-end-2 c = let r = room (goal.at.slice_bounds-lay_on-end-2 c).After-laid_of-laid in omega (arith, r.free, r.within, r.short)

pub overflow_add-result-2 : goal.overflow_add-result-2
overflow_add-result-2 c = let r = room (goal.at.overflow_add-result-2 c).After-laid_of-laid in omega (arith, r.free, r.within, r.short)

pub overflow_cast-result : goal.overflow_cast-result
overflow_cast-result c = omega (arith, (room (goal.at.overflow_cast-result c).After-laid_of-laid).byte)

pub overflow_cast-result-2 : goal.overflow_cast-result-2
overflow_cast-result-2 c = omega (arith, (room (goal.at.overflow_cast-result-2 c).After-laid_of-laid).number)

pub overflow_add-result-3 : goal.overflow_add-result-3
overflow_add-result-3 c = let r = room (goal.at.overflow_add-result-3 c).After-laid_of-laid in omega (arith, r.laid, r.number, r.free, r.within, r.short)

pub overflow_cast-result-3 : goal.overflow_cast-result-3
overflow_cast-result-3 c = let r = room (goal.at.overflow_cast-result-3 c).After-laid_of-laid in omega (arith, r.laid, r.number, c.if-left-room.false)

pub returns : goal.returns
returns c w s =
    let p = c.place_of-place.result in
    let on =
    part_filled c.args.line.now (c.args.g.start + p) (c.args.g.end - p) c.args.g.mode c.args.kind c.laid_of-laid.result c.args.h.crc _
    c.args.values.now _ (room (goal.at.returns c).After-laid_of-laid).laid (omega (arith, c.if-left-room.false)) c.lay_on-crc-2.ensures in
    cut_laid c.args.line.now s c.args.kind c.args.values.now c.requires.1 c.requires.2 _ _ c.place_of-place.ensures c.laid_of-laid.ensures _ _ on.1 c.if-left-room.false on.0
