-- `writer::batch::lay_entry` meets its contract. Assumes nothing.
use mathlib.Core.Path.{◌≡◌, sym, ◌∙◌}
use mathlib.Core.Bool.{false}
use Prim.Native.Nat.{◌+◌}
use native.Mathlib.Omega.{arith}
use lib.ListN.{length}
use Rattle.lists.specs.Tests.{lowest_of}
use Rattle.line.specs.Fixed.{is_variable}
use Rattle.writer.specs.Ground.{held_by, block_faults}
use Rattle.writer.proofs.Calls.{Found, sizes, add_refused}
use Rattle.writer.proofs.GroundLaws.{size_by, fault_by, place_stands, place_step, place_filled}
use Rattle.writer.proofs.batch.lay_entry.Goals as goal
use Rattle.writer.proofs.batch.lay_entry.Goals.{Else-fault-ne0, After-place_of-place}

-- nothing was refused
clear : (c : Else-fault-ne0) →
    let a = c.args in
    lowest_of (block_faults a.g a.h a.kind a.values.now) ≡ 0
clear c = sym c.block_fault-fault.ensures ∙ c.if-fault-ne0.false

fixed : (q : After-place_of-place) → is_variable q.args.g.block ≡ false
fixed q = sym q.is_variable.ensures ∙ q.if-is_variable.false

-- the sizes: nothing is laid yet, and all words are laid now
found : (q : After-place_of-place) → (by_clear : let a = q.args in lowest_of (block_faults a.g a.h a.kind a.values.now) ≡ 0)
    → let a = q.args in
    Found (held_by q.requires.w a.h) a.line.now a.kind a.values.now q.place_of-place.result 0 (length a.values.now + 1) (length a.values.now + 1)
    (a.g.start + q.place_of-place.result)
found q by_clear =
    place_stands q.args.line.now q.requires.stands q.args.kind q.args.values.now (by_clear) (fixed q) _ q.place_of-place.ensures

pub block_fault-fault-requires : goal.block_fault-fault-requires
block_fault-fault-requires c = size_by c.requires.stands

pub returns-then-fault-ne0 : goal.returns-then-fault-ne0
returns-then-fault-ne0 c w s =
    let a = c.args in
    add_refused (held_by w a.h) a.line.now a.kind a.values.now _ (c.block_fault-fault.ensures ∙ fault_by s a.kind a.values.now) c.if-fault-ne0.true

pub lay_part-requires : goal.lay_part-requires
lay_part-requires c =
    (c.requires, clear (goal.at.lay_part-requires c).Else-fault-ne0, sym c.is_variable.ensures ∙ c.if-is_variable.true)

pub returns-then-is_variable : goal.returns-then-is_variable
returns-then-is_variable c w s = c.lay_part.ensures w s

pub overflow_add-a : goal.overflow_add-a
overflow_add-a c = let z = sizes (found (goal.at.overflow_add-a c).After-place_of-place (clear (goal.at.overflow_add-a c).Else-fault-ne0)) in omega (arith, z.within, z.short, z.ends)

pub overflow_add-a-2 : goal.overflow_add-a-2
overflow_add-a-2 c = let z = sizes (found (goal.at.overflow_add-a-2 c).After-place_of-place (clear (goal.at.overflow_add-a-2 c).Else-fault-ne0)) in omega (arith, z.within, z.short, z.ends)

pub offset_bounds-line-a : goal.offset_bounds-line-a
offset_bounds-line-a c = let z = sizes (found (goal.at.offset_bounds-line-a c).After-place_of-place (clear (goal.at.offset_bounds-line-a c).Else-fault-ne0)) in omega (arith, z.within, z.short, z.ends)

pub slice_bounds-lay_place-end : goal.slice_bounds-lay_place-end
slice_bounds-lay_place-end c = let z = sizes (found (goal.at.slice_bounds-lay_place-end c).After-place_of-place (clear (goal.at.slice_bounds-lay_place-end c).Else-fault-ne0)) in omega (arith, z.within, z.short, z.ends)

pub overflow_add-place : goal.overflow_add-place
overflow_add-place c = let z = sizes (found (goal.at.overflow_add-place c).After-place_of-place (clear (goal.at.overflow_add-place c).Else-fault-ne0)) in omega (arith, z.ends)

pub returns : goal.returns
returns c w s =
    let a = c.args in
    let on = place_filled a.line.now (a.g.start + c.place_of-place.result) a.g.mode a.kind a.h.crc _ a.values.now _ (sizes (found (goal.at.returns c).After-place_of-place (clear (goal.at.returns c).Else-fault-ne0))).within c.lay_place-c.ensures in
    place_step a.line.now a.kind a.values.now (clear (goal.at.returns c).Else-fault-ne0) (fixed (goal.at.returns c).After-place_of-place) _ c.place_of-place.ensures _ _ on.0 on.1 _ c.placed.ensures w s
