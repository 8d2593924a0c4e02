-- `writer::adding::add_block` meets its contract. Assumes nothing.
use mathlib.Core.Path.{◌≡◌, sym, ap, ◌∙◌}
use mathlib.Core.Bool.{false}
use Prim.Native.Nat.{◌+◌}
use native.Mathlib.Omega.{arith}
use lib.ListN.{length}
use Rattle.lists.specs.Tests.{lowest_of}
use Rattle.line.specs.Fixed.{is_variable}
use Rattle.writer.specs.declared.state.Writer.{Writer}
use Rattle.writer.specs.Adding.{add_fault}
use Rattle.writer.specs.Ground.{Stands, held_by, block_faults}
use Rattle.writer.proofs.Calls.{Found, sizes, add_refused}
use Rattle.writer.proofs.NumberLaws.{adds_numbered}
use Rattle.writer.proofs.GroundLaws.{early_fault, stands_in, fault_by, size_by, step_told, place_stands, place_step, place_filled}
use Rattle.writer.proofs.adding.add_block.Goals as goal
use Rattle.writer.proofs.adding.add_block.Goals.{After-held_in-h, After-place_of-place}

-- neither 1 nor 2 holds
stands : (h : After-held_in-h) →
    let a = h.args in
    Stands a.w h.ask-x.result.ground h.held_in-h.result (length a.line.now)
stands h =
    let a = h.args in
    stands_in a.w _ _ (length a.line.now) (sym h.ask-x.ensures.0 ∙ h.if-x-ne0.false) h.ask-x.ensures.1 h.held_in-h.ensures

-- nothing was refused, and the line is a fixed one
clear : (q : After-place_of-place) →
    let a = q.args in
    lowest_of (block_faults q.ask-x.result.ground q.held_in-h.result a.kind a.values.now) ≡ 0
clear q = sym q.block_fault-fault.ensures ∙ q.if-fault-ne0.false

fixed : (q : After-place_of-place) → is_variable q.ask-x.result.ground.block ≡ false
fixed q = sym q.is_variable.ensures ∙ q.if-is_variable.false

-- the sizes: nothing is laid yet, and all words are laid now
found : (q : After-place_of-place) → (by_stands : let a = q.args in Stands a.w q.ask-x.result.ground q.held_in-h.result (length a.line.now))
    → let a = q.args in
    Found (held_by a.w q.held_in-h.result) a.line.now a.kind a.values.now q.place_of-place.result 0 (length a.values.now + 1) (length a.values.now + 1)
    (q.ask-x.result.ground.start + q.place_of-place.result)
found q by_stands =
    let a = q.args in
    place_stands a.line.now (by_stands) a.kind a.values.now (clear q) (fixed q) _ q.place_of-place.ensures

pub returns-then-x-ne0 : goal.returns-then-x-ne0
returns-then-x-ne0 c =
    let a = c.args in
    adds_numbered a.w a.line.now a.kind a.values.now _
    (add_refused a.w a.line.now a.kind a.values.now _
    (early_fault a.w (length a.line.now) a.kind a.values.now _ c.ask-x.ensures.0 c.if-x-ne0.true) c.if-x-ne0.true)

pub block_fault-fault-requires : goal.block_fault-fault-requires
block_fault-fault-requires c = size_by (stands c)

pub returns-then-fault-ne0 : goal.returns-then-fault-ne0
returns-then-fault-ne0 c =
    let a = c.args in
    adds_numbered a.w a.line.now a.kind a.values.now _
    (add_refused a.w a.line.now a.kind a.values.now _
    (c.block_fault-fault.ensures ∙ fault_by (stands (goal.at.returns-then-fault-ne0 c).After-held_in-h) a.kind a.values.now ∙ ap (λ (v : Writer). add_fault v (length a.line.now) a.kind a.values.now) c.held_in-h.ensures)
    c.if-fault-ne0.true)

pub lay_part-requires : goal.lay_part-requires
lay_part-requires c =
    (record { w = c.args.w; stands = stands (goal.at.lay_part-requires c).After-held_in-h }, sym c.block_fault-fault.ensures ∙ c.if-fault-ne0.false, sym c.is_variable.ensures ∙ c.if-is_variable.true)

pub returns-then-is_variable : goal.returns-then-is_variable
returns-then-is_variable c =
    let a = c.args in
    adds_numbered a.w a.line.now a.kind a.values.now _
    (step_told a.line.now a.kind a.values.now c.lay_part.result _ (stands (goal.at.returns-then-is_variable c).After-held_in-h) c.held_in-h.ensures c.lay_part.ensures _ _ c.told.ensures.0 c.told.ensures.1)

pub overflow_add-a : goal.overflow_add-a
overflow_add-a c = let z = sizes (found (goal.at.overflow_add-a c).After-place_of-place (stands (goal.at.overflow_add-a c).After-held_in-h)) in omega (arith, z.within, z.short, z.ends)

pub overflow_add-a-2 : goal.overflow_add-a-2
overflow_add-a-2 c = let z = sizes (found (goal.at.overflow_add-a-2 c).After-place_of-place (stands (goal.at.overflow_add-a-2 c).After-held_in-h)) in omega (arith, z.within, z.short, z.ends)

pub offset_bounds-line-a : goal.offset_bounds-line-a
offset_bounds-line-a c = let z = sizes (found (goal.at.offset_bounds-line-a c).After-place_of-place (stands (goal.at.offset_bounds-line-a c).After-held_in-h)) in omega (arith, z.within, z.short, z.ends)

pub slice_bounds-lay_place-end : goal.slice_bounds-lay_place-end
slice_bounds-lay_place-end c = let z = sizes (found (goal.at.slice_bounds-lay_place-end c).After-place_of-place (stands (goal.at.slice_bounds-lay_place-end c).After-held_in-h)) in omega (arith, z.within, z.short, z.ends)

pub overflow_add-place : goal.overflow_add-place
overflow_add-place c = let z = sizes (found (goal.at.overflow_add-place c).After-place_of-place (stands (goal.at.overflow_add-place c).After-held_in-h)) in omega (arith, z.ends)

pub returns : goal.returns
returns c =
    let a = c.args in
    let on = place_filled a.line.now (c.ask-x.result.ground.start + c.place_of-place.result) c.ask-x.result.ground.mode a.kind c.held_in-h.result.crc _ a.values.now _ (sizes (found (goal.at.returns c).After-place_of-place (stands (goal.at.returns c).After-held_in-h))).within c.lay_place-c.ensures in
    adds_numbered a.w a.line.now a.kind a.values.now _
    (step_told a.line.now a.kind a.values.now c.placed.result _ (stands (goal.at.returns c).After-held_in-h) c.held_in-h.ensures
    (place_step a.line.now a.kind a.values.now (clear (goal.at.returns c).After-place_of-place) (fixed (goal.at.returns c).After-place_of-place) _ c.place_of-place.ensures _ _ on.0 on.1 _ c.placed.ensures)
    _ _ c.told-2.ensures.0 c.told-2.ensures.1)
