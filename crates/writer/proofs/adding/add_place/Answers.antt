-- `writer::adding::add_place` meets its contract: it is an addition to a line of zeros, of which the place alone is laid. Assumes nothing.
use mathlib.Core.Path.{◌≡◌, sym, ap, ap₂, ◌∙◌}
use mathlib.Core.Bool.{Bool, false, ◌||◌, not}
use Prim.Native.Nat.{ℕ, ◌+◌}
use native.Mathlib.Omega.{arith}
use lib.Dec.{eqb}
use lib.ListN.{length, length-replicate}
use Rattle.lists.specs.Tests.{lowest_of}
use Rattle.line.specs.Fixed.{is_variable}
use Rattle.blocks.proofs.LaidLaws.{fills}
use Rattle.writer.specs.declared.state.Writer.{Writer}
use Rattle.writer.specs.Block.{fixed_words}
use Rattle.writer.specs.Adding.{add_fault}
use Rattle.writer.specs.Ground.{Stands, block_faults}
use Rattle.writer.specs.Placing.{zeros}
use Rattle.writer.proofs.BlockLaws.{fixed_long}
use Rattle.writer.proofs.Calls.{sizes}
use Rattle.writer.proofs.GroundLaws.{early_fault, fault_by, size_by, step_told, place_stands, place_step}
use Rattle.writer.proofs.Placing.{zeros_stand, place_unfit, place_fixed, place_long, place_refused, place_added}
use Rattle.writer.proofs.adding.add_place.Goals as goal
use Rattle.writer.proofs.adding.add_place.Goals.{Else-is_variable-place, After-held_in-h, After-place_of-p}

-- the line is a fixed one, and the place has the block's words
fit : (e : Else-is_variable-place) →
    let a = e.args in
    (is_variable a.w.settings.block || not (eqb (length a.place.now) (length a.values.now + 1))) ≡ false
fit e =
    let a = e.args in
    ap (λ (b : Bool). b || not (eqb (length a.place.now) (length a.values.now + 1))) (sym e.is_variable.ensures) ∙ e.if-is_variable-place.false

-- neither 1 nor 2 holds
stands : (h : After-held_in-h) →
    let a = h.args in
    Stands a.w h.ask-x.result.ground h.held_in-h.result (length (zeros a.long))
stands h =
    let a = h.args in
    zeros_stand a.w _ _ a.long (sym h.ask-x.ensures.0 ∙ h.if-x-ne0.false) h.ask-x.ensures.1 h.held_in-h.ensures

-- nothing was refused, and the line is a fixed one
clear : (q : After-place_of-p) →
    let a = q.args in
    lowest_of (block_faults q.ask-x.result.ground q.held_in-h.result a.kind a.values.now) ≡ 0
clear q = sym q.block_fault-fault.ensures ∙ q.if-fault-ne0.false

fixed : (q : After-place_of-p) → (by_fit : let a = q.args in (is_variable a.w.settings.block || not (eqb (length a.place.now) (length a.values.now + 1))) ≡ false)
    → is_variable q.ask-x.result.ground.block ≡ false
fixed q by_fit =
    let a = q.args in
    ap is_variable q.ask-x.ensures.1.block ∙ place_fixed a.w a.long a.kind a.values.now a.place.now (by_fit)

pub returns-then-is_variable-place : goal.returns-then-is_variable-place
returns-then-is_variable-place c =
    let a = c.args in
    place_unfit a.w a.long a.kind a.values.now a.place.now
    (ap (λ (b : Bool). b || not (eqb (length a.place.now) (length a.values.now + 1))) (sym c.is_variable.ensures) ∙ c.if-is_variable-place.true)

pub returns-then-x-ne0 : goal.returns-then-x-ne0
returns-then-x-ne0 c =
    let a = c.args in
    place_refused a.w a.long a.kind a.values.now a.place.now (fit (goal.at.returns-then-x-ne0 c).Else-is_variable-place) _
    (early_fault a.w a.long a.kind a.values.now _ c.ask-x.ensures.0 c.if-x-ne0.true) c.if-x-ne0.true

pub block_fault-fault-requires : goal.block_fault-fault-requires
block_fault-fault-requires c = size_by (stands c)

pub returns-then-fault-ne0 : goal.returns-then-fault-ne0
returns-then-fault-ne0 c =
    let a = c.args in
    place_refused a.w a.long a.kind a.values.now a.place.now (fit (goal.at.returns-then-fault-ne0 c).Else-is_variable-place) _
    (c.block_fault-fault.ensures ∙ fault_by (stands (goal.at.returns-then-fault-ne0 c).After-held_in-h) a.kind a.values.now
    ∙ ap₂ (λ (v : Writer) (n : ℕ). add_fault v n a.kind a.values.now) c.held_in-h.ensures (length-replicate {A = ℕ} a.long 0))
    c.if-fault-ne0.true

pub overflow_add-p : goal.overflow_add-p
overflow_add-p c =
    let a = c.args in
    let z = sizes (place_stands (zeros a.long) (stands (goal.at.overflow_add-p c).After-held_in-h) a.kind a.values.now (clear (goal.at.overflow_add-p c).After-place_of-p) (fixed (goal.at.overflow_add-p c).After-place_of-p (fit (goal.at.overflow_add-p c).Else-is_variable-place)) _ c.place_of-p.ensures) in
    omega (arith, z.ends)

pub returns : goal.returns
returns c =
    let a = c.args in
    let g = c.ask-x.result.ground in
    let long = place_long a.w a.long a.kind a.values.now a.place.now (fit (goal.at.returns c).Else-is_variable-place) in
    let on = fills (fixed_words g.mode a.kind a.values.now) a.place.now c.held_in-h.result.crc _ _ (fixed_long g.mode a.kind a.values.now ∙ sym long) c.lay_place-c.ensures in
    let line = zeros a.long in
    let ok = sym (ap (λ (v : Writer). add_fault v (length line) a.kind a.values.now) c.held_in-h.ensures) ∙ sym (fault_by (stands (goal.at.returns c).After-held_in-h) a.kind a.values.now) ∙ clear (goal.at.returns c).After-place_of-p in
    let step =
    step_told line a.kind a.values.now c.placed.result _ (stands (goal.at.returns c).After-held_in-h) c.held_in-h.ensures
    (place_step line a.kind a.values.now (clear (goal.at.returns c).After-place_of-p) (fixed (goal.at.returns c).After-place_of-p (fit (goal.at.returns c).Else-is_variable-place)) _ c.place_of-p.ensures _ _ on.0 on.1 _ c.placed.ensures)
    _ _ c.told.ensures.0 c.told.ensures.1 in
    place_added a.w a.long a.kind a.values.now a.place.now (fit (goal.at.returns c).Else-is_variable-place) _ _ _ _ ok step
    (on.0 ∙ ap (λ (m : ℕ). fixed_words m a.kind a.values.now) c.ask-x.ensures.1.mode)
