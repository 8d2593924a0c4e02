use native.Mathlib.Omega.{arith}
use Rattle.writer.proofs.BatchLaws.{IsWhole, whole_at, laying_start, all_laid, breaks_off, stops_refused, stops_unfinished, goes_on, run_is}
use Rattle.writer.proofs.batch.lay_all.Goals as goal
use Rattle.writer.proofs.batch.lay_all.Goals.{Else-e-eq0}

-- the entry
entry : (c : Else-e-eq0) →
    IsWhole c.args.blocks.now c.loop-at.at c.entry_end-e.result
entry c = whole_at c.args.blocks.now _ c.loop-at-test.true _ c.entry_end-e.ensures c.if-e-eq0.false

pub loop-at-init : goal.loop-at-init
loop-at-init c = laying_start _ _ _ _

pub entry_end-e-requires : goal.entry_end-e-requires
entry_end-e-requires c = c.loop-at-test.true

pub returns-then-e-eq0 : goal.returns-then-e-eq0
returns-then-e-eq0 c =
    run_is _ _ _ _ _ c.ended.ensures (breaks_off c.loop-at.invariant c.loop-at-test.true _ c.entry_end-e.ensures c.if-e-eq0.true)

pub overflow_add-at : goal.overflow_add-at
overflow_add-at c = let x = entry (goal.at.overflow_add-at c).Else-e-eq0 in omega (arith, x.head, x.within)

pub offset_bounds-blocks-at-in-loop-at : goal.offset_bounds-blocks-at-in-loop-at
offset_bounds-blocks-at-in-loop-at c = let x = entry (goal.at.offset_bounds-blocks-at-in-loop-at c).Else-e-eq0 in omega (arith, x.head, x.within)

pub slice_bounds-lay_entry-count : goal.slice_bounds-lay_entry-count
slice_bounds-lay_entry-count c = let x = entry (goal.at.slice_bounds-lay_entry-count c).Else-e-eq0 in omega (arith, x.head, x.within)

pub slice_bounds-lay_entry-start : goal.slice_bounds-lay_entry-start
slice_bounds-lay_entry-start c = let x = entry (goal.at.slice_bounds-lay_entry-start c).Else-e-eq0 in omega (arith, x.head, x.within)

pub slice_bounds-lay_entry-end : goal.slice_bounds-lay_entry-end
slice_bounds-lay_entry-end c = let x = entry (goal.at.slice_bounds-lay_entry-end c).Else-e-eq0 in omega (arith, x.head, x.within)

pub lay_entry-s-requires : goal.lay_entry-s-requires
lay_entry-s-requires c =
    record { w = c.requires.w; stands = c.loop-at.invariant.stands c.requires.w c.requires.stands }

pub returns-in-Refused : goal.returns-in-Refused
returns-in-Refused c =
    run_is _ _ _ _ _ c.ended-in-Refused.ensures
    (stops_refused c.loop-at.invariant _ (entry (goal.at.returns-in-Refused c).Else-e-eq0) c.lay_entry-s.result _ c.lay_entry-s.ensures _ c.in-Refused.is)

pub returns-in-Unfinished : goal.returns-in-Unfinished
returns-in-Unfinished c =
    run_is _ _ _ _ _ c.ended-in-Unfinished.ensures
    (stops_unfinished c.loop-at.invariant _ (entry (goal.at.returns-in-Unfinished c).Else-e-eq0) c.lay_entry-s.result _ c.lay_entry-s.ensures c.in-Unfinished.is)

pub overflow_add-finished : goal.overflow_add-finished
overflow_add-finished c =
    omega (arith, c.loop-at.invariant.few, c.loop-at-test.true)

pub loop-at-smaller : goal.loop-at-smaller
loop-at-smaller c =
    let x = entry (goal.at.loop-at-smaller c).Else-e-eq0 in
    omega (arith, x.head, x.within)

pub loop-at-preserved : goal.loop-at-preserved
loop-at-preserved c =
    goes_on c.loop-at.invariant _ (entry (goal.at.loop-at-preserved c).Else-e-eq0) c.lay_entry-s.result _ c.lay_entry-s.ensures c.in-Finished.is c.lay_entry-s.auto.line

pub returns : goal.returns
returns c = run_is _ _ _ _ _ c.ended-2.ensures (all_laid c.loop-at.invariant c.loop-at-test.false)
