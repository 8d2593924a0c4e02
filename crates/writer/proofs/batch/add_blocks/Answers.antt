-- `writer::batch::add_blocks` meets its contract. Assumes nothing.
use mathlib.Core.Path.{sym, ◌∙◌}
use lib.ListN.{length}
use Rattle.writer.specs.Ground.{Stands}
use Rattle.writer.proofs.GroundLaws.{stands_in}
use Rattle.writer.proofs.BatchLaws.{batch_refused, batch_done, batches_numbered}
use Rattle.writer.proofs.batch.add_blocks.Goals as goal
use Rattle.writer.proofs.batch.add_blocks.Goals.{After-held_in}

-- neither 1 nor 2 holds
stands : (h : After-held_in) →
    let a = h.args in
    Stands a.w h.ask-x.result.ground h.held_in.result (length a.line.now)
stands h =
    let a = h.args in
    stands_in a.w _ _ (length a.line.now) (sym h.ask-x.ensures.0 ∙ h.if-x-ne0.false) h.ask-x.ensures.1 h.held_in.ensures

pub returns-then-x-ne0 : goal.returns-then-x-ne0
returns-then-x-ne0 c =
    let a = c.args in
    batches_numbered a.w a.line.now a.blocks.now _ (batch_refused a.w a.line.now a.blocks.now _ c.ask-x.ensures.0 c.if-x-ne0.true)

pub lay_all-r-requires : goal.lay_all-r-requires
lay_all-r-requires c = record { w = c.args.w; stands = stands (goal.at.lay_all-r-requires c).After-held_in }

pub returns : goal.returns
returns c =
    let a = c.args in
    batches_numbered a.w a.line.now a.blocks.now _
    (batch_done a.line.now a.blocks.now c.lay_all-r.result _ (stands (goal.at.returns c).After-held_in) c.held_in.ensures (sym c.ask-x.ensures.0 ∙ c.if-x-ne0.false) c.lay_all-r.ensures _ c.state_with.ensures)
