-- `blocks::block::lay_place` meets its contract. Assumes nothing.
use mathlib.Core.Path.{sym, ◌∙◌}
use Rattle.blocks.specs.Block.{fixed_words}
use Rattle.blocks.proofs.Lengths.{fixed_long}
use Rattle.blocks.proofs.LaidLaws.{filled, unfilled}
use Rattle.blocks.proofs.block.lay_place.Goals as goal

pub returns-then-values-out : goal.returns-then-values-out
returns-then-values-out c =
    let a = c.args in
    unfilled (fixed_words a.mode a.kind a.values.now) a.out.now a.c (λ e. c.if-values-out.true (sym (fixed_long a.mode a.kind a.values.now) ∙ e))

pub lay_fixed-requires : goal.lay_fixed-requires
lay_fixed-requires c = sym c.if-values-out.false

pub returns : goal.returns
returns c =
    let a = c.args in
    filled (fixed_words a.mode a.kind a.values.now) a.out.now a.c _ _
    (fixed_long a.mode a.kind a.values.now ∙ c.if-values-out.false) c.lay_fixed.ensures c.crc_of.ensures
