-- `hostwrites::writing::add_blocks` meets its contract: its three ways are those of every writer's call. Assumes nothing.
use mathlib.Core.Path.{refl, sym, ◌∙◌}
use borrow.Author.Tests.{ne_eqb, eq-eqb}
use Rattle.writer.specs.Batch.{batched}
use Rattle.calls.specs.Writing.{adds_many}
use Rattle.calls.proofs.CallLaws.{many_call, wrong, away, made, filled}
use Rattle.hostwrites.proofs.AskedLaws.{asked}
use Rattle.hostwrites.proofs.writing.add_blocks.Goals as goal

pub returns-then-state-ne80 : goal.returns-then-state-ne80
unfolding adds_many
returns-then-state-ne80 c = wrong (many_call _ _ _ _) (ne_eqb _ 80 c.if-state-ne80.true)

pub returns-then-n-ne0 : goal.returns-then-n-ne0
unfolding adds_many
returns-then-n-ne0 c = away (many_call _ _ _ _) refl c.is_even.ensures (asked _ _ _ c.if-state-ne80.false c.spelt_in-spelt.ensures c.barred-n.ensures) c.if-n-ne0.true

pub returns : goal.returns
unfolding adds_many
returns c =
    let long = c.if-state-ne80.false in
    let none = sym (asked _ _ _ long c.spelt_in-spelt.ensures c.barred-n.ensures) ∙ c.if-n-ne0.false in
    made (many_call _ _ _ _) refl c.is_even.ensures (eq-eqb _ 80 long) none (batched _ _ _ _) c.spelt_in-spelt.ensures.0 c.add_blocks-x.ensures (filled 80 c.args.state.now _ _ long c.put_image.ensures) c.stop_answer.ensures
