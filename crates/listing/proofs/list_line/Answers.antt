use mathlib.Core.Path.{sym, ◌∙◌}
use native.Mathlib.Omega.{arith}
use borrow.Author.Rules.{rules}
use Rattle.listing.proofs.LoopLaws.{Taken, lines_start, lines_turn, lines_over, lines_all}
use Rattle.listing.proofs.list_line.Goals as goal

pub loop-init : goal.loop-init
loop-init c = lines_start _ _ _ _

pub loop-preserved : goal.loop-preserved
loop-preserved c =
    let p = c.put_row-n in
    let t : Taken c.args.line.now c.loop.state c.loop.room c.loop.text c.loop.n c.read-told.result c.read-told.new.room p.new.text p.result = record {
      call_is = c.read-told.ensures.0;
      row_is = p.ensures.0;
      at_most = p.ensures.1;
      room_long = search rules;
      text_long = search rules;
    } in
    lines_turn _ _ _ _ _ _ _ _ _ _ _ _ _ c.loop.invariant (omega (arith, c.loop-test.true)) t (sym c.goes_on.ensures ∙ c.if-not-goes_on.false)

pub returns-after-loop : goal.returns-after-loop
returns-after-loop c =
    let l = c.loop.invariant in
    (lines_all _ _ _ _ _ _ _ _ _ l (omega (arith, c.loop-test.false)), omega (arith, l.short, l.few, l.same_text, c.requires))

pub returns-then-not-goes_on : goal.returns-then-not-goes_on
returns-then-not-goes_on c =
    let l = c.loop.invariant in
    let p = c.put_row-n in
    let t : Taken c.args.line.now c.loop.state c.loop.room c.loop.text c.loop.n c.read-told.result c.read-told.new.room p.new.text p.result = record {
      call_is = c.read-told.ensures.0;
      row_is = p.ensures.0;
      at_most = p.ensures.1;
      room_long = search rules;
      text_long = search rules;
    } in (
      lines_over _ _ _ _ _ _ _ _ _ _ _ _ _ l (omega (arith, c.loop-test.true)) t (sym c.goes_on.ensures ∙ c.if-not-goes_on.true),
      omega (arith, t.at_most, t.text_long, c.loop-test.true, l.short, l.same_text, c.requires),
    )
