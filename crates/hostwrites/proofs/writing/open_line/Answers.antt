-- `hostwrites::writing::open_line` meets its contract: its three ways are those of every writer's call. Assumes nothing.
use mathlib.Core.Path.{refl, sym, ap, ◌∙◌}
use borrow.Author.Tests.{eq-eqb}
use Rattle.lists.proofs.Tests.{pick_true}
use Rattle.fields.specs.Fields.{settings_from}
use Rattle.writer.specs.Answers.{left}
use Rattle.calls.specs.Writing.{opens}
use Rattle.calls.proofs.CallLaws.{opening_call, wrong, away, made, filled, misfit, fit, as_long, opens_with}
use Rattle.hostwrites.proofs.AskedLaws.{asked}
use Rattle.hostwrites.proofs.writing.open_line.Goals as goal

pub returns-then-state-settings : goal.returns-then-state-settings
unfolding opens
returns-then-state-settings c =
    wrong (opening_call c.args.state.now c.args.f c.args.v c.args.number c.args.settings.now c.args.line.now) (misfit c.args.state.now c.args.settings.now 80 41 c.if-state-settings.true)

pub spelt_in-spelt-requires : goal.spelt_in-spelt-requires
spelt_in-spelt-requires c = (as_long c.args.state.now c.args.settings.now 80 41 c.if-state-settings.false).0

pub returns-then-n-ne0 : goal.returns-then-n-ne0
unfolding opens
returns-then-n-ne0 c =
    let long = as_long c.args.state.now c.args.settings.now 80 41 c.if-state-settings.false in
    let fits = eq-eqb _ 80 long.0 ∙ sym (fit c.args.state.now c.args.settings.now 80 41 c.if-state-settings.false) in
    away (opening_call c.args.state.now c.args.f c.args.v c.args.number c.args.settings.now c.args.line.now) fits refl (asked _ _ _ long.0 c.spelt_in-spelt.ensures c.barred-n.ensures) c.if-n-ne0.true

pub returns : goal.returns
unfolding opens
returns c =
    let right = fit c.args.state.now c.args.settings.now 80 41 c.if-state-settings.false in
    let long = as_long c.args.state.now c.args.settings.now 80 41 c.if-state-settings.false in
    let none = sym (asked _ _ _ long.0 c.spelt_in-spelt.ensures c.barred-n.ensures) ∙ c.if-n-ne0.false in
    let settings = c.settings_of-t.ensures ∙ ap settings_from (c.array_of.ensures ∙ pick_true _ _ (eq-eqb 41 _ (sym long.1))) in
    made (opening_call c.args.state.now c.args.f c.args.v c.args.number c.args.settings.now c.args.line.now) (eq-eqb _ 80 long.0 ∙ sym right) refl right none (left _ _ _) c.spelt_in-spelt.ensures.0
    (c.open_line-x.ensures ∙ opens_with _ _ _ _ c.sixteen.ensures settings) (filled 80 c.args.state.now _ _ long.0 c.put_image.ensures) c.done_answer.ensures
