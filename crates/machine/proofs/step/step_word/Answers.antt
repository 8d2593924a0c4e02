-- `machine::step::step_word` meets its contract. Assumes nothing.
use mathlib.Core.Path.{◌∙◌}
use Rattle.machine.proofs.StepLaws.{step_numbered, step_classed}
use Rattle.machine.proofs.step.step_word.Goals as goal

pub returns : goal.returns
returns c =
    let a = c.args in
    step_numbered a.mode a.room a.phase a.w _ (c.step_by.ensures ∙ step_classed a.mode a.room a.phase a.w _ c.class_of.ensures.0)
