-- `bytereader::goes::unit_of` meets its contract. Assumes nothing.
use mathlib.Core.Path.{sym, ◌∙◌}
use Rattle.reader.proofs.Cutting.{unit_variable, unit_fixed}
use Rattle.bytereader.proofs.goes.unit_of.Goals as goal

pub returns-then-is_variable : goal.returns-then-is_variable
returns-then-is_variable c = sym (unit_variable _ (sym c.is_variable.ensures ∙ c.if-is_variable.true))

pub returns : goal.returns
returns c = c.from.ensures ∙ c.requires ∙ sym (unit_fixed _ (sym c.is_variable.ensures ∙ c.if-is_variable.false))
