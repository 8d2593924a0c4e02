-- `linecheck::area::is_nine_or_code` meets its contract. Assumes nothing.
use mathlib.Core.Path.{◌∙◌}
use Rattle.line.proofs.AreaLaws.{nine_legal, code_legal}
use Rattle.linecheck.proofs.area.is_nine_or_code.Goals as goal

pub returns : goal.returns
returns c = code_legal 9 _ _ _ (c.is_data.ensures ∙ nine_legal _) c.is_code.ensures
