-- `linecheck::area::is_eight_or_code` meets its contract. Assumes nothing.
use Rattle.line.proofs.AreaLaws.{code_legal}
use Rattle.linecheck.proofs.area.is_eight_or_code.Goals as goal

pub returns : goal.returns
returns c = code_legal 8 _ _ _ c.is_eight.ensures c.is_code.ensures
