-- `walks::in_words::has_null_four` meets its contract: four tests, one after the other. Assumes nothing.
use Rattle.machine.proofs.PlaceLaws.{null_four}
use Rattle.walks.proofs.in_words.has_null_four.Goals as goal

pub returns : goal.returns
returns c = null_four _ _ _ _ _ _ _ _ c.is_null.ensures c.is_null-2.ensures c.is_null-3.ensures c.is_null-4.ensures
