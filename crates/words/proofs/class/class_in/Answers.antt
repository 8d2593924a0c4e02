-- `words::class::class_in` meets its contract: it is the class of the entry's bit. Assumes nothing.
use mathlib.Core.Path.{ap, ◌∙◌}
use Rattle.words.specs.Table.{class_of_bit, class_in}
use Rattle.words.proofs.TableLaws.{class_entered}
use Rattle.words.proofs.class.class_in.Goals as goal

pub returns : goal.returns
unfolding class_in
returns c = class_entered _ _ _ (c.class_of_bit.ensures ∙ ap class_of_bit c.bit_in.ensures)
