-- `words::class::classes` meets its contract: the table's rule, computed at each of its entries. Assumes nothing.
use mathlib.Core.Path.{refl}
use Rattle.lists.specs.Tests.{pick}
use Rattle.words.specs.Forms.{xor_of, parity, is_data, is_byte}
use Rattle.words.specs.Class.{class_of}
use Rattle.words.specs.Table.{class_table}
use Rattle.words.proofs.class.classes.Goals as goal

pub returns : goal.returns
unfolding class_table class_of is_byte is_data parity xor_of pick
returns c = refl
