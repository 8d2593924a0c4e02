-- `words::forms::is_data` meets its contract. Assumes nothing.
use mathlib.Core.Path.{sym}
use Rattle.words.proofs.FormLaws.{data_range}
use Rattle.words.proofs.forms.is_data.Goals as goal

pub returns : goal.returns
returns c = sym (data_range c.args.w)
