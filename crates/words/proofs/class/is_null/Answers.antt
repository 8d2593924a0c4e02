-- `words::class::is_null` meets its contract. Assumes nothing.
use Rattle.words.proofs.ClassLaws.{null_class}
use Rattle.words.proofs.class.is_null.Goals as goal

pub returns : goal.returns
returns c = null_class c.args.w
