-- `words::class::is_code` meets its contract. Assumes nothing.
use Rattle.words.proofs.ClassLaws.{code_class}
use Rattle.words.proofs.class.is_code.Goals as goal

pub returns : goal.returns
returns c = code_class c.args.w
