-- `linecheck::area::all_legal` meets its contract: the words left out hold whatever is asked. Assumes nothing.
use mathlib.Core.Path.{◌∙◌}
use Rattle.linecheck.proofs.area.all_legal.Goals as goal

pub returns : goal.returns
returns c = c.each_legal.ensures ∙ c.behind_formed.ensures c.args.variable
