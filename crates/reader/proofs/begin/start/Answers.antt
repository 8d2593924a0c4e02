-- `reader::begin::start` meets its contract. Assumes nothing.
use Rattle.std.proofs.Common.{arith}
use Rattle.std.proofs.lemmas.Grind.{common_steps}
use Rattle.lists.specs.Tests.{pick}
use Rattle.reader.specs.Reading.{starts}
use Rattle.reader.proofs.NumberLaws.{start_numbered}
use Rattle.reader.proofs.begin.start.Goals as goal

pub returns-then-c-ne0 : goal.returns-then-c-ne0
unfolding starts pick
returns-then-c-ne0 c = start_numbered c.args.st c.args.line.now _ (grind (arith, common_steps))

pub returns : goal.returns
unfolding starts pick
returns c = start_numbered c.args.st c.args.line.now _ (grind (arith, common_steps))
