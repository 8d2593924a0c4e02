-- `bytewriter::lent::is_lent` meets its contract. Assumes nothing.
use mathlib.Core.Path.{ap}
use mathlib.Core.Bool.{Bool, ◌&&◌}
use lib.Dec.{leb}
use lib.ListN.{length}
use Rattle.bytewriter.proofs.lent.is_lent.Goals as goal

pub returns : goal.returns
returns c = ap (λ (b : Bool). b && leb (length c.args.line.now) 4608) c.is_even.ensures
