-- `linecheck::area::area_fault` meets its contract. Assumes nothing.
use mathlib.Core.Path.{ap, ap₂}
use mathlib.Core.Bool.{◌&&◌, not}
use Rattle.lists.proofs.Refusals.{LowestOf, low_none, low_step}
use Rattle.line.specs.Check.{area_faults}
use Rattle.linecheck.proofs.area.area_fault.Goals as goal

pub returns : goal.returns
unfolding area_faults
returns c =
    let a = c.args in
    let lowest : LowestOf (area_faults a.mode a.variable a.flag a.area.now a.end.now) c.or_else.result =
    low_step 15 c.or_else.ensures (ap not (ap₂ ◌&&◌ c.all_legal-legal.ensures c.all_data-formed.ensures)) (low_step 16 c.or_else-r16.ensures (ap not c.end_stands.ensures) low_none) in
    lowest.is
