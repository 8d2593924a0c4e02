-- `lines::opening::open_fault` meets its contract. Assumes nothing.
use mathlib.Core.Path.{ap}
use mathlib.Core.Bool.{◌&&◌, not}
use lib.Dec.{leb}
use Rattle.lists.proofs.Refusals.{LowestOf, low_none, low_step, low_append}
use Rattle.line.specs.declared.systems.System.{System}
use Rattle.line.specs.Systems.{system_of}
use Rattle.line.specs.Settings.{settings_faults, settings_fault}
use Rattle.line.proofs.CheckLaws.{settings_rising}
use Rattle.writer.specs.Opening.{open_faults, open_fault}
use Rattle.lines.proofs.opening.open_fault.Goals as goal

pub returns : goal.returns
unfolding open_fault settings_fault
returns c =
    let g = c.args in
    let number = ap (λ (s : System). not (leb 1 g.n && leb g.n s.lines)) c.system_of-s.ensures in
    let t = settings_faults (system_of g.w.system) g.t in
    let l : LowestOf (open_faults g.w g.n g.t g.long) c.or_else.result =
    low_step 1 c.or_else.ensures (ap not c.is_fit.ensures)
    (low_step 2 c.or_else-r2.ensures c.is_impossible.ensures
    (low_step 9 c.or_else-r9.ensures number
    (low_append t _ (settings_rising _ _) c.or_next-r10.ensures c.settings_fault-fault.ensures
    (low_step 20 c.or_else-r20.ensures c.is_blocked.ensures low_none)))) in
    l.is
