-- `bytereader::goes::place_by` meets its contract. Assumes nothing.
use Rattle.std.proofs.Common.{sym, ap, inl, inr}
use Rattle.machine.specs.declared.step.Met.{Met}
use Rattle.bytereader.specs.Calls.{place_by}
use Rattle.bytereader.proofs.goes.place_by.Goals as goal

pub returns-in-Whole : goal.returns-in-Whole
returns-in-Whole c = elim c.in-Whole.is [
  | inl w ↦ sym (ap (λ (m : Met). place_by m c.args.q) w.2)
  | inr w ↦ sym (ap (λ (m : Met). place_by m c.args.q) w.1)
]
