-- `linecheck::check::check` meets its contract. Assumes nothing.
use mathlib.Core.Path.{sym, ap₂, ◌∙◌}
use Prim.Native.Nat.{ℕ}
use native.Mathlib.Omega.{arith}
use Rattle.line.specs.declared.settings.Settings.{Settings}
use Rattle.line.proofs.SystemLaws.{fitting}
use Rattle.line.proofs.CheckLaws.{answer_1, answer_found, answer_fault}
use Rattle.linecheck.proofs.check.check.Goals as goal

pub returns-then-not-is_fit : goal.returns-then-not-is_fit
returns-then-not-is_fit c =
    let a = c.args in
    c.faulty.ensures ∙ sym (answer_1 a.system a.mode a.line.now (sym c.is_fit.ensures ∙ c.if-not-is_fit.true))

pub settings_of-settings-requires : goal.settings_of-settings-requires
settings_of-settings-requires c =
    let a = c.args in
    let k = fitting a.system a.mode a.line.now (sym c.is_fit.ensures ∙ c.if-not-is_fit.false) in
    omega (arith, k.row.room, k.long)

pub fault_of-fault-requires : goal.fault_of-fault-requires
fault_of-fault-requires c = (sym c.is_fit.ensures ∙ c.if-not-is_fit.false, c.settings_of-settings.ensures)

pub returns-then-fault-ne0 : goal.returns-then-fault-ne0
returns-then-fault-ne0 c =
    let a = c.args in
    c.faulty-then-fault-ne0.ensures
    ∙ sym (answer_fault a.system a.mode a.line.now c.fault_of-fault.result (sym c.is_fit.ensures ∙ c.if-not-is_fit.false) c.fault_of-fault.ensures c.if-fault-ne0.true)

pub number_of-requires : goal.number_of-requires
number_of-requires c =
    let a = c.args in
    let k = fitting a.system a.mode a.line.now (sym c.is_fit.ensures ∙ c.if-not-is_fit.false) in
    omega (arith, k.row.room, k.long)

pub returns : goal.returns
returns c =
    let a = c.args in
    ap₂ (λ (n : ℕ) (t : Settings). record { fault = 0; number = n; settings = t }) c.number_of.ensures c.settings_of-settings.ensures
    ∙ sym (answer_found a.system a.mode a.line.now 0 (sym c.is_fit.ensures ∙ c.if-not-is_fit.false) (sym c.if-fault-ne0.false ∙ c.fault_of-fault.ensures))
