-- `line::settings::fault_by` meets its contract. Assumes nothing.
use mathlib.Core.Path.{◌≡◌, refl, sym, ap, ◌∙◌}
use mathlib.Core.Bool.{false, not}
use lib.Dec.{eqb, ltb}
use borrow.Author.Tests.{eq-eqb, ne_eqb, lt-ltb, le-ltb}
use Rattle.lists.proofs.Refusals.{LowestOf, low_none, low_hit, low_miss, low_step}
use Rattle.line.specs.declared.systems.System.{System}
use Rattle.line.specs.Systems.{system_of}
use Rattle.line.specs.Fixed.{block_refused}
use Rattle.line.specs.Settings.{settings_fault, settings_faults}
use Rattle.line.proofs.settings.fault_by.Goals as goal
use Rattle.line.proofs.settings.fault_by.Goals.{Else-settings-s, Else-settings-gt1, After-block_refused}

-- what the tests found
module _ (c : Else-settings-s) where
  code-good : not (eqb c.args.settings.code (system_of c.args.system).code) ≡ false
  code-good = ap not (eq-eqb _ _ (c.if-settings-s.false ∙ ap (λ (y : System). y.code) c.system_of-s.ensures))

module _ (c : Else-settings-gt1) where
  aai-good : ltb 1 c.args.settings.aai ≡ false
  aai-good = le-ltb _ _ c.if-settings-gt1.false

module _ (c : After-block_refused) where
  asked : c.block_refused.result
      ≡ block_refused (system_of c.args.system).payload c.args.settings.block
      c.args.settings.flag
  asked =
      let g = c.args in
      c.block_refused.ensures ∙ ap (λ (y : System). block_refused y.payload g.settings.block g.settings.flag) c.system_of-s.ensures

pub returns-then-settings-s : goal.returns-then-settings-s
unfolding settings_fault settings_faults
returns-then-settings-s c =
    let g = c.args in
    let l : LowestOf (settings_faults (system_of g.system) g.settings) 10 =
    low_hit 10 (ap not (ne_eqb _ _ (λ e. c.if-settings-s.true (e ∙ sym (ap (λ (y : System). y.code) c.system_of-s.ensures))))) in
    l.is

pub returns-then-settings-gt1 : goal.returns-then-settings-gt1
unfolding settings_fault settings_faults
returns-then-settings-gt1 c =
    let g = c.args in
    let l : LowestOf (settings_faults (system_of g.system) g.settings) 11 = low_miss 10 (code-good (goal.at.returns-then-settings-gt1 c).Else-settings-s) (low_hit 11 (lt-ltb _ _ c.if-settings-gt1.true)) in
    l.is

pub returns-then-block_refused : goal.returns-then-block_refused
unfolding settings_fault settings_faults
returns-then-block_refused c =
    let g = c.args in
    let l : LowestOf (settings_faults (system_of g.system) g.settings) 12 =
    low_miss 10 (code-good (goal.at.returns-then-block_refused c).Else-settings-s) (low_miss 11 (aai-good (goal.at.returns-then-block_refused c).Else-settings-gt1) (low_hit 12 (sym (asked (goal.at.returns-then-block_refused c).After-block_refused) ∙ c.if-block_refused.true))) in
    l.is

pub returns : goal.returns
unfolding settings_fault settings_faults
returns c =
    let g = c.args in
    let l : LowestOf (settings_faults (system_of g.system) g.settings) c.or_else.result =
    low_miss 10 (code-good (goal.at.returns c).Else-settings-s)
    (low_miss 11 (aai-good (goal.at.returns c).Else-settings-gt1)
    (low_miss 12 (sym (asked (goal.at.returns c).After-block_refused) ∙ c.if-block_refused.false)
    (low_step 13 c.or_else.ensures refl low_none))) in
    l.is
