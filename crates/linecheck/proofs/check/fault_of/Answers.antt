-- `linecheck::check::fault_of` meets its contract: the lists of 3 to 9, of 10 to 13 and of 15 and 16 are one behind the other. Assumes nothing.
use mathlib.Core.Path.{◌≡◌, sym, ap, ap₂, ◌∙◌}
use Prim.Native.Nat.{ℕ}
use mathlib.Core.List.{List, ◌++◌}
use Rattle.lists.specs.Tests.{Refusal, lowest_of, or_next}
use Rattle.lists.proofs.Refusals.{found_first, lowest_append}
use Rattle.line.specs.declared.systems.System.{System}
use Rattle.line.specs.declared.settings.Settings.{Settings}
use Rattle.line.specs.Systems.{system_of}
use Rattle.line.specs.Settings.{settings_faults, settings_fault}
use Rattle.line.specs.Check.{settings_of, head_faults, payload_faults, faults}
use Rattle.line.proofs.SystemLaws.{room_of}
use Rattle.line.proofs.CheckLaws.{head_rising, settings_rising}
use Rattle.linecheck.proofs.check.fault_of.Goals as goal
use Rattle.linecheck.proofs.check.fault_of.Goals.{After-head_fault-r3, After-settings_fault-r10, Else-r3-ne0}

-- the answer by the three lists
module _ (system mode : ℕ) (line : List ℕ) where
  payload : List Refusal
  payload = payload_faults (system_of system) mode (settings_of line).block (settings_of line).flag line

  joined : lowest_of (faults (system_of system) mode line) ≡ or_next (lowest_of (head_faults (system_of system) line)) (or_next (settings_fault system (settings_of line)) (lowest_of payload))
  unfolding faults settings_fault payload
  joined =
      lowest_append (head_faults (system_of system) line) (settings_faults (system_of system) (settings_of line) ++ payload) (head_rising _ _)
      ∙ ap (or_next (lowest_of (head_faults (system_of system) line))) (lowest_append (settings_faults (system_of system) (settings_of line)) payload (settings_rising _ _))

-- what the head and the settings gave
head_is : (c : After-head_fault-r3) → let a = c.args in c.head_fault-r3.result ≡ lowest_of (head_faults (system_of a.system) a.line.now)
head_is c = let a = c.args in c.head_fault-r3.ensures ∙ ap (λ (x : System). lowest_of (head_faults x a.line.now)) c.system_of-s.ensures

settings_are : (c : After-settings_fault-r10) → let a = c.args in c.settings_fault-r10.result ≡ settings_fault a.system (settings_of a.line.now)
settings_are c =
    c.settings_fault-r10.ensures ∙ ap (settings_fault c.args.system) c.requires.1

-- the head has no fault; nor have the settings
headless : (c : Else-r3-ne0) → (by_head_is : let a = c.args in c.head_fault-r3.result ≡ lowest_of (head_faults (system_of a.system) a.line.now))
    → let a = c.args in
    lowest_of (faults (system_of a.system) a.mode a.line.now)
    ≡ or_next (settings_fault a.system (settings_of a.line.now)) (lowest_of (payload a.system a.mode a.line.now))
headless c by_head_is =
    let a = c.args in
    joined a.system a.mode a.line.now
    ∙ ap (λ (n : ℕ). or_next n (or_next (settings_fault a.system (settings_of a.line.now)) (lowest_of (payload a.system a.mode a.line.now))))
    (sym (by_head_is) ∙ c.if-r3-ne0.false)

pub head_fault-r3-requires : goal.head_fault-r3-requires
head_fault-r3-requires c =
    let a = c.args in
    room_of a.system a.mode a.line.now c.system_of-s.result c.system_of-s.ensures c.requires.0

pub returns-then-r3-ne0 : goal.returns-then-r3-ne0
returns-then-r3-ne0 c =
    let a = c.args in
    let h = head_is (goal.at.returns-then-r3-ne0 c).After-head_fault-r3 in
    h ∙ sym (joined a.system a.mode a.line.now ∙ found_first _ _ (λ z. c.if-r3-ne0.true (h ∙ z)))

pub returns-then-r10-ne0 : goal.returns-then-r10-ne0
returns-then-r10-ne0 c =
    let h = settings_are (goal.at.returns-then-r10-ne0 c).After-settings_fault-r10 in
    h ∙ sym (headless (goal.at.returns-then-r10-ne0 c).Else-r3-ne0 (head_is (goal.at.returns-then-r10-ne0 c).After-head_fault-r3) ∙ found_first _ _ (λ z. c.if-r10-ne0.true (h ∙ z)))

pub payload_fault-requires : goal.payload_fault-requires
payload_fault-requires c =
    let a = c.args in
    room_of a.system a.mode a.line.now c.system_of-s.result c.system_of-s.ensures c.requires.0

pub returns : goal.returns
unfolding payload
returns c =
    let a = c.args in
    let rest = lowest_of (payload a.system a.mode a.line.now) in
    c.payload_fault.ensures
    ∙ ap₂ (λ (y : System) (t : Settings). lowest_of (payload_faults y a.mode t.block t.flag a.line.now)) c.system_of-s.ensures c.requires.1
    ∙ sym (headless (goal.at.returns c).Else-r3-ne0 (head_is (goal.at.returns c).After-head_fault-r3) ∙ ap (λ (n : ℕ). or_next n rest) (sym (settings_are (goal.at.returns c).After-settings_fault-r10) ∙ c.if-r10-ne0.false))
