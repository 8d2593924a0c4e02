-- The refusals of the line check: their numbers rise, so that the answer is the lowest whose condition holds; and what the check answers,
-- by the fault that it found.
-- Assumes nothing.
use mathlib.Core.Path.{◌≡◌, refl, sym, ap, ◌∙◌, subst}
use mathlib.Core.Bool.{true, false, not}
use mathlib.Core.List.{List}
use mathlib.Core.Logic.{⊎_elim}
use Prim.Native.Nat.{ℕ, zero, suc, ◌≤◌}
use native.Mathlib.Omega.{arith}
use Rattle.lists.specs.Tests.{lowest_of, rising_from, rising}
use Rattle.lists.proofs.Tests.{true_false, pick_true, pick_false}
use Rattle.lists.proofs.Refusals.{lowest_or, given_holds}
use Rattle.line.specs.declared.settings.Settings.{Settings}
use Rattle.line.specs.declared.systems.System.{System}
use Rattle.line.specs.Systems.{system_of}
use Rattle.line.specs.Settings.{settings_faults}
use Rattle.line.specs.Check.{head_faults, area_faults, payload_faults, fits, faults, line_faults, line_fault, faulty_with, checked_from, checked_of}

-- ---- the numbers rise, whatever the conditions are
pub head_rising : (s : System) (line : List ℕ) → rising (head_faults s line) ≡ true
unfolding head_faults
head_rising s line = refl

pub settings_rising : (s : System) (t : Settings) → rising (settings_faults s t) ≡ true
unfolding settings_faults
settings_rising s t = refl

-- 3 to 16 from above 2, and with 1 before them
pub faults_rising : (s : System) (mode : ℕ) (line : List ℕ) → rising_from 2 (faults s mode line) ≡ true
unfolding faults head_faults settings_faults payload_faults area_faults
faults_rising s mode line = refl

pub check_rising : (system mode : ℕ) (line : List ℕ) → rising (line_faults system mode line) ≡ true
unfolding faults head_faults settings_faults payload_faults area_faults
check_rising system mode line = refl

-- ---- the answer
fault_from : (n : ℕ) (line : List ℕ) → (n ≡ 0 → ⊥) → checked_from n line ≡ faulty_with n
fault_from zero line h = absurd (h refl)
fault_from (suc n) line h = refl

module _ (system mode : ℕ) (line : List ℕ) where
  -- 1, or what 3 to 16 give
  pub fault_1 : fits system mode line ≡ false → line_fault system mode line ≡ 1
  unfolding line_fault
  fault_1 f = pick_true 1 _ (ap not f)

  pub fault_of_fit : fits system mode line ≡ true → line_fault system mode line ≡ lowest_of (faults (system_of system) mode line)
  unfolding line_fault
  fault_of_fit f = pick_false 1 _ (ap not f)

  -- a fault of a line that fits is none of 1 and 2
  pub from_three : fits system mode line ≡ true → (line_fault system mode line ≡ 0 → ⊥) → 3 ≤ line_fault system mode line
  from_three f h =
      let is = fault_of_fit f in
      subst (λ (n : ℕ). 3 ≤ n) (sym is) (⊎_elim (λ z. absurd (h (is ∙ z))) (λ z. z) (lowest_or 2 (faults (system_of system) mode line) (faults_rising (system_of system) mode line)))

  -- the check has no 2
  pub fault_not_2 : line_fault system mode line ≡ 2 → ⊥
  unfolding line_fault faults head_faults settings_faults payload_faults area_faults
  fault_not_2 e = true_false (sym (given_holds 2 (line_faults system mode line) e (λ z. omega arith)))

  pub answer_1 : fits system mode line ≡ false → checked_of system mode line ≡ faulty_with 1
  unfolding checked_of
  answer_1 f = ap (λ (n : ℕ). checked_from n line) (fault_1 f)

  pub answer_found : (n : ℕ) → fits system mode line ≡ true → n ≡ lowest_of (faults (system_of system) mode line) → checked_of system mode line ≡ checked_from n line
  unfolding checked_of
  answer_found n f e = ap (λ (k : ℕ). checked_from k line) (fault_of_fit f ∙ sym e)

  pub answer_fault : (n : ℕ) → fits system mode line ≡ true → n ≡ lowest_of (faults (system_of system) mode line) → (n ≡ 0 → ⊥) → checked_of system mode line ≡ faulty_with n
  answer_fault n f e h = answer_found n f e ∙ fault_from n line h
