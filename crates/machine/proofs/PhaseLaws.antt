-- 01's numbers of a phase say which phase it is, and those of a report which report.
-- Assumes nothing.
use mathlib.Core.Path.{◌≡◌, refl, sym, ap, ◌∙◌}
use mathlib.Core.List.{List, [], ◌∷◌}
use Prim.Native.Nat.{ℕ, zero, suc}
use Rattle.machine.specs.declared.phase.Mark.{Mark}
use Rattle.machine.specs.declared.phase.Mark.TheVariants.{Typed, Nulled}
use Rattle.machine.specs.declared.phase.Phase.{Phase}
use Rattle.machine.specs.declared.phase.Phase.TheVariants.{Idle, Kind, First, Second, Third, Fourth, Data}
use Rattle.machine.specs.declared.step.Met.{Met}
use Rattle.machine.specs.declared.step.Met.TheVariants.{Nothing, Whole, Lost}
use Rattle.machine.specs.Phases.{phase_numbers, met_numbers}

-- ---- the phase that numbers spell
counting : Mark → List ℕ → Phase
counting k [] = First k
counting k (a ∷ []) = Second k a
counting k (a ∷ b ∷ []) = Third k a b
counting k (a ∷ b ∷ c ∷ l) = Fourth k a b c

collecting : Mark → List ℕ → Phase
collecting k (n ∷ m ∷ l) = Data k n m
collecting k (n ∷ []) = Idle
collecting k [] = Idle

-- behind a type
typed : (Mark → List ℕ → Phase) → List ℕ → Phase
typed f [] = Idle
typed f (k ∷ l) = f (Typed k) l

phase_back : List ℕ → Phase
phase_back [] = Idle
phase_back (zero ∷ l) = Idle
phase_back (suc zero ∷ l) = Kind
phase_back (suc (suc zero) ∷ l) = typed counting l
phase_back (suc (suc (suc zero)) ∷ l) = typed collecting l
phase_back (suc (suc (suc (suc zero))) ∷ l) = counting Nulled l
phase_back (suc (suc (suc (suc (suc n)))) ∷ l) = collecting Nulled l

phase_back_lem : (p : Phase) → phase_back (phase_numbers p) ≡ p
unfolding phase_back counting collecting typed
phase_back_lem Idle = refl
phase_back_lem Kind = refl
phase_back_lem (First (Typed k)) = refl
phase_back_lem (Second (Typed k) a) = refl
phase_back_lem (Third (Typed k) a b) = refl
phase_back_lem (Fourth (Typed k) a b c) = refl
phase_back_lem (Data (Typed k) n m) = refl
phase_back_lem (First Nulled) = refl
phase_back_lem (Second Nulled a) = refl
phase_back_lem (Third Nulled a b) = refl
phase_back_lem (Fourth Nulled a b c) = refl
phase_back_lem (Data Nulled n m) = refl

pub phase_injective : (p q : Phase) → phase_numbers p ≡ phase_numbers q → p ≡ q
phase_injective p q e = sym (phase_back_lem p) ∙ ap phase_back e ∙ phase_back_lem q

-- ---- the report that numbers spell
met_back : List ℕ → Met
met_back [] = Nothing
met_back (n ∷ []) = Nothing
met_back (n ∷ a ∷ []) = Lost a
met_back (n ∷ a ∷ b ∷ l) = Whole a b

met_back_lem : (x : Met) → met_back (met_numbers x) ≡ x
unfolding met_back
met_back_lem Nothing = refl
met_back_lem (Whole k n) = refl
met_back_lem (Lost n) = refl

pub met_injective : (x y : Met) → met_numbers x ≡ met_numbers y → x ≡ y
met_injective x y e = sym (met_back_lem x) ∙ ap met_back e ∙ met_back_lem y
