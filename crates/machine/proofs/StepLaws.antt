-- What a step reports and the next phase have the numbers that `met_by` and `phase_by` say, of every phase and every word.
-- Assumes nothing.
use mathlib.Core.Path.{◌≡◌, refl, ap, ◌∙◌, subst}
use mathlib.Core.Bool.{Bool, true, false, ◌&&◌, ◌||◌, not}
use mathlib.Core.List.{List, [], ◌∷◌}
use Prim.Native.Nat.{ℕ, ◌+◌, ◌*◌, ◌%◌}
use lib.Dec.{eqb, leb, ltb}
use lib.ListN.{get_or}
use Rattle.lists.specs.Tests.{pick}
use Rattle.words.specs.Class.{class_of, class_number, class_number_of}
use Rattle.words.proofs.ClassLaws.{class_numbers}
use Rattle.words.specs.declared.class.Class.{Class}
use Rattle.words.specs.declared.class.Class.TheVariants.{Byte, Other, Separator, Ending, Illegal, Null}
use Rattle.machine.specs.declared.phase.Mark.{Mark}
use Rattle.machine.specs.declared.phase.Mark.TheVariants.{Typed, Nulled}
use Rattle.machine.specs.declared.phase.Phase.{Phase}
use Rattle.machine.specs.declared.phase.Phase.TheVariants.{Idle, Kind, First, Second, Third, Fourth, Data}
use Rattle.machine.specs.declared.step.Met.TheVariants.{Nothing}
use Rattle.machine.specs.declared.step.Step.{Step}
use Rattle.machine.specs.Phases.{phase_numbers, met_numbers}
use Rattle.machine.specs.Machine.{on, dropped, counted, ended, end_step, value_step, step_by, step_of}
use Rattle.machine.specs.StepNumbers.{data_met, met_by, gone_on, phase_by}

-- ---- where the count or the room decides
-- the test is false or true; `next` has the numbers of the phase in which data are collected
counted_by : (t : Bool) (k : Mark) (n : ℕ) (next : List ℕ) → phase_numbers (Data k n 0) ≡ next
    → (met_numbers (pick t (dropped 3) (on (Data k n 0))).met ≡ pick t (3 ∷ 3 ∷ []) (0 ∷ []))
    × (phase_numbers (pick t (dropped 3) (on (Data k n 0))).phase ≡ pick (eqb (get_or (pick t (3 ∷ 3 ∷ []) (0 ∷ [])) 0 0) 0) next (0 ∷ []))
unfolding pick
counted_by true k n next e = (refl, refl)
counted_by false k n next e = (refl, e)

-- what is reported where a block ends properly
handed : Mark → ℕ → List ℕ
handed (Typed k) m = 2 ∷ k ∷ m ∷ []
handed Nulled m = 0 ∷ []

ended_by : (t : Bool) (k : Mark) (m : ℕ)
    → (met_numbers (pick t (ended k m) (dropped 4)).met ≡ pick t (handed k m) (3 ∷ 4 ∷ []))
    × (phase_numbers (pick t (ended k m) (dropped 4)).phase ≡ pick (eqb (get_or (pick t (handed k m) (3 ∷ 4 ∷ [])) 0 0) 0) (0 ∷ []) (0 ∷ []))
unfolding pick handed
ended_by true (Typed k) m = (refl, refl)
ended_by true Nulled m = (refl, refl)
ended_by false k m = (refl, refl)

valued_by : (t u v b : Bool) (k : Mark) (n m : ℕ) (next : List ℕ) → phase_numbers (Data k n (m + 1)) ≡ next
    → (met_numbers (pick t (dropped 5) (pick u (dropped 6) (pick v (dropped 7) (record { phase = Data k n (m + 1); met = Nothing; keeps = b })))).met
    ≡ pick t (3 ∷ 5 ∷ []) (pick u (3 ∷ 6 ∷ []) (pick v (3 ∷ 7 ∷ []) (0 ∷ []))))
    × (phase_numbers (pick t (dropped 5) (pick u (dropped 6) (pick v (dropped 7) (record { phase = Data k n (m + 1); met = Nothing; keeps = b })))).phase
    ≡ pick (eqb (get_or (pick t (3 ∷ 5 ∷ []) (pick u (3 ∷ 6 ∷ []) (pick v (3 ∷ 7 ∷ []) (0 ∷ [])))) 0 0) 0) next (0 ∷ []))
unfolding pick
valued_by true u v b k n m next e = (refl, refl)
valued_by false true v b k n m next e = (refl, refl)
valued_by false false true b k n m next e = (refl, refl)
valued_by false false false b k n m next e = (refl, e)

-- ---- every phase and class
abbrev ByClass : ℕ → ℕ → Phase → ℕ → Class → Type 0
ByClass mode room p byte c =
    (met_numbers (step_by mode room p c byte).met ≡ met_by mode room (phase_numbers p) (class_number c) byte)
    × (phase_numbers (step_by mode room p c byte).phase ≡ phase_by mode room (phase_numbers p) (class_number c) byte)

-- what holds of each class holds of all
each : (P : Class → Type 0) → P Byte → P Other → P Separator → P Ending → P Illegal → P Null → (c : Class) → P c
each P b o s e i z Byte = b
each P b o s e i z Other = o
each P b o s e i z Separator = s
each P b o s e i z Ending = e
each P b o s e i z Illegal = i
each P b o s e i z Null = z

module _ (mode room byte : ℕ) where
  abbrev By : Phase → Class → Type 0
  By p c = ByClass mode room p byte c

  by_class : (p : Phase) (c : Class) → By p c
  unfolding met_by data_met gone_on phase_by counted end_step value_step pick handed
  by_class Idle = each (By Idle) (refl, refl) (refl, refl) (refl, refl) (refl, refl) (refl, refl) (refl, refl)
  by_class Kind = each (By Kind) (refl, refl) (refl, refl) (refl, refl) (refl, refl) (refl, refl) (refl, refl)
  by_class (First (Typed k)) = each (By (First (Typed k))) (refl, refl) (refl, refl) (refl, refl) (refl, refl) (refl, refl) (refl, refl)
  by_class (First Nulled) = each (By (First Nulled)) (refl, refl) (refl, refl) (refl, refl) (refl, refl) (refl, refl) (refl, refl)
  by_class (Second (Typed k) x) = each (By (Second (Typed k) x)) (refl, refl) (refl, refl) (refl, refl) (refl, refl) (refl, refl) (refl, refl)
  by_class (Second Nulled x) = each (By (Second Nulled x)) (refl, refl) (refl, refl) (refl, refl) (refl, refl) (refl, refl) (refl, refl)
  by_class (Third (Typed k) x y) = each (By (Third (Typed k) x y)) (refl, refl) (refl, refl) (refl, refl) (refl, refl) (refl, refl) (refl, refl)
  by_class (Third Nulled x y) = each (By (Third Nulled x y)) (refl, refl) (refl, refl) (refl, refl) (refl, refl) (refl, refl) (refl, refl)
  by_class (Fourth (Typed k) x y z) =
      each (By (Fourth (Typed k) x y z)) (counted_by (ltb room (x + y * 256 + z * 65536 + byte * 16777216)) (Typed k) _ _ refl)
      (refl, refl) (refl, refl) (refl, refl) (refl, refl) (refl, refl)
  by_class (Fourth Nulled x y z) =
      each (By (Fourth Nulled x y z)) (counted_by (ltb room (x + y * 256 + z * 65536 + byte * 16777216)) Nulled _ _ refl)
      (refl, refl) (refl, refl) (refl, refl) (refl, refl) (refl, refl)
  by_class (Data (Typed k) n m) =
      let past = not (eqb n 0) && leb n m in
      let full = eqb n 0 && leb room m in
      each (By (Data (Typed k) n m)) (valued_by past full false (ltb m room) (Typed k) n m _ refl) (valued_by past full false (ltb m room) (Typed k) n m _ refl)
      (refl, refl) (ended_by (eqb n 0 || eqb n m) (Typed k) m) (valued_by past full false (ltb m room) (Typed k) n m _ refl)
      (valued_by past full (eqb mode 8) (ltb m room) (Typed k) n m _ refl)
  by_class (Data Nulled n m) =
      let past = not (eqb n 0) && leb n m in
      let full = eqb n 0 && leb room m in
      each (By (Data Nulled n m)) (valued_by past full false (ltb m room) Nulled n m _ refl) (valued_by past full false (ltb m room) Nulled n m _ refl)
      (refl, refl) (ended_by (eqb n 0 || eqb n m) Nulled m) (valued_by past full false (ltb m room) Nulled n m _ refl)
      (valued_by past full (eqb mode 8) (ltb m room) Nulled n m _ refl)

-- ---- a step
abbrev Numbered : ℕ → ℕ → Phase → ℕ → Step → Type 0
Numbered mode room p w s =
    (met_numbers s.met ≡ met_by mode room (phase_numbers p) (class_number_of w) (w % 256))
    × (phase_numbers s.phase ≡ phase_by mode room (phase_numbers p) (class_number_of w) (w % 256))

pub step_numbers : (mode room : ℕ) (p : Phase) (w : ℕ) → Numbered mode room p w (step_of mode room p w)
unfolding step_of
step_numbers mode room p w =
    subst (λ (n : ℕ). (met_numbers (step_by mode room p (class_of w) (w % 256)).met ≡ met_by mode room (phase_numbers p) n (w % 256))
    × (phase_numbers (step_by mode room p (class_of w) (w % 256)).phase ≡ phase_by mode room (phase_numbers p) n (w % 256)))
    (class_numbers w) (by_class mode room (w % 256) p (class_of w))

pub step_numbered : (mode room : ℕ) (p : Phase) (w : ℕ) (s : Step) → s ≡ step_of mode room p w → (s ≡ step_of mode room p w)
    × (met_numbers s.met ≡ met_by mode room (phase_numbers p) (class_number_of w) (w % 256))
    × (phase_numbers s.phase ≡ phase_by mode room (phase_numbers p) (class_number_of w) (w % 256))
step_numbered mode room p w s e =
    let n = step_numbers mode room p w in
    (e, ap (λ (x : Step). met_numbers x.met) e ∙ n.0, ap (λ (x : Step). phase_numbers x.phase) e ∙ n.1)

-- the step of a word by its class
pub step_classed : (mode room : ℕ) (p : Phase) (w : ℕ) (c : Class) → c ≡ class_of w → step_by mode room p c (w % 256) ≡ step_of mode room p w
unfolding step_of
step_classed mode room p w c e = ap (λ (k : Class). step_by mode room p k (w % 256)) e
