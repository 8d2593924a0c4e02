-- The phase and what was met of a walk have the numbers that `walk_by` and `fixed_by` say, of every phase, words and room.
-- Assumes nothing.
use mathlib.Core.Path.{◌≡◌, refl, sym, ap, ap₂, ◌∙◌}
use mathlib.Core.Bool.{Bool, true, false, ◌&&◌, ◌||◌}
use mathlib.Core.List.{List, [], ◌∷◌}
use Prim.Native.Nat.{ℕ, zero, suc, ◌-◌, ◌/◌, ◌%◌}
use lib.Dec.{eqb, ltb, eqb-suc-zero}
use lib.ListN.{length, drop, get_or}
use Rattle.lists.specs.Tests.{pick}
use Rattle.lists.proofs.Tests.{pick_false}
use Rattle.words.specs.Class.{class_of, class_number, class_number_of}
use Rattle.words.specs.Modes.{value_of}
use Rattle.words.proofs.ClassLaws.{class_numbers}
use Rattle.words.specs.declared.class.Class.{Class}
use Rattle.words.specs.declared.class.Class.TheVariants.{Byte, Other, Separator, Ending, Illegal, Null}
use Rattle.machine.specs.declared.phase.Phase.{Phase}
use Rattle.machine.specs.declared.step.Met.{Met}
use Rattle.machine.specs.declared.step.Met.TheVariants.{Nothing, Whole, Lost}
use Rattle.machine.specs.Phases.{phase_numbers, met_numbers}
use Rattle.machine.specs.Machine.{step_of}
use Rattle.machine.specs.Walk.{Walk, walked_to, past, unless, collected_of, stored, walk_of}
use Rattle.machine.specs.Places.{places_in, has_null, place_met, met_at, walk_places, walk_fixed}
use Rattle.machine.specs.WalkNumbers.{Reported, reported, numbers_of, walk_by, place_by, places_by, fixed_by}
use Rattle.machine.proofs.Kept.{stored_long}
use Rattle.machine.proofs.StepLaws.{step_numbers}

-- a walk stops where the report's number is not 0
stops : (met : Met) (p : Phase) (n : ℕ) (room : List ℕ) (on : Walk) (l : Reported) → numbers_of on.answer ≡ l
    → numbers_of (unless met (walked_to p met n room) (past n on)).answer ≡ pick (eqb (get_or (met_numbers met) 0 0) 0) l (reported (phase_numbers p) (met_numbers met))
unfolding pick
stops Nothing p n room on l e = e
stops (Whole k m) p n room on l e = refl
stops (Lost m) p n room on l e = refl

-- ---- words
pub walk_numbers : (mode : ℕ) (p : Phase) (ws room : List ℕ) → numbers_of (walk_of mode p ws room).answer ≡ walk_by mode (length room) (phase_numbers p) ws
unfolding walk_of walk_by
walk_numbers mode p [] room = refl
walk_numbers mode p (w ∷ ws) room =
    let s = step_of mode (length room) p w in
    let r = stored s.keeps (collected_of p) (value_of mode w) room in
    let n = step_numbers mode (length room) p w in
    let same : length r ≡ length room = stored_long s.keeps (collected_of p) (value_of mode w) room in
    stops s.met s.phase 1 r (walk_of mode s.phase ws r) (walk_by mode (length room) (phase_numbers s.phase) ws)
    (walk_numbers mode s.phase ws r ∙ ap (λ (k : ℕ). walk_by mode k (phase_numbers s.phase) ws) same)
    ∙ ap₂ (λ (m q : List ℕ). pick (eqb (get_or m 0 0) 0) (walk_by mode (length room) q ws) (reported q m)) n.0 n.1

pub walk_numbered : (mode : ℕ) (p : Phase) (ws room : List ℕ) (x : Walk) → x ≡ walk_of mode p ws room
    → (x ≡ walk_of mode p ws room) × (numbers_of x.answer ≡ walk_by mode (length room) (phase_numbers p) ws)
walk_numbered mode p ws room x e = (e, ap (λ (y : Walk). numbers_of y.answer) e ∙ walk_numbers mode p ws room)

-- ---- places
met_by_class : (void : Bool) (c : Class) (k n : ℕ) → met_numbers (place_met void c k n) ≡ place_by void (class_number c) k n
unfolding place_by pick
met_by_class void Byte zero n = refl
met_by_class true Byte (suc k) n = sym (pick_false (0 ∷ []) (3 ∷ 7 ∷ []) (eqb-suc-zero k))
met_by_class false Byte (suc k) n = sym (pick_false (0 ∷ []) (2 ∷ suc k ∷ n ∷ []) (eqb-suc-zero k))
met_by_class void Other k n = refl
met_by_class void Separator k n = refl
met_by_class void Ending k n = refl
met_by_class void Illegal k n = refl
met_by_class void Null k n = refl

place_numbers : (mode : ℕ) (x : List ℕ)
    → met_numbers (met_at mode x) ≡ place_by (eqb mode 8 && has_null (drop 1 x)) (class_number_of (get_or x 0 0)) (get_or x 0 0 % 256) (length (drop 1 x))
unfolding met_at
place_numbers mode x =
    met_by_class (eqb mode 8 && has_null (drop 1 x)) (class_of (get_or x 0 0)) (get_or x 0 0 % 256) (length (drop 1 x))
    ∙ ap (λ (c : ℕ). place_by (eqb mode 8 && has_null (drop 1 x)) c (get_or x 0 0 % 256) (length (drop 1 x))) (class_numbers (get_or x 0 0))

places_numbers : (mode : ℕ) (p : Phase) (xs : List (List ℕ)) (room : List ℕ) → numbers_of (walk_places mode p xs room).answer ≡ places_by mode (phase_numbers p) xs
unfolding walk_places places_by
places_numbers mode p [] room = refl
places_numbers mode p (x ∷ xs) room =
    stops (met_at mode x) p (length x) _ (walk_places mode p xs room) (places_by mode (phase_numbers p) xs) (places_numbers mode p xs room)
    ∙ ap (λ (m : List ℕ). pick (eqb (get_or m 0 0) 0) (places_by mode (phase_numbers p) xs) (reported (phase_numbers p) m)) (place_numbers mode x)

either : (t : Bool) (x y : Walk) (k l : Reported) → numbers_of x.answer ≡ k → numbers_of y.answer ≡ l → numbers_of (pick t x y).answer ≡ pick t k l
unfolding pick
either true x y k l e f = e
either false x y k l e f = f

pub fixed_numbers : (mode : ℕ) (p : Phase) (size : ℕ) (ws room : List ℕ) → numbers_of (walk_fixed mode p size ws room).answer ≡ fixed_by mode (length room) (phase_numbers p) size ws
unfolding walk_fixed fixed_by
fixed_numbers mode p size ws room =
    either (eqb size 0 || ltb (length room) (size - 1)) (walked_to p Nothing 0 room) (walk_places mode p (places_in size (length ws / size) ws) room) _ _ refl
    (places_numbers mode p (places_in size (length ws / size) ws) room)

pub fixed_numbered : (mode : ℕ) (p : Phase) (size : ℕ) (ws room : List ℕ) (x : Walk) → x ≡ walk_fixed mode p size ws room
    → (x ≡ walk_fixed mode p size ws room) × (numbers_of x.answer ≡ fixed_by mode (length room) (phase_numbers p) size ws)
fixed_numbered mode p size ws room x e = (e, ap (λ (y : Walk). numbers_of y.answer) e ∙ fixed_numbers mode p size ws room)
