-- The walks said by numbers alone: word after word, or place after place, to the first report; the numbers of the phase and of what was met.
-- Assumes nothing.
use Rattle.std.specs.Prelude.{ℕ, ◌-◌, ◌/◌, ◌%◌, Bool, ◌&&◌, ◌||◌, List, [], ◌∷◌, eqb, ltb, length, drop, get_or}
use Rattle.lists.specs.Tests.{pick}
use Rattle.words.specs.Class.{class_number_of}
use Rattle.machine.specs.declared.walk.Walked.{Walked}
use Rattle.machine.specs.Phases.{phase_numbers, met_numbers}
use Rattle.machine.specs.StepNumbers.{met_by, phase_by}
use Rattle.machine.specs.Places.{places_in, has_null}

pub record Reported : Type 0 where
  pub phase : List ℕ
  pub met : List ℕ

abbrev pub reported : List ℕ → List ℕ → Reported
reported p met = record { phase = p; met = met }

abbrev pub numbers_of : Walked → Reported
numbers_of x = reported (phase_numbers x.phase) (met_numbers x.met)

-- words in that mode and a room of that length: on while nothing, 0, is reported
unfoldable pub walk_by : ℕ → ℕ → List ℕ → List ℕ → Reported
walk_by mode room p [] = reported p (0 ∷ [])
walk_by mode room p (w ∷ ws) =
    let met = met_by mode room p (class_number_of w) (w % 256) in
    let next = phase_by mode room p (class_number_of w) (w % 256) in
    pick (eqb (get_or met 0 0) 0) (walk_by mode room next ws) (reported next met)

-- A place whose type is 100h is skipped; another type not in byte form is drop 2; type 00h is skipped; 100h among the data, in 8-bit mode, is
-- drop 7; else a block of n values.
unfoldable pub place_by : Bool → ℕ → ℕ → ℕ → List ℕ
place_by void class kind n =
    pick (eqb class 6) (0 ∷ [])
    (pick (eqb class 1) (pick (eqb kind 0) (0 ∷ []) (pick void (3 ∷ 7 ∷ []) (2 ∷ kind ∷ n ∷ []))) (3 ∷ 2 ∷ []))

unfoldable pub places_by : ℕ → List ℕ → List (List ℕ) → Reported
places_by mode p [] = reported p (0 ∷ [])
places_by mode p (x ∷ xs) =
    let met = place_by (eqb mode 8 && has_null (drop 1 x)) (class_number_of (get_or x 0 0)) (get_or x 0 0 % 256) (length (drop 1 x)) in
    pick (eqb (get_or met 0 0) 0) (places_by mode p xs) (reported p met)

-- none where a place has no word, or the room is shorter than its values
unfoldable pub fixed_by : ℕ → ℕ → List ℕ → ℕ → List ℕ → Reported
fixed_by mode room p size ws = pick (eqb size 0 || ltb room (size - 1)) (reported p (0 ∷ [])) (places_by mode p (places_in size (length ws / size) ws))
