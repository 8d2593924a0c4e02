-- The word machine run over words to their end, whatever it reports on the way; and the places of a fixed line likewise.
-- Assumes nothing.
use Prim.Native.Nat.{ℕ}
use mathlib.Core.List.{List, [], ◌∷◌, ◌++◌, map}
use lib.ListN.{length, take, drop}
use Rattle.words.specs.Modes.{value_of}
use Rattle.machine.specs.declared.phase.Phase.{Phase}
use Rattle.machine.specs.declared.phase.Phase.TheVariants.{Idle}
use Rattle.machine.specs.declared.step.Met.{Met}
use Rattle.machine.specs.declared.step.Met.TheVariants.{Nothing, Whole, Lost}
use Rattle.machine.specs.Machine.{step_of}
use Rattle.machine.specs.Walk.{collected_of, stored}
use Rattle.machine.specs.Places.{met_at, place_room}
use Rattle.demands.specs.Hearing.{Heard, is_block, is_drop}

-- the reader between two words: its phase and the room
pub record Now : Type 0 where
  pub phase : Phase
  pub room : List ℕ

abbrev pub now : Phase → List ℕ → Now
now p room = record { phase = p; room = room }

abbrev pub idle : List ℕ → Now
idle room = now Idle room

-- what is heard of what was met
abbrev pub met_heard : Met → List ℕ → List Heard
met_heard Nothing room = []
met_heard (Whole k n) room = is_block (record { kind = k; values = take n room }) ∷ []
met_heard (Lost n) room = is_drop n ∷ []

-- one word
unfoldable pub step_to : ℕ → Now → ℕ → Now
step_to mode q w =
    let s = step_of mode (length q.room) q.phase w in
    now s.phase (stored s.keeps (collected_of q.phase) (value_of mode w) q.room)

unfoldable pub step_out : ℕ → Now → ℕ → List Heard
step_out mode q w = met_heard (step_of mode (length q.room) q.phase w).met (step_to mode q w).room

-- words one after another
abbrev pub run_to : ℕ → Now → List ℕ → Now
run_to mode q [] = q
run_to mode q (w ∷ ws) = run_to mode (step_to mode q w) ws

abbrev pub run_out : ℕ → Now → List ℕ → List Heard
run_out mode q [] = []
run_out mode q (w ∷ ws) = step_out mode q w ++ run_out mode (step_to mode q w) ws

-- a place of a fixed line
unfoldable pub place_to : ℕ → List ℕ → List ℕ → List ℕ
place_to mode x room = place_room (met_at mode x) (map (value_of mode) (drop 1 x)) room

unfoldable pub place_out : ℕ → List ℕ → List ℕ → List Heard
place_out mode x room = met_heard (met_at mode x) (place_to mode x room)

abbrev pub places_to : ℕ → List ℕ → List (List ℕ) → List ℕ
places_to mode room [] = room
places_to mode room (x ∷ xs) = places_to mode (place_to mode x room) xs

abbrev pub places_out : ℕ → List ℕ → List (List ℕ) → List Heard
places_out mode room [] = []
places_out mode room (x ∷ xs) = place_out mode x room ++ places_out mode (place_to mode x room) xs
