-- Fixed lines: places one after another, each a type word and the values behind it.
-- Assumes nothing.
use Rattle.std.specs.Prelude.{ℕ, zero, suc, ◌-◌, ◌/◌, ◌%◌, Bool, false, ◌&&◌, ◌||◌, List, [], ◌∷◌, ◌++◌, map, eqb, ltb, length, get_or, take, drop}
use Rattle.lists.specs.Tests.{pick}
use Rattle.words.specs.Modes.{value_of}
use Rattle.words.specs.Class.{class_of, is_null}
use Rattle.words.specs.declared.class.Class.{Class}
use Rattle.words.specs.declared.class.Class.TheVariants.{Byte, Other, Separator, Ending, Illegal, Null}
use Rattle.machine.specs.declared.phase.Phase.{Phase}
use Rattle.machine.specs.declared.step.Met.{Met}
use Rattle.machine.specs.declared.step.Met.TheVariants.{Nothing, Whole, Lost}
use Rattle.machine.specs.Walk.{Walk, walked_to, past, unless}

-- n places of that size, from the first word on
abbrev pub places_in : ℕ → ℕ → List ℕ → List (List ℕ)
places_in size zero ws = []
places_in size (suc n) ws = take size ws ∷ places_in size n (drop size ws)

-- 100h stands among the words
unfoldable pub has_null : List ℕ → Bool
has_null [] = false
has_null (w ∷ ws) = is_null (class_of w) || has_null ws

-- A place whose type is 100h is a null and skipped, whatever its data; another type not in byte form is drop 2 for that place alone; a place
-- whose type is 00h is empty and skipped; with data that are no values, `void`, it is drop 7 for that place alone; else a block of n values.
abbrev pub place_met : Bool → Class → ℕ → ℕ → Met
place_met void Null k n = Nothing
place_met void Other k n = Lost 2
place_met void Separator k n = Lost 2
place_met void Ending k n = Lost 2
place_met void Illegal k n = Lost 2
place_met void Byte zero n = Nothing
place_met void Byte (suc k) n = pick void (Lost 7) (Whole (suc k) n)

-- the place x, its type word first; in 8-bit mode 100h is no value
unfoldable pub met_at : ℕ → List ℕ → Met
met_at mode x =
    place_met (eqb mode 8 && has_null (drop 1 x)) (class_of (get_or x 0 0)) (get_or x 0 0 % 256) (length (drop 1 x))

-- a block's values fill the room from 0; no other place in it changes
abbrev pub place_room : Met → List ℕ → List ℕ → List ℕ
place_room Nothing vs room = room
place_room (Whole k n) vs room = vs ++ drop (length vs) room
place_room (Lost n) vs room = room

-- place after place, to the first report or to the last
unfoldable pub walk_places : ℕ → Phase → List (List ℕ) → List ℕ → Walk
walk_places mode p [] room = walked_to p Nothing 0 room
walk_places mode p (x ∷ xs) room =
    let met = met_at mode x in
    let on = walk_places mode p xs room in
    unless met (walked_to p met (length x) (place_room met (map (value_of mode) (drop 1 x)) room)) (past (length x) on)

-- the places of that size in words, as many as there are whole ones; none where a place has no word, or the room is shorter than its values
unfoldable pub walk_fixed : ℕ → Phase → ℕ → List ℕ → List ℕ → Walk
walk_fixed mode p size ws room =
    pick (eqb size 0 || ltb (length room) (size - 1)) (walked_to p Nothing 0 room) (walk_places mode p (places_in size (length ws / size) ws) room)
