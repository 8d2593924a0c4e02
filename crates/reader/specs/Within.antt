-- A reading call under an allowance of area words (02, Item 10): it goes over no more of the area than that, and reports paused where it has used up
-- the allowance and met nothing. In a fixed line each place counts as one.
-- Assumes nothing.
use Rattle.std.specs.Prelude.{ℕ, ◌+◌, ◌-◌, ◌/◌, Bool, false, ◌&&◌, List, [], ◌∷◌, eqb, ℤ, pos, length, take, Option, Some, None}
use Rattle.lists.specs.Tests.{pick}
use Rattle.line.specs.Systems.{system_of}
use Rattle.line.specs.Fixed.{is_variable, places_of, size_of}
use Rattle.line.specs.Check.{checked_of}
use Rattle.machine.specs.Phases.{met_numbers}
use Rattle.machine.specs.Walk.{Walk, is_nothing, walk_of}
use Rattle.machine.specs.Places.{places_in, walk_places, walk_fixed}
use Rattle.reader.specs.declared.state.Reader.{Reader}
use Rattle.reader.specs.declared.state.Event.TheVariants.{Refused}
use Rattle.reader.specs.declared.state.Told.{Told as Tale}
use Rattle.reader.specs.declared.within.Report.{Report}
use Rattle.reader.specs.declared.within.Report.TheVariants.{Paused, Told}
use Rattle.reader.specs.declared.within.Within.{Within}
use Rattle.reader.specs.Events.{event_numbers}
use Rattle.reader.specs.State.{capacity}
use Rattle.reader.specs.Reading.{becomes, starts, words_from, told_by, read_fault_in}
use Rattle.reader.specs.Numbers.{start_by, later_by}

-- what a call leaves: what it answers, and the room
pub record Sliced : Type 0 where
  pub answer : Within
  pub room : List ℕ

abbrev pub sliced : Within → List ℕ → Sliced
sliced x room = record { answer = x; room = room }

-- paused, or what a reading call tells; and the number consumed
abbrev pub paused_at : ℕ → Reader → Within
paused_at n st = record { report = Paused; consumed = n; state = st }

abbrev pub tells : ℕ → Tale → Within
tells n t = record { report = Told t.event; consumed = n; state = t.state }

-- the words that count as one: a word of a variable line, a place of a fixed one
unfoldable pub unit_of : ℕ → ℕ
unit_of block = pick (is_variable block) 1 (size_of block)

-- the walk from place q on, over no more than a words of a variable line, and no more than a places of a fixed one
unfoldable pub walk_within : ℕ → Reader → ℕ → List ℕ → List ℕ → Walk
walk_within a st q line room =
    let size = size_of st.settings.block in
    let ws = words_from st q line in
    pick (is_variable st.settings.block) (walk_of st.mode st.phase (take a ws) room)
    (walk_places st.mode st.phase (take a (places_in size (places_of (system_of st.system).payload st.settings.block - q / size) ws)) room)

-- A used-up allowance pauses before the line's end is reported: nothing met and all of it consumed. Else a block, a drop or the end, as without allowance.
abbrev pub is_pause : ℕ → ℕ → Walk → Bool
is_pause a n x = is_nothing x.answer.met && eqb n a

unfoldable pub goes_within : ℕ → Reader → ℕ → Walk → Sliced
goes_within a st q x =
    let n = x.answer.taken / unit_of st.settings.block in
    let next = q + x.answer.taken in
    sliced
    (pick (is_pause a n x) (paused_at n (becomes st st.last st.settings (Some next) x.answer.phase))
    (tells n (told_by st next x.answer.phase x.answer.met)))
    x.room

-- Opening costs nothing.
abbrev pub within_from : Option ℕ → ℕ → Reader → List ℕ → List ℕ → Sliced
within_from None a st line room = sliced (tells 0 (starts st (checked_of st.system st.mode line))) room
within_from (Some q) a st line room = goes_within a st q (walk_within a st q line room)

-- 1 and 2 leave everything; after them allowance 0 pauses at once and changes nothing, also at a line's start
unfoldable pub within_in : ℕ → ℕ → Reader → List ℕ → List ℕ → Sliced
within_in c a st line room =
    let fault = read_fault_in c st (length line) (length room) in
    pick (eqb fault 0) (pick (eqb a 0) (sliced (paused_at 0 st) room) (within_from st.place a st line room))
    (sliced (tells 0 (record { event = Refused fault false; state = st })) room)

abbrev pub within : ℕ → Reader → List ℕ → List ℕ → Sliced
within a st line room = within_in capacity a st line room

-- ---- the numbers of a report: those of the event; paused, 5
abbrev pub report_numbers : Report → List ℤ
report_numbers Paused = pos 5 ∷ []
report_numbers (Told e) = event_numbers e

-- and the same by the allowance, the state, the line and the room alone
unfoldable pub goes_by : ℕ → ℕ → Walk → List ℤ
goes_by a unit x =
    let met = met_numbers x.answer.met in
    pick (is_pause a (x.answer.taken / unit) x) (pos 5 ∷ []) (later_by met)

abbrev pub from_by : Option ℕ → ℕ → Reader → List ℕ → List ℕ → List ℤ
from_by None a st line room = start_by st line
from_by (Some q) a st line room = goes_by a (unit_of st.settings.block) (walk_within a st q line room)

unfoldable pub within_by : ℕ → Reader → List ℕ → List ℕ → List ℤ
within_by a st line room =
    let fault = read_fault_in capacity st (length line) (length room) in
    pick (eqb fault 0) (pick (eqb a 0) (pos 5 ∷ []) (from_by st.place a st line room)) (pos 0 ∷ pos fault ∷ pos 0 ∷ [])

-- ---- the walk from place q to before place e: only the promise of a private function cites this
unfoldable pub walk_to : ℕ → Reader → ℕ → List ℕ → List ℕ → Walk
walk_to e st q line room =
    let ws = take (e - q) (words_from st q line) in
    pick (is_variable st.settings.block) (walk_of st.mode st.phase ws room) (walk_fixed st.mode st.phase (size_of st.settings.block) ws room)
