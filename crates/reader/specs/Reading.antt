-- A reading call: answers 1-13, 15 and 16, what is reported, and what stands in the state and the room afterwards.
-- Assumes nothing.
use Rattle.std.specs.Prelude.{ℕ, ◌+◌, ◌-◌, ◌/◌, Bool, false, ◌&&◌, not, List, [], ◌∷◌, eqb, length, Option, Some, None}
use Rattle.lists.specs.Tests.{pick, Refusal, when, lowest_of}
use Rattle.lists.specs.Lists.{part}
use Rattle.line.specs.declared.settings.Settings.{Settings}
use Rattle.line.specs.declared.check.Checked.{Checked}
use Rattle.line.specs.Systems.{system_of}
use Rattle.line.specs.Fixed.{is_variable, places_of, size_of}
use Rattle.line.specs.Settings.{same_settings}
use Rattle.line.specs.Layout.{payload_at}
use Rattle.line.specs.Check.{fits_length, checked_of}
use Rattle.course.specs.Course.{blocks_end}
use Rattle.machine.specs.declared.phase.Phase.{Phase}
use Rattle.machine.specs.declared.phase.Phase.TheVariants.{Idle}
use Rattle.machine.specs.declared.step.Met.{Met}
use Rattle.machine.specs.declared.step.Met.TheVariants.{Nothing, Whole, Lost}
use Rattle.reader.specs.declared.state.Reader.{Reader}
use Rattle.reader.specs.declared.state.Event.TheVariants.{Refused, Begun, Block, Drop, End}
use Rattle.reader.specs.declared.state.Told.{Told}
use Rattle.machine.specs.Phases.{is_busy}
use Rattle.machine.specs.Walk.{Walk, walk_of}
use Rattle.machine.specs.Places.{places_in, walk_places}
use Rattle.reader.specs.Jump.{jump_from, is_zero}
use Rattle.reader.specs.State.{capacity, impossible_in}

-- what a call leaves: what it tells, and the room
pub record Reply : Type 0 where
  pub told : Told
  pub room : List ℕ

abbrev pub reply : Told → List ℕ → Reply
reply x room = record { told = x; room = room }

-- the same system and mode
abbrev pub becomes : Reader → Option ℕ → Settings → Option ℕ → Phase → Reader
becomes st last t place phase = record { system = st.system; mode = st.mode; last = last; settings = t; place = place; phase = phase }

-- ---- no line begun
-- Refused with 3-16: phase idle, last number none, settings kept; an open block is dropped.
abbrev pub refused : Reader → ℕ → Told
refused st n = record { event = Refused n (is_busy st.phase); state = becomes st None st.settings None Idle }

-- An open block is dropped unless the jump is 0 and the settings are equal.
unfoldable pub goes_on : Reader → ℕ → Settings → Bool
goes_on st n t = is_zero (jump_from (system_of st.system).lines st.last n) && same_settings t st.settings

-- Begun carries the header, which stands in the state, and the jump.
unfoldable pub begun : Reader → ℕ → Settings → Told
begun st n t =
    record {
      event = Begun n (jump_from (system_of st.system).lines st.last n) (is_busy st.phase && not (goes_on st n t));
      state = becomes st (Some n) t (Some 0) (pick (goes_on st n t) st.phase Idle);
    }

-- refused where the line check finds a fault
unfoldable pub starts : Reader → Checked → Told
starts st c = pick (eqb c.fault 0) (begun st c.number c.settings) (refused st c.fault)

-- ---- a line begun
-- the words in which blocks stand, by the state's settings, from place q on
unfoldable pub words_from : Reader → ℕ → List ℕ → List ℕ
words_from st q line =
    let row = system_of st.system in
    part (payload_at row + q) (blocks_end row.payload st.settings.block st.settings.flag - q) line

-- the walk from place q on: by words in a variable line, by places in a fixed one
unfoldable pub walk_from : Reader → ℕ → List ℕ → List ℕ → Walk
walk_from st q line room =
    let size = size_of st.settings.block in
    pick (is_variable st.settings.block) (walk_of st.mode st.phase (words_from st q line) room)
    (walk_places st.mode st.phase (places_in size (places_of (system_of st.system).payload st.settings.block - q / size) (words_from st q line)) room)

-- Later calls report a block, a drop, or the line's end. The line's end leaves no line begun and an open block open.
abbrev pub told_by : Reader → ℕ → Phase → Met → Told
told_by st q p Nothing = record { event = End; state = becomes st st.last st.settings None p }
told_by st q p (Whole k n) = record { event = Block k n; state = becomes st st.last st.settings (Some q) p }
told_by st q p (Lost n) = record { event = Drop n; state = becomes st st.last st.settings (Some q) p }

abbrev pub goes_from : Reader → ℕ → Walk → Reply
goes_from st q x = reply (told_by st (q + x.answer.taken) x.answer.phase x.answer.met) x.room

-- ---- the call
-- 1: unknown system or mode, line not L long, room not c; 2: state not possible. The capacity c is 16,384.
abbrev pub read_faults_in : ℕ → Reader → ℕ → ℕ → List Refusal
read_faults_in c st long room = when 1 (not (fits_length st.system st.mode long && eqb room c)) ∷ when 2 (impossible_in c st) ∷ []

unfoldable pub read_fault_in : ℕ → Reader → ℕ → ℕ → ℕ
read_fault_in c st long room = lowest_of (read_faults_in c st long room)

abbrev pub read_fault : Reader → ℕ → ℕ → ℕ
read_fault st long room = read_fault_in capacity st long room

abbrev pub read_from : Option ℕ → Reader → List ℕ → List ℕ → Reply
read_from None st line room = reply (starts st (checked_of st.system st.mode line)) room
read_from (Some q) st line room = goes_from st q (walk_from st q line room)

-- 1 and 2 leave everything
unfoldable pub reading_in : ℕ → Reader → List ℕ → List ℕ → Reply
reading_in c st line room =
    let fault = read_fault_in c st (length line) (length room) in
    pick (eqb fault 0) (read_from st.place st line room) (reply (record { event = Refused fault false; state = st }) room)

abbrev pub reading : Reader → List ℕ → List ℕ → Reply
reading st line room = reading_in capacity st line room
