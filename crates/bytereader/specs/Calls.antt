-- What a call under an allowance gives back: not the whole state, but what is told of it and what it changes. Each is the reader's call.
-- Assumes nothing.
use Rattle.std.specs.Prelude.{ℕ, ◌/◌, Bool, true, false, List, ltb, length, Option, Some, None}
use Rattle.lists.specs.Tests.{pick}
use Rattle.octets.specs.Bytes.{words_of}
use Rattle.line.specs.Check.{checked_of}
use Rattle.machine.specs.declared.step.Met.{Met}
use Rattle.machine.specs.declared.step.Met.TheVariants.{Nothing, Whole, Lost}
use Rattle.reader.specs.declared.state.Reader.{Reader}
use Rattle.reader.specs.declared.state.Event.{Event}
use Rattle.reader.specs.declared.state.Event.TheVariants.{Refused, Block, Drop, End}
use Rattle.reader.specs.declared.state.Told.{Told}
use Rattle.reader.specs.declared.within.Within.{Within}
use Rattle.reader.specs.Reading.{becomes, starts}
use Rattle.reader.specs.Within.{Sliced, sliced, tells}
use Rattle.bytereader.specs.Bytewise.{refused_odd}
use Rattle.bytereader.specs.declared.goes.Went.{Went}
use Rattle.bytereader.specs.declared.Outcome.{Outcome}
use Rattle.bytereader.specs.declared.Outcome.TheVariants.{Barred, Starts, Goes}

-- what was met on a begun line: a block, a drop or the line's end, which leaves no line begun
abbrev pub event_by : Met → Event
event_by Nothing = End
event_by (Whole k n) = Block k n
event_by (Lost n) = Drop n

abbrev pub place_by : Met → ℕ → Option ℕ
place_by Nothing q = None
place_by (Whole k n) q = Some q
place_by (Lost n) q = Some q

-- a call on a begun line changes the place and the phase
abbrev pub went_of : Reader → Went → Within
went_of st w = record { report = w.report; consumed = w.consumed; state = becomes st st.last st.settings w.place w.phase }

-- a call that begins a line; no line is longer than 2,304 words
unfoldable pub start_bytes : Reader → List ℕ → Told
start_bytes st line = pick (ltb 2304 (length line / 2)) (refused_odd st) (starts st (checked_of st.system st.mode (words_of line)))

-- what a call leaves, by what comes of it
abbrev pub left_by : Reader → List ℕ → Outcome → List ℕ → Sliced
left_by st line (Barred n) room = sliced (tells 0 (record { event = Refused n false; state = st })) room
left_by st line Starts room = sliced (tells 0 (start_bytes st line)) room
left_by st line (Goes w) room = sliced (went_of st w) room

abbrev pub is_barred : Outcome → Bool
is_barred (Barred n) = true
is_barred Starts = false
is_barred (Goes w) = false
