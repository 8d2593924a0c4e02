-- READING UNDER AN ALLOWANCE (02, Item 10). A reading call takes an allowance of area words and reports paused when it has consumed that many without an
-- event. The contract of `read_within` is an equality with `within` (reader/specs/Within.antt); this page says what 02 asks of it.
-- Assumes nothing.
use Rattle.std.specs.Prelude.{ℕ, ◌+◌, ◌*◌, ◌≤◌, ◌<◌, Bool, true, false, List, [], ◌∷◌, ◌++◌, map, ◌≡◌, length, Some, None}
use Rattle.lists.specs.Tests.{pick}
use Rattle.words.specs.Modes.{is_mode}
use Rattle.line.specs.declared.settings.Settings.{Settings}
use Rattle.line.specs.Systems.{system_of, is_system}
use Rattle.line.specs.Fixed.{is_variable, places_of}
use Rattle.line.specs.Layout.{area_length}
use Rattle.line.specs.Check.{settings_of, line_fault}
use Rattle.course.specs.Course.{is_at, blocks_end}
use Rattle.reader.specs.declared.state.Reader.{Reader}
use Rattle.reader.specs.declared.state.Event.{Event}
use Rattle.reader.specs.declared.state.Event.TheVariants.{Refused, End}
use Rattle.reader.specs.declared.within.Report.TheVariants.{Paused, Told}
use Rattle.reader.specs.State.{capacity, fresh, impossible}
use Rattle.reader.specs.Reading.{reply, read_fault, reading}
use Rattle.reader.specs.Lending.{is_last, ends_within}
use Rattle.reader.specs.Within.{sliced, paused_at, tells, unit_of, within}
use Rattle.demands.specs.All.{All}
use Rattle.demands.specs.Sending.{Call, Sent, sent_fresh, blocks_of}
use Rattle.demands.specs.Hearing.{Heard, heard_of, Lends, ReadsTo, handed_out}
use Rattle.demands.specs.Damage.{Fate, remain, kept_at, survivors}
use Rattle.demands.specs.Demand2.{given_back}
use Rattle.demands.specs.Demand3.{Transmission}

-- ---- courses of calls
-- A line is lent, unchanged, with an allowance for each call, until its end or refusal is reported. Pauses are left out of what is heard.
pub data LendsWithin (line : List ℕ) : List ℕ → Reader → List ℕ → List Heard → Reader → List ℕ → Type 0 where
  pause : {a : ℕ} {al : List ℕ} {st st' : Reader} {room room' : List ℕ} {hs : List Heard} → (within a st line room).answer.report ≡ Paused
      → LendsWithin line al (within a st line room).answer.state (within a st line room).room hs st' room' → LendsWithin line (a ∷ al) st room hs st' room'
  last : {a : ℕ} {e : Event} {st : Reader} {room : List ℕ} → (within a st line room).answer.report ≡ Told e → is_last e ≡ true
      → LendsWithin line (a ∷ []) st room (heard_of e (within a st line room).answer.state.settings (within a st line room).room ∷ [])
      (within a st line room).answer.state (within a st line room).room
  more : {a : ℕ} {al : List ℕ} {e : Event} {st st' : Reader} {room room' : List ℕ} {hs : List Heard} → (within a st line room).answer.report ≡ Told e → is_last e ≡ false
      → LendsWithin line al (within a st line room).answer.state (within a st line room).room hs st' room'
      → LendsWithin line (a ∷ al) st room (heard_of e (within a st line room).answer.state.settings (within a st line room).room ∷ hs) st' room'

-- Lines lent once each and in order, with allowances for each
pub data ReadsWithin : List (List ℕ) → Reader → List ℕ → List (List ℕ) → List Heard → Reader → List ℕ → Type 0 where
  done : {st : Reader} {room : List ℕ} → ReadsWithin [] st room [] [] st room
  next : {al : List ℕ} {als : List (List ℕ)} {st st' st'' : Reader} {room room' room'' : List ℕ} {line : List ℕ} {lines : List (List ℕ)} {hs ks : List Heard}
      → LendsWithin line al st room hs st' room' → ReadsWithin als st' room' lines ks st'' room'' → ReadsWithin (al ∷ als) st room (line ∷ lines) (hs ++ ks) st'' room''

-- the states that calls lead to from a fresh reader on, with allowances and without
pub data Reached (system mode : ℕ) : Reader → Type 0 where
  is_fresh : Reached system mode (fresh system mode)
  reads : {st : Reader} (line room : List ℕ) → Reached system mode st → Reached system mode (reading st line room).told.state
  slices : {st : Reader} (a : ℕ) (line room : List ℕ) → Reached system mode st → Reached system mode (within a st line room).answer.state

-- how many there are to consume: the words of a variable line's area, the places of a fixed one
unfoldable pub count_in : ℕ → Settings → ℕ
count_in p t = pick (is_variable t.block) (area_length p t.flag) (places_of p t.block)

-- where blocks end in the line that a state has begun
abbrev pub end_of : Reader → ℕ
end_of st = blocks_end (system_of st.system).payload st.settings.block st.settings.flag

-- the first calls of those that the allowances are for come to the line's end
pub record Served (line al : List ℕ) (st : Reader) (room : List ℕ) (hs : List Heard) (st' : Reader) (room' : List ℕ) : Type 0 where
  pub used : List ℕ
  pub left : List ℕ
  pub all : al ≡ used ++ left
  pub lends : LendsWithin line used st room hs st' room'

-- a possible state, an accepted line and a room that need P + 2 calls and no fewer
pub record Longest (system mode : ℕ) : Type 0 where
  pub st : Reader
  pub line : List ℕ
  pub room : List ℕ
  pub of_system : st.system ≡ system
  pub of_mode : st.mode ≡ mode
  pub possible : impossible st ≡ false
  pub shut : st.place ≡ None
  pub accepted : line_fault system mode line ≡ 0
  pub long : length room ≡ capacity
  pub then : ends_within ((system_of system).payload + 2) st line room ≡ true
  pub not_before : ends_within ((system_of system).payload + 1) st line room ≡ false

pub record Allowed : Type 0 where
  -- 1 and 2 come first, and leave everything
  pub refused : (a : ℕ) (st : Reader) (line room : List ℕ) (n : ℕ) → read_fault st (length line) (length room) ≡ n → 1 ≤ n
      → within a st line room ≡ sliced (tells 0 (record { event = Refused n false; state = st })) room
  -- after them, allowance 0 pauses at once and changes nothing, also at a line's start
  pub none : (st : Reader) (line room : List ℕ) → read_fault st (length line) (length room) ≡ 0 → within 0 st line room ≡ sliced (paused_at 0 st) room
  -- with any other, opening costs nothing: no line begun
  pub opening : (a : ℕ) (st : Reader) (line room : List ℕ) → 1 ≤ a → st.place ≡ None
      → within a st line room ≡ sliced (tells 0 (reading st line room).told) (reading st line room).room
  -- paused when it has consumed that many; and of an event it consumed no more
  pub used : (a : ℕ) (st : Reader) (line room : List ℕ) → (within a st line room).answer.report ≡ Paused → (within a st line room).answer.consumed ≡ a
  pub met : (a : ℕ) (st : Reader) (line room : List ℕ) (e : Event) → (within a st line room).answer.report ≡ Told e → is_at st.place ≡ true → is_last e ≡ false
      → (1 ≤ (within a st line room).answer.consumed) × ((within a st line room).answer.consumed ≤ a)
  -- a used-up allowance pauses before the line's end is reported
  pub ended : (a : ℕ) (st : Reader) (q : ℕ) (line room : List ℕ) → (within a st line room).answer.report ≡ Told End → st.place ≡ Some q
      → (q + (within a st line room).answer.consumed * unit_of st.settings.block ≡ end_of st) × ((within a st line room).answer.consumed < a)
  -- the number consumed equals the places that the reader moved on: words of a variable line, places of a fixed one, however long
  pub moved : (a : ℕ) (st : Reader) (q next : ℕ) (line room : List ℕ) → st.place ≡ Some q → (within a st line room).answer.state.place ≡ Some next
      → next ≡ q + (within a st line room).answer.consumed * unit_of st.settings.block
  -- leaving out pauses, a call tells what the call without allowance tells, and leaves its state and room; ..
  pub told : (a : ℕ) (st : Reader) (line room : List ℕ) (e : Event) → (within a st line room).answer.report ≡ Told e
      → reading st line room ≡ reply (record { event = e; state = (within a st line room).answer.state }) (within a st line room).room
  -- .. and behind a pause that call tells what it would have told before
  pub paused : (a : ℕ) (st : Reader) (line room : List ℕ) → (within a st line room).answer.report ≡ Paused
      → reading (within a st line room).answer.state line (within a st line room).room ≡ reading st line room
  -- so over any calls of a line, with any allowances, and over any lines
  pub lends : (line al : List ℕ) (st : Reader) (room : List ℕ) (hs : List Heard) (st' : Reader) (room' : List ℕ)
      → LendsWithin line al st room hs st' room' → Lends line st room hs st' room'
  pub lines : (als : List (List ℕ)) (st : Reader) (room : List ℕ) (ls : List (List ℕ)) (hs : List Heard) (st' : Reader) (room' : List ℕ)
      → ReadsWithin als st room ls hs st' room' → ReadsTo st room ls hs st' room'
  -- demand 2 and demand 3 of a reader under any allowances
  pub heard : (system mode : ℕ) (cs : List Call) (room : List ℕ) → length room ≡ capacity → (als : List (List ℕ)) (hs : List Heard) (st' : Reader) (room' : List ℕ)
      → ReadsWithin als (fresh system mode) room (map (λ (s : Sent). s.words) (sent_fresh system mode cs)) hs st' room'
      → hs ≡ given_back (system_of system).lines None (sent_fresh system mode cs)
  pub handed : (system mode : ℕ) (cs : List Call) (fs : List Fate) → Transmission system mode (system_of system).lines cs fs
      → (room : List ℕ) → length room ≡ capacity → (als : List (List ℕ)) (hs : List Heard) (st' : Reader) (room' : List ℕ)
      → ReadsWithin als (fresh system mode) room (remain fs (sent_fresh system mode cs)) hs st' room'
      → handed_out hs ≡ survivors (kept_at fs) (blocks_of (sent_fresh system mode cs))
  -- with allowances of 1 or more a line has at most as many pauses as there is to consume; ..
  pub pauses : (line al : List ℕ) (st : Reader) (room : List ℕ) (hs : List Heard) (st' : Reader) (room' : List ℕ) → st.place ≡ None → All (λ (a : ℕ). 1 ≤ a) al
      → LendsWithin line al st room hs st' room' → length al ≤ length hs + count_in (system_of st.system).payload (settings_of line)
  -- .. and with so many of them it comes to its end, and what is heard without allowances is heard
  pub served : (line al : List ℕ) (st : Reader) (room : List ℕ) (hs : List Heard) (st' : Reader) (room' : List ℕ) → st.place ≡ None → All (λ (a : ℕ). 1 ≤ a) al
      → Lends line st room hs st' room' → length hs + count_in (system_of st.system).payload (settings_of line) ≤ length al → Served line al st room hs st' room'
  -- an allowance above the area never pauses
  pub enough : (a : ℕ) (st : Reader) (line room : List ℕ) → area_length (system_of st.system).payload st.settings.flag < a → (within a st line room).answer.report ≡ Paused → ⊥
  -- a possible state stays possible, and from a fresh reader on 2 is never answered
  pub possible : (a : ℕ) (st : Reader) (line room : List ℕ) → impossible st ≡ false → impossible (within a st line room).answer.state ≡ false
  pub never_2 : (system mode : ℕ) (st : Reader) → Reached system mode st → (a : ℕ) (line room : List ℕ) (d : Bool) → (within a st line room).answer.report ≡ Told (Refused 2 d) → ⊥
  -- without allowances no line needs more than P + 2 calls, and in every system and mode there is one that needs exactly so many
  pub calls : (st : Reader) (line room : List ℕ) → st.place ≡ None → ends_within ((system_of st.system).payload + 2) st line room ≡ true
  pub longest : (system mode : ℕ) → is_system system ≡ true → is_mode mode ≡ true → Longest system mode
