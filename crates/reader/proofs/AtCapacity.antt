-- The laws of a reading call with a room of 16,384 words. Every fixed block fits it; nothing else is asked of the number.
-- Assumes nothing.
use Rattle.std.specs.Prelude.{Option, Some, None}
use mathlib.Core.Path.{◌≡◌}
use mathlib.Core.Bool.{Bool, true, false}
use mathlib.Core.List.{List}
use Prim.Native.Nat.{ℕ, ◌+◌, ◌-◌, ◌≤◌}
use native.Mathlib.Omega.{arith}
use lib.Dec.{eqb}
use lib.ListN.{length}
use Rattle.line.specs.Systems.{system_of}
use Rattle.line.specs.Layout.{area_length}
use Rattle.line.specs.Check.{number_of, settings_of, line_fault}
use Rattle.course.specs.Course.{impossible_after}
use Rattle.machine.specs.Phases.{is_busy}
use Rattle.reader.specs.declared.state.Reader.{Reader}
use Rattle.reader.specs.declared.state.Event.TheVariants.{Refused}
use Rattle.reader.specs.State.{capacity, fresh, impossible}
use Rattle.reader.specs.Reading.{reply, refused, begun, read_fault, read_from, reading}
use Rattle.reader.specs.Lending.{is_begun_event, ends_within}
use Rattle.reader.specs.Within.{within}
use Rattle.reader.proofs.Ready as readiness
use Rattle.reader.proofs.Stays as staying
use Rattle.reader.proofs.Accepts as accepting
use Rattle.reader.proofs.Ends as ending
use Rattle.reader.proofs.Pausing as pausing

pub enough : 1920 ≤ capacity
enough = omega arith

-- ---- what no fault 1 or 2 says, and back
abbrev pub Ready : Reader → List ℕ → List ℕ → Type 0
Ready st line room = readiness.ReadyIn capacity st line room

pub ready : (st : Reader) (line room : List ℕ) → read_fault st (length line) (length room) ≡ 0 → Ready st line room
ready = readiness.ready capacity

pub unfaulted : (st : Reader) (line room : List ℕ) → Ready st line room → read_fault st (length line) (length room) ≡ 0
unfaulted st line room r = ending.unfaulted st line room r

pub course_of : (st : Reader) → impossible st ≡ false → impossible_after st.system st.last st.settings st.place (is_busy st.phase) ≡ false
course_of = readiness.course_of capacity

-- ---- a line begun or refused
pub by_place : (st : Reader) (line room : List ℕ) (p : Option ℕ) → read_fault st (length line) (length room) ≡ 0 → st.place ≡ p → reading st line room ≡ read_from p st line room
by_place = accepting.by_place capacity

pub accepts : (st : Reader) (line room : List ℕ) → read_fault st (length line) (length room) ≡ 0 → st.place ≡ None → line_fault st.system st.mode line ≡ 0
    → reading st line room ≡ reply (begun st (number_of line) (settings_of line)) room
accepts = accepting.accepts capacity

pub refuses : (st : Reader) (line room : List ℕ) → read_fault st (length line) (length room) ≡ 0 → st.place ≡ None → (n : ℕ) → line_fault st.system st.mode line ≡ n
    → (n ≡ 0 → ⊥) → reading st line room ≡ reply (refused st n) room
refuses = accepting.refuses capacity

pub accepted_exactly : (st : Reader) (line room : List ℕ) → read_fault st (length line) (length room) ≡ 0 → st.place ≡ None
    → is_begun_event (reading st line room).told.event ≡ eqb (line_fault st.system st.mode line) 0
accepted_exactly = accepting.accepted_exactly capacity

-- ---- a possible state stays possible
pub fresh_possible : (system mode : ℕ) → impossible (fresh system mode) ≡ false
fresh_possible = staying.fresh_possible capacity

pub read_possible : (st : Reader) (line room : List ℕ) → impossible st ≡ false → impossible (reading st line room).told.state ≡ false
read_possible = staying.read_possible capacity

pub never_2 : (st : Reader) → impossible st ≡ false → (line room : List ℕ) (d : Bool) → (reading st line room).told.event ≡ Refused 2 d → ⊥
never_2 = staying.never_2 capacity

pub fresh_never_2 : (system mode : ℕ) (st : Reader) → staying.Reached capacity system mode st → (line room : List ℕ) (d : Bool) → (reading st line room).told.event ≡ Refused 2 d → ⊥
fresh_never_2 = staying.fresh_never_2 capacity

-- ---- a line ends
pub call_moves : (st : Reader) (q : ℕ) (line room : List ℕ) → read_fault st (length line) (length room) ≡ 0 → st.place ≡ Some q
    → ending.Moves capacity st q line room (reading st line room)
call_moves = ending.call_moves capacity enough

pub rest_ends : (st : Reader) (q : ℕ) (line room : List ℕ) → read_fault st (length line) (length room) ≡ 0 → st.place ≡ Some q
    → ends_within (ending.end_in st - q + 1) st line room ≡ true
rest_ends = ending.rest_ends capacity enough

pub line_ends : (st : Reader) (line room : List ℕ) → st.place ≡ None
    → ends_within (area_length (system_of st.system).payload (settings_of line).flag + 2) st line room ≡ true
line_ends = ending.line_ends capacity enough

pub payload_ends : (st : Reader) (line room : List ℕ) → st.place ≡ None → ends_within ((system_of st.system).payload + 2) st line room ≡ true
payload_ends = ending.payload_ends capacity enough

-- ---- a call under an allowance
pub outcome : (a : ℕ) (st : Reader) (line room : List ℕ) → pausing.Outcome capacity a st line room (within a st line room)
outcome a = pausing.outcome capacity a enough
