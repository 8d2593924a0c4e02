-- A line listed: it is lent again and again until its last event, and each call's row stands behind the rows before it.
-- Assumes nothing.
use Rattle.std.specs.Prelude.{ℕ, zero, suc, Bool, true, false, List, [], ◌++◌, ◌≡◌, None}
use Rattle.lists.specs.Tests.{pick}
use Rattle.reader.specs.declared.state.Reader.{Reader}
use Rattle.reader.specs.Reading.{reading}
use Rattle.reader.specs.Lending.{is_last}
use Rattle.rows.specs.Rows.{row_text}

-- how far a line is listed: whether its last event was reported, the reader's state, the room, and the text of the rows
pub record Listed : Type 0 where
  pub over : Bool
  pub state : Reader
  pub room : List ℕ
  pub text : List ℕ

abbrev pub listed : Bool → Reader → List ℕ → List ℕ → Listed
listed over st room text = record { over = over; state = st; room = room; text = text }

-- a call more, and its row
abbrev pub called : List ℕ → Listed → Listed
called line s =
    let x = reading s.state line s.room in
    listed (is_last x.told.event) x.told.state x.room (s.text ++ row_text x.told.event)

-- n calls more, but none behind the line's last event
unfoldable pub called_by : ℕ → List ℕ → Listed → Listed
called_by zero line s = s
called_by (suc n) line s = let on = called_by n line (called line s) in pick s.over s on

-- The rows of a line: 1,442 calls are enough for a line of system 0 (`enough_calls` in proofs/LineLaws.antt), so that none is cut short.
abbrev pub most : ℕ
most = 1442

unfoldable pub listing : Reader → List ℕ → List ℕ → Listed
listing st line room = called_by most line (listed false st room [])

-- between two lines: system 0, and no line begun
pub record Between (st : Reader) : Type 0 where
  pub zeroth : st.system ≡ 0
  pub shut : st.place ≡ None

-- State, room and text are those of the line listed. Between two lines its last event was reported, and it is between two lines again.
pub record Lists (st : Reader) (line before : List ℕ) (after : Reader) (room text : List ℕ) : Type 0 where
  pub same_state : after ≡ (listing st line before).state
  pub same_room : room ≡ (listing st line before).room
  pub same_text : text ≡ (listing st line before).text
  pub is_over : Between st → (listing st line before).over ≡ true
  pub stays : Between st → Between after
