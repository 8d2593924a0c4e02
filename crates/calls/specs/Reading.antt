-- The reading calls from C: the reader's call on the state that the image gives. After 1 and 2 no byte of any buffer is changed; after any other answer state, room and event are
-- those of the call.
-- Assumes nothing.
use Rattle.std.specs.Prelude.{ℕ, ◌&&◌, List, eqb, length}
use Rattle.lists.specs.Tests.{pick}
use Rattle.reader.specs.declared.within.Report.TheVariants.{Told}
use Rattle.fields.specs.Frame.{image_length}
use Rattle.images.specs.ReaderImage.{image_of, state_of, is_image}
use Rattle.events.specs.EventImage.{event_length, event_image}
use Rattle.bytereader.specs.Bytewise.{read_bytes, within_bytes}
use Rattle.calls.specs.Answers.{event_answer, report_answer, refusal}

-- the answer, and the bytes lent for state, room and event
pub record Read : Type 0 where
  pub answer : ℕ
  pub state : List ℕ
  pub room : List ℕ
  pub event : List ℕ

abbrev pub gave : ℕ → List ℕ → List ℕ → List ℕ → Read
gave n s r e = record { answer = n; state = s; room = r; event = e }

-- a call without allowance consumes no number of words that it tells
unfoldable pub reads : List ℕ → List ℕ → List ℕ → List ℕ → Read
reads state line room event =
    let x = read_bytes (state_of state) line room in
    let n = event_answer x.told.event in
    let early = refusal (eqb (length state) image_length && eqb (length event) event_length) (is_image state) n in
    pick (eqb early 0) (gave n (image_of x.told.state) x.room (event_image (Told x.told.event) 0)) (gave early state room event)

unfoldable pub reads_within : ℕ → List ℕ → List ℕ → List ℕ → List ℕ → Read
reads_within a state line room event =
    let x = within_bytes a (state_of state) line room in
    let n = report_answer x.answer.report in
    let early = refusal (eqb (length state) image_length && eqb (length event) event_length) (is_image state) n in
    pick (eqb early 0) (gave n (image_of x.answer.state) x.room (event_image x.answer.report x.answer.consumed)) (gave early state room event)
