-- 02, Item 1: image and state convert both ways without loss; each call from C is the library's call; and from a reader or writer made by C, 2 is never answered. So what the demands
-- say of the library's calls they say of the calls from C.
-- Assumes nothing.
use Rattle.std.specs.Prelude.{ℕ, ◌≡◌, Bool, true, ◌||◌, List, eqb, length}
use Rattle.lists.specs.Tests.{pick}
use Rattle.lists.specs.Lists.{each}
use Rattle.octets.specs.Bytes.{bytes_of}
use Rattle.line.specs.declared.settings.Settings.{Settings}
use Rattle.line.specs.Settings.{Held, small}
use Rattle.line.specs.Check.{checked_of}
use Rattle.packets.specs.Listing.{listing}
use Rattle.reader.specs.declared.state.Reader.{Reader}
use Rattle.reader.specs.declared.within.Report.TheVariants.{Told}
use Rattle.reader.specs.Reading.{reading}
use Rattle.reader.specs.Within.{within}
use Rattle.writer.specs.declared.state.Writer.{Writer}
use Rattle.writer.specs.Opening.{opening}
use Rattle.writer.specs.Adding.{adding}
use Rattle.writer.specs.Batch.{batching}
use Rattle.writer.specs.Packing.{packing}
use Rattle.writer.specs.Closing.{closing}
use Rattle.fields.specs.Fields.{settings_bytes}
use Rattle.fields.specs.Frame.{image_length}
use Rattle.images.specs.Held.{HeldReader}
use Rattle.writerimages.specs.Held.{HeldWriter}
use Rattle.images.specs.ReaderImage.{image_of as image_of_reader, state_of as reader_of, is_image as is_reader}
use Rattle.writerimages.specs.WriterImage.{image_of as image_of_writer, state_of as writer_of, is_image as is_writer}
use Rattle.events.specs.EventImage.{event_length, event_image}
use Rattle.calls.specs.Answers.{event_answer, report_answer, done_answer, laid_answer, stop_answer}
use Rattle.calls.specs.Reading.{Read, gave, reads, reads_within}
use Rattle.calls.specs.Writing.{wrote, opens, adds, packs, closes, wrote_many, adds_many}
use Rattle.calls.specs.Looking.{header_length, header_bytes, looked, checks, listed_length, listed_bytes, listings, lists}
use Rattle.hosted.specs.Courses.{ReaderImages, WriterImages}

-- 1 and 2, after which no byte is changed
abbrev pub is_early : ℕ → Bool
is_early n = eqb n 1 || eqb n 2

-- what the library's reading call tells, as bytes
unfoldable pub read_as : Reader → List ℕ → List ℕ → List ℕ → Read
read_as st line room event =
    let x = reading st line room in
    let n = event_answer x.told.event in
    pick (is_early n) (gave n (image_of_reader st) (bytes_of room) event) (gave n (image_of_reader x.told.state) (bytes_of x.room) (event_image (Told x.told.event) 0))

unfoldable pub read_within_as : ℕ → Reader → List ℕ → List ℕ → List ℕ → Read
read_within_as a st line room event =
    let x = within a st line room in
    let n = report_answer x.answer.report in
    pick (is_early n) (gave n (image_of_reader st) (bytes_of room) event) (gave n (image_of_reader x.answer.state) (bytes_of x.room) (event_image x.answer.report x.answer.consumed))

pub record Hosted : Type 0 where
  -- every value of the state's type has an image, from which it comes back; an image is what such a state gives, and every accepted image is that of the state read from it
  pub reader_back : (st : Reader) → HeldReader st → reader_of (image_of_reader st) ≡ st
  pub reader_given : (st : Reader) → HeldReader st → is_reader (image_of_reader st) ≡ true
  pub reader_image : (b : List ℕ) → is_reader b ≡ true → image_of_reader (reader_of b) ≡ b
  pub reader_held : (b : List ℕ) → each small b ≡ true → length b ≡ image_length → HeldReader (reader_of b)
  pub writer_back : (w : Writer) → HeldWriter w → writer_of (image_of_writer w) ≡ w
  pub writer_given : (w : Writer) → HeldWriter w → is_writer (image_of_writer w) ≡ true
  pub writer_image : (b : List ℕ) → is_writer b ≡ true → image_of_writer (writer_of b) ≡ b
  pub writer_held : (b : List ℕ) → each small b ≡ true → length b ≡ image_length → HeldWriter (writer_of b)
  -- a reader's image is no writer's
  pub apart : (b : List ℕ) → is_reader b ≡ true → is_writer b ≡ true → ⊥
  -- each call on the bytes of a state, a line and a room is the library's call: its answer, and the bytes of what it leaves. A line number and a type may have any width
  pub reads_are : (st : Reader) → HeldReader st → (line room event : List ℕ) → length event ≡ event_length
      → reads (image_of_reader st) (bytes_of line) (bytes_of room) event ≡ read_as st line room event
  pub reads_within_are : (a : ℕ) (st : Reader) → HeldReader st → (line room event : List ℕ) → length event ≡ event_length
      → reads_within a (image_of_reader st) (bytes_of line) (bytes_of room) event ≡ read_within_as a st line room event
  pub opens_are : (w : Writer) → HeldWriter w → (f v : Bool) (n : ℕ) (t : Settings) → Held t → (line : List ℕ)
      → let x = opening w f v n t line in opens (image_of_writer w) f v n (settings_bytes t) (bytes_of line) ≡ wrote (done_answer x.answer) (image_of_writer x.state) (bytes_of x.line)
  pub adds_are : (w : Writer) → HeldWriter w → (kind : ℕ) (values line : List ℕ)
      → let x = adding w line kind values in adds (image_of_writer w) kind (bytes_of values) (bytes_of line) ≡ wrote (laid_answer x.answer) (image_of_writer x.state) (bytes_of x.line)
  pub packs_are : (w : Writer) → HeldWriter w → (did second : ℕ) (values line : List ℕ)
      → let x = packing w line did second values in packs (image_of_writer w) did second (bytes_of values) (bytes_of line) ≡ wrote (done_answer x.answer) (image_of_writer x.state) (bytes_of x.line)
  pub closes_are : (w : Writer) → HeldWriter w → (line : List ℕ)
      → let x = closing w line in closes (image_of_writer w) (bytes_of line) ≡ wrote (done_answer x.answer) (image_of_writer x.state) (bytes_of x.line)
  pub adds_many_are : (w : Writer) → HeldWriter w → (blocks line : List ℕ) (k : ℕ)
      → let x = batching w line blocks in
      adds_many (image_of_writer w) (bytes_of blocks) (bytes_of line) k
      ≡ wrote_many (stop_answer x.stop) (image_of_writer x.state) (bytes_of x.line) (pick (is_early (stop_answer x.stop)) k x.finished)
  -- so are the line check and the listing of a gap; 1 leaves what was lent for their answers
  pub checks_are : (system mode : ℕ) (line header : List ℕ) → length header ≡ header_length
      → let c = checked_of system mode line in checks system mode (bytes_of line) header ≡ looked c.fault (pick (eqb c.fault 1) header (header_bytes c))
  pub lists_are : (system mode : ℕ) (line out listed : List ℕ) → length listed ≡ listed_length
      → let x = listing system mode line out in
      lists system mode (bytes_of line) (bytes_of out) listed ≡ listings x.answer.fault (bytes_of x.out) (pick (eqb x.answer.fault 1) listed (listed_bytes x.answer))
  -- from a reader or a writer made by C, and any calls, 2 is never answered
  pub reads_never_2 : (state : List ℕ) → ReaderImages state → (line room event : List ℕ) → (reads state line room event).answer ≡ 2 → ⊥
  pub reads_within_never_2 : (state : List ℕ) → ReaderImages state → (a : ℕ) (line room event : List ℕ) → (reads_within a state line room event).answer ≡ 2 → ⊥
  pub opens_never_2 : (state : List ℕ) → WriterImages state → (f v : Bool) (n : ℕ) (settings line : List ℕ) → (opens state f v n settings line).answer ≡ 2 → ⊥
  pub adds_never_2 : (state : List ℕ) → WriterImages state → (kind : ℕ) (values line : List ℕ) → (adds state kind values line).answer ≡ 2 → ⊥
  pub packs_never_2 : (state : List ℕ) → WriterImages state → (did second : ℕ) (values line : List ℕ) → (packs state did second values line).answer ≡ 2 → ⊥
  pub closes_never_2 : (state : List ℕ) → WriterImages state → (line : List ℕ) → (closes state line).answer ≡ 2 → ⊥
  pub adds_many_never_2 : (state : List ℕ) → WriterImages state → (blocks line : List ℕ) (k : ℕ) → (adds_many state blocks line k).answer ≡ 2 → ⊥
