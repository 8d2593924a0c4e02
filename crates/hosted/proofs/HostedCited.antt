-- Each field of the statement, cited at an instance that a weaker one would not give, its type written out.
-- Assumes nothing.
use Rattle.std.specs.Prelude.{Some, None}
use Prim.Native.Nat.{ℕ}
use mathlib.Core.Bool.{true, false}
use mathlib.Core.List.{List, [], ◌∷◌, ◌++◌}
use mathlib.Core.Path.{◌≡◌, refl, sym, ap, ap₂, ◌∙◌}
use lib.Dec.{eqb, lit<}
use lib.IntN.{negsuc}
use lib.ListN.{length, replicate}
use Rattle.lists.specs.Tests.{pick}
use Rattle.lists.specs.Lists.{same, each}
use Rattle.octets.specs.Bytes.{bytes_of}
use Rattle.line.specs.declared.settings.Settings.{Settings}
use Rattle.line.specs.Settings.{Held, small}
use Rattle.line.specs.Check.{checked_of}
use Rattle.packets.specs.declared.list.Listed.{Listed}
use Rattle.packets.specs.Listing.{listing}
use Rattle.machine.specs.declared.phase.Mark.TheVariants.{Typed, Nulled}
use Rattle.machine.specs.declared.phase.Phase.TheVariants.{Fourth, Data}
use Rattle.reader.specs.declared.state.Reader.{Reader}
use Rattle.reader.specs.declared.state.Event.{Event}
use Rattle.reader.specs.declared.state.Event.TheVariants.{Refused, Begun, Block}
use Rattle.reader.specs.declared.within.Report.TheVariants.{Paused, Told}
use Rattle.reader.specs.declared.within.Within.{Within}
use Rattle.reader.specs.Reading.{Reply, reading}
use Rattle.reader.specs.Within.{within}
use Rattle.writer.specs.declared.state.Writer.{Writer}
use Rattle.writer.specs.declared.state.Answer.{Answer}
use Rattle.writer.specs.declared.state.Answer.TheVariants.{Refused as NotDone, Done}
use Rattle.writer.specs.declared.state.Laid.{Laid}
use Rattle.writer.specs.declared.state.Laid.TheVariants.{Refused as NotLaid, Unfinished}
use Rattle.writer.specs.declared.batch.Stop.TheVariants.{Refused as Stopped}
use Rattle.writer.specs.declared.batch.Stop.{Stop}
use Rattle.writer.specs.Opening.{opening}
use Rattle.writer.specs.Adding.{adding}
use Rattle.writer.specs.Batch.{batching}
use Rattle.writer.specs.Packing.{packing}
use Rattle.writer.specs.Closing.{closing}
use Rattle.writer.proofs.Keeps.{open_keeps}
use Rattle.fields.specs.Fields.{bytes_for, settings_bytes}
use Rattle.images.specs.Held.{HeldReader}
use Rattle.writerimages.specs.Held.{HeldWriter, held_rest}
use Rattle.fields.specs.Widths.{held_place}
use Rattle.images.specs.ReaderImage.{image_of as image_of_reader, state_of as reader_of, is_image as is_reader}
use Rattle.writerimages.specs.WriterImage.{image_of as image_of_writer, state_of as writer_of, is_image as is_writer}
use Rattle.events.specs.EventImage.{event_image}
use Rattle.calls.specs.Answers.{event_answer, report_answer, done_answer, laid_answer, stop_answer}
use Rattle.calls.specs.Making.{makes_reader, makes_writer}
use Rattle.calls.specs.Reading.{Read, gave, reads, reads_within}
use Rattle.calls.specs.Writing.{Wrote, wrote, opens, adds, packs, closes, WroteMany, adds_many}
use Rattle.calls.specs.Looking.{header_bytes, looked, checks, listed_bytes, listings, lists}
use Rattle.hosted.specs.Courses as courses
use Rattle.hosted.specs.Hosted.{is_early, read_as, read_within_as}
use Rattle.hosted.proofs.HostedHolds.{hosted}
use Rattle.writer.specs.State.{unfinished}

-- ---- states
abbrev full : Settings
full =
    record {
      code = 255;
      aai = 255;
      destination = replicate 16 255;
      source = replicate 16 255;
      block = 255;
      flag = 255;
      reserved = replicate 5 255;
    }

full_held : Held full
full_held = record { to = refl; from = refl; five = refl; to_bytes = refl; from_bytes = refl; five_bytes = refl; block_byte = lit< tt; flag_byte = lit< tt }

-- `reader_back`, `reader_given`: a state that 01 calls impossible, with the largest numbers of their widths
abbrev far : Reader
far = record { system = 255; mode = 255; last = Some 65535; settings = full; place = Some 18446744073709551615; phase = Data Nulled 18446744073709551615 18446744073709551615 }

far_held : HeldReader far
far_held =
    record { system_byte = refl; mode_byte = refl; last_held = refl; place_held = refl; phase_held = refl; code_byte = refl; aai_byte = refl; settings_held = full_held }

pub far_back : (reader_of (image_of_reader far) ≡ far) × (is_reader (image_of_reader far) ≡ true)
far_back = (hosted.reader_back far far_held, hosted.reader_given far far_held)

-- and one with three count bytes
abbrev third : Reader
third = record { system = 1; mode = 9; last = Some 625; settings = full; place = None; phase = Fourth (Typed 255) 255 0 254 }

third_held : HeldReader third
third_held =
    record { system_byte = refl; mode_byte = refl; last_held = refl; place_held = refl; phase_held = refl; code_byte = refl; aai_byte = refl; settings_held = full_held }

pub third_back : (reader_of (image_of_reader third)).phase ≡ Fourth (Typed 255) 255 0 254
third_back = ap (λ (s : Reader). s.phase) (hosted.reader_back third third_held)

-- `reader_image`: two images of one state are one
pub reader_once : (b c : List ℕ) → same b (image_of_reader (reader_of b)) ≡ true → same c (image_of_reader (reader_of c)) ≡ true → reader_of b ≡ reader_of c → b ≡ c
unfolding is_reader
reader_once b c p q e = sym (hosted.reader_image b p) ∙ ap image_of_reader e ∙ hosted.reader_image c q

-- `reader_held`: whatever 80 bytes spell, the place has 64 bits
pub place_64 : (b : List ℕ) → each small b ≡ true → length b ≡ 80 → held_place (reader_of b).place ≡ true
place_64 b e h = (hosted.reader_held b e h).place_held

-- the same of a writer
abbrev most : Writer
most =
    record { system = 255; mode = 255; last = None; settings = full; place = Some 18446744073709551615; rest = unfinished 255 65535 65535; crc = 4294967295; used = 65535 }

most_held : HeldWriter most
most_held =
    record {
      system_byte = refl;
      mode_byte = refl;
      last_held = refl;
      place_held = refl;
      rest_held = refl;
      crc_held = refl;
      used_held = refl;
      code_byte = refl;
      aai_byte = refl;
      settings_held = full_held;
    }

pub most_back : (writer_of (image_of_writer most) ≡ most) × (is_writer (image_of_writer most) ≡ true)
most_back = (hosted.writer_back most most_held, hosted.writer_given most most_held)

pub writer_once : (b c : List ℕ) → same b (image_of_writer (writer_of b)) ≡ true → same c (image_of_writer (writer_of c)) ≡ true → writer_of b ≡ writer_of c → b ≡ c
unfolding is_writer
writer_once b c p q e = sym (hosted.writer_image b p) ∙ ap image_of_writer e ∙ hosted.writer_image c q

pub rest_16 : (b : List ℕ) → each small b ≡ true → length b ≡ 80 → held_rest (writer_of b).rest ≡ true
rest_16 b e h = (hosted.writer_held b e h).rest_held

-- `apart`: the image of a reader is no writer's, nor the other way round
pub not_writer : (st : Reader) → HeldReader st → is_writer (image_of_reader st) ≡ true → ⊥
not_writer st h = hosted.apart (image_of_reader st) (hosted.reader_given st h)

pub not_reader : (w : Writer) → HeldWriter w → is_reader (image_of_writer w) ≡ true → ⊥
not_reader w h r = hosted.apart (image_of_writer w) r (hosted.writer_given w h)

-- ---- reading calls
module _ (st : Reader) (h : HeldReader st) (line room event : List ℕ) (long : length event ≡ 32) where
  abbrev x : Reply
  x = reading st line room

  -- `reads_are`: what is read, by the event alone
  told : (e : Event) → (reading st line room).told.event ≡ e
      → reads (image_of_reader st) (bytes_of line) (bytes_of room) event
      ≡ pick (is_early (event_answer e)) (gave (event_answer e) (image_of_reader st) (bytes_of room) event)
      (gave (event_answer e) (image_of_reader (reading st line room).told.state) (bytes_of (reading st line room).room) (event_image (Told e) 0))
  unfolding read_as
  told e is =
      hosted.reads_are st h line room event long
      ∙ ap (λ (y : Event). pick (is_early (event_answer y)) (gave (event_answer y) (image_of_reader st) (bytes_of room) event) (gave (event_answer y) (image_of_reader x.told.state) (bytes_of x.room) (event_image (Told y) 0))) is

  -- 2 changes no byte
  pub read_2 : (reading st line room).told.event ≡ Refused 2 false → reads (image_of_reader st) (bytes_of line) (bytes_of room) event ≡ gave 2 (image_of_reader st) (bytes_of room) event
  unfolding pick
  read_2 is = told (Refused 2 false) is

  -- 16 is told with the block that it drops, and the state is the one after it
  pub read_16 : (reading st line room).told.event ≡ Refused 16 true
      → reads (image_of_reader st) (bytes_of line) (bytes_of room) event
      ≡ gave 16 (image_of_reader (reading st line room).told.state) (bytes_of (reading st line room).room) (0 ∷ 1 ∷ 0 ∷ 0 ∷ 16 ∷ replicate 27 0)
  unfolding pick bytes_for
  read_16 is = told (Refused 16 true) is

  -- a block of 258 values of type 7
  pub read_block : (reading st line room).told.event ≡ Block 7 258
      → reads (image_of_reader st) (bytes_of line) (bytes_of room) event
      ≡ gave 0 (image_of_reader (reading st line room).told.state) (bytes_of (reading st line room).room) (2 ∷ replicate 11 0 ++ (7 ∷ 0 ∷ 0 ∷ 0 ∷ 2 ∷ 1 ∷ replicate 14 0))
  unfolding pick bytes_for
  read_block is = told (Block 7 258) is

  -- line 513, behind by 262
  pub read_begun : (reading st line room).told.event ≡ Begun 513 (Some (negsuc 261)) false
      → (reads (image_of_reader st) (bytes_of line) (bytes_of room) event).event ≡ 1 ∷ 0 ∷ 1 ∷ 1 ∷ 1 ∷ 2 ∷ 0 ∷ 0 ∷ 6 ∷ 1 ∷ replicate 22 0
  unfolding pick bytes_for
  read_begun is = ap (λ (y : Read). y.event) (told (Begun 513 (Some (negsuc 261)) false) is)

  -- `reads_within_are`: a pause after 300 words
  pub read_paused : (a : ℕ) → (within a st line room).answer ≡ record { report = Paused; consumed = 300; state = st }
      → reads_within a (image_of_reader st) (bytes_of line) (bytes_of room) event
      ≡ gave 0 (image_of_reader st) (bytes_of (within a st line room).room) (5 ∷ replicate 23 0 ++ (44 ∷ 1 ∷ replicate 6 0))
  unfolding read_within_as pick bytes_for
  read_paused a is =
      hosted.reads_within_are a st h line room event long
      ∙ ap
      (λ (y : Within).
      let n = report_answer y.report in
      pick (is_early n) (gave n (image_of_reader st) (bytes_of room) event) (gave n (image_of_reader y.state) (bytes_of (within a st line room).room) (event_image y.report y.consumed)))
      is

-- ---- the writer's calls
module _ (w : Writer) (h : HeldWriter w) (line : List ℕ) where
  -- `opens_are`: a refusal's number, of a line number of 32 bits, with flags and settings of any bytes
  pub open_9 : (opening w true false 4294967295 full line).answer ≡ NotDone 9
      → opens (image_of_writer w) true false 4294967295 (settings_bytes full) (bytes_of line) ≡ wrote 9 (image_of_writer w) (bytes_of line)
  open_9 is =
      let k = open_keeps w true false 4294967295 full line 9 is in
      let y = opening w true false 4294967295 full line in
      hosted.opens_are w h true false 4294967295 full full_held line
      ∙ ap (λ (a : Answer). wrote (done_answer a) (image_of_writer y.state) (bytes_of y.line)) is
      ∙ ap₂ (λ (v : Writer) (l : List ℕ). wrote 9 (image_of_writer v) (bytes_of l)) k.0 k.1

  -- `adds_are`: an unfinished block is 256, above every refusal
  pub add_256 : (kind : ℕ) (values : List ℕ) → (adding w line kind values).answer ≡ Unfinished
      → adds (image_of_writer w) kind (bytes_of values) (bytes_of line) ≡ wrote 256 (image_of_writer (adding w line kind values).state) (bytes_of (adding w line kind values).line)
  add_256 kind values is =
      hosted.adds_are w h kind values line
      ∙ ap (λ (a : Laid). wrote (laid_answer a) (image_of_writer (adding w line kind values).state) (bytes_of (adding w line kind values).line)) is

  -- and a type of 32 bits is 18
  pub add_18 : (values : List ℕ) → (adding w line 4294967041 values).answer ≡ NotLaid 18
      → (adds (image_of_writer w) 4294967041 (bytes_of values) (bytes_of line)).answer ≡ 18
  add_18 values is = ap (λ (y : Wrote). y.answer) (hosted.adds_are w h 4294967041 values line) ∙ ap laid_answer is

  -- `packs_are`, `closes_are`
  pub pack_24 : (did second : ℕ) (values : List ℕ) → (packing w line did second values).answer ≡ NotDone 24
      → (packs (image_of_writer w) did second (bytes_of values) (bytes_of line)).answer ≡ 24
  pack_24 did second values is = ap (λ (y : Wrote). y.answer) (hosted.packs_are w h did second values line) ∙ ap done_answer is

  pub close_0 : (closing w line).answer ≡ Done
      → closes (image_of_writer w) (bytes_of line) ≡ wrote 0 (image_of_writer (closing w line).state) (bytes_of (closing w line).line)
  close_0 is = hosted.closes_are w h line ∙ ap (λ (a : Answer). wrote (done_answer a) (image_of_writer (closing w line).state) (bytes_of (closing w line).line)) is

  -- `adds_many_are`: 28 tells how many were finished, 2 leaves that number
  many : (blocks : List ℕ) (k : ℕ) → (s : Stop) → (batching w line blocks).stop ≡ s
      → (adds_many (image_of_writer w) (bytes_of blocks) (bytes_of line) k).finished ≡ pick (is_early (stop_answer s)) k (batching w line blocks).finished
  many blocks k s is =
      ap (λ (y : WroteMany). y.finished) (hosted.adds_many_are w h blocks line k)
      ∙ ap (λ (z : Stop). pick (is_early (stop_answer z)) k (batching w line blocks).finished) is

  pub many_28 : (blocks : List ℕ) (k : ℕ) → (batching w line blocks).stop ≡ Stopped 28
      → (adds_many (image_of_writer w) (bytes_of blocks) (bytes_of line) k).finished ≡ (batching w line blocks).finished
  unfolding pick
  many_28 blocks k is = many blocks k (Stopped 28) is

  pub many_2 : (blocks : List ℕ) (k : ℕ) → (batching w line blocks).stop ≡ Stopped 2 → (adds_many (image_of_writer w) (bytes_of blocks) (bytes_of line) k).finished ≡ k
  unfolding pick
  many_2 blocks k is = many blocks k (Stopped 2) is

-- ---- `checks_are`, `lists_are`: a line of the wrong length changes no byte, and a list ended by a bad checksum says so
pub check_1 : (system mode : ℕ) (line header : List ℕ) → length header ≡ 43 → (checked_of system mode line).fault ≡ 1
    → checks system mode (bytes_of line) header ≡ looked 1 header
unfolding pick
check_1 system mode line header long is =
    let c = checked_of system mode line in
    hosted.checks_are system mode line header long ∙ ap (λ (n : ℕ). looked n (pick (eqb n 1) header (header_bytes c))) is

pub list_23 : (system mode : ℕ) (line out listed : List ℕ) → length listed ≡ 16
    → (listing system mode line out).answer ≡ record { fault = 0; packets = 2; words = 300; gap = 304; stop = 23 }
    → lists system mode (bytes_of line) (bytes_of out) listed ≡ listings 0 (bytes_of (listing system mode line out).out) (2 ∷ 0 ∷ 0 ∷ 0 ∷ 44 ∷ 1 ∷ 0 ∷ 0 ∷ 48 ∷ 1 ∷ 0 ∷ 0 ∷ 23 ∷ 0 ∷ 0 ∷ 0 ∷ [])
unfolding pick listed_bytes bytes_for
list_23 system mode line out listed long is =
    hosted.lists_are system mode line out listed long
    ∙ ap (λ (a : Listed). listings a.fault (bytes_of (listing system mode line out).out) (pick (eqb a.fault 1) listed (listed_bytes a))) is

-- ---- `..-never-2`: behind every call, of an unknown system too
reader_course : (lent line room event : List ℕ) → length lent ≡ 80
    → courses.ReaderImages (reads_within 64 (reads (makes_reader 1 9 lent).state line room event).state line room event).state
reader_course lent line room event long = courses.read_within _ (courses.read _ (courses.fresh 1 9 refl refl lent long) line room event) 64 line room event

pub read_not_2 : (lent line room event : List ℕ) → length lent ≡ 80
    → (reads (reads_within 64 (reads (makes_reader 1 9 lent).state line room event).state line room event).state line room event).answer ≡ 2 → ⊥
read_not_2 lent line room event long = hosted.reads_never_2 _ (reader_course lent line room event long) line room event

pub within_not_2 : (lent line room event : List ℕ) → length lent ≡ 80
    → (reads_within 0 (reads_within 64 (reads (makes_reader 1 9 lent).state line room event).state line room event).state line room event).answer ≡ 2 → ⊥
within_not_2 lent line room event long = hosted.reads_within_never_2 _ (reader_course lent line room event long) 0 line room event

-- opened, added to, a list added, a packet added, closed
abbrev after : List ℕ → List ℕ → List ℕ → List ℕ
after lent settings line =
    let made = (makes_writer 255 9 lent).state in
    let open₁ = (opens made true true 625 settings line).state in
    let one = (adds open₁ 1 line line).state in
    let many = (adds_many one line line 0).state in
    (closes (packs many 128 1 line line).state line).state

writer_course : (lent settings line : List ℕ) → length lent ≡ 80 → each small settings ≡ true → courses.WriterImages (after lent settings line)
writer_course lent settings line long bytes =
    courses.closed _ (courses.packed _ (courses.added_many _ (courses.added _ (courses.opened _ (courses.fresh 255 9 refl refl lent long) true true 625 settings line bytes) 1 line line) line line 0) 128 1 line line) line

module _ (lent settings line : List ℕ) (long : length lent ≡ 80) (bytes : each small settings ≡ true) where
  abbrev image : List ℕ
  image = after lent settings line

  pub open_not_2 : (settings' : List ℕ) → (opens (after lent settings line) false false 1 settings' line).answer ≡ 2 → ⊥
  open_not_2 settings' = hosted.opens_never_2 image (writer_course lent settings line long bytes) false false 1 settings' line

  pub add_not_2 : (adds (after lent settings line) 255 line line).answer ≡ 2 → ⊥
  add_not_2 = hosted.adds_never_2 image (writer_course lent settings line long bytes) 255 line line

  pub many_not_2 : (adds_many (after lent settings line) [] line 0).answer ≡ 2 → ⊥
  many_not_2 = hosted.adds_many_never_2 image (writer_course lent settings line long bytes) [] line 0

  pub pack_not_2 : (packs (after lent settings line) 64 0 [] line).answer ≡ 2 → ⊥
  pack_not_2 = hosted.packs_never_2 image (writer_course lent settings line long bytes) 64 0 [] line

  pub close_not_2 : (closes (after lent settings line) line).answer ≡ 2 → ⊥
  close_not_2 = hosted.closes_never_2 image (writer_course lent settings line long bytes) line
