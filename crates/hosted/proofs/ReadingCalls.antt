-- The reading calls from C on the bytes of a state, a line and a room are the reader's calls.
-- Assumes nothing.
use Prim.Native.Nat.{ℕ}
use mathlib.Core.Bool.{true, ◌&&◌}
use mathlib.Core.List.{List}
use mathlib.Core.Path.{◌≡◌, ap, ap₂, ◌∙◌}
use lib.Dec.{eqb}
use lib.ListN.{length}
use borrow.Author.Tests.{eq-eqb}
use Rattle.lists.specs.Tests.{pick}
use Rattle.lists.proofs.Tests.{and_true, pick_true}
use Rattle.octets.specs.Bytes.{bytes_of}
use Rattle.octets.proofs.BytesLaws.{words_back}
use Rattle.reader.specs.declared.state.Reader.{Reader}
use Rattle.reader.specs.declared.within.Report.TheVariants.{Told}
use Rattle.reader.specs.Reading.{Reply, reply, reading}
use Rattle.reader.specs.Within.{Sliced, sliced, tells, within}
use Rattle.fields.specs.Frame.{image_length}
use Rattle.images.specs.Held.{HeldReader}
use Rattle.images.specs.ReaderImage.{image_of, is_image}
use Rattle.events.specs.EventImage.{event_length, event_image}
use Rattle.images.proofs.ImageLaws.{state_image, image_given, image_length_lem}
use Rattle.bytereader.specs.Bytewise.{refused_odd, read_bytes, within_bytes}
use Rattle.calls.specs.Answers.{event_answer, report_answer, refusal}
use Rattle.calls.specs.Reading.{gave, reads, reads_within}
use Rattle.hosted.specs.Hosted.{read_as, read_within_as}
use Rattle.hosted.proofs.Early.{in_order}
use Rattle.hosted.proofs.EvenBytes.{even_bytes}

-- ---- over the bytes of words
read_words : (st : Reader) (line room : List ℕ) → read_bytes st (bytes_of line) (bytes_of room) ≡ reply (reading st line room).told (bytes_of (reading st line room).room)
unfolding read_bytes
read_words st line room =
    pick_true _ (reply (refused_odd st) (bytes_of room)) (and_true (even_bytes line) (even_bytes room))
    ∙ ap₂ (λ (l r : List ℕ). let x = reading st l r in reply x.told (bytes_of x.room)) (words_back line) (words_back room)

within_words : (a : ℕ) (st : Reader) (line room : List ℕ) → within_bytes a st (bytes_of line) (bytes_of room) ≡ sliced (within a st line room).answer (bytes_of (within a st line room).room)
unfolding within_bytes
within_words a st line room =
    pick_true _ (sliced (tells 0 (refused_odd st)) (bytes_of room)) (and_true (even_bytes line) (even_bytes room))
    ∙ ap₂ (λ (l r : List ℕ). let x = within a st l r in sliced x.answer (bytes_of x.room)) (words_back line) (words_back room)

-- ---- over an image
module _ (st : Reader) (h : HeldReader st) (line room event : List ℕ) (long : length event ≡ event_length) where
  shaped : (eqb (length (image_of st)) image_length && eqb (length event) event_length) ≡ true
  shaped = and_true (eq-eqb _ _ (image_length_lem st h)) (eq-eqb _ _ long)

  pub reads_by : reads (image_of st) (bytes_of line) (bytes_of room) event ≡ read_as st line room event
  unfolding reads read_as
  reads_by =
      ap
      (λ (x : Reply).
      let n = event_answer x.told.event in
      let early = refusal (eqb (length (image_of st)) image_length && eqb (length event) event_length) (is_image (image_of st)) n in
      pick (eqb early 0) (gave n (image_of x.told.state) x.room (event_image (Told x.told.event) 0)) (gave early (image_of st) (bytes_of room) event))
      (ap (λ (s : Reader). read_bytes s (bytes_of line) (bytes_of room)) (state_image st h) ∙ read_words st line room)
      ∙ in_order _ _ _ _ (λ (k : ℕ). gave k (image_of st) (bytes_of room) event) shaped (image_given st h)

  pub reads_within_by : (a : ℕ) → reads_within a (image_of st) (bytes_of line) (bytes_of room) event ≡ read_within_as a st line room event
  unfolding reads_within read_within_as
  reads_within_by a =
      ap
      (λ (x : Sliced).
      let n = report_answer x.answer.report in
      let early = refusal (eqb (length (image_of st)) image_length && eqb (length event) event_length) (is_image (image_of st)) n in
      pick (eqb early 0) (gave n (image_of x.answer.state) x.room (event_image x.answer.report x.answer.consumed)) (gave early (image_of st) (bytes_of room) event))
      (ap (λ (s : Reader). within_bytes a s (bytes_of line) (bytes_of room)) (state_image st h) ∙ within_words a st line room)
      ∙ in_order _ _ _ _ (λ (k : ℕ). gave k (image_of st) (bytes_of room) event) shaped (image_given st h)
