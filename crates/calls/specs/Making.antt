-- A reader or a writer made: its fresh state as an image. 1: wrong image length. An unknown system or mode is refused later, as everywhere.
-- Assumes nothing.
use Rattle.std.specs.Prelude.{ℕ, List, eqb, length}
use Rattle.lists.specs.Tests.{pick}
use Rattle.reader.specs.State.{fresh as fresh_reader}
use Rattle.writer.specs.State.{fresh as fresh_writer}
use Rattle.fields.specs.Frame.{image_length}
use Rattle.images.specs.ReaderImage.{image_of as image_of_reader}
use Rattle.writerimages.specs.WriterImage.{image_of as image_of_writer}

-- the answer, and the bytes lent for the image
pub record Made : Type 0 where
  pub answer : ℕ
  pub state : List ℕ

abbrev pub made : ℕ → List ℕ → Made
made n s = record { answer = n; state = s }

unfoldable pub makes_reader : ℕ → ℕ → List ℕ → Made
makes_reader system mode state = pick (eqb (length state) image_length) (made 0 (image_of_reader (fresh_reader system mode))) (made 1 state)

unfoldable pub makes_writer : ℕ → ℕ → List ℕ → Made
makes_writer system mode state = pick (eqb (length state) image_length) (made 0 (image_of_writer (fresh_writer system mode))) (made 1 state)
