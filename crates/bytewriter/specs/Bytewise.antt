-- The writer's calls on words that are lent as bytes, low byte first (02, Item 1). 1 also for an odd buffer; else each is the writer's call on the words that the bytes spell, and
-- the line's bytes are those of its words.
-- Assumes nothing.
use Rattle.std.specs.Prelude.{ℕ, Bool, ◌&&◌, List}
use Rattle.lists.specs.Tests.{pick}
use Rattle.octets.specs.Bytes.{words_of, bytes_of, is_even}
use Rattle.line.specs.declared.settings.Settings.{Settings}
use Rattle.writer.specs.declared.state.Writer.{Writer}
use Rattle.writer.specs.declared.state.Answer.TheVariants.{Refused}
use Rattle.writer.specs.declared.state.Laid.TheVariants.{Refused as NotLaid}
use Rattle.writer.specs.declared.batch.Stop.TheVariants.{Refused as Stopped}
use Rattle.writer.specs.Answers.{Left, left, Added, added}
use Rattle.writer.specs.Opening.{opening}
use Rattle.writer.specs.Adding.{adding}
use Rattle.writer.specs.Batch.{Batched, batched, batching}
use Rattle.writer.specs.Packing.{packing}
use Rattle.writer.specs.Closing.{closing}

unfoldable pub open_bytes : Writer → Bool → Bool → ℕ → Settings → List ℕ → Left
open_bytes w f v n t line =
    let x = opening w f v n t (words_of line) in pick (is_even line) (left x.answer x.state (bytes_of x.line)) (left (Refused 1) w line)

unfoldable pub add_bytes : Writer → List ℕ → ℕ → List ℕ → Added
add_bytes w line kind values =
    let x = adding w (words_of line) kind (words_of values) in
    pick (is_even line && is_even values) (added x.answer x.state (bytes_of x.line)) (added (NotLaid 1) w line)

unfoldable pub many_bytes : Writer → List ℕ → List ℕ → Batched
many_bytes w line blocks =
    let x = batching w (words_of line) (words_of blocks) in
    pick (is_even line && is_even blocks) (batched x.finished x.stop x.state (bytes_of x.line)) (batched 0 (Stopped 1) w line)

unfoldable pub pack_bytes : Writer → List ℕ → ℕ → ℕ → List ℕ → Left
pack_bytes w line did second values =
    let x = packing w (words_of line) did second (words_of values) in
    pick (is_even line && is_even values) (left x.answer x.state (bytes_of x.line)) (left (Refused 1) w line)

unfoldable pub close_bytes : Writer → List ℕ → Left
close_bytes w line =
    let x = closing w (words_of line) in pick (is_even line) (left x.answer x.state (bytes_of x.line)) (left (Refused 1) w line)
