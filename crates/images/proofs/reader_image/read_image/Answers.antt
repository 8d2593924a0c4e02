-- `images::reader_image::read_image` meets its contract: the fields that the state gives stand where they were read. Assumes nothing.
use Rattle.std.specs.Prelude.{Option, ℕ}
use mathlib.Core.Path.{ap, ap₂, ◌∙◌, ◌≡◌}
use mathlib.Core.Bool.{Bool, ◌&&◌}
use lib.Dec.{eqb}
use lib.ListN.{get_or, length}
use Rattle.lists.specs.Lists.{same}
use Rattle.machine.specs.declared.phase.Phase.{Phase}
use Rattle.fields.specs.Frame.{last_in, place_in, held_in, shows_frame}
use Rattle.images.specs.ReaderImage.{reader_tag, phase_byte, phase_bytes, phase_in, image_of, state_of, is_image}
use Rattle.images.proofs.ImageLaws.{length_phase}
use Rattle.images.proofs.ShownLaws.{frame_shown}
use borrow.Author.Rules.{rules}
use Rattle.images.proofs.reader_image.read_image.Goals as goal

pub returns : goal.returns
unfolding state_of image_of is_image
returns c =
    let b = c.args.b.now in
    let long : length b ≡ 80 = search rules in
    let last = c.last_in-last.ensures in
    let place = c.place_in-place.ensures in
    let phase = c.phase_in-phase.ensures in (
      simp (last, c.settings_in-settings.ensures, place, phase),
      ap₂ (λ (u v : Bool). u && v)
          (c.shows_frame.ensures ∙ ap₂ (λ (l : Option ℕ) (p : Option ℕ). shows_frame reader_tag l p b) last place)
          (c.shows_phase.ensures ∙ ap (λ (p : Phase). eqb (get_or b 7 0) (phase_byte p) && same (held_in b) (phase_bytes p)) phase)
          ∙ frame_shown reader_tag (last_in b) (place_in b) (phase_byte (phase_in b)) (phase_bytes (phase_in b)) b long (length_phase (phase_in b)),
    )
