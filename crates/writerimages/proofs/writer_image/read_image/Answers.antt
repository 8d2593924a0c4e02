-- `writerimages::writer_image::read_image` meets its contract: the fields that the state gives stand where they were read. Assumes nothing.
use Rattle.std.specs.Prelude.{Option, ℕ}
use mathlib.Core.Path.{◌≡◌, ap, ap₂, ◌∙◌}
use native.Mathlib.Omega.{arith}
use mathlib.Core.Bool.{Bool, ◌&&◌}
use Prim.Native.Nat.{◌+◌, ◌≤◌}
use lib.Dec.{eqb}
use lib.ListN.{length, get_or}
use Rattle.lists.specs.Lists.{part, same}
use Rattle.fields.specs.Fields.{bytes_for}
use Rattle.fields.specs.Frame.{shows_frame}
use Rattle.writerimages.specs.WriterImage.{writer_tag, rest_byte, rest_bytes, rest_by, state_of}
use Rattle.fields.proofs.NumberLaws.{part_known}
use Rattle.writerimages.proofs.WriterLaws.{image_shown}
use borrow.Author.Rules.{rules}
use Rattle.writerimages.proofs.writer_image.read_image.Goals as goal
use Rattle.writer.specs.declared.state.Part.{Part}

pub overflow_cast-crc : goal.overflow_cast-crc
overflow_cast-crc c =
    let h = c.held_in-held.result in
    let long : 7 + 4 ≤ length h = search rules in
    record { fits = (part_known 7 4 h _ long (omega arith) c.number_in-crc.ensures).1 }

pub overflow_cast-used : goal.overflow_cast-used
overflow_cast-used c =
    let h = c.held_in-held.result in
    let long : 11 + 2 ≤ length h = search rules in
    record { fits = (part_known 11 2 h _ long (omega arith) c.number_in-used.ensures).1 }

pub returns : goal.returns
unfolding state_of
returns c =
    let b = c.args.b.now in
    let long : length b ≡ 80 = search rules in
    let last = c.last_in-last.ensures in
    let place = c.place_in-place.ensures in
    let held = c.held_in-held.ensures in
    let rest = c.rest_by-rest.ensures ∙ ap (rest_by (get_or b 7 0)) held in
    let h = c.held_in-held.result in
    let h-long : length h ≡ 21 = search rules in
    let crc = part_known 7 4 h _ (omega (arith, h-long)) (omega arith) c.number_in-crc.ensures in
    let used = part_known 11 2 h _ (omega (arith, h-long)) (omega arith) c.number_in-used.ensures in (
      simp (last, c.settings_in-settings.ensures, place, c.rest_by-rest.ensures, crc.0, used.0, held),
      ap₂ (λ (u v : Bool). u && v)
          (c.shows_frame.ensures ∙ ap₂ (λ (l : Option ℕ) (p : Option ℕ). shows_frame writer_tag l p b) last place)
          (c.shows_rest.ensures ∙ ap (λ (r : Option Part). eqb (get_or b 7 0) (rest_byte r) && (same (part 16 7 b) (rest_bytes r) && same (part 29 8 b) (bytes_for 8 0))) rest)
          ∙ image_shown b h held long crc.2 used.2,
    )
