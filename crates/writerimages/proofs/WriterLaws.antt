-- The writer's image: every state of the type comes back from it, an image gives itself again, and any 80 bytes spell a state of the type.
-- No image is both a reader's and a writer's.
-- Assumes nothing.
use Rattle.std.specs.Prelude.{Option, Some, None}
use mathlib.Core.Path.{◌≡◌, refl, sym, ap, ap₂, ◌∙◌}
use mathlib.Core.Bool.{Bool, true, ◌&&◌}
use mathlib.Core.List.{List, ◌++◌}
use Prim.Native.Nat.{ℕ, zero, suc, ◌+◌, ◌≤◌}
use native.Mathlib.Omega.{arith}
use lib.Dec.{eqb}
use lib.ListN.{length, get_or, take, drop, replicate, length-append}
use lib.Seq.{take_at, drop_at, drop-drop}
use borrow.Author.Tests.{lt-ltb, ltb-true}
use Rattle.lists.specs.Lists.{part, same, each}
use Rattle.lists.proofs.Tests.{both_true, and_true}
use Rattle.lists.proofs.Lists.{part_part, same_eq, eq_same, each_at}
use Rattle.line.specs.Settings.{small}
use Rattle.writer.specs.declared.state.Writer.{Writer}
use Rattle.fields.specs.Fields.{bytes_for, number_from}
use Rattle.fields.specs.Frame.{framed, last_in, place_in, held_in, shows_frame}
use Rattle.images.specs.ReaderImage as R
use Rattle.writerimages.specs.WriterImage.{writer_tag, rest_byte, rest_bytes, rest_by, image_of, state_of, is_image}
use Rattle.fields.specs.Widths.{two, four}
use Rattle.writerimages.specs.Held.{held_rest, HeldWriter}
use Rattle.fields.proofs.NumberLaws.{length_bytes, number_bytes}
use Rattle.fields.proofs.FrameLaws.{frame_back, frame_held, length_framed, part_number}
use Rattle.images.proofs.ShownLaws.{frame_shown}
use Rattle.writerimages.proofs.KeptLaws.{kept_shown}
use Rattle.images.proofs.ImageLaws as Reading
use Rattle.writer.specs.declared.state.Part.{Part}
use Rattle.writer.specs.State.{unfinished}

-- ---- what is held of the block and the line
pub length_rest : (r : Option Part) → length (rest_bytes r) ≡ 7
unfolding bytes_for
length_rest None = refl
length_rest (Some p) = refl

abbrev held_of : Writer → List ℕ
held_of w = rest_bytes w.rest ++ (bytes_for 4 w.crc ++ (bytes_for 2 w.used ++ replicate 8 0))

pub length_held : (w : Writer) → length (held_of w) ≡ 21
length_held w = simp length-append (omega (arith, length_rest w.rest, length_bytes 4 w.crc, length_bytes 2 w.used))

rest_back : (r : Option Part) (t : List ℕ) → held_rest r ≡ true → rest_by (rest_byte r) (rest_bytes r ++ t) ≡ r
unfolding bytes_for
rest_back None t h = refl
rest_back (Some p) t h =
    let (count, laid) = both_true (two p.count) (two p.laid) (both_true (small p.kind) _ h).1 in
    ap₂ (unfinished p.kind) (number_bytes 2 p.count (ltb-true _ _ count)) (number_bytes 2 p.laid (ltb-true _ _ laid))

crc_back : (w : Writer) → four w.crc ≡ true → number_from (part 7 4 (held_of w)) ≡ w.crc
crc_back w h =
    let behind = bytes_for 2 w.used ++ replicate 8 0 in
    ap (λ (l : List ℕ). number_from (take 4 l)) (drop_at (rest_bytes w.rest) (bytes_for 4 w.crc ++ behind) 7 (length_rest w.rest))
    ∙ ap number_from (take_at (bytes_for 4 w.crc) behind 4 (length_bytes 4 w.crc))
    ∙ number_bytes 4 w.crc (ltb-true _ _ h)

used_back : (w : Writer) → two w.used ≡ true → number_from (part 11 2 (held_of w)) ≡ w.used
used_back w h =
    let zeros : List ℕ = replicate 8 0 in
    let behind = bytes_for 2 w.used ++ zeros in
    let at_used : drop 11 (held_of w) ≡ behind =
    sym (drop-drop 4 7 (held_of w))
    ∙ ap (drop 4) (drop_at (rest_bytes w.rest) (bytes_for 4 w.crc ++ behind) 7 (length_rest w.rest))
    ∙ drop_at (bytes_for 4 w.crc) behind 4 (length_bytes 4 w.crc)
    in
    ap (λ (l : List ℕ). number_from (take 2 l)) at_used
    ∙ ap number_from (take_at (bytes_for 2 w.used) zeros 2 (length_bytes 2 w.used))
    ∙ number_bytes 2 w.used (ltb-true _ _ h)

rest_held : (n : ℕ) (s : List ℕ) → each small s ≡ true → length s ≡ 21 → held_rest (rest_by n s) ≡ true
rest_held zero s b l = refl
rest_held (suc n) s b l =
    and_true (each_at small s 1 (omega arith) b) (and_true (lt-ltb _ _ (part_number s 2 2 b (omega arith))) (lt-ltb _ _ (part_number s 5 2 b (omega arith))))

-- ---- the state
-- I1: the image of a state spells that state again
pub state_image : (w : Writer) → HeldWriter w → state_of (image_of w) ≡ w
unfolding state_of image_of
state_image w h =
    let f = frame_back writer_tag w.system w.mode w.last w.place (rest_byte w.rest) (held_of w) w.settings h.last_held h.place_held (length_held w) h.settings_held in
    let rest : rest_by (get_or (image_of w) 7 0) (held_in (image_of w)) ≡ w.rest =
    ap₂ rest_by f.kind_is f.held_is ∙ rest_back w.rest _ h.rest_held
    in
    let crc : number_from (part 7 4 (held_in (image_of w))) ≡ w.crc = ap (λ (l : List ℕ). number_from (part 7 4 l)) f.held_is ∙ crc_back w h.crc_held in
    let used : number_from (part 11 2 (held_in (image_of w))) ≡ w.used = ap (λ (l : List ℕ). number_from (part 11 2 l)) f.held_is ∙ used_back w h.used_held in
    simp (f.system_is, f.mode_is, f.last_is, f.settings_is, f.place_is, rest, crc, used)

-- I2: an image is what the state that it spells gives
pub image_state : (b : List ℕ) → is_image b ≡ true → image_of (state_of b) ≡ b
unfolding is_image
image_state b h = sym (same_eq b (image_of (state_of b)) h)

-- I3: what a state gives is an image, and whatever 80 bytes spell is a value of the type
pub image_given : (w : Writer) → HeldWriter w → is_image (image_of w) ≡ true
unfolding is_image
image_given w h = eq_same (image_of w) (image_of (state_of (image_of w))) (ap image_of (sym (state_image w h)))

pub bytes_held : (b : List ℕ) → each small b ≡ true → length b ≡ 80 → HeldWriter (state_of b)
unfolding state_of
bytes_held b h l =
    let f = frame_held b h l in
    let long : length (held_in b) ≡ 21 = f.held_long in
    record {
      system_byte = f.system_byte;
      mode_byte = f.mode_byte;
      last_held = f.last_of;
      place_held = f.place_of_lem;
      rest_held = rest_held (get_or b 7 0) (held_in b) f.held_bytes long;
      crc_held = lt-ltb _ _ (part_number (held_in b) 7 4 f.held_bytes (omega arith));
      used_held = lt-ltb _ _ (part_number (held_in b) 11 2 f.held_bytes (omega arith));
      code_byte = f.code_byte;
      aai_byte = f.aai_byte;
      settings_held = f.settings_of_lem;
    }

pub image_length_lem : (w : Writer) → HeldWriter w → length (image_of w) ≡ 80
unfolding image_of
image_length_lem w h = length_framed writer_tag w.system w.mode w.last w.place (rest_byte w.rest) (held_of w) w.settings (length_held w) h.settings_held

-- the fields that the state gives stand where they were read
pub image_shown : (b h : List ℕ) → h ≡ held_in b → length b ≡ 80 → bytes_for 4 (number_from (part 7 4 h)) ≡ part 7 4 h → bytes_for 2 (number_from (part 11 2 h)) ≡ part 11 2 h
    → let r = rest_by (get_or b 7 0) (held_in b) in
    (shows_frame writer_tag (last_in b) (place_in b) b && (eqb (get_or b 7 0) (rest_byte r) && (same (part 16 7 b) (rest_bytes r) && same (part 29 8 b) (bytes_for 8 0)))) ≡ is_image b
unfolding is_image image_of state_of held_in
image_shown b h e long crc used =
    let r = rest_by (get_or b 7 0) (held_in b) in
    let held = held_of (state_of b) in
    let crc_is : part 7 4 (held_in b) ≡ part 23 4 b = in_held 7 4 (omega arith) in
    let used_is : part 11 2 (held_in b) ≡ part 27 2 b = in_held 11 2 (omega arith) in
    let crc_at : bytes_for 4 (number_from (part 23 4 b)) ≡ part 23 4 b = rw (ap (part 7 4) e ∙ crc_is) at crc in
    let used_at : bytes_for 2 (number_from (part 27 2 b)) ≡ part 27 2 b = rw (ap (part 11 2) e ∙ used_is) at used in
    let kept = kept_shown b (rest_bytes r) long (length_rest r) crc_at used_at in
    let same_held : same (held_in b) (rest_bytes r ++ (bytes_for 4 (number_from (part 23 4 b)) ++ (bytes_for 2 (number_from (part 27 2 b)) ++ replicate 8 0))) ≡ same (held_in b) held =
    ap₂ (λ (p q : List ℕ). same (held_in b) (rest_bytes r ++ (bytes_for 4 (number_from p) ++ (bytes_for 2 (number_from q) ++ replicate 8 0)))) (sym crc_is) (sym used_is)
    in
    ap (λ (x : Bool). shows_frame writer_tag (last_in b) (place_in b) b && (eqb (get_or b 7 0) (rest_byte r) && x)) (kept ∙ same_held)
    ∙ frame_shown writer_tag (last_in b) (place_in b) (rest_byte r) held b long (length_held (state_of b))
  where
    in_held : (a k : ℕ) → a + k ≤ 21 → part a k (held_in b) ≡ part (16 + a) k b
    in_held a k h = part_part 16 21 a k b h

-- ---- the tag
pub reader_tag_lem : (b : List ℕ) → R.is_image b ≡ true → get_or b 0 0 ≡ 0x52
unfolding R.image_of framed
reader_tag_lem b h = ap (λ (l : List ℕ). get_or l 0 0) (sym (Reading.image_state b h))

pub writer_tag_lem : (b : List ℕ) → is_image b ≡ true → get_or b 0 0 ≡ 0x57
unfolding image_of framed
writer_tag_lem b h = ap (λ (l : List ℕ). get_or l 0 0) (sym (image_state b h))

pub never_both : (b : List ℕ) → R.is_image b ≡ true → is_image b ≡ true → ⊥
never_both b r w = omega (arith, reader_tag_lem b r, writer_tag_lem b w)
