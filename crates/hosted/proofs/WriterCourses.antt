-- The images of a writer made by C are those of sound states, so 2 is answered to none of them.
-- Assumes nothing.
use Prim.Native.Nat.{ℕ}
use mathlib.Core.Bool.{Bool, true, ◌&&◌}
use mathlib.Core.List.{List}
use mathlib.Core.Path.{◌≡◌, refl, sym, ap, subst}
use native.Mathlib.Omega.{arith}
use lib.Dec.{eqb}
use lib.ListN.{length}
use borrow.Author.Tests.{eq-eqb, eqb-true}
use Rattle.lists.specs.Lists.{each}
use Rattle.lists.proofs.Tests.{both_true, pick_true, pick_elim}
use Rattle.octets.specs.Bytes.{words_of, is_even}
use Rattle.line.specs.declared.settings.Settings.{Settings}
use Rattle.line.specs.Settings.{small}
use Rattle.writer.specs.declared.state.Writer.{Writer}
use Rattle.writer.specs.declared.state.Answer.{Answer}
use Rattle.writer.specs.declared.state.Answer.TheVariants.{Refused, Done}
use Rattle.writer.specs.declared.state.Laid.{Laid}
use Rattle.writer.specs.declared.state.Laid.TheVariants.{Refused as NotLaid, Finished, Unfinished}
use Rattle.writer.specs.State as states
use Rattle.writer.specs.Answers.{Left, Added}
use Rattle.writer.specs.Batch.{Batched}
use Rattle.writer.proofs.Stays.{never_2}
use Rattle.fields.specs.Fields.{settings_from}
use Rattle.fields.specs.Frame.{image_length}
use Rattle.writerimages.specs.WriterImage.{image_of, state_of, is_image}
use Rattle.writerimages.proofs.WriterLaws.{state_image, image_given}
use Rattle.bytewriter.specs.Bytewise.{open_bytes, add_bytes, many_bytes, pack_bytes, close_bytes}
use Rattle.calls.specs.Answers.{done_answer, laid_answer, stop_answer, sixteen}
use Rattle.calls.specs.Making.{Made, made, makes_writer}
use Rattle.calls.specs.Writing.{settings_length, Wrote, wrote, opens, adds, packs, closes, WroteMany, wrote_many, adds_many}
use Rattle.hosted.specs.Courses.{WriterImages, fresh, opened, added, added_many, packed, closed}
use Rattle.hosted.proofs.Early.{never_2_by, in_shape}
use Rattle.hosted.proofs.SettingsHeld.{Octets, spelled_octets}
use Rattle.hosted.proofs.WriterHeld.{Sound, sound_held, fresh_sound, open_sound, add_sound, pack_sound, close_sound}
use Rattle.hosted.proofs.BatchHeld.{batch_sound, batch_never_2}

-- ---- over bytes: an odd buffer leaves the state
module _ (w : Writer) (s : Sound w) where
  open_bytes_lem : (f v : Bool) (n : ℕ) (t : Settings) (line : List ℕ) → Octets t → Sound (open_bytes w f v n t line).state
  unfolding open_bytes
  open_bytes_lem f v n t line o = pick_elim (λ (x : Left). Sound x.state) (is_even line) (λ h. open_sound w f v n t (words_of line) o s) (λ h. s)

  add_bytes_lem : (line : List ℕ) (kind : ℕ) (vs : List ℕ) → Sound (add_bytes w line kind vs).state
  unfolding add_bytes
  add_bytes_lem line kind vs = pick_elim (λ (x : Added). Sound x.state) (is_even line && is_even vs) (λ h. add_sound w (words_of line) kind (words_of vs) s) (λ h. s)

  many_bytes_lem : (line blocks : List ℕ) → Sound (many_bytes w line blocks).state
  unfolding many_bytes
  many_bytes_lem line blocks = pick_elim (λ (x : Batched). Sound x.state) (is_even line && is_even blocks) (λ h. batch_sound w (words_of line) (words_of blocks) s) (λ h. s)

  pack_bytes_lem : (line : List ℕ) (did second : ℕ) (vs : List ℕ) → Sound (pack_bytes w line did second vs).state
  unfolding pack_bytes
  pack_bytes_lem line did second vs =
      pick_elim (λ (x : Left). Sound x.state) (is_even line && is_even vs) (λ h. pack_sound w (words_of line) did second (words_of vs) s) (λ h. s)

  close_bytes_lem : (line : List ℕ) → Sound (close_bytes w line).state
  unfolding close_bytes
  close_bytes_lem line = pick_elim (λ (x : Left). Sound x.state) (is_even line) (λ h. close_sound w (words_of line) s) (λ h. s)

-- ---- and 2 is not answered
by_done : (a : Answer) → (a ≡ Refused 2 → ⊥) → done_answer a ≡ 2 → ⊥
by_done (Refused n) h z = h (ap Refused z)
by_done Done h z = omega arith

by_laid : (a : Laid) → (a ≡ NotLaid 2 → ⊥) → laid_answer a ≡ 2 → ⊥
by_laid (NotLaid n) h z = h (ap NotLaid z)
by_laid Finished h z = omega arith
by_laid Unfinished h z = omega arith

module _ (w : Writer) (s : Sound w) where
  open_2 : (f v : Bool) (n : ℕ) (t : Settings) (line : List ℕ) → done_answer (open_bytes w f v n t line).answer ≡ 2 → ⊥
  unfolding open_bytes
  open_2 f v n t line =
      pick_elim (λ (x : Left). done_answer x.answer ≡ 2 → ⊥) (is_even line) (λ h. by_done _ ((never_2 w s.possible).by_opening f v n t (words_of line))) (λ h z. omega arith)

  add_2 : (line : List ℕ) (kind : ℕ) (vs : List ℕ) → laid_answer (add_bytes w line kind vs).answer ≡ 2 → ⊥
  unfolding add_bytes
  add_2 line kind vs =
      pick_elim (λ (x : Added). laid_answer x.answer ≡ 2 → ⊥) (is_even line && is_even vs)
      (λ h. by_laid _ ((never_2 w s.possible).by_adding (words_of line) kind (words_of vs))) (λ h z. omega arith)

  many_2 : (line blocks : List ℕ) → stop_answer (many_bytes w line blocks).stop ≡ 2 → ⊥
  unfolding many_bytes
  many_2 line blocks =
      pick_elim (λ (x : Batched). stop_answer x.stop ≡ 2 → ⊥) (is_even line && is_even blocks) (λ h. batch_never_2 w (words_of line) (words_of blocks) s.possible) (λ h z. omega arith)

  pack_2 : (line : List ℕ) (did second : ℕ) (vs : List ℕ) → done_answer (pack_bytes w line did second vs).answer ≡ 2 → ⊥
  unfolding pack_bytes
  pack_2 line did second vs =
      pick_elim (λ (x : Left). done_answer x.answer ≡ 2 → ⊥) (is_even line && is_even vs)
      (λ h. by_done _ ((never_2 w s.possible).by_packing (words_of line) did second (words_of vs))) (λ h z. omega arith)

  close_2 : (line : List ℕ) → done_answer (close_bytes w line).answer ≡ 2 → ⊥
  unfolding close_bytes
  close_2 line =
      pick_elim (λ (x : Left). done_answer x.answer ≡ 2 → ⊥) (is_even line) (λ h. by_done _ ((never_2 w s.possible).by_closing (words_of line))) (λ h z. omega arith)

-- ---- courses
-- an image, and of a sound state
record Comes (b : List ℕ) : Type 0 where
  image : is_image b ≡ true
  sound : Sound (state_of b)

comes_from : (w : Writer) → Sound w → Comes (image_of w)
comes_from w s = let h = sound_held s in record { image = image_given w h; sound = subst Sound (sym (state_image w h)) s }

made_comes : (system mode : ℕ) → small system ≡ true → small mode ≡ true → (lent : List ℕ) → length lent ≡ image_length → Comes (makes_writer system mode lent).state
unfolding makes_writer
made_comes system mode s m lent long =
    subst (λ (x : Made). Comes x.state) (sym (pick_true _ (made 1 lent) (eq-eqb _ _ long))) (comes_from (states.fresh system mode) (fresh_sound system mode s m))

-- settings of another length are refused
open_comes : (b : List ℕ) (f v : Bool) (n : ℕ) (settings line : List ℕ) → each small settings ≡ true → Comes b → Comes (opens b f v n settings line).state
unfolding opens
open_comes b f v n settings line e c =
    let shape = eqb (length b) image_length in
    let size = eqb (length settings) settings_length in
    pick_elim (λ (x : Wrote). Comes x.state) _
    (λ h.
    let long = eqb-true (length settings) settings_length (both_true shape size (in_shape (shape && size) (is_image b) _ h)).1 in
    comes_from _ (open_bytes_lem (state_of b) c.sound f v (sixteen n) (settings_from settings) line (spelled_octets settings e long)))
    (λ h. c)

add_comes : (b : List ℕ) (kind : ℕ) (vs line : List ℕ) → Comes b → Comes (adds b kind vs line).state
unfolding adds
add_comes b kind vs line c = pick_elim (λ (x : Wrote). Comes x.state) _ (λ h. comes_from _ (add_bytes_lem (state_of b) c.sound line (sixteen kind) vs)) (λ h. c)

many_comes : (b blocks line : List ℕ) (k : ℕ) → Comes b → Comes (adds_many b blocks line k).state
unfolding adds_many
many_comes b blocks line k c = pick_elim (λ (x : WroteMany). Comes x.state) _ (λ h. comes_from _ (many_bytes_lem (state_of b) c.sound line blocks)) (λ h. c)

pack_comes : (b : List ℕ) (did second : ℕ) (vs line : List ℕ) → Comes b → Comes (packs b did second vs line).state
unfolding packs
pack_comes b did second vs line c = pick_elim (λ (x : Wrote). Comes x.state) _ (λ h. comes_from _ (pack_bytes_lem (state_of b) c.sound line did second vs)) (λ h. c)

close_comes : (b line : List ℕ) → Comes b → Comes (closes b line).state
unfolding closes
close_comes b line c = pick_elim (λ (x : Wrote). Comes x.state) _ (λ h. comes_from _ (close_bytes_lem (state_of b) c.sound line)) (λ h. c)

comes : (b : List ℕ) → WriterImages b → Comes b
comes _ (fresh system mode s m lent long) = made_comes system mode s m lent long
comes _ (opened b r f v n settings line e) = open_comes b f v n settings line e (comes b r)
comes _ (added b r kind vs line) = add_comes b kind vs line (comes b r)
comes _ (added_many b r blocks line k) = many_comes b blocks line k (comes b r)
comes _ (packed b r did second vs line) = pack_comes b did second vs line (comes b r)
comes _ (closed b r line) = close_comes b line (comes b r)

module _ (b : List ℕ) (r : WriterImages b) where
  course : Comes b
  course = comes b r

  pub open_never : (f v : Bool) (n : ℕ) (settings line : List ℕ) → (opens b f v n settings line).answer ≡ 2 → ⊥
  unfolding opens
  open_never f v n settings line =
      never_2_by (λ (x : Wrote). x.answer) _ _ _ _ (λ (k : ℕ). wrote k b line) course.image refl (λ k. refl) (open_2 (state_of b) course.sound f v (sixteen n) (settings_from settings) line)

  pub add_never : (kind : ℕ) (vs line : List ℕ) → (adds b kind vs line).answer ≡ 2 → ⊥
  unfolding adds
  add_never kind vs line =
      never_2_by (λ (x : Wrote). x.answer) _ _ _ _ (λ (k : ℕ). wrote k b line) course.image refl (λ k. refl) (add_2 (state_of b) course.sound line (sixteen kind) vs)

  pub many_never : (blocks line : List ℕ) (k : ℕ) → (adds_many b blocks line k).answer ≡ 2 → ⊥
  unfolding adds_many
  many_never blocks line k =
      never_2_by (λ (x : WroteMany). x.answer) _ _ _ _ (λ (m : ℕ). wrote_many m b line k) course.image refl (λ m. refl) (many_2 (state_of b) course.sound line blocks)

  pub pack_never : (did second : ℕ) (vs line : List ℕ) → (packs b did second vs line).answer ≡ 2 → ⊥
  unfolding packs
  pack_never did second vs line =
      never_2_by (λ (x : Wrote). x.answer) _ _ _ _ (λ (k : ℕ). wrote k b line) course.image refl (λ k. refl) (pack_2 (state_of b) course.sound line did second vs)

  pub close_never : (line : List ℕ) → (closes b line).answer ≡ 2 → ⊥
  unfolding closes
  close_never line = never_2_by (λ (x : Wrote). x.answer) _ _ _ _ (λ (k : ℕ). wrote k b line) course.image refl (λ k. refl) (close_2 (state_of b) course.sound line)
