-- The writer's calls from C on the bytes of a state, a line and values are the writer's calls. After 1 and 2 the writer's calls leave state and line too, so that nothing is said twice.
-- Assumes nothing.
use Prim.Native.Nat.{ℕ}
use mathlib.Core.Bool.{Bool, true, false}
use mathlib.Core.List.{List}
use mathlib.Core.Path.{◌≡◌, refl, sym, ap, ap₂, ◌∙◌}
use lib.Dec.{eqb}
use lib.ListN.{length}
use borrow.Author.Tests.{eq-eqb}
use Rattle.lists.specs.Tests.{pick}
use Rattle.lists.proofs.Tests.{true_false, and_true, pick_true, pick_elim}
use Rattle.octets.specs.Bytes.{bytes_of}
use Rattle.octets.proofs.BytesLaws.{words_back}
use Rattle.line.specs.declared.settings.Settings.{Settings}
use Rattle.line.specs.Settings.{Held}
use Rattle.writer.specs.declared.state.Writer.{Writer}
use Rattle.writer.specs.declared.state.Answer.TheVariants.{Refused}
use Rattle.writer.specs.declared.state.Laid.{Laid}
use Rattle.writer.specs.declared.state.Laid.TheVariants.{Refused as NotLaid}
use Rattle.writer.specs.declared.batch.Stop.TheVariants.{Refused as Stopped}
use Rattle.writer.specs.Answers.{Left, left, Added, added}
use Rattle.writer.specs.Opening.{open_fault, opening}
use Rattle.writer.specs.Adding.{add_fault, adding}
use Rattle.writer.specs.Batch.{Batched, batched, batching}
use Rattle.writer.specs.Packing.{pack_fault, packing}
use Rattle.writer.specs.Closing.{close_fault, closing}
use Rattle.fields.specs.Fields.{settings_bytes}
use Rattle.fields.specs.Frame.{image_length}
use Rattle.writerimages.specs.Held.{HeldWriter}
use Rattle.writerimages.specs.WriterImage.{image_of, is_image}
use Rattle.fields.proofs.FrameLaws.{length_settings, settings_back}
use Rattle.writerimages.proofs.WriterLaws.{state_image, image_given, image_length_lem}
use Rattle.bytewriter.specs.Bytewise.{open_bytes, add_bytes, many_bytes, pack_bytes, close_bytes}
use Rattle.calls.specs.Answers.{done_answer, laid_answer, stop_answer, refusal, sixteen}
use Rattle.calls.specs.Writing.{settings_length, wrote, opens, adds, packs, closes, wrote_many, adds_many}
use Rattle.hosted.specs.Hosted.{is_early}
use Rattle.hosted.proofs.Early.{in_order, none_early, either_way}
use Rattle.hosted.proofs.EvenBytes.{even_bytes}
use Rattle.hosted.proofs.Sixteen.{opens_the_same, adds_the_same}
use Rattle.hosted.proofs.BatchHeld.{batch_keeps}

-- ---- over the bytes of words
open_words_lem : (w : Writer) (f v : Bool) (n : ℕ) (t : Settings) (line : List ℕ) →
    let x = opening w f v n t line in open_bytes w f v n t (bytes_of line) ≡ left x.answer x.state (bytes_of x.line)
unfolding open_bytes
open_words_lem w f v n t line =
    pick_true _ (left (Refused 1) w (bytes_of line)) (even_bytes line)
    ∙ ap (λ (l : List ℕ). let x = opening w f v n t l in left x.answer x.state (bytes_of x.line)) (words_back line)

add_words : (w : Writer) (line : List ℕ) (kind : ℕ) (vs : List ℕ) →
    let x = adding w line kind vs in add_bytes w (bytes_of line) kind (bytes_of vs) ≡ added x.answer x.state (bytes_of x.line)
unfolding add_bytes
add_words w line kind vs =
    pick_true _ (added (NotLaid 1) w (bytes_of line)) (and_true (even_bytes line) (even_bytes vs))
    ∙ ap₂ (λ (l r : List ℕ). let x = adding w l kind r in added x.answer x.state (bytes_of x.line)) (words_back line) (words_back vs)

many_words : (w : Writer) (line blocks : List ℕ) →
    let x = batching w line blocks in many_bytes w (bytes_of line) (bytes_of blocks) ≡ batched x.finished x.stop x.state (bytes_of x.line)
unfolding many_bytes
many_words w line blocks =
    pick_true _ (batched 0 (Stopped 1) w (bytes_of line)) (and_true (even_bytes line) (even_bytes blocks))
    ∙ ap₂ (λ (l r : List ℕ). let x = batching w l r in batched x.finished x.stop x.state (bytes_of x.line)) (words_back line) (words_back blocks)

pack_words : (w : Writer) (line : List ℕ) (did second : ℕ) (vs : List ℕ) →
    let x = packing w line did second vs in pack_bytes w (bytes_of line) did second (bytes_of vs) ≡ left x.answer x.state (bytes_of x.line)
unfolding pack_bytes
pack_words w line did second vs =
    pick_true _ (left (Refused 1) w (bytes_of line)) (and_true (even_bytes line) (even_bytes vs))
    ∙ ap₂ (λ (l r : List ℕ). let x = packing w l did second r in left x.answer x.state (bytes_of x.line)) (words_back line) (words_back vs)

close_words : (w : Writer) (line : List ℕ) →
    let x = closing w line in close_bytes w (bytes_of line) ≡ left x.answer x.state (bytes_of x.line)
unfolding close_bytes
close_words w line =
    pick_true _ (left (Refused 1) w (bytes_of line)) (even_bytes line)
    ∙ ap (λ (l : List ℕ). let x = closing w l in left x.answer x.state (bytes_of x.line)) (words_back line)

-- ---- 1 and 2 leave state and line
abbrev Keeps : Writer → List ℕ → ℕ → Writer → List ℕ → Type 0
Keeps w line n s l = is_early n ≡ true → (s ≡ w) × (l ≡ line)

open_keeps : (w : Writer) (f v : Bool) (n : ℕ) (t : Settings) (line : List ℕ) → let x = opening w f v n t line in Keeps w line (done_answer x.answer) x.state x.line
unfolding opening
open_keeps w f v n t line =
    pick_elim (λ (x : Left). Keeps w line (done_answer x.answer) x.state x.line) (eqb (open_fault w n t (length line)) 0) (λ h e. absurd (none_early e)) (λ h e. (refl, refl))

pack_keeps : (w : Writer) (line : List ℕ) (did second : ℕ) (vs : List ℕ) → let x = packing w line did second vs in Keeps w line (done_answer x.answer) x.state x.line
unfolding packing
pack_keeps w line did second vs =
    pick_elim (λ (x : Left). Keeps w line (done_answer x.answer) x.state x.line) (eqb (pack_fault w (length line) vs) 0) (λ h e. absurd (none_early e)) (λ h e. (refl, refl))

close_keeps : (w : Writer) (line : List ℕ) → let x = closing w line in Keeps w line (done_answer x.answer) x.state x.line
unfolding closing
close_keeps w line =
    pick_elim (λ (x : Left). Keeps w line (done_answer x.answer) x.state x.line) (eqb (close_fault w (length line)) 0) (λ h e. absurd (none_early e)) (λ h e. (refl, refl))

add_keeps : (w : Writer) (line : List ℕ) (kind : ℕ) (vs : List ℕ) → let x = adding w line kind vs in Keeps w line (laid_answer x.answer) x.state x.line
unfolding adding
add_keeps w line kind vs =
    pick_elim (λ (x : Added). Keeps w line (laid_answer x.answer) x.state x.line) (eqb (add_fault w (length line) kind vs) 0)
    (λ h e. absurd (pick_elim (λ (a : Laid). is_early (laid_answer a) ≡ true → ⊥) _ (λ k. none_early) (λ k z. true_false (sym z)) e)) (λ h e. (refl, refl))

-- ---- over an image
module _ (w : Writer) (h : HeldWriter w) where
  long : eqb (length (image_of w)) image_length ≡ true
  long = eq-eqb _ _ (image_length_lem w h)

  -- what is written of a call that keeps state and line where it answers 1 or 2
  written : (s i : Bool) (n : ℕ) (st : Writer) (line l : List ℕ) → s ≡ true → i ≡ true → Keeps w line n st l
      → pick (eqb (refusal s i n) 0) (wrote n (image_of st) (bytes_of l)) (wrote (refusal s i n) (image_of w) (bytes_of line)) ≡ wrote n (image_of st) (bytes_of l)
  written s i n st line l p q k =
      in_order s i n _ (λ (m : ℕ). wrote m (image_of w) (bytes_of line)) p q
      ∙ either_way (is_early n) _ _ (λ e. ap₂ (λ (x : Writer) (y : List ℕ). wrote n (image_of x) (bytes_of y)) (sym (k e).0) (sym (k e).1))

  -- by an answer of opening, packing and closing
  left_written : (s : Bool) (line : List ℕ) (x y : Left) → s ≡ true → x ≡ left y.answer y.state (bytes_of y.line) → Keeps w line (done_answer y.answer) y.state y.line
      → pick (eqb (refusal s (is_image (image_of w)) (done_answer x.answer)) 0) (wrote (done_answer x.answer) (image_of x.state) x.line)
      (wrote (refusal s (is_image (image_of w)) (done_answer x.answer)) (image_of w) (bytes_of line))
      ≡ wrote (done_answer y.answer) (image_of y.state) (bytes_of y.line)
  left_written s line x y p e k =
      ap
      (λ (z : Left).
      let n = done_answer z.answer in
      let early = refusal s (is_image (image_of w)) n in
      pick (eqb early 0) (wrote n (image_of z.state) z.line) (wrote early (image_of w) (bytes_of line)))
      e
      ∙ written s _ _ y.state line y.line p (image_given w h) k

  pub opens_by : (f v : Bool) (n : ℕ) (t : Settings) → Held t → (line : List ℕ)
      → let x = opening w f v n t line in opens (image_of w) f v n (settings_bytes t) (bytes_of line) ≡ wrote (done_answer x.answer) (image_of x.state) (bytes_of x.line)
  unfolding opens
  opens_by f v n t held line =
      left_written _ line _ (opening w f v n t line) (and_true long (eq-eqb _ settings_length (length_settings t held)))
      (ap₂ (λ (s : Writer) (u : Settings). open_bytes s f v (sixteen n) u (bytes_of line)) (state_image w h) (settings_back t held)
      ∙ open_words_lem w f v (sixteen n) t line
      ∙ ap (λ (x : Left). left x.answer x.state (bytes_of x.line)) (opens_the_same w f v t line n))
      (open_keeps w f v n t line)

  pub packs_by_lem : (did second : ℕ) (vs line : List ℕ)
      → let x = packing w line did second vs in packs (image_of w) did second (bytes_of vs) (bytes_of line) ≡ wrote (done_answer x.answer) (image_of x.state) (bytes_of x.line)
  unfolding packs
  packs_by_lem did second vs line =
      left_written _ line _ (packing w line did second vs) long
      (ap (λ (s : Writer). pack_bytes s (bytes_of line) did second (bytes_of vs)) (state_image w h) ∙ pack_words w line did second vs)
      (pack_keeps w line did second vs)

  pub closes_by : (line : List ℕ) → let x = closing w line in closes (image_of w) (bytes_of line) ≡ wrote (done_answer x.answer) (image_of x.state) (bytes_of x.line)
  unfolding closes
  closes_by line =
      left_written _ line _ (closing w line) long (ap (λ (s : Writer). close_bytes s (bytes_of line)) (state_image w h) ∙ close_words w line) (close_keeps w line)

  pub adds_by : (kind : ℕ) (vs line : List ℕ)
      → let x = adding w line kind vs in adds (image_of w) kind (bytes_of vs) (bytes_of line) ≡ wrote (laid_answer x.answer) (image_of x.state) (bytes_of x.line)
  unfolding adds
  adds_by kind vs line =
      ap
      (λ (z : Added).
      let n = laid_answer z.answer in
      let early = refusal (eqb (length (image_of w)) image_length) (is_image (image_of w)) n in
      pick (eqb early 0) (wrote n (image_of z.state) z.line) (wrote early (image_of w) (bytes_of line)))
      (ap (λ (s : Writer). add_bytes s (bytes_of line) (sixteen kind) (bytes_of vs)) (state_image w h)
      ∙ add_words w line (sixteen kind) vs
      ∙ ap (λ (x : Added). added x.answer x.state (bytes_of x.line)) (adds_the_same w line vs kind))
      ∙ written _ _ _ _ line _ long (image_given w h) (add_keeps w line kind vs)

  -- many blocks: the number of finished ones is left too
  many_by : (b : Bool) (n k : ℕ) (line : List ℕ) (x : Batched) → (b ≡ true → (x.state ≡ w) × (x.line ≡ line))
      → pick b (wrote_many n (image_of w) (bytes_of line) k) (wrote_many n (image_of x.state) (bytes_of x.line) x.finished)
      ≡ wrote_many n (image_of x.state) (bytes_of x.line) (pick b k x.finished)
  unfolding pick
  many_by true n k line x e = ap₂ (λ (s : Writer) (l : List ℕ). wrote_many n (image_of s) (bytes_of l) k) (sym (e refl).0) (sym (e refl).1)
  many_by false n k line x e = refl

  pub adds_many_by : (blocks line : List ℕ) (k : ℕ)
      → let x = batching w line blocks in
      adds_many (image_of w) (bytes_of blocks) (bytes_of line) k
      ≡ wrote_many (stop_answer x.stop) (image_of x.state) (bytes_of x.line) (pick (is_early (stop_answer x.stop)) k x.finished)
  unfolding adds_many
  adds_many_by blocks line k =
      let x = batching w line blocks in
      ap
      (λ (z : Batched).
      let n = stop_answer z.stop in
      let early = refusal (eqb (length (image_of w)) image_length) (is_image (image_of w)) n in
      pick (eqb early 0) (wrote_many n (image_of z.state) z.line z.finished) (wrote_many early (image_of w) (bytes_of line) k))
      (ap (λ (s : Writer). many_bytes s (bytes_of line) (bytes_of blocks)) (state_image w h) ∙ many_words w line blocks)
      ∙ in_order _ _ _ _ (λ (m : ℕ). wrote_many m (image_of w) (bytes_of line) k) long (image_given w h)
      ∙ many_by (is_early (stop_answer x.stop)) (stop_answer x.stop) k line x (batch_keeps w line blocks)
