-- A line that is lent as bytes: odd or too long, it is refused with 1; else the call on its words is what was laid on another line as long, put over them.
-- Assumes nothing.
use mathlib.Core.Path.{◌≡◌, refl, sym, ap, ◌∙◌}
use mathlib.Core.Bool.{Bool, true, false, ◌&&◌, ◌||◌, not}
use mathlib.Core.List.{List}
use Prim.Native.Nat.{ℕ, ◌%◌, ◌<◌}
use native.Mathlib.Omega.{arith}
use lib.Dec.{leb}
use lib.ListN.{length, get_or}
use borrow.Author.Tests.{ne_eqb, leb-false, eqb-true}
use Rattle.lists.specs.Tests.{pick}
use Rattle.lists.proofs.Tests.{and_none, true_false}
use Rattle.lists.proofs.Refusals.{LowestOf, low_hit}
use Rattle.words.specs.Modes.{is_mode}
use Rattle.line.specs.declared.settings.Settings.{Settings}
use Rattle.line.specs.Systems.{system_of, is_system}
use Rattle.line.specs.Check.{fits_length}
use Rattle.line.proofs.SystemLaws.{length_most}
use Rattle.octets.specs.Bytes.{words_of, bytes_of, is_even}
use Rattle.octets.proofs.BytesLaws.{length_words}
use Rattle.octets.proofs.BytesLaws.{bytes_back}
use Rattle.writer.specs.declared.state.Writer.{Writer}
use Rattle.writer.specs.declared.state.Answer.TheVariants.{Refused}
use Rattle.writer.specs.declared.state.Laid.TheVariants.{Refused as NotLaid}
use Rattle.writer.specs.declared.batch.Stop.TheVariants.{Refused as Stopped}
use Rattle.writer.specs.Answers.{Left, left, Added, added}
use Rattle.writer.specs.Opening.{open_faults, open_fault, opening}
use Rattle.writer.specs.Adding.{add_faults, add_fault, adding}
use Rattle.writer.specs.Packing.{pack_faults, pack_fault, packing}
use Rattle.writer.specs.Closing.{close_faults, close_fault, closing}
use Rattle.writer.specs.Batch.{Batched, batched}
use Rattle.writer.proofs.StateLaws.{not_opened}
use Rattle.writer.proofs.Calls.{add_refused, close_refused}
use Rattle.writer.proofs.Packs.{pack_refused}
use Rattle.bytevalues.proofs.Batches.{batch_1}
use Rattle.bytewriter.specs.Bytewise.{open_bytes, add_bytes, many_bytes, pack_bytes, close_bytes}

-- ---- a longer line fits no system
too_long : (system mode : ℕ) (s : List ℕ) → leb (length s) 4608 ≡ false → is_even s ≡ true → fits_length system mode (length (words_of s)) ≡ false
unfolding fits_length
too_long system mode s h e =
    let most = length_most system in
    let words = length_words s in
    let long = leb-false (length s) 4608 h in
    let even = eqb-true (length s % 2) 0 e in
    let other : length (words_of s) ≡ (system_of system).length → ⊥ = λ same. omega (arith, most, words, long, even, same) in
    and_none (is_system system) _ (and_none (is_mode mode) _ (ne_eqb _ _ other))

one : ◌≡◌ {A = ℕ} 1 0 → ⊥
one e = omega (arith, e)

module _ (w : Writer) (line : List ℕ) (unfit : fits_length w.system w.mode (length line) ≡ false) where
  open_1 : (f v : Bool) (n : ℕ) (t : Settings) → opening w f v n t line ≡ left (Refused 1) w line
  unfolding open_fault
  open_1 f v n t = let l : LowestOf (open_faults w n t (length line)) 1 = low_hit 1 (ap not unfit) in sym (not_opened w f v n t line 1 l.is one)

  add_1 : (kind : ℕ) (vs : List ℕ) → adding w line kind vs ≡ added (NotLaid 1) w line
  unfolding add_fault
  add_1 kind vs = let l : LowestOf (add_faults w (length line) kind vs) 1 = low_hit 1 (ap not unfit) in sym (add_refused w line kind vs 1 l.is one)

  pack_1 : (did second : ℕ) (vs : List ℕ) → packing w line did second vs ≡ left (Refused 1) w line
  unfolding pack_fault
  pack_1 did second vs = let l : LowestOf (pack_faults w (length line) vs) 1 = low_hit 1 (ap not unfit) in sym (pack_refused w line did second vs 1 l.is one)

  close_1 : closing w line ≡ left (Refused 1) w line
  unfolding close_fault
  close_1 = let l : LowestOf (close_faults w (length line)) 1 = low_hit 1 (ap not unfit) in sym (close_refused w line 1 l.is one)

-- ---- not lent: odd, or too long
unlent : {X : Type 0} (a b : Bool) (x y : X) → (a && b) ≡ false → (a ≡ true → b ≡ false → x ≡ y) → pick a x y ≡ y
unfolding pick
unlent true b x y e h = h refl e
unlent false b x y e h = refl

unlent_two : {X : Type 0} (a b c : Bool) (x y : X) → (not (a && b) || not c) ≡ true → (a ≡ true → b ≡ false → x ≡ y) → pick (a && c) x y ≡ y
unfolding pick
unlent_two true true true x y e h = absurd (true_false (sym e))
unlent_two true true false x y e h = refl
unlent_two true false true x y e h = h refl refl
unlent_two true false false x y e h = refl
unlent_two false b c x y e h = refl

abbrev pub lent : List ℕ → Bool
lent line = is_even line && leb (length line) 4608

abbrev pub out : Left → Left
out z = left z.answer z.state (bytes_of z.line)

abbrev pub out_added : Added → Added
out_added z = added z.answer z.state (bytes_of z.line)

abbrev pub out_batched : Batched → Batched
out_batched z = batched z.finished z.stop z.state (bytes_of z.line)

module _ (w : Writer) (line : List ℕ) (bytes : (i : ℕ) → get_or line i 0 < 256) where
  back : is_even line ≡ true → bytes_of (words_of line) ≡ line
  back e = bytes_back line (eqb-true (length line % 2) 0 e) bytes

  pub open_unlent : (f v : Bool) (n : ℕ) (t : Settings) → lent line ≡ false → left (Refused 1) w line ≡ open_bytes w f v n t line
  unfolding open_bytes
  open_unlent f v n t u =
      sym (unlent (is_even line) (leb (length line) 4608) _ _ u
      (λ e h. ap out (open_1 w (words_of line) (too_long w.system w.mode line h e) f v n t) ∙ ap (left (Refused 1) w) (back e)))

  pub close_unlent : lent line ≡ false → left (Refused 1) w line ≡ close_bytes w line
  unfolding close_bytes
  close_unlent u =
      sym (unlent (is_even line) (leb (length line) 4608) _ _ u
      (λ e h. ap out (close_1 w (words_of line) (too_long w.system w.mode line h e)) ∙ ap (left (Refused 1) w) (back e)))

  pub add_unlent : (kind : ℕ) (values : List ℕ) → (not (lent line) || not (is_even values)) ≡ true → added (NotLaid 1) w line ≡ add_bytes w line kind values
  unfolding add_bytes
  add_unlent kind values u =
      sym (unlent_two (is_even line) (leb (length line) 4608) (is_even values) _ _ u
      (λ e h. ap out_added (add_1 w (words_of line) (too_long w.system w.mode line h e) kind (words_of values)) ∙ ap (added (NotLaid 1) w) (back e)))

  pub pack_unlent : (did second : ℕ) (values : List ℕ) → (not (lent line) || not (is_even values)) ≡ true → left (Refused 1) w line ≡ pack_bytes w line did second values
  unfolding pack_bytes
  pack_unlent did second values u =
      sym (unlent_two (is_even line) (leb (length line) 4608) (is_even values) _ _ u
      (λ e h. ap out (pack_1 w (words_of line) (too_long w.system w.mode line h e) did second (words_of values)) ∙ ap (left (Refused 1) w) (back e)))

  pub many_unlent : (blocks : List ℕ) → (not (lent line) || not (is_even blocks)) ≡ true → batched 0 (Stopped 1) w line ≡ many_bytes w line blocks
  unfolding many_bytes
  many_unlent blocks u =
      sym (unlent_two (is_even line) (leb (length line) 4608) (is_even blocks) _ _ u
      (λ e h. ap out_batched (batch_1 w (words_of line) (too_long w.system w.mode line h e) (words_of blocks)) ∙ ap (batched 0 (Stopped 1) w) (back e)))
