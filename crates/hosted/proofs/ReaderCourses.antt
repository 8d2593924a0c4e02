-- The images of a reader made by C are those of sound states, so 2 is answered to none of them.
-- Assumes nothing.
use Prim.Native.Nat.{ℕ}
use mathlib.Core.Bool.{Bool, true, ◌&&◌}
use mathlib.Core.List.{List}
use mathlib.Core.Path.{◌≡◌, refl, sym, ap, subst}
use native.Mathlib.Omega.{arith}
use lib.ListN.{length}
use borrow.Author.Tests.{eq-eqb}
use Rattle.lists.proofs.Tests.{pick_true, pick_elim}
use Rattle.octets.specs.Bytes.{words_of, is_even}
use Rattle.line.specs.Settings.{small}
use Rattle.reader.specs.declared.state.Reader.{Reader}
use Rattle.reader.specs.declared.state.Event.{Event}
use Rattle.reader.specs.declared.state.Event.TheVariants.{Refused, Begun, Block, Drop, End}
use Rattle.reader.specs.declared.within.Report.{Report}
use Rattle.reader.specs.declared.within.Report.TheVariants.{Paused, Told}
use Rattle.reader.specs.State as states
use Rattle.reader.specs.Reading.{Reply}
use Rattle.reader.specs.Within.{Sliced}
use Rattle.reader.proofs.AtCapacity.{never_2}
use Rattle.demands.proofs.WithinCalls.{telling}
use Rattle.fields.specs.Frame.{image_length}
use Rattle.images.specs.ReaderImage.{image_of, state_of, is_image}
use Rattle.images.proofs.ImageLaws.{state_image, image_given}
use Rattle.bytereader.specs.Bytewise.{read_bytes, within_bytes}
use Rattle.calls.specs.Answers.{event_answer, report_answer}
use Rattle.calls.specs.Making.{Made, made, makes_reader}
use Rattle.calls.specs.Reading.{Read, gave, reads, reads_within}
use Rattle.hosted.specs.Courses.{ReaderImages, fresh, read, read_within}
use Rattle.hosted.proofs.Early.{never_2_by}
use Rattle.hosted.proofs.ReaderHeld.{Sound, sound_held, fresh_sound, read_sound, within_sound}

-- ---- over bytes: an odd buffer leaves the state
read_bytes_lem : (st : Reader) (line room : List ℕ) → Sound st → Sound (read_bytes st line room).told.state
unfolding read_bytes
read_bytes_lem st line room s =
    pick_elim (λ (x : Reply). Sound x.told.state) (is_even line && is_even room) (λ h. read_sound st (words_of line) (words_of room) s) (λ h. s)

within_bytes_lem : (a : ℕ) (st : Reader) (line room : List ℕ) → Sound st → Sound (within_bytes a st line room).answer.state
unfolding within_bytes
within_bytes_lem a st line room s =
    pick_elim (λ (x : Sliced). Sound x.answer.state) (is_even line && is_even room) (λ h. within_sound a st (words_of line) (words_of room) s) (λ h. s)

-- ---- and 2 is not answered
by_event : (e : Event) → ((d : Bool) → e ≡ Refused 2 d → ⊥) → event_answer e ≡ 2 → ⊥
by_event (Refused n d) h z = h d (ap (λ (m : ℕ). Refused m d) z)
by_event (Begun n j d) h z = omega arith
by_event (Block k n) h z = omega arith
by_event (Drop n) h z = omega arith
by_event End h z = omega arith

by_report : (r : Report) → ((d : Bool) → r ≡ Told (Refused 2 d) → ⊥) → report_answer r ≡ 2 → ⊥
by_report Paused h z = omega arith
by_report (Told e) h z = by_event e (λ d q. h d (ap Told q)) z

read_2 : (st : Reader) (line room : List ℕ) → Sound st → event_answer (read_bytes st line room).told.event ≡ 2 → ⊥
unfolding read_bytes
read_2 st line room s =
    pick_elim (λ (x : Reply). event_answer x.told.event ≡ 2 → ⊥) (is_even line && is_even room)
    (λ h. by_event _ (never_2 st s.possible (words_of line) (words_of room))) (λ h z. omega arith)

within_2 : (a : ℕ) (st : Reader) (line room : List ℕ) → Sound st → report_answer (within_bytes a st line room).answer.report ≡ 2 → ⊥
unfolding within_bytes
within_2 a st line room s =
    pick_elim (λ (x : Sliced). report_answer x.answer.report ≡ 2 → ⊥) (is_even line && is_even room)
    (λ h.
    by_report _
    (λ d e.
    let same = (telling a st (words_of line) (words_of room) (Refused 2 d) e).same in
    never_2 st s.possible (words_of line) (words_of room) d (ap (λ (x : Reply). x.told.event) same)))
    (λ h z. omega arith)

-- ---- courses
-- an image, and of a sound state
record Comes (b : List ℕ) : Type 0 where
  image : is_image b ≡ true
  sound : Sound (state_of b)

comes_from : (st : Reader) → Sound st → Comes (image_of st)
comes_from st s = let h = sound_held s in record { image = image_given st h; sound = subst Sound (sym (state_image st h)) s }

made_comes : (system mode : ℕ) → small system ≡ true → small mode ≡ true → (lent : List ℕ) → length lent ≡ image_length → Comes (makes_reader system mode lent).state
unfolding makes_reader
made_comes system mode s m lent long =
    subst (λ (x : Made). Comes x.state) (sym (pick_true _ (made 1 lent) (eq-eqb _ _ long))) (comes_from (states.fresh system mode) (fresh_sound system mode s m))

read_comes : (b line room event : List ℕ) → Comes b → Comes (reads b line room event).state
unfolding reads
read_comes b line room event c =
    pick_elim (λ (x : Read). Comes x.state) _ (λ h. comes_from _ (read_bytes_lem (state_of b) line room c.sound)) (λ h. c)

within_comes : (b : List ℕ) (a : ℕ) (line room event : List ℕ) → Comes b → Comes (reads_within a b line room event).state
unfolding reads_within
within_comes b a line room event c =
    pick_elim (λ (x : Read). Comes x.state) _ (λ h. comes_from _ (within_bytes_lem a (state_of b) line room c.sound)) (λ h. c)

comes : (b : List ℕ) → ReaderImages b → Comes b
comes _ (fresh system mode s m lent long) = made_comes system mode s m lent long
comes _ (read b r line room event) = read_comes b line room event (comes b r)
comes _ (read_within b r a line room event) = within_comes b a line room event (comes b r)

pub read_never : (b : List ℕ) → ReaderImages b → (line room event : List ℕ) → (reads b line room event).answer ≡ 2 → ⊥
unfolding reads
read_never b r line room event =
    let c = comes b r in
    never_2_by (λ (x : Read). x.answer) _ _ _ _ (λ (n : ℕ). gave n b room event) c.image refl (λ k. refl) (read_2 (state_of b) line room c.sound)

pub within_never : (b : List ℕ) → ReaderImages b → (a : ℕ) (line room event : List ℕ) → (reads_within a b line room event).answer ≡ 2 → ⊥
unfolding reads_within
within_never b r a line room event =
    let c = comes b r in
    never_2_by (λ (x : Read). x.answer) _ _ _ _ (λ (n : ℕ). gave n b room event) c.image refl (λ k. refl) (within_2 a (state_of b) line room c.sound)
