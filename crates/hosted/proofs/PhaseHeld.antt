-- The bytes that a phase holds, its type and the count bytes so far, are bytes after any word, whatever it is. With what makes a phase possible they are all that its type holds.
-- Assumes nothing.
use Prim.Native.Nat.{ℕ, ◌+◌, ◌*◌, ◌%◌, ◌^◌}
use mathlib.Core.Bool.{Bool, true, false, ◌&&◌}
use mathlib.Core.List.{List, [], ◌∷◌}
use mathlib.Core.Path.{◌≡◌, refl}
use native.Mathlib.Omega.{arith}
use lib.Dec.{eqb, ltb}
use lib.ListN.{length}
use borrow.Author.Tests.{lt-ltb, ltb-false}
use Rattle.lists.proofs.Tests.{and_true, both_true, or_false, pick_elim}
use Rattle.line.specs.Settings.{small}
use Rattle.words.specs.Modes.{value_of}
use Rattle.words.specs.Class.{class_of}
use Rattle.words.specs.declared.class.Class.{Class}
use Rattle.words.specs.declared.class.Class.TheVariants.{Byte, Other, Separator, Ending, Illegal, Null}
use Rattle.machine.specs.declared.phase.Mark.{Mark}
use Rattle.machine.specs.declared.phase.Mark.TheVariants.{Typed, Nulled}
use Rattle.machine.specs.declared.phase.Phase.{Phase}
use Rattle.machine.specs.declared.phase.Phase.TheVariants.{Idle, Kind, First, Second, Third, Fourth, Data}
use Rattle.machine.specs.declared.step.Met.{Met}
use Rattle.machine.specs.declared.step.Met.TheVariants.{Nothing, Whole, Lost}
use Rattle.machine.specs.declared.step.Step.{Step}
use Rattle.machine.specs.Phases.{misphased}
use Rattle.machine.specs.Machine.{on, idle_step, kind_step, count_step, counted, ended, end_step, value_step, data_step, step_by, step_of}
use Rattle.machine.specs.Walk.{Walk, unless, collected_of, stored, walk_of}
use Rattle.machine.specs.Places.{met_at, walk_places}
use Rattle.reader.specs.State.{capacity}
use Rattle.images.specs.Held.{held_mark, held_phase}

-- numbers that only the room bounds are not asked
abbrev pub of_bytes : Phase → Bool
of_bytes Idle = true
of_bytes Kind = true
of_bytes (First m) = held_mark m
of_bytes (Second m a) = held_mark m && small a
of_bytes (Third m a b) = held_mark m && (small a && small b)
of_bytes (Fourth m a b c) = held_mark m && (small a && (small b && small c))
of_bytes (Data m n j) = held_mark m

pub phase_by_lem : (p : Phase) → of_bytes p ≡ true → misphased capacity p ≡ false → held_phase p ≡ true
phase_by_lem Idle e h = refl
phase_by_lem Kind e h = refl
phase_by_lem (First m) e h = e
phase_by_lem (Second m a) e h = e
phase_by_lem (Third m a b) e h = e
phase_by_lem (Fourth m a b c) e h = e
phase_by_lem (Data m n j) e h =
    let x = or_false (ltb capacity n) _ h in
    let few = ltb-false capacity n x.0 in
    let got = ltb-false capacity j (or_false (ltb capacity j) _ x.1).0 in
    and_true e (and_true (lt-ltb n (2 ^ 64) (omega (arith, few))) (lt-ltb j (2 ^ 64) (omega (arith, got))))

-- ---- one word
idle_bytes : (c : Class) → of_bytes (idle_step c).phase ≡ true
idle_bytes Byte = refl
idle_bytes Other = refl
idle_bytes Separator = refl
idle_bytes Ending = refl
idle_bytes Illegal = refl
idle_bytes Null = refl

kind_bytes : (c : Class) (b : ℕ) → small b ≡ true → of_bytes (kind_step c b).phase ≡ true
kind_bytes Byte b h = h
kind_bytes Other b h = refl
kind_bytes Separator b h = refl
kind_bytes Ending b h = refl
kind_bytes Illegal b h = refl
kind_bytes Null b h = refl

count_bytes_lem : (c : Class) (next : Step) → of_bytes next.phase ≡ true → of_bytes (count_step c next).phase ≡ true
count_bytes_lem Byte next e = e
count_bytes_lem Other next e = refl
count_bytes_lem Separator next e = refl
count_bytes_lem Ending next e = refl
count_bytes_lem Illegal next e = refl
count_bytes_lem Null next e = refl

ended_bytes : (m : Mark) (n : ℕ) → of_bytes (ended m n).phase ≡ true
ended_bytes (Typed k) n = refl
ended_bytes Nulled n = refl

abbrev Good : Step → Type 0
Good s = of_bytes s.phase ≡ true

value_bytes : (void : Bool) (room : ℕ) (m : Mark) (n j : ℕ) → held_mark m ≡ true → of_bytes (value_step void room m n j).phase ≡ true
unfolding value_step
value_bytes void room m n j e = pick_elim Good _ (λ h. refl) (λ h. pick_elim Good _ (λ g. refl) (λ g. pick_elim Good void (λ k. refl) (λ k. e)))

data_bytes : (mode room : ℕ) (m : Mark) (n j : ℕ) (c : Class) → held_mark m ≡ true → of_bytes (data_step mode room m n j c).phase ≡ true
unfolding end_step
data_bytes mode room m n j Separator e = refl
data_bytes mode room m n j Ending e = pick_elim Good _ (λ h. ended_bytes m j) (λ h. refl)
data_bytes mode room m n j Byte e = value_bytes false room m n j e
data_bytes mode room m n j Other e = value_bytes false room m n j e
data_bytes mode room m n j Illegal e = value_bytes false room m n j e
data_bytes mode room m n j Null e = value_bytes (eqb mode 8) room m n j e

by_class : (mode room : ℕ) (p : Phase) (c : Class) (b : ℕ) → small b ≡ true → of_bytes p ≡ true → of_bytes (step_by mode room p c b).phase ≡ true
unfolding counted
by_class mode room Idle c b h e = idle_bytes c
by_class mode room Kind c b h e = kind_bytes c b h
by_class mode room (First m) c b h e = count_bytes_lem c (on (Second m b)) (and_true e h)
by_class mode room (Second m x) c b h e = let k = both_true (held_mark m) (small x) e in count_bytes_lem c (on (Third m x b)) (and_true k.0 (and_true k.1 h))
by_class mode room (Third m x y) c b h e =
    let k = both_true (held_mark m) _ e in
    let l = both_true (small x) (small y) k.1 in
    count_bytes_lem c (on (Fourth m x y b)) (and_true k.0 (and_true l.0 (and_true l.1 h)))
by_class mode room (Fourth m x y z) c b h e =
    let k = both_true (held_mark m) _ e in
    count_bytes_lem c (counted room m (x + y * 256 + z * 65536 + b * 16777216)) (pick_elim Good _ (λ g. refl) (λ g. k.0))
by_class mode room (Data m n j) c b h e = data_bytes mode room m n j c e

step_bytes : (mode room : ℕ) (p : Phase) (w : ℕ) → of_bytes p ≡ true → of_bytes (step_of mode room p w).phase ≡ true
unfolding step_of
step_bytes mode room p w e = by_class mode room p (class_of w) (w % 256) (lt-ltb (w % 256) 256 (omega arith)) e

-- ---- a walk: what holds where it stops and where it goes on holds of it
either : (P : Walk → Type 0) (met : Met) {stop on : Walk} → P stop → P on → P (unless met stop on)
either P Nothing a b = b
either P (Whole k n) a b = a
either P (Lost n) a b = a

pub walk_bytes : (mode : ℕ) (p : Phase) (ws room : List ℕ) → of_bytes p ≡ true → of_bytes (walk_of mode p ws room).answer.phase ≡ true
unfolding walk_of
walk_bytes mode p [] room e = e
walk_bytes mode p (w ∷ ws) room e =
    let s = step_of mode (length room) p w in
    let next = step_bytes mode (length room) p w e in
    either (λ x. of_bytes x.answer.phase ≡ true) s.met next (walk_bytes mode s.phase ws (stored s.keeps (collected_of p) (value_of mode w) room) next)

-- a walk over places leaves the phase
pub places_phase : (mode : ℕ) (p : Phase) (xs : List (List ℕ)) (room : List ℕ) → (walk_places mode p xs room).answer.phase ≡ p
unfolding walk_places
places_phase mode p [] room = refl
places_phase mode p (x ∷ xs) room = either (λ y. y.answer.phase ≡ p) (met_at mode x) refl (places_phase mode p xs room)
