-- A walk stops at the first report. Against the run to the words' end: what is heard up to there, and the run over the words that are left.
-- Assumes nothing.
use mathlib.Core.Path.{◌≡◌, refl, sym, ap, ap₂, ◌∙◌, subst}
use mathlib.Core.Bool.{true, false}
use mathlib.Core.List.{List, [], ◌∷◌, ◌++◌, map}
use Prim.Native.Nat.{ℕ, suc, ◌+◌, ◌*◌, ◌≤◌}
use native.Mathlib.Nat.{zero-mul, one-mul, suc-mul}
use native.Mathlib.Omega.{arith}
use lib.Dec.{T}
use lib.ListN.{length, drop}
use Rattle.words.specs.Modes.{value_of}
use Rattle.machine.specs.declared.phase.Phase.{Phase}
use Rattle.machine.specs.declared.step.Met.{Met}
use Rattle.machine.specs.declared.step.Met.TheVariants.{Nothing, Whole, Lost}
use Rattle.machine.specs.Machine.{step_of}
use Rattle.machine.specs.Walk.{Walk, walked_to, past, unless, is_nothing, collected_of, stored, walk_of}
use Rattle.machine.specs.Places.{met_at, place_room, walk_places}
use Rattle.demands.specs.Hearing.{Heard}
use Rattle.demands.proofs.Run.{Now, now, met_heard, step_to, step_out, run_to, run_out, place_to, place_out, places_to, places_out}
use Rattle.demands.proofs.DeskOk.{AllLong}

-- one element more was taken
pub drop_one_more : {A : Type 0} (n : ℕ) (x : A) (xs : List A) → drop (1 + n) (x ∷ xs) ≡ drop n xs
drop_one_more {A} n x xs = let e : 1 + n ≡ suc n = omega arith in ap {B = List A} (λ (k : ℕ). drop k (x ∷ xs)) e

-- ---- words
pub record Runs (mode : ℕ) (p : Phase) (ws room : List ℕ) (x : Walk) : Type 0 where
  pub out : run_out mode (now p room) ws ≡ met_heard x.answer.met x.room ++ run_out mode (now x.answer.phase x.room) (drop x.answer.taken ws)
  pub to : run_to mode (now p room) ws ≡ run_to mode (now x.answer.phase x.room) (drop x.answer.taken ws)
  pub all : is_nothing x.answer.met ≡ true → x.answer.taken ≡ length ws

-- after one word that leaves phase s and room r
word_runs : (mode : ℕ) (p s : Phase) (w : ℕ) (ws room r : List ℕ) (met : Met) (on : Walk)
    → step_to mode (now p room) w ≡ now s r → step_out mode (now p room) w ≡ met_heard met r → Runs mode s ws r on
    → Runs mode p (w ∷ ws) room (unless met (walked_to s met 1 r) (past 1 on))
word_runs mode p s w ws room r Nothing on e f h =
    let left = drop_one_more on.answer.taken w ws in
    record {
      out =
          ap₂ (λ (a : List Heard) (q : Now). a ++ run_out mode q ws) f e
          ∙ h.out
          ∙ ap {B = List Heard} (λ (l : List ℕ). met_heard on.answer.met on.room ++ run_out mode (now on.answer.phase on.room) l) (sym left);
      to =
          ap (λ (q : Now). run_to mode q ws) e ∙ h.to ∙ ap (λ (l : List ℕ). run_to mode (now on.answer.phase on.room) l) (sym left);
      all = λ n. omega (arith, h.all n);
    }
word_runs mode p s w ws room r (Whole k n) on e f h =
    record {
      out = ap₂ (λ (a : List Heard) (q : Now). a ++ run_out mode q ws) f e;
      to = ap (λ (q : Now). run_to mode q ws) e;
      all = λ z. absurd (subst T (sym z) tt);
    }
word_runs mode p s w ws room r (Lost n) on e f h =
    record {
      out = ap₂ (λ (a : List Heard) (q : Now). a ++ run_out mode q ws) f e;
      to = ap (λ (q : Now). run_to mode q ws) e;
      all = λ z. absurd (subst T (sym z) tt);
    }

pub walk_runs : (mode : ℕ) (p : Phase) (ws room : List ℕ) → Runs mode p ws room (walk_of mode p ws room)
unfolding walk_of step_to step_out
walk_runs mode p [] room = record { out = refl; to = refl; all = λ e. refl }
walk_runs mode p (w ∷ ws) room =
    let s = step_of mode (length room) p w in
    let r = stored s.keeps (collected_of p) (value_of mode w) room in
    word_runs mode p s.phase w ws room r s.met (walk_of mode s.phase ws r) refl refl (walk_runs mode s.phase ws r)

-- ---- places
-- so many places were taken, and the phase is as it was
pub record Passes (mode : ℕ) (p : Phase) (xs : List (List ℕ)) (room : List ℕ) (x : Walk) : Type 0 where
  pub count : ℕ
  pub within : count ≤ length xs
  pub taken : (size : ℕ) → AllLong size xs → x.answer.taken ≡ count * size
  pub phase : x.answer.phase ≡ p
  pub out : places_out mode room xs ≡ met_heard x.answer.met x.room ++ places_out mode x.room (drop count xs)
  pub to : places_to mode room xs ≡ places_to mode x.room (drop count xs)
  pub all : is_nothing x.answer.met ≡ true → count ≡ length xs

-- one place, of which something is reported
one_passed : (mode : ℕ) (p : Phase) (x : List ℕ) (xs : List (List ℕ)) (room r : List ℕ) (met : Met) → is_nothing met ≡ false → place_to mode x room ≡ r
    → place_out mode x room ≡ met_heard met r → Passes mode p (x ∷ xs) room (walked_to p met (length x) r)
one_passed mode p x xs room r met some e f =
    record {
      count = 1;
      within = omega arith;
      taken = λ size l. l.0 ∙ sym (one-mul size);
      phase = refl;
      out = ap₂ (λ (a : List Heard) (q : List ℕ). a ++ places_out mode q xs) f e;
      to = ap (λ (q : List ℕ). places_to mode q xs) e;
      all = λ z. absurd (subst T (sym z ∙ some) tt);
    }

-- after one place that leaves room r, the same room where nothing is met
place_passes : (mode : ℕ) (p : Phase) (x : List ℕ) (xs : List (List ℕ)) (room r : List ℕ) (met : Met) (on : Walk)
    → place_to mode x room ≡ r → place_out mode x room ≡ met_heard met r → (met ≡ Nothing → r ≡ room) → Passes mode p xs room on
    → Passes mode p (x ∷ xs) room (unless met (walked_to p met (length x) r) (past (length x) on))
place_passes mode p x xs room r Nothing on e f same h =
    let left = drop_one_more h.count x xs in
    let to_room = e ∙ same refl in
    let next : 1 + h.count ≡ suc h.count = omega arith in
    record {
      count = 1 + h.count;
      within = omega (arith, h.within);
      taken = λ size l. omega (arith, l.0, h.taken size l.1, ap (λ (n : ℕ). n * size) next, suc-mul h.count size);
      phase = h.phase;
      out =
          ap₂ (λ (a : List Heard) (q : List ℕ). a ++ places_out mode q xs) f to_room
          ∙ h.out
          ∙ ap {B = List Heard} (λ (l : List (List ℕ)). met_heard on.answer.met on.room ++ places_out mode on.room l) (sym left);
      to = ap (λ (q : List ℕ). places_to mode q xs) to_room ∙ h.to ∙ ap (λ (l : List (List ℕ)). places_to mode on.room l) (sym left);
      all = λ n. omega (arith, h.all n);
    }
place_passes mode p x xs room r (Whole k n) on e f same h = one_passed mode p x xs room r (Whole k n) refl e f
place_passes mode p x xs room r (Lost n) on e f same h = one_passed mode p x xs room r (Lost n) refl e f

pub places_pass : (mode : ℕ) (p : Phase) (xs : List (List ℕ)) (room : List ℕ) → Passes mode p xs room (walk_places mode p xs room)
unfolding walk_places place_to place_out
places_pass mode p [] room =
    record { count = 0; within = omega arith; taken = λ size l. sym (zero-mul size); phase = refl; out = refl; to = refl; all = λ e. refl }
places_pass mode p (x ∷ xs) room =
    let met = met_at mode x in
    let vs = map (value_of mode) (drop 1 x) in
    place_passes mode p x xs room (place_room met vs room) met (walk_places mode p xs room) refl refl
    (λ e. ap (λ (m : Met). place_room m vs room) e) (places_pass mode p xs room)
