-- Laws of the walk: words taken before, the next word, and two parts walked one after the other.
-- Assumes nothing.
use mathlib.Core.Path.{◌≡◌, refl, sym, ap, ◌∙◌, subst}
use mathlib.Core.Bool.{true, false}
use mathlib.Core.List.{List, [], ◌∷◌, ◌++◌}
use Prim.Native.Nat.{ℕ, ◌+◌}
use native.Mathlib.Nat.{zero-add, add_assoc}
use lib.Dec.{T}
use lib.ListN.{length}
use Rattle.words.specs.Modes.{value_of}
use Rattle.machine.specs.declared.phase.Phase.{Phase}
use Rattle.machine.specs.declared.step.Met.{Met}
use Rattle.machine.specs.declared.step.Met.TheVariants.{Nothing, Whole, Lost}
use Rattle.machine.specs.declared.step.Step.{Step}
use Rattle.machine.specs.Machine.{step_of}
use Rattle.machine.specs.Walk.{Walk, walked_to, past, unless, is_nothing, collected_of, stored, walk_of, taken_on}

-- ---- words taken before
pub past_zero : (x : Walk) → past 0 x ≡ x
past_zero x = ap (λ (n : ℕ). walked_to x.answer.phase x.answer.met n x.room) (zero-add x.answer.taken)

pub past_past : (a b : ℕ) (x : Walk) → past a (past b x) ≡ past (a + b) x
past_past a b x = ap (λ (n : ℕ). walked_to x.answer.phase x.answer.met n x.room) (sym (add_assoc a b x.answer.taken))

-- ---- the next word
pub goes : (met : Met) (stop on : Walk) → is_nothing met ≡ true → unless met stop on ≡ on
goes Nothing stop on e = refl
goes (Whole k n) stop on e = absurd (subst T (sym e) tt)
goes (Lost n) stop on e = absurd (subst T (sym e) tt)

pub stops : (met : Met) (stop on : Walk) → is_nothing met ≡ false → unless met stop on ≡ stop
stops Nothing stop on e = absurd (subst T e tt)
stops (Whole k n) stop on e = refl
stops (Lost n) stop on e = refl

module _ (mode : ℕ) (p : Phase) (w : ℕ) (ws room : List ℕ) (s : Step) (is : s ≡ step_of mode (length room) p w)
    (next : List ℕ) (put : next ≡ stored s.keeps (collected_of p) (value_of mode w) room) where
  pub word_goes : is_nothing s.met ≡ true → walk_of mode p (w ∷ ws) room ≡ past 1 (walk_of mode s.phase ws next)
  unfolding walk_of
  word_goes e = rw (put, is) (goes (step_of mode (length room) p w).met _ _ (rw is at e))

  pub word_stops : is_nothing s.met ≡ false → walk_of mode p (w ∷ ws) room ≡ walked_to s.phase s.met 1 next
  unfolding walk_of
  word_stops e = rw (put, is) (stops (step_of mode (length room) p w).met _ _ (rw is at e))

-- ---- walking two parts one after the other is walking both joined
past_unless : (n : ℕ) (met : Met) (stop on : Walk) → past n (unless met stop on) ≡ unless met (past n stop) (past n on)
past_unless n Nothing stop on = refl
past_unless n (Whole k m) stop on = refl
past_unless n (Lost m) stop on = refl

-- a walk goes on by f, unless it has stopped
abbrev pub on_by : (Phase → List ℕ → Walk) → Walk → Walk
on_by f x = unless x.answer.met x (past x.answer.taken (f x.answer.phase x.room))

past_on : (f : Phase → List ℕ → Walk) (n : ℕ) (x : Walk) → past n (on_by f x) ≡ on_by f (past n x)
past_on f n x =
    past_unless n x.answer.met x (past x.answer.taken (f x.answer.phase x.room))
    ∙ ap (unless x.answer.met (past n x)) (past_past n x.answer.taken (f x.answer.phase x.room))

pub join_by : (f : Phase → List ℕ → Walk) (n : ℕ) (p : Phase) (met : Met) (room : List ℕ) (on whole : Walk) → whole ≡ on_by f on
    → unless met (walked_to p met n room) (past n whole) ≡ on_by f (unless met (walked_to p met n room) (past n on))
join_by f n p Nothing room on whole e = ap (past n) e ∙ past_on f n on
join_by f n p (Whole k m) room on whole e = refl
join_by f n p (Lost m) room on whole e = refl

pub walk_append : (mode : ℕ) (p : Phase) (xs ys room : List ℕ) → walk_of mode p (xs ++ ys) room ≡ taken_on mode ys (walk_of mode p xs room)
unfolding walk_of
walk_append mode p [] ys room = sym (past_zero (walk_of mode p ys room))
walk_append mode p (w ∷ xs) ys room =
    let s = step_of mode (length room) p w in
    let r = stored s.keeps (collected_of p) (value_of mode w) room in
    join_by (λ q l. walk_of mode q ys l) 1 s.phase s.met r (walk_of mode s.phase xs r) _ (walk_append mode s.phase xs ys r)
