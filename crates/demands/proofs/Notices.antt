-- A run of removed lines shorter than one frame is noticed: the line behind it does not have the next number, and a line behind a kept one has it.
-- Assumes nothing.
use Rattle.std.specs.Prelude.{Option, Some, None}
use Prim.Native.Nat.{ℕ, zero, suc, ◌+◌, ◌≤◌, ◌<◌}
use mathlib.Core.Bool.{Bool, true, false}
use mathlib.Core.List.{List, [], ◌∷◌}
use mathlib.Core.Path.{◌≡◌, refl, sym, ap, ◌∙◌}
use native.Mathlib.Omega.{arith}
use lib.Dec.{ltb}
use borrow.Author.Tests.{eq-eqb, ne_eqb, ltb-true, ltb-false, lt-ltb, le-ltb}
use Rattle.lists.proofs.Tests.{true_false, pick_true, pick_false}
use Rattle.course.specs.Course.{next_number}
use Rattle.writer.specs.Opening.{is_next}
use Rattle.demands.specs.Sending.{Sent}
use Rattle.demands.specs.Damage.{Fate, kept, removed, replaced, run_from, longest_run}
use Rattle.demands.specs.Demand3.{Follows, Consecutive}
use Rattle.demands.proofs.Ahead.{is_known, Noticed}

-- ---- numbers: fewer than N steps never lead back
abbrev steps : ℕ → ℕ → ℕ → ℕ
steps lines zero x = x
steps lines (suc j) x = next_number lines (steps lines j x)

next_up : (lines x : ℕ) → x < lines → next_number lines x ≡ suc x
unfolding next_number
next_up lines x h = pick_true (suc x) 1 (lt-ltb x lines h)

next_wrap : (lines x : ℕ) → lines ≤ x → next_number lines x ≡ 1
unfolding next_number
next_wrap lines x h = pick_false (suc x) 1 (le-ltb x lines h)

pub next_in : (lines x : ℕ) → 0 < lines → (1 ≤ next_number lines x) × (next_number lines x ≤ lines)
next_in lines x h = by (ltb x lines) refl
  where
    by : (b : Bool) → ltb x lines ≡ b → (1 ≤ next_number lines x) × (next_number lines x ≤ lines)
    by true e = let l = ltb-true x lines e in let u = next_up lines x l in (omega arith, omega arith)
    by false e = let l = ltb-false x lines e in let u = next_wrap lines x l in (omega arith, omega arith)

-- one step, and then j: as j steps, and then one
steps_next : (lines j x : ℕ) → steps lines j (next_number lines x) ≡ next_number lines (steps lines j x)
steps_next lines zero x = refl
steps_next lines (suc j) x = ap (next_number lines) (steps_next lines j x)

-- up to N as x + j, and past it as x + j - N
steps_up : (lines j x : ℕ) → x + j ≤ lines → steps lines j x ≡ x + j
steps_up lines zero x h = omega arith
steps_up lines (suc j) x h =
    let ih = steps_up lines j x (omega arith) in
    ap (next_number lines) ih ∙ next_up lines (x + j) (omega arith) ∙ omega arith

steps_past : (lines j x : ℕ) → 1 ≤ x → x ≤ lines → lines < x + j → j < lines → steps lines j x + lines ≡ x + j
steps_past lines zero x p l h k = absurd (omega arith)
steps_past lines (suc j) x p l h k = by (ltb lines (x + j)) refl (λ q. steps_past lines j x p l q (omega arith))
  where
    by : (b : Bool) → ltb lines (x + j) ≡ b → (lines < x + j → steps lines j x + lines ≡ x + j) → steps lines (suc j) x + lines ≡ x + suc j
    by true e ih =
        let i = ih (ltb-true lines (x + j) e) in
        let u = next_up lines (steps lines j x) (omega arith) in
        omega arith
    by false e ih =
        let q = ltb-false lines (x + j) e in
        let up = steps_up lines j x q in
        let w = next_wrap lines (steps lines j x) (omega arith) in
        omega arith

steps_move : (lines j x : ℕ) → 1 ≤ x → x ≤ lines → 1 ≤ j → j < lines → steps lines j x ≡ x → ⊥
steps_move lines j x p l q k e = by (ltb lines (x + j)) refl
  where
    by : (b : Bool) → ltb lines (x + j) ≡ b → ⊥
    by true t = let u = steps_past lines j x p l (ltb-true lines (x + j) t) k in omega arith
    by false t = let u = steps_up lines j x (ltb-false lines (x + j) t) in omega arith

-- ---- the last number that the reader has, and the number of the line before: r steps apart
abbrev Apart : ℕ → Option ℕ → ℕ → ℕ → Type 0
Apart lines None r x = Unit {0}
Apart lines (Some y) r x = x ≡ steps lines r y

far : (lines : ℕ) (before : Option ℕ) (r x n : ℕ) → Apart lines before r x → n ≡ next_number lines x → 1 ≤ r → r < lines → is_next lines before n ≡ false
far lines None r x n a e least less = refl
far lines (Some y) r x n a e least less =
    let i = next_in lines y (omega arith) in
    let is : steps lines r (next_number lines y) ≡ n = steps_next lines r y ∙ ap (next_number lines) (sym a) ∙ sym e in
    ne_eqb n (next_number lines y) (λ h. steps_move lines r (next_number lines y) i.0 i.1 least less (is ∙ h))

-- none removed: the line has the next number
near : (lines : ℕ) (before : Option ℕ) (r x n : ℕ) → Apart lines before r x → n ≡ next_number lines x → r ≡ 0 → is_known before ≡ true → is_next lines before n ≡ true
near lines None r x n a e z k = absurd (true_false (sym k))
near lines (Some y) r x n a e z k = eq-eqb n (next_number lines y) (e ∙ ap (next_number lines) (a ∙ ap (λ (j : ℕ). steps lines j y) z))

-- the longest run is no shorter than the one before it
run_least : (r : ℕ) (fs : List Fate) → r ≤ run_from r fs
run_least r [] = omega arith
run_least r (kept ∷ fs) = omega arith
run_least r (removed ∷ fs) = omega (arith, run_least (suc r) fs)
run_least r (replaced ws ∷ fs) = omega arith

noticed_by : (lines : ℕ) (told : Bool) (fs : List Fate) (ss : List Sent) (before : Option ℕ) (gone : Bool) (r x : ℕ) → Follows lines x ss → run_from r fs < lines
    → (gone ≡ true → 1 ≤ r) → (gone ≡ false → r ≡ 0) → Apart lines before r x → Noticed lines told before gone fs ss
noticed_by lines told [] ss before gone r x follows runs least none apart = tt
noticed_by lines told (f ∷ fs) [] before gone r x follows runs least none apart = tt
noticed_by lines told (kept ∷ fs) (s ∷ ss) before gone r x follows runs least none apart = (
  ((λ g. far lines before r x s.number apart follows.0 (least g) (omega (arith, runs))), λ t g k. near lines before r x s.number apart follows.0 (none g) k),
  noticed_by lines told fs ss (Some s.number) false 0 s.number follows.1 (omega (arith, runs)) (λ g. absurd (true_false (sym g))) (λ g. refl) refl,
)
noticed_by lines told (removed ∷ fs) (s ∷ ss) before gone r x follows runs least none apart =
    noticed_by lines told fs ss before true (suc r) s.number follows.1 runs (λ g. omega arith) (λ g. absurd (true_false g)) (further before apart)
  where
    further : (l : Option ℕ) → Apart lines l r x → Apart lines l (suc r) s.number
    further None a = tt
    further (Some y) a = follows.0 ∙ ap (next_number lines) a
noticed_by lines told (replaced ws ∷ fs) (s ∷ ss) before gone r x follows runs least none apart =
    noticed_by lines told fs ss None false 0 s.number follows.1 (omega (arith, runs)) (λ g. absurd (true_false (sym g))) (λ g. refl) tt

pub noticed : (lines : ℕ) (told : Bool) (fs : List Fate) (ss : List Sent) → longest_run fs < lines → Consecutive lines ss → Noticed lines told None false fs ss
noticed lines told [] ss runs numbers = tt
noticed lines told (f ∷ fs) [] runs numbers = tt
noticed lines told (kept ∷ fs) (s ∷ ss) runs numbers = (
  ((λ g. absurd (true_false (sym g))), λ t g k. absurd (true_false (sym k))),
  noticed_by lines told fs ss (Some s.number) false 0 s.number numbers (omega (arith, runs)) (λ g. absurd (true_false (sym g))) (λ g. refl) refl,
)
noticed lines told (removed ∷ fs) (s ∷ ss) runs numbers =
    noticed_by lines told fs ss None true 1 s.number numbers runs (λ g. omega arith) (λ g. absurd (true_false g)) tt
noticed lines told (replaced ws ∷ fs) (s ∷ ss) runs numbers =
    noticed_by lines told fs ss None false 0 s.number numbers (omega (arith, runs)) (λ g. absurd (true_false (sym g))) (λ g. refl) tt
