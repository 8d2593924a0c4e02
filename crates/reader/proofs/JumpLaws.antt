-- The jump: it is 0 exactly where the line is the next one, whatever the numbers; of numbers 1..N it is within half a frame, and the difference
-- but for one frame. Said once, over N and half of it.
-- Assumes nothing.
use Rattle.std.specs.Prelude.{Option, Some, None}
use mathlib.Core.Path.{◌≡◌, refl, sym, ap, subst, ◌∙◌}
use mathlib.Core.Bool.{Bool, true, false, ◌||◌, not, cond}
use mathlib.Core.Logic.{◌⊎◌, inl, inr}
use mathlib.Core.List.{[], ◌∷◌, map}
use Prim.Native.Nat.{ℕ, zero, suc, ◌+◌, ◌*◌, ◌-◌, ◌/◌, ◌<◌, ◌≤◌}
use native.Mathlib.Omega.{arith}
use lib.Dec.{T, eqb, eqb-suc-zero, leb, ltb}
use lib.IntN.{ℤ, pos, negsuc, neg_ℤ, nat_abs, sub_ℕ, ◌+ℤ◌, ◌-ℤ◌}
use borrow.Author.Tests.{lt-ltb, le-ltb, ltb-true, ltb-false, lt-leb, leb-true, leb-false, eqb-true, eqb-false, eq-eqb, ne_eqb}
use Rattle.lists.specs.Tests.{pick}
use Rattle.lists.proofs.Tests.{pick_true, pick_false}
use Rattle.line.specs.Systems.{system_of}
use Rattle.line.proofs.SystemLaws.{odd_lines}
use Rattle.course.specs.Course.{next_number}
use Rattle.reader.specs.Jump.{stays, folded, jump_from, is_zero}

-- ---- d behind, or d ahead
abbrev pub apart : Bool → ℕ → ℤ
apart behind d = pick behind (neg_ℤ (pos d)) (pos d)

apart_size : (b : Bool) (d : ℕ) → nat_abs (apart b d) ≡ d
unfolding pick
apart_size true zero = refl
apart_size true (suc d) = refl
apart_size false d = refl

apart_zero : (b : Bool) (d : ℕ) → is_zero (Some (apart b d)) ≡ eqb d 0
unfolding pick
apart_zero true zero = refl
apart_zero true (suc d) = sym (eqb-suc-zero d)
apart_zero false zero = refl
apart_zero false (suc d) = sym (eqb-suc-zero d)

pub apart_none : (b : Bool) → apart b 0 ≡ pos 0
unfolding pick
apart_none true = refl
apart_none false = refl

-- a distance that doesn't stay is more than half a frame, and less than one; one below a frame that stays is at most half of it
parts_by : (a b : Bool) → (a || b) ≡ false → (a ≡ false) × (b ≡ false)
parts_by false false e = (refl, refl)
parts_by false true e = absurd (subst T e tt)
parts_by true b e = absurd (subst T e tt)

pub moves : (lines d : ℕ) → stays lines d ≡ false → (lines / 2 < d) × (d < lines)
moves lines d e = let p = parts_by (leb d (lines / 2)) (leb lines d) e in (leb-false d (lines / 2) p.0, leb-false lines d p.1)

near_by : (a b : Bool) → (a || b) ≡ true → b ≡ false → a ≡ true
near_by true b e f = refl
near_by false true e f = absurd (subst T f tt)
near_by false false e f = absurd (subst T (sym e) tt)

near : (lines d : ℕ) → stays lines d ≡ true → d < lines → d ≤ lines / 2
near lines d e k = leb-true d (lines / 2) (near_by (leb d (lines / 2)) (leb lines d) e (lt-leb lines d k))

-- a distance that stays; else the rest of the frame lies the other way
pub fold_near : (lines : ℕ) (b : Bool) (d : ℕ) → stays lines d ≡ true → folded lines (apart b d) ≡ apart b d
unfolding folded pick
fold_near lines true zero e = pick_true _ _ e
fold_near lines true (suc d) e = pick_true _ _ e
fold_near lines false d e = pick_true _ _ e

pub fold_far : (lines : ℕ) (b : Bool) (d : ℕ) → stays lines d ≡ false → folded lines (apart b d) ≡ apart (not b) (lines - d)
unfolding folded pick
fold_far lines true zero e = let h = moves lines zero e in absurd (omega arith)
fold_far lines true (suc d) e = pick_false _ _ e
fold_far lines false d e = pick_false _ _ e

-- ---- a number less another
pub sub_behind : (a b : ℕ) → a < b → sub_ℕ a b ≡ apart true (b - a)
unfolding pick
sub_behind a b h = ap (λ (t : Bool). cond t (negsuc (b - suc a)) (pos (a - b))) (lt-ltb a b h) ∙ sym (ap (λ (k : ℕ). neg_ℤ (pos k)) e)
  where
    e : b - a ≡ suc (b - suc a)
    e = omega arith

pub sub_ahead : (a b : ℕ) → b ≤ a → sub_ℕ a b ≡ apart false (a - b)
unfolding pick
sub_ahead a b h = ap (λ (t : Bool). cond t (negsuc (b - suc a)) (pos (a - b))) (le-ltb a b h)

-- z is w, or w with N taken off or added
abbrev pub OffBy : ℕ → ℤ → ℤ → Type 0
OffBy lines w z = (z ≡ w) ⊎ ((z ≡ w -ℤ pos lines) ⊎ (z ≡ w +ℤ pos lines))

-- the rest of the frame, the other way
rest_off : (lines : ℕ) (b : Bool) (d : ℕ) → 0 < d → d < lines → {z : ℤ} → z ≡ apart (not b) (lines - d) → (z ≡ apart b d -ℤ pos lines) ⊎ (z ≡ apart b d +ℤ pos lines)
unfolding pick
rest_off lines b zero l k e = absurd (omega arith)
rest_off zero b (suc d) l k e = absurd (omega arith)
rest_off (suc n) true (suc d) l k e = inr (e ∙ sym (sub_ahead (suc n) (suc d) (omega arith)))
rest_off (suc n) false (suc d) l k e = inl (e ∙ sym (sub_behind (suc d) (suc n) k))

-- ---- the fold is 0 exactly where the difference is
pub fold_zero : (lines : ℕ) (b : Bool) (d : ℕ) → is_zero (Some (folded lines (apart b d))) ≡ eqb d 0
fold_zero lines b d = go (stays lines d) refl
  where
    go : (t : Bool) → stays lines d ≡ t → is_zero (Some (folded lines (apart b d))) ≡ eqb d 0
    go true e = ap (λ (z : ℤ). is_zero (Some z)) (fold_near lines b d e) ∙ apart_zero b d
    go false e =
        let q = moves lines d e in
        ap (λ (z : ℤ). is_zero (Some z)) (fold_far lines b d e) ∙ apart_zero (not b) (lines - d) ∙ ne_eqb (lines - d) 0 (λ p. omega arith) ∙ sym (ne_eqb d 0 (λ p. omega arith))

-- ---- the fold of less than a frame
-- h is half of a frame that has an odd number of lines
module _ (lines h : ℕ) (odd : lines ≡ 2 * h + 1) where
  fold_range : (b : Bool) (d : ℕ) → d < lines → nat_abs (folded lines (apart b d)) ≤ h
  fold_range b d k = go (stays lines d) refl
    where
      go : (t : Bool) → stays lines d ≡ t → nat_abs (folded lines (apart b d)) ≤ h
      go true e = let q = near lines d e k in rw (ap nat_abs (fold_near lines b d e) ∙ apart_size b d) (omega arith)
      go false e = let q = moves lines d e in rw (ap nat_abs (fold_far lines b d e) ∙ apart_size (not b) (lines - d)) (omega arith)

  fold_off : (b : Bool) (d : ℕ) → d < lines → OffBy lines (apart b d) (folded lines (apart b d))
  fold_off b d k = go (stays lines d) refl
    where
      go : (t : Bool) → stays lines d ≡ t → OffBy lines (apart b d) (folded lines (apart b d))
      go true e = inl (fold_near lines b d e)
      go false e = inr (rest_off lines b d (omega (arith, moves lines d e)) k (fold_far lines b d e))

-- ---- the number after x
next_within : (lines x : ℕ) → 1 ≤ x → x ≤ lines → (1 ≤ next_number lines x) × (next_number lines x ≤ lines)
unfolding next_number
next_within lines x l m = go (ltb x lines) refl
  where
    go : (t : Bool) → ltb x lines ≡ t → (1 ≤ pick (ltb x lines) (suc x) 1) × (pick (ltb x lines) (suc x) 1 ≤ lines)
    go true e = let q = ltb-true x lines e in rw (pick_true (suc x) 1 e) (omega arith, omega arith)
    go false e = rw (pick_false (suc x) 1 e) (omega arith, omega arith)

gap_zero : (a b : ℕ) → b ≤ a → eqb (a - b) 0 ≡ eqb a b
gap_zero a b l = go (eqb a b) refl
  where
    go : (t : Bool) → eqb a b ≡ t → eqb (a - b) 0 ≡ t
    go true e = let q = eqb-true a b e in eq-eqb (a - b) 0 (omega arith)
    go false e = ne_eqb (a - b) 0 (λ p. eqb-false a b e (omega arith))

-- ---- the jump
-- 0 exactly where the line is the next one: whatever N, the last number and the line's number are
less_zero : (lines number e : ℕ) → is_zero (Some (folded lines (sub_ℕ number e))) ≡ eqb number e
less_zero lines number e = go (ltb number e) refl
  where
    go : (t : Bool) → ltb number e ≡ t → is_zero (Some (folded lines (sub_ℕ number e))) ≡ eqb number e
    go true q =
        let k = ltb-true number e q in
        ap (λ (z : ℤ). is_zero (Some (folded lines z))) (sub_behind number e k) ∙ fold_zero lines true (e - number)
        ∙ ne_eqb (e - number) 0 (λ p. omega arith) ∙ sym (ne_eqb number e (λ p. omega arith))
    go false q =
        let k = ltb-false number e q in
        ap (λ (z : ℤ). is_zero (Some (folded lines z))) (sub_ahead number e k) ∙ fold_zero lines false (number - e)
        ∙ gap_zero number e k

pub jump_zero : (lines x number : ℕ) → is_zero (jump_from lines (Some x) number) ≡ eqb number (next_number lines x)
jump_zero lines x number = less_zero lines number (next_number lines x)

-- known, and no more than h ahead or behind
abbrev pub Within : ℕ → Option ℤ → Type 0
Within h None = ⊥
Within h (Some z) = nat_abs z ≤ h

-- known, and w but for N
abbrev pub FoldOf : ℕ → ℤ → Option ℤ → Type 0
FoldOf lines w None = ⊥
FoldOf lines w (Some z) = OffBy lines w z

module _ (lines h : ℕ) (odd : lines ≡ 2 * h + 1) (number : ℕ) (one : 1 ≤ number) (last : number ≤ lines) where
  -- what holds of every distance below a frame holds of a number less an expected one
  by_distance : (P : ℤ → Type 0) → ((b : Bool) (d : ℕ) → d < lines → P (apart b d)) → (e : ℕ) → 1 ≤ e → e ≤ lines → P (sub_ℕ number e)
  by_distance P f e l m = go (ltb number e) refl
    where
      go : (t : Bool) → ltb number e ≡ t → P (sub_ℕ number e)
      go true q = subst P (sym (sub_behind number e (ltb-true number e q))) (f true (e - number) (omega arith))
      go false q = subst P (sym (sub_ahead number e (ltb-false number e q))) (f false (number - e) (omega arith))

  module _ (x : ℕ) (least : 1 ≤ x) (most : x ≤ lines) where
    -- within half a frame
    pub jump_range : Within h (jump_from lines (Some x) number)
    jump_range =
        let w = next_within lines x least most in
        by_distance (λ (z : ℤ). nat_abs (folded lines z) ≤ h) (fold_range lines h odd) (next_number lines x) w.0 w.1

    -- line number less expected number, folded by N
    pub jump_by_lines : FoldOf lines (sub_ℕ number (next_number lines x)) (jump_from lines (Some x) number)
    jump_by_lines =
        let w = next_within lines x least most in
        by_distance (λ (z : ℤ). OffBy lines z (folded lines z)) (fold_off lines h odd) (next_number lines x) w.0 w.1

-- ---- the four systems
pub halves : map (λ (system : ℕ). (system_of system).lines / 2) (0 ∷ 1 ∷ 2 ∷ 3 ∷ []) ≡ 262 ∷ 312 ∷ 262 ∷ 312 ∷ []
halves = refl

module _ (system number x : ℕ) (one : 1 ≤ number) (last : number ≤ (system_of system).lines) (least : 1 ≤ x) (most : x ≤ (system_of system).lines) where
  lines_odd : (system_of system).lines ≡ 2 * ((system_of system).lines / 2) + 1
  lines_odd = odd_lines system (omega arith)

  pub system_jump_zero : is_zero (jump_from (system_of system).lines (Some x) number) ≡ eqb number (next_number (system_of system).lines x)
  system_jump_zero = jump_zero (system_of system).lines x number

  pub system_jump_range : Within ((system_of system).lines / 2) (jump_from (system_of system).lines (Some x) number)
  system_jump_range = jump_range (system_of system).lines ((system_of system).lines / 2) lines_odd number one last x least most
