-- A block of a fixed line, its place alone lent: what an addition to a line of zeros leaves.
-- Assumes nothing.
use mathlib.Core.Path.{◌≡◌, refl, sym, ap, ap₂, ◌∙◌}
use mathlib.Core.Bool.{Bool, true, false, ◌&&◌, ◌||◌, not}
use mathlib.Core.List.{List, []}
use Prim.Native.Nat.{ℕ, ◌+◌, ◌-◌}
use native.Mathlib.Omega.{arith}
use lib.Dec.{eqb}
use lib.ListN.{length, take, drop, length-replicate}
use borrow.Author.Tests.{eqb-true, not-false}
use Rattle.lists.proofs.Tests.{pick_true, pick_false, or_false}
use Rattle.line.specs.Systems.{system_of}
use Rattle.line.specs.Fixed.{is_variable}
use Rattle.line.specs.Layout.{payload_at}
use Rattle.course.specs.Course.{place_of}
use Rattle.blocks.specs.Laid.{laid_in}
use Rattle.blocks.proofs.LaidLaws.{laid_all, laid_none}
use Rattle.writer.specs.declared.state.Writer.{Writer}
use Rattle.writer.specs.declared.state.Laid.{Laid}
use Rattle.writer.specs.declared.state.Laid.TheVariants.{Refused}
use Rattle.writer.specs.declared.adding.Ground.{Ground}
use Rattle.writer.specs.declared.adding.Held.{Held}
use Rattle.writer.specs.Block.{fixed_words}
use Rattle.writer.specs.Answers.{Added, added}
use Rattle.writer.specs.Adding.{add_fault, adding}
use Rattle.writer.specs.Filling.{piece_of}
use Rattle.writer.specs.Batch.{batch_fault}
use Rattle.writer.specs.Ground.{held_by, Grounds, Stands}
use Rattle.writer.specs.Placing.{zeros, placing}
use Rattle.writer.proofs.BlockLaws.{fixed_long}
use Rattle.writer.proofs.Calls.{add_refused}
use Rattle.writer.proofs.GroundLaws.{stands_in}
use Rattle.writer.proofs.Pieces.{fixed_once}

-- where neither 1 nor 2 holds, of a line of zeros
pub zeros_stand : (w : Writer) (g : Ground) (h : Held) (long : ℕ) → batch_fault w long ≡ 0 → Grounds w g → held_by w h ≡ w → Stands w g h (length (zeros long))
zeros_stand w g h long e k same = stands_in w g h (length (zeros long)) (ap (batch_fault w) (length-replicate {A = ℕ} long 0) ∙ e) k same

either_not : (a b : Bool) → (a || not b) ≡ true → (not a && b) ≡ false
either_not true b e = refl
either_not false true e = sym e
either_not false false e = refl

neither_not : (a b : Bool) → (a || not b) ≡ false → (not a && b) ≡ true
neither_not true b e = sym e
neither_not false true e = refl
neither_not false false e = sym e

module _ (w : Writer) (long kind : ℕ) (vs place : List ℕ) where
  pub place_unfit : (is_variable w.settings.block || not (eqb (length place) (length vs + 1))) ≡ true → added (Refused 1) w place ≡ placing w long kind vs place
  unfolding placing
  place_unfit e = sym (pick_false _ _ (either_not (is_variable w.settings.block) _ e))

  module _ (fit : (is_variable w.settings.block || not (eqb (length place) (length vs + 1))) ≡ false) where
    place_is : placing w long kind vs place
        ≡ added (adding w (zeros long) kind vs).answer (adding w (zeros long) kind vs).state (laid_in (piece_of w (zeros long) kind vs) place)
    unfolding placing
    place_is = pick_true _ _ (neither_not (is_variable w.settings.block) _ fit)

    pub place_fixed : is_variable w.settings.block ≡ false
    place_fixed = (or_false _ _ fit).0

    pub place_long : length place ≡ length vs + 1
    place_long = eqb-true _ _ (not-false _ (or_false (is_variable w.settings.block) _ fit).1)

    -- refused
    none_laid : (x : Added) → x.state ≡ w → take (place_of x.state.place - place_of w.place) (drop (payload_at (system_of w.system) + place_of w.place) x.line) ≡ []
    none_laid x e =
        let n : place_of x.state.place - place_of w.place ≡ 0 = ap (λ (v : Writer). place_of v.place - place_of w.place) e ∙ omega arith in
        ap (λ (k : ℕ). take k (drop (payload_at (system_of w.system) + place_of w.place) x.line)) n

    pub place_refused : (fault : ℕ) → fault ≡ add_fault w long kind vs → (fault ≡ 0 → ⊥) → added (Refused fault) w place ≡ placing w long kind vs place
    unfolding piece_of
    place_refused fault e h =
        let line = zeros long in
        let is = add_refused w line kind vs fault (e ∙ ap (λ (n : ℕ). add_fault w n kind vs) (sym (length-replicate {A = ℕ} long 0))) h in
        let piece = none_laid (adding w line kind vs) (sym (ap (λ (x : Added). x.state) is)) in
        let kept : laid_in [] place ≡ place = laid_none [] place (λ z. omega (arith, z, place_long)) in
        sym (place_is
        ∙ ap₂ (λ (a : Laid) (s : Writer). added a s (laid_in (piece_of w line kind vs) place)) (sym (ap (λ (x : Added). x.answer) is)) (sym (ap (λ (x : Added). x.state) is))
        ∙ ap (λ (l : List ℕ). added (Refused fault) w (laid_in l place)) piece
        ∙ ap (added (Refused fault) w) kept)

    -- accepted
    pub place_added : (a : Laid) (st : Writer) (out ys : List ℕ) → add_fault w (length (zeros long)) kind vs ≡ 0 → added a st out ≡ adding w (zeros long) kind vs
        → ys ≡ fixed_words w.mode kind vs → added a st ys ≡ placing w long kind vs place
    place_added a st out ys ok is e =
        let line = zeros long in
        let piece = (fixed_once w line kind vs ok place_fixed).1 in
        let laid : laid_in (fixed_words w.mode kind vs) place ≡ fixed_words w.mode kind vs = laid_all _ place (fixed_long w.mode kind vs ∙ sym place_long) in
        sym (place_is
        ∙ ap₂ (λ (x : Laid) (s : Writer). added x s (laid_in (piece_of w line kind vs) place)) (sym (ap (λ (x : Added). x.answer) is)) (sym (ap (λ (x : Added). x.state) is))
        ∙ ap (λ (l : List ℕ). added a st (laid_in l place)) piece
        ∙ ap (added a st) (laid ∙ sym e))
