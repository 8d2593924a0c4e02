-- Many blocks in one call: a sound state stays sound, and 1 and 2 are answered before anything is laid or not at all.
-- Assumes nothing.
use Prim.Native.Nat.{ℕ, suc, ◌+◌}
use mathlib.Core.Bool.{true, false, not}
use mathlib.Core.List.{List, [], ◌∷◌}
use mathlib.Core.Path.{◌≡◌, refl, sym, ap, ◌∙◌}
use native.Mathlib.Omega.{arith}
use lib.Dec.{eqb}
use lib.ListN.{length}
use lib.Seq.{length-paste}
use borrow.Author.Tests.{eqb-true, ne_eqb, not-false}
use Rattle.lists.proofs.Tests.{true_false, false_or, pick_elim}
use Rattle.lists.proofs.Refusals.{given_holds, lowest_clear}
use Rattle.line.specs.Systems.{system_of}
use Rattle.line.specs.Layout.{payload_at}
use Rattle.line.specs.Check.{fits_length}
use Rattle.course.specs.Course.{place_of}
use Rattle.writer.specs.declared.state.Writer.{Writer}
use Rattle.writer.specs.declared.state.Laid.{Laid}
use Rattle.writer.specs.declared.state.Laid.TheVariants.{Refused as NotLaid, Finished, Unfinished as PartLaid}
use Rattle.writer.specs.State.{impossible}
use Rattle.writer.specs.Answers.{Added}
use Rattle.writer.specs.Adding.{add_faults, add_fault, todo, fitting, lay, adding}
use Rattle.writer.specs.Batch.{Entry, whole, broken, entries_of, Batched, behind, lay_all, batch_faults, batch_fault, batching}
use Rattle.writer.proofs.Refusals.{can_add}
use Rattle.writer.proofs.Keeps.{add_leaves}
use Rattle.writer.proofs.Stays.{add_possible, add_never_2}
use Rattle.calls.specs.Answers.{stop_answer}
use Rattle.hosted.specs.Hosted.{is_early}
use Rattle.hosted.proofs.Early.{late_2}
use Rattle.hosted.proofs.WriterHeld.{Sound, add_sound}

-- ---- a sound state
behind_sound : (a : Laid) (x : Added) (done : ℕ) (later : Batched) → Sound x.state → Sound later.state → Sound (behind a x done later).state
behind_sound (NotLaid k) x done later s l = s
behind_sound PartLaid x done later s l = s
behind_sound Finished x done later s l = l

lay_sound : (es : List Entry) (w : Writer) (line : List ℕ) (done : ℕ) → Sound w → Sound (lay_all w line done es).state
unfolding lay_all
lay_sound [] w line done s = s
lay_sound (broken ∷ es) w line done s = s
lay_sound (whole kind vs ∷ es) w line done s =
    let x = adding w line kind vs in
    let n = add_sound w line kind vs s in
    behind_sound x.answer x done (lay_all x.state x.line (suc done) es) n (lay_sound es x.state x.line (suc done) n)

pub batch_sound : (w : Writer) (line blocks : List ℕ) → Sound w → Sound (batching w line blocks).state
unfolding batching
batch_sound w line blocks s =
    pick_elim (λ (x : Batched). Sound x.state) (eqb (batch_fault w (length line)) 0) (λ h. lay_sound (entries_of blocks) w line 0 s) (λ h. s)

-- ---- neither 1 nor 2 behind the start
-- what no fault 1 or 2 says
record Stands (w : Writer) (line : List ℕ) : Type 0 where
  fit : fits_length w.system w.mode (length line) ≡ true
  possible : impossible w ≡ false

-- so no addition answers them
add_late : (w : Writer) (line : List ℕ) (kind : ℕ) (vs : List ℕ) → Stands w line → is_early (add_fault w (length line) kind vs) ≡ false
unfolding add_fault
add_late w line kind vs s =
    false_or
    (ne_eqb _ 1 (λ e. true_false (sym (given_holds 1 (add_faults w (length line) kind vs) e (λ z. omega arith)) ∙ false_or (ap not s.fit) refl)))
    (ne_eqb _ 2 (add_never_2 w s.possible (length line) kind vs))

-- and the line's length, system and mode stay
module _ (w : Writer) (line : List ℕ) (kind : ℕ) (vs : List ℕ) (ok : add_fault w (length line) kind vs ≡ 0) where
  line_long : length (lay w line kind vs).line ≡ length line
  line_long =
      let c = can_add w line kind vs ok in
      let ws = todo w kind vs in
      length-paste line (payload_at (system_of w.system) + place_of w.place) ws (fitting w ws) (omega (arith, c.fit.long, c.fit.row.room, c.room, c.end)) (omega arith)

  lay_stands : Stands w line → Stands (lay w line kind vs).state (lay w line kind vs).line
  lay_stands s =
      record {
        fit = ap (fits_length w.system w.mode) line_long ∙ s.fit;
        possible = ap (λ (x : Added). impossible x.state) (sym (add_leaves w line kind vs ok)) ∙ add_possible w line kind vs s.possible;
      }

abbrev Late : Batched → Type 0
Late x = is_early (stop_answer x.stop) ≡ false

lay_late : (es : List Entry) (w : Writer) (line : List ℕ) (done : ℕ) → Stands w line → Late (lay_all w line done es)
unfolding lay_all adding
lay_late [] w line done s = refl
lay_late (broken ∷ es) w line done s = refl
lay_late (whole kind vs ∷ es) w line done s =
    pick_elim (λ (x : Added). Late (behind x.answer x done (lay_all x.state x.line (suc done) es))) (eqb (add_fault w (length line) kind vs) 0)
    (λ h.
    let x = lay w line kind vs in
    let later = lay_late es x.state x.line (suc done) (lay_stands w line kind vs (eqb-true _ _ h) s) in
    pick_elim (λ (a : Laid). Late (behind a x done (lay_all x.state x.line (suc done) es))) (eqb (fitting w (todo w kind vs)) (length (todo w kind vs))) (λ e. later) (λ e. refl))
    (λ h. add_late w line kind vs s)

stands : (w : Writer) (line : List ℕ) → batch_fault w (length line) ≡ 0 → Stands w line
unfolding batch_fault
stands w line e = let c = lowest_clear (batch_faults w (length line)) refl e in record { fit = not-false _ c.0; possible = c.1.0 }

-- 1 and 2 leave state and line
pub batch_keeps : (w : Writer) (line blocks : List ℕ) → is_early (stop_answer (batching w line blocks).stop) ≡ true
    → ((batching w line blocks).state ≡ w) × ((batching w line blocks).line ≡ line)
unfolding batching
batch_keeps w line blocks =
    pick_elim (λ (x : Batched). is_early (stop_answer x.stop) ≡ true → (x.state ≡ w) × (x.line ≡ line)) (eqb (batch_fault w (length line)) 0)
    (λ h e. absurd (true_false (sym e ∙ lay_late (entries_of blocks) w line 0 (stands w line (eqb-true _ _ h))))) (λ h e. (refl, refl))

-- and 2 is of an impossible state alone
fault_2 : (w : Writer) (long : ℕ) → impossible w ≡ false → batch_fault w long ≡ 2 → ⊥
unfolding batch_fault
fault_2 w long p z = true_false (sym (given_holds 2 (batch_faults w long) z (λ x. omega arith)) ∙ false_or p refl)

pub batch_never_2 : (w : Writer) (line blocks : List ℕ) → impossible w ≡ false → stop_answer (batching w line blocks).stop ≡ 2 → ⊥
unfolding batching
batch_never_2 w line blocks p =
    pick_elim (λ (x : Batched). stop_answer x.stop ≡ 2 → ⊥) (eqb (batch_fault w (length line)) 0)
    (λ h. late_2 _ (lay_late (entries_of blocks) w line 0 (stands w line (eqb-true _ _ h)))) (λ h. fault_2 w (length line) p)
