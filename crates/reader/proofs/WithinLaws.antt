-- Laws of a reading call under an allowance: in which order it answers, and what it tells of a walk.
-- Assumes nothing.
use Rattle.std.specs.Prelude.{Option, Some, None}
use mathlib.Core.Path.{◌≡◌, refl, sym, ap, ◌∙◌}
use mathlib.Core.Bool.{Bool, true, false, ◌&&◌}
use mathlib.Core.List.{List, [], ◌∷◌}
use Prim.Native.Nat.{ℕ, ◌+◌, ◌/◌}
use lib.Dec.{eqb}
use lib.IntN.{pos}
use lib.ListN.{length}
use borrow.Author.Tests.{eq-eqb, ne_eqb}
use Rattle.lists.specs.Tests.{pick}
use Rattle.lists.proofs.Tests.{pick_true, pick_false}
use Rattle.machine.specs.Phases.{met_numbers}
use Rattle.machine.specs.Walk.{Walk, is_nothing}
use Rattle.reader.specs.declared.state.Reader.{Reader}
use Rattle.reader.specs.declared.state.Event.TheVariants.{Refused}
use Rattle.reader.specs.declared.within.Within.{Within}
use Rattle.reader.specs.State.{capacity}
use Rattle.reader.specs.Reading.{told_by, read_fault_in}
use Rattle.reader.specs.Within.{Sliced, sliced, paused_at, tells, unit_of, is_pause, walk_within, goes_within, within_from, within_in, within, report_numbers, goes_by, from_by, within_by}
use Rattle.reader.specs.Numbers.{later_by}
use Rattle.reader.proofs.Cutting.{stands}
use Rattle.reader.proofs.NumberLaws.{start_numbers, later_numbers}

-- ---- what is answered of a walk
module _ (a : ℕ) (st : Reader) (q : ℕ) (x : Walk) (n : ℕ) (is : n ≡ x.answer.taken / unit_of st.settings.block) where
  pub goes_paused : (is_nothing x.answer.met && eqb n a) ≡ true → sliced (paused_at n (stands st q x)) x.room ≡ goes_within a st q x
  unfolding goes_within
  goes_paused e =
      ap (λ (y : Within). sliced y x.room) (sym (pick_true _ _ e))
      ∙ ap (λ (k : ℕ). sliced (pick (is_pause a k x) (paused_at k (stands st q x)) (tells k (told_by st (q + x.answer.taken) x.answer.phase x.answer.met))) x.room) is

  pub goes_told : (is_nothing x.answer.met && eqb n a) ≡ false
      → sliced (tells n (told_by st (q + x.answer.taken) x.answer.phase x.answer.met)) x.room ≡ goes_within a st q x
  unfolding goes_within
  goes_told e =
      ap (λ (y : Within). sliced y x.room) (sym (pick_false _ _ e))
      ∙ ap (λ (k : ℕ). sliced (pick (is_pause a k x) (paused_at k (stands st q x)) (tells k (told_by st (q + x.answer.taken) x.answer.phase x.answer.met))) x.room) is

-- ---- in which order a call answers
module _ (c a : ℕ) (st : Reader) (line room : List ℕ) (fault : ℕ) (is : fault ≡ read_fault_in c st (length line) (length room)) where
  -- 1 and 2
  pub within_refused : (fault ≡ 0 → ⊥) → sliced (tells 0 (record { event = Refused fault false; state = st })) room ≡ within_in c a st line room
  unfolding within_in
  within_refused h =
      ap (λ (n : ℕ). sliced (tells 0 (record { event = Refused n false; state = st })) room) is
      ∙ sym (pick_false _ _ (ap (λ (n : ℕ). eqb n 0) (sym is) ∙ ne_eqb fault 0 h))

  -- then allowance 0
  pub within_none : fault ≡ 0 → a ≡ 0 → sliced (paused_at 0 st) room ≡ within_in c a st line room
  unfolding within_in
  within_none h z = sym (pick_true _ _ (eq-eqb _ 0 (sym is ∙ h)) ∙ pick_true _ _ (eq-eqb a 0 z))

  -- then the place decides
  pub within_goes : (p : Option ℕ) → fault ≡ 0 → (a ≡ 0 → ⊥) → st.place ≡ p → within_from p a st line room ≡ within_in c a st line room
  unfolding within_in
  within_goes p h z at = ap (λ (y : Option ℕ). within_from y a st line room) (sym at) ∙ sym (pick_true _ _ (eq-eqb _ 0 (sym is ∙ h)) ∙ pick_false _ _ (ne_eqb a 0 z))

-- ---- the numbers of a report
goes_numbers : (a : ℕ) (st : Reader) (q : ℕ) (x : Walk) → report_numbers (goes_within a st q x).answer.report ≡ goes_by a (unit_of st.settings.block) x
unfolding goes_within goes_by
goes_numbers a st q x = go (is_pause a (x.answer.taken / unit_of st.settings.block) x)
  where
    go : (b : Bool) →
        let n = x.answer.taken / unit_of st.settings.block in
        report_numbers (pick b (paused_at n (stands st q x)) (tells n (told_by st (q + x.answer.taken) x.answer.phase x.answer.met))).report
        ≡ pick b (pos 5 ∷ []) (later_by (met_numbers x.answer.met))
    go true = ap (λ (y : Within). report_numbers y.report) (pick_true _ _ refl) ∙ sym (pick_true _ _ refl)
    go false = ap (λ (y : Within). report_numbers y.report) (pick_false _ _ refl) ∙ later_numbers st _ _ x.answer.met ∙ sym (pick_false _ _ refl)

from_numbers : (p : Option ℕ) (a : ℕ) (st : Reader) (line room : List ℕ) → report_numbers (within_from p a st line room).answer.report ≡ from_by p a st line room
from_numbers None a st line room = start_numbers st line
from_numbers (Some q) a st line room = goes_numbers a st q (walk_within a st q line room)

pub within_numbers : (a : ℕ) (st : Reader) (line room : List ℕ) → report_numbers (within a st line room).answer.report ≡ within_by a st line room
unfolding within_in within_by pick
within_numbers a st line room = go (eqb (read_fault_in capacity st (length line) (length room)) 0) (eqb a 0)
  where
    go : (b z : Bool) →
        let fault = read_fault_in capacity st (length line) (length room) in
        report_numbers
        (pick b (pick z (sliced (paused_at 0 st) room) (within_from st.place a st line room)) (sliced (tells 0 (record { event = Refused fault false; state = st })) room)).answer.report
        ≡ pick b (pick z (pos 5 ∷ []) (from_by st.place a st line room)) (pos 0 ∷ pos fault ∷ pos 0 ∷ [])
    go true true = refl
    go true false = from_numbers st.place a st line room
    go false z = refl

pub within_numbered : (a : ℕ) (st : Reader) (line room : List ℕ) (x : Sliced) → x ≡ within a st line room
    → (x ≡ within a st line room) × (report_numbers x.answer.report ≡ within_by a st line room)
within_numbered a st line room x e = (e, ap (λ (y : Sliced). report_numbers y.answer.report) e ∙ within_numbers a st line room)
