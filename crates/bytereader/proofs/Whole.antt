-- An allowance that no line uses up: the call tells what a reading call without allowance tells. So one function serves both.
-- Assumes nothing.
use mathlib.Core.Path.{◌≡◌, refl, sym, ap, ◌∙◌}
use mathlib.Core.Bool.{Bool, true, false, ◌&&◌}
use mathlib.Core.List.{List}
use Prim.Native.Nat.{ℕ, ◌*◌, ◌≤◌, ◌<◌}
use native.Mathlib.Nat.{mul-le-mul_left}
use native.Mathlib.Omega.{arith}
use Rattle.lists.proofs.Tests.{pick_true, pick_false}
use Rattle.octets.specs.Bytes.{words_of, bytes_of, is_even}
use Rattle.course.specs.Course.{place_of}
use Rattle.course.proofs.CourseLaws.{at_place}
use Rattle.reader.specs.declared.state.Reader.{Reader}
use Rattle.reader.specs.declared.within.Report.TheVariants.{Told}
use Rattle.reader.specs.State.{capacity}
use Rattle.reader.specs.Reading.{Reply, reading}
use Rattle.reader.specs.Within.{Sliced, unit_of, within}
use Rattle.reader.proofs.Ready.{ready}
use Rattle.reader.proofs.ReadLaws.{end_small}
use Rattle.reader.proofs.Pausing.{Pauses, Outcome, is_paused, is_told_lem}
use Rattle.reader.proofs.AtCapacity.{outcome}
use Rattle.bytereader.specs.Bytewise.{read_bytes, within_bytes}

-- the same report, state and room
pub record Same (x : Sliced) (y : Reply) : Type 0 where
  pub report_is : x.answer.report ≡ Told y.told.event
  pub state_is : x.answer.state ≡ y.told.state
  pub room_is : x.room ≡ y.room

module _ (a : ℕ) (st : Reader) (line room : List ℕ) (far : 2304 < a) where
  -- a pause has moved on by the whole allowance, and no line has so many words
  never : (st' : Reader) (room' : List ℕ) → Pauses capacity a st line room st' room' → ⊥
  never st' room' k =
      let some : 1 ≤ a = omega (arith, far) in
      let q = place_of st.place in
      let at = at_place st.place (k.begun some) in
      let long : a * 1 ≤ a * unit_of st.settings.block = mul-le-mul_left a (k.one some) in
      omega (arith, (k.moved q at).1, end_small st q line room at (ready capacity st line room k.fit), long, far)

  same_by : (s : Sliced) → Outcome capacity a st line room s → Same s (reading st line room)
  same_by _ (is_paused st' room' k) = absurd (never st' room' k)
  same_by _ (is_told_lem n t room' k) =
      let is = sym k.same in
      record { report_is = ap (λ (y : Reply). Told y.told.event) is; state_is = ap (λ (y : Reply). y.told.state) is; room_is = ap (λ (y : Reply). y.room) is }

  pub whole : Same (within a st line room) (reading st line room)
  whole = same_by (within a st line room) (outcome a st line room)

pub whole_bytes : (a : ℕ) (st : Reader) (line room : List ℕ) → 2304 < a → Same (within_bytes a st line room) (read_bytes st line room)
unfolding read_bytes within_bytes
whole_bytes a st line room far = go (is_even line && is_even room) refl
  where
    go : (b : Bool) → (is_even line && is_even room) ≡ b → Same (within_bytes a st line room) (read_bytes st line room)
    go true e =
        let w = whole a st (words_of line) (words_of room) far in
        record {
          report_is = ap (λ (x : Sliced). x.answer.report) (pick_true _ _ e) ∙ w.report_is ∙ ap (λ (y : Reply). Told y.told.event) (sym (pick_true _ _ e));
          state_is = ap (λ (x : Sliced). x.answer.state) (pick_true _ _ e) ∙ w.state_is ∙ ap (λ (y : Reply). y.told.state) (sym (pick_true _ _ e));
          room_is = ap (λ (x : Sliced). x.room) (pick_true _ _ e) ∙ ap bytes_of w.room_is ∙ ap (λ (y : Reply). y.room) (sym (pick_true _ _ e));
        }
    go false e =
        record {
          report_is = ap (λ (x : Sliced). x.answer.report) (pick_false _ _ e) ∙ ap (λ (y : Reply). Told y.told.event) (sym (pick_false _ _ e));
          state_is = ap (λ (x : Sliced). x.answer.state) (pick_false _ _ e) ∙ ap (λ (y : Reply). y.told.state) (sym (pick_false _ _ e));
          room_is = ap (λ (x : Sliced). x.room) (pick_false _ _ e) ∙ ap (λ (y : Reply). y.room) (sym (pick_false _ _ e));
        }
