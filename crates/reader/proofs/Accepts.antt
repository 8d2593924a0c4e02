-- With no line begun, a call that is not refused with 1 or 2 begins the line exactly where the line check finds no fault; and what it does either way.
-- Assumes nothing.
use Rattle.std.specs.Prelude.{Option, None}
use mathlib.Core.Path.{◌≡◌, refl, sym, ap, ◌∙◌}
use mathlib.Core.Bool.{true}
use mathlib.Core.List.{List}
use Prim.Native.Nat.{ℕ, zero, suc}
use native.Mathlib.Omega.{arith}
use lib.Dec.{eqb, eqb-suc-zero}
use lib.ListN.{length}
use borrow.Author.Tests.{eq-eqb}
use Rattle.lists.proofs.Tests.{pick_true, pick_false}
use Rattle.line.specs.Check.{number_of, settings_of, line_fault, checked_from, checked_of}
use Rattle.reader.specs.declared.state.Reader.{Reader}
use Rattle.reader.specs.Reading.{Reply, reply, refused, begun, starts, read_fault_in, read_from, reading_in}
use Rattle.reader.specs.Lending.{is_begun_event}

-- no fault 1 or 2: the call goes by the place
pub by_place : (c : ℕ) (st : Reader) (line room : List ℕ) (p : Option ℕ) → read_fault_in c st (length line) (length room) ≡ 0 → st.place ≡ p → reading_in c st line room ≡ read_from p st line room
unfolding reading_in
by_place c st line room p e at = pick_true _ _ (eq-eqb _ 0 e) ∙ ap (λ (x : Option ℕ). read_from x st line room) at

-- what the call tells of the fault that the line check found
pub begins_by : (st : Reader) (line : List ℕ) (n : ℕ) → n ≡ 0 → starts st (checked_from n line) ≡ begun st (number_of line) (settings_of line)
unfolding starts
begins_by st line zero e = pick_true _ _ refl
begins_by st line (suc n) e = absurd (omega arith)

pub refuses_by : (st : Reader) (line : List ℕ) (n : ℕ) → (n ≡ 0 → ⊥) → starts st (checked_from n line) ≡ refused st n
unfolding starts
refuses_by st line zero h = absurd (h refl)
refuses_by st line (suc n) h = pick_false _ _ (eqb-suc-zero n)

module _ (c : ℕ) (st : Reader) (line room : List ℕ) (fit : read_fault_in c st (length line) (length room) ≡ 0) (at : st.place ≡ None) where
  shut_call : reading_in c st line room ≡ reply (starts st (checked_from (line_fault st.system st.mode line) line)) room
  unfolding checked_of
  shut_call = by_place c st line room None fit at

  -- no fault: begun, with the number and the settings that stand in the line
  pub accepts : line_fault st.system st.mode line ≡ 0 → reading_in c st line room ≡ reply (begun st (number_of line) (settings_of line)) room
  accepts e = shut_call ∙ ap (λ x. reply x room) (begins_by st line (line_fault st.system st.mode line) e)

  -- a fault: refused, with its number
  pub refuses : (n : ℕ) → line_fault st.system st.mode line ≡ n → (n ≡ 0 → ⊥) → reading_in c st line room ≡ reply (refused st n) room
  refuses n is h = shut_call ∙ ap (λ (k : ℕ). reply (starts st (checked_from k line)) room) is ∙ ap (λ x. reply x room) (refuses_by st line n h)

begun_is : (st : Reader) (line : List ℕ) → is_begun_event (begun st (number_of line) (settings_of line)).event ≡ true
unfolding begun
begun_is st line = refl

pub accepted_exactly : (c : ℕ) (st : Reader) (line room : List ℕ) → read_fault_in c st (length line) (length room) ≡ 0 → st.place ≡ None
    → is_begun_event (reading_in c st line room).told.event ≡ eqb (line_fault st.system st.mode line) 0
accepted_exactly c st line room fit at = go (line_fault st.system st.mode line) refl
  where
    go : (n : ℕ) → line_fault st.system st.mode line ≡ n → is_begun_event (reading_in c st line room).told.event ≡ eqb n 0
    go zero is = ap (λ (x : Reply). is_begun_event x.told.event) (accepts c st line room fit at is) ∙ begun_is st line
    go (suc n) is = ap (λ (x : Reply). is_begun_event x.told.event) (refuses c st line room fit at (suc n) is (λ z. omega arith)) ∙ sym (eqb-suc-zero n)
