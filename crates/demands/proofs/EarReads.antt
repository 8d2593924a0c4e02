-- The bridge from reading calls to the ear: a reader lent lines, each until its end or refusal is reported, hears what the ear hears of them, and stands
-- where the ear stands.
-- Assumes nothing.
use Rattle.std.specs.Prelude.{None}
use Prim.Native.Nat.{ℕ, zero, suc}
use mathlib.Core.Bool.{Bool, true, false, ◌&&◌, not}
use mathlib.Core.List.{List, ◌++◌}
use mathlib.Core.Path.{◌≡◌, refl, sym, ap, ap₂, ◌∙◌, subst}
use native.Mathlib.Omega.{arith}
use lib.Dec.{eqb}
use lib.ListN.{length}
use Rattle.lists.proofs.Tests.{pick_true, pick_false}
use Rattle.line.specs.Check.{fits, line_fault}
use Rattle.reader.specs.declared.state.Reader.{Reader}
use Rattle.reader.specs.State.{capacity, impossible, fresh}
use Rattle.reader.specs.Reading.{read_fault, read_fault_in}
use Rattle.reader.proofs.AtCapacity.{fresh_possible, unfaulted}
use Rattle.demands.specs.Hearing.{Heard, Lends, ReadsTo, done, next, Reads}
use Rattle.demands.proofs.Ear.{Ear, Input, unfit, heard_of_input, ear_after, heard_along, ear_along, input_by, input_of, inputs_of}
use Rattle.demands.proofs.LineLends.{ear_of, Takes, hears, refuses_line, leaves_line, lends_keep}

-- a reader of that system and mode between two lines, with a room of its length
pub record Tuned (system mode : ℕ) (st : Reader) (room : List ℕ) : Type 0 where
  pub place : st.place ≡ None
  pub of_system : st.system ≡ system
  pub of_mode : st.mode ≡ mode
  pub possible : impossible st ≡ false
  pub long : length room ≡ capacity

pub fresh_tuned : (system mode : ℕ) (room : List ℕ) → length room ≡ capacity → Tuned system mode (fresh system mode) room
fresh_tuned system mode room long = record { place = refl; of_system = refl; of_mode = refl; possible = fresh_possible system mode; long = long }

-- ---- one line
pub record Steps (system mode : ℕ) (st : Reader) (room : List ℕ) (i : Input) (hs : List Heard) (st' : Reader) (room' : List ℕ) : Type 0 where
  pub heard : hs ≡ heard_of_input system mode (ear_of st room) i
  pub ear : ear_of st' room' ≡ ear_after system mode (ear_of st room) i
  pub tuned : Tuned system mode st' room'

module _ (st : Reader) (line room : List ℕ) (hs : List Heard) (st' : Reader) (room' : List ℕ) (at : st.place ≡ None) (possible : impossible st ≡ false)
    (long : length room ≡ capacity) (lent : Lends line st room hs st' room') where
  abbrev StepsTo : Input → Type 0
  StepsTo i = Steps st.system st.mode st room i hs st' room'

  -- a line of the system's length
  module _ (fit : fits st.system st.mode line ≡ true) where
    served : read_fault st (length line) (length room) ≡ 0
    served = unfaulted st line room (record { fit = fit; long = long; state = possible })

    taken : (i : Input) → Takes st room i hs st' room' → StepsTo i
    taken i x =
        let k = lends_keep line st room hs st' room' served lent in
        record {
          heard = x.heard;
          ear = ap₂ ear_of x.state x.room_is;
          tuned = record { place = ap (λ (z : Reader). z.place) x.state; of_system = k.system; of_mode = k.mode; possible = k.possible; long = k.long ∙ long };
        }

    fit_steps : (k : ℕ) → line_fault st.system st.mode line ≡ k → StepsTo (input_by st.system k line)
    fit_steps zero is = taken _ (hears st line room hs st' room' served at is lent)
    fit_steps (suc k) is = taken _ (refuses_line st line room hs st' room' served at (suc k) is (λ z. omega arith) lent)

  -- any other is answered with 1
  unfit_steps : fits st.system st.mode line ≡ false → StepsTo unfit
  unfolding read_fault_in
  unfit_steps e =
      let x = leaves_line st line room hs st' room' 0 one lent in
      record {
        heard = x.heard;
        ear = ap₂ ear_of x.state x.room_is;
        tuned = record {
          place = ap (λ (z : Reader). z.place) x.state ∙ at;
          of_system = ap (λ (z : Reader). z.system) x.state;
          of_mode = ap (λ (z : Reader). z.mode) x.state;
          possible = ap impossible x.state ∙ possible;
          long = ap length x.room_is ∙ long;
        };
      }
    where
      one : read_fault st (length line) (length room) ≡ 1
      one = pick_true _ _ (ap (λ (b : Bool). not (b && eqb (length room) capacity)) e)

  steps_at : StepsTo (input_of st.system st.mode line)
  unfolding input_of
  steps_at = by (fits st.system st.mode line) refl
    where
      by : (b : Bool) → fits st.system st.mode line ≡ b → StepsTo (input_of st.system st.mode line)
      by true e = subst StepsTo (sym (pick_true _ _ e)) (fit_steps e (line_fault st.system st.mode line) refl)
      by false e = subst StepsTo (sym (pick_false _ _ e)) (unfit_steps e)

pub line_steps : (system mode : ℕ) (st : Reader) (line room : List ℕ) (hs : List Heard) (st' : Reader) (room' : List ℕ) → Tuned system mode st room
    → Lends line st room hs st' room' → Steps system mode st room (input_of system mode line) hs st' room'
line_steps system mode st line room hs st' room' l lent =
    subst (λ (s : ℕ). Steps s mode st room (input_of s mode line) hs st' room') l.of_system
    (subst (λ (m : ℕ). Steps st.system m st room (input_of st.system m line) hs st' room') l.of_mode
    (steps_at st line room hs st' room' l.place l.possible l.long lent))

-- ---- lines one after another
pub record Along (system mode : ℕ) (st : Reader) (room : List ℕ) (is : List Input) (hs : List Heard) (st' : Reader) (room' : List ℕ) : Type 0 where
  pub heard : hs ≡ heard_along system mode (ear_of st room) is
  pub ear : ear_of st' room' ≡ ear_along system mode (ear_of st room) is
  pub tuned : Tuned system mode st' room'

pub reads_to_are : (system mode : ℕ) (st : Reader) (room : List ℕ) (lines : List (List ℕ)) (hs : List Heard) (st' : Reader) (room' : List ℕ) → Tuned system mode st room
    → ReadsTo st room lines hs st' room' → Along system mode st room (inputs_of system mode lines) hs st' room'
reads_to_are system mode st room _ _ _ _ l done = record { heard = refl; ear = refl; tuned = l }
reads_to_are system mode st room _ _ st'' room'' l (next {st' = st'} {room' = room'} {line = line} {lines = lines} {hs = hs} {ks = ks} x r) =
    let s = line_steps system mode st line room hs st' room' l x in
    let a = reads_to_are system mode st' room' lines ks st'' room'' s.tuned r in
    record {
      heard = ap₂ (λ (b c : List Heard). b ++ c) s.heard (a.heard ∙ ap (λ (e : Ear). heard_along system mode e (inputs_of system mode lines)) s.ear);
      ear = a.ear ∙ ap (λ (e : Ear). ear_along system mode e (inputs_of system mode lines)) s.ear;
      tuned = a.tuned;
    }

pub reads_are : (system mode : ℕ) (st : Reader) (room : List ℕ) (lines : List (List ℕ)) (hs : List Heard) → Tuned system mode st room → Reads st room lines hs
    → hs ≡ heard_along system mode (ear_of st room) (inputs_of system mode lines)
reads_are system mode st room lines hs l r = (reads_to_are system mode st room lines hs r.st' r.room' l r.reads_to).heard
