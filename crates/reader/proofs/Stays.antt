-- A possible state stays possible, whatever line and room are lent and however a call is answered: answer 2 never follows from a fresh reader.
-- Assumes nothing.
use Rattle.std.specs.Prelude.{Option, Some, None}
use mathlib.Core.Path.{◌≡◌, refl, sym, ap, ◌∙◌, subst}
use mathlib.Core.Bool.{Bool, true, false, ◌&&◌, not}
use mathlib.Core.List.{List, ◌++◌}
use Prim.Native.Nat.{ℕ, zero, suc, ◌+◌, ◌-◌, ◌/◌, ◌≤◌}
use native.Mathlib.Omega.{arith}
use lib.Dec.{eqb, leb}
use lib.ListN.{length, get_or}
use borrow.Author.Tests.{eqb-true, not-false}
use Rattle.lists.specs.Tests.{pick}
use Rattle.lists.proofs.Tests.{true_false, false_or, both_true, and_true, pick_true, pick_false, and_none, pick_elim}
use Rattle.lists.proofs.Refusals.{given_holds, lowest_clear, clear_lowest, clear_split}
use Rattle.line.specs.declared.settings.Settings.{Settings}
use Rattle.line.specs.declared.check.Checked.{Checked}
use Rattle.line.specs.Systems.{system_of}
use Rattle.line.specs.Fixed.{is_variable, places_of, size_of}
use Rattle.line.specs.Settings.{settings_faults, settings_fault, same_settings}
use Rattle.line.specs.Check.{low, number_of, settings_of, numbered, head_faults, payload_faults, faults, line_faults, line_fault, checked_from, checked_of}
use Rattle.course.specs.Course.{blocks_end, misplaced}
use Rattle.line.proofs.CheckLaws.{check_rising, fault_not_2}
use Rattle.course.proofs.CourseLaws.{start_placed, variable_placed, grid_next, grid_left, begins}
use Rattle.machine.specs.declared.phase.Phase.{Phase}
use Rattle.machine.specs.declared.phase.Phase.TheVariants.{Idle}
use Rattle.machine.specs.declared.step.Met.{Met}
use Rattle.machine.specs.declared.step.Met.TheVariants.{Nothing, Whole, Lost}
use Rattle.machine.specs.Phases.{is_busy, misphased}
use Rattle.machine.specs.Walk.{Walk, walk_of}
use Rattle.machine.specs.Places.{places_in, walk_places}
use Rattle.reader.specs.declared.state.Reader.{Reader}
use Rattle.reader.specs.declared.state.Event.{Event}
use Rattle.reader.specs.declared.state.Event.TheVariants.{Refused, Begun as BegunWith, Block, Drop, End}
use Rattle.reader.specs.declared.state.Told.{Told}
use Rattle.reader.specs.Jump.{jump_from, is_zero}
use Rattle.reader.specs.State.{fresh, impossible_in}
use Rattle.reader.specs.Reading.{Reply, refused, goes_on, begun as beginning, starts, words_from, walk_from, told_by, goes_from, read_faults_in, read_fault_in, read_from, reading_in}
use Rattle.machine.proofs.Kept.{walk_kept, places_along}
use Rattle.reader.proofs.Ready.{course_of, phase_of, possible_by, ReadyIn, ready, at_q, in_end, words_long}

-- ---- a line refused
refused_possible : (c : ℕ) (st : Reader) (n : ℕ) → impossible_in c (refused st n).state ≡ false
unfolding impossible_in
refused_possible c st n = refl

-- ---- a line begun: its number and settings are such as the line check accepts
record Sound (system : ℕ) (c : Checked) : Type 0 where
  range : not (leb 1 c.number && leb c.number (system_of system).lines) ≡ false
  clean : settings_fault system c.settings ≡ 0

checked_by : (system mode : ℕ) (line : List ℕ) (n : ℕ) → line_fault system mode line ≡ n → (checked_from n line).fault ≡ 0 → Sound system (checked_from n line)
unfolding line_fault faults head_faults numbered settings_fault
checked_by system mode line (suc n) is e = absurd (omega arith)
checked_by system mode line zero is e =
    let row = system_of system in
    let t = settings_of line in
    let n = number_of line in
    let behind = payload_faults row mode t.block t.flag line in
    let k = clear_split (head_faults row line) (settings_faults row t ++ behind) (lowest_clear (line_faults system mode line) (check_rising system mode line) is).1 in
    let upper = leb n row.lines in
    let high = eqb (low (get_or line 11 0) / 4) 0 in
    let m = both_true (leb 1 n) (upper && high) (not-false _ k.0.1.1.1.1.1.1.0) in
    record {
      range = ap not (and_true m.0 (both_true upper high m.1).0);
      clean = clear_lowest (settings_faults row t) (clear_split (settings_faults row t) behind k.1).0;
    }

checked_sound : (system mode : ℕ) (line : List ℕ) → (checked_of system mode line).fault ≡ 0 → Sound system (checked_of system mode line)
unfolding checked_of
checked_sound system mode line e = checked_by system mode line (line_fault system mode line) refl e

-- an open phase goes on with equal settings alone
goes_same : (st : Reader) (n : ℕ) (t : Settings) → goes_on st n t ≡ true → same_settings t st.settings ≡ true
unfolding goes_on
goes_same st n t e = (both_true (is_zero (jump_from (system_of st.system).lines st.last n)) _ e).1

-- the phase at the start of a line
kept_by : (c : ℕ) (st : Reader) (t : Settings) (g : Bool) → impossible_in c st ≡ false → (g ≡ true → same_settings t st.settings ≡ true)
    → (is_busy (pick g st.phase Idle) ≡ true → (is_busy st.phase ≡ true) × (same_settings t st.settings ≡ true)) × (misphased c (pick g st.phase Idle) ≡ false)
unfolding pick
kept_by c st t true e h = (λ b. (b, h refl), phase_of c st e)
kept_by c st t false e h = (λ b. absurd (true_false (sym b)), refl)

begin_possible : (c : ℕ) (st : Reader) (n : ℕ) (t : Settings) → impossible_in c st ≡ false → not (leb 1 n && leb n (system_of st.system).lines) ≡ false → settings_fault st.system t ≡ 0
    → impossible_in c (beginning st n t).state ≡ false
unfolding beginning
begin_possible c st n t e range clean =
    let k = kept_by c st t (goes_on st n t) e (goes_same st n t) in
    possible_by c _ (begins st.system st.last st.settings t st.place _ (is_busy st.phase) _ n (course_of c st e) range clean (start_placed st.system t clean) k.0) k.1

start_possible : (c : ℕ) (st : Reader) (mode : ℕ) (line : List ℕ) → impossible_in c st ≡ false → impossible_in c (starts st (checked_of st.system mode line)).state ≡ false
unfolding starts
start_possible c st mode line e =
    let found = checked_of st.system mode line in
    pick_elim (λ (x : Told). impossible_in c x.state ≡ false) (eqb found.fault 0)
    (λ h.
    let s = checked_sound st.system mode line (eqb-true _ _ h) in
    begin_possible c st found.number found.settings e s.range s.clean)
    (λ h. refused_possible c st found.fault)

-- ---- a line gone on with
-- what a walk from place q leaves: a place, and a phase that may stand there
pub record Goes (c : ℕ) (st : Reader) (q : ℕ) (x : Walk) : Type 0 where
  pub placed : misplaced (system_of st.system).payload st.settings.block st.settings.flag (Some (q + x.answer.taken)) ≡ false
  pub varied : (is_busy x.answer.phase && not (is_variable st.settings.block)) ≡ false
  pub phased : misphased c x.answer.phase ≡ false

module _ {c : ℕ} (st : Reader) (q : ℕ) (line room : List ℕ) (at : st.place ≡ Some q) (r : ReadyIn c st line room) where
  abbrev payload : ℕ
  payload = (system_of st.system).payload

  abbrev block : ℕ
  block = st.settings.block

  -- over words that end before blocks do
  pub variable_goes : is_variable st.settings.block ≡ true → (ws : List ℕ) → q + length ws ≤ blocks_end (system_of st.system).payload st.settings.block st.settings.flag
      → Goes c st q (walk_of st.mode st.phase ws room)
  variable_goes v ws h =
      let k = walk_kept st.mode st.phase ws room in
      let x = walk_of st.mode st.phase ws room in
      record {
        placed = variable_placed payload block st.settings.flag (q + x.answer.taken) v (omega (arith, k.at_most, h));
        varied = and_none (is_busy x.answer.phase) (not (is_variable block)) (ap not v);
        phased =
            subst (λ (n : ℕ). misphased n x.answer.phase ≡ false) r.long
            (k.phased (subst (λ (n : ℕ). misphased n st.phase ≡ false) (sym r.long) (phase_of c st r.state)));
      }

  -- over so many of the places that are left
  pub fixed_goes : is_variable st.settings.block ≡ false → (n : ℕ) → n ≤ places_of (system_of st.system).payload st.settings.block - q / size_of st.settings.block
      → Goes c st q (walk_places st.mode st.phase (places_in (size_of st.settings.block) n (words_from st q line)) room)
  fixed_goes v n few =
      let flag = st.settings.flag in
      let size = size_of block in
      let all = grid_left payload block flag q n v (at_q st q line room at r).placed few in
      let k = places_along st.mode st.phase size n (words_from st q line) room (omega (arith, words_long st q line room at r, all)) in
      let next = grid_next payload block flag q k.count v (at_q st q line room at r).placed (grid_left payload block flag q k.count v (at_q st q line room at r).placed (omega (arith, k.at_most, few))) in
      record {
        placed = subst (λ (j : ℕ). misplaced payload block flag (Some (q + j)) ≡ false) (sym k.whole) next;
        varied = ap (λ (p : Phase). is_busy p && not (is_variable block)) k.phase ∙ (at_q st q line room at r).varied;
        phased = ap (misphased c) k.phase ∙ phase_of c st r.state;
      }

  pub walk_goes : Goes c st q (walk_from st q line room)
  unfolding walk_from
  walk_goes = go (is_variable block) refl
    where
      go : (b : Bool) → is_variable block ≡ b
          → Goes c st q (pick (is_variable block) (walk_of st.mode st.phase (words_from st q line) room) (walk_places st.mode st.phase (places_in (size_of block) (places_of payload block - q / size_of block) (words_from st q line)) room))
      go true v = subst (Goes c st q) (sym (pick_true _ _ v)) (variable_goes v (words_from st q line) (omega (arith, words_long st q line room at r, in_end st q line room at r)))
      go false v = subst (Goes c st q) (sym (pick_false _ _ v)) (fixed_goes v (places_of payload block - q / size_of block) (omega arith))

  pub told_possible : (i : ℕ) (p : Phase) (met : Met) → misplaced (system_of st.system).payload st.settings.block st.settings.flag (Some i) ≡ false
      → (is_busy p && not (is_variable st.settings.block)) ≡ false → misphased c p ≡ false → impossible_in c (told_by st i p met).state ≡ false
  told_possible i p Nothing x y z =
      let b = at_q st q line room at r in
      possible_by c _ (record { number = b.number; numbered = b.numbered; range = b.range; clean = b.clean; placed = refl; varied = y }) z
  told_possible i p (Whole k n) x y z =
      let b = at_q st q line room at r in
      possible_by c _ (record { number = b.number; numbered = b.numbered; range = b.range; clean = b.clean; placed = x; varied = y }) z
  told_possible i p (Lost n) x y z =
      let b = at_q st q line room at r in
      possible_by c _ (record { number = b.number; numbered = b.numbered; range = b.range; clean = b.clean; placed = x; varied = y }) z

  on_possible : impossible_in c (goes_from st q (walk_from st q line room)).told.state ≡ false
  on_possible = let g = walk_goes in told_possible _ _ (walk_from st q line room).answer.met g.placed g.varied g.phased

-- ---- a reading call
from_place : {c : ℕ} (p : Option ℕ) (st : Reader) (line room : List ℕ) → st.place ≡ p → ReadyIn c st line room → impossible_in c (read_from p st line room).told.state ≡ false
from_place {c} None st line room at r = start_possible c st st.mode line r.state
from_place (Some q) st line room at r = on_possible st q line room at r

pub read_possible : (c : ℕ) (st : Reader) (line room : List ℕ) → impossible_in c st ≡ false → impossible_in c (reading_in c st line room).told.state ≡ false
unfolding reading_in
read_possible c st line room e =
    pick_elim (λ (x : Reply). impossible_in c x.told.state ≡ false) (eqb (read_fault_in c st (length line) (length room)) 0)
    (λ h. from_place st.place st line room refl (ready c st line room (eqb-true _ _ h))) (λ h. e)

-- ---- any calls, from a fresh reader on
pub fresh_possible : (c : ℕ) (system mode : ℕ) → impossible_in c (fresh system mode) ≡ false
unfolding impossible_in
fresh_possible c system mode = refl

pub data Reached (c system mode : ℕ) : Reader → Type 0 where
  is_fresh : Reached c system mode (fresh system mode)
  reads : {st : Reader} (line room : List ℕ) → Reached c system mode st → Reached c system mode (reading_in c st line room).told.state

pub reached_possible : (c : ℕ) (system mode : ℕ) (st : Reader) → Reached c system mode st → impossible_in c st ≡ false
reached_possible c system mode st is_fresh = fresh_possible c system mode
reached_possible c system mode _ (reads {st} line room r) = read_possible c st line room (reached_possible c system mode st r)

-- ---- answer 2 is of an impossible state alone
-- the number of a refusal, and 0 of what is none
abbrev refusal : Event → ℕ
refusal (Refused n d) = n
refusal (BegunWith n j d) = 0
refusal (Block k n) = 0
refusal (Drop n) = 0
refusal End = 0

fault_from : (n : ℕ) (line : List ℕ) → (checked_from n line).fault ≡ n
fault_from zero line = refl
fault_from (suc n) line = refl

start_2 : (st : Reader) (mode : ℕ) (line : List ℕ) → refusal (starts st (checked_of st.system mode line)).event ≡ 2 → ⊥
unfolding starts beginning checked_of
start_2 st mode line =
    pick_elim (λ (x : Told). refusal x.event ≡ 2 → ⊥) _ (λ h z. omega arith)
    (λ h z. fault_not_2 st.system mode line (sym (fault_from (line_fault st.system mode line) line) ∙ z))

told_2 : (st : Reader) (q : ℕ) (p : Phase) (met : Met) → refusal (told_by st q p met).event ≡ 2 → ⊥
told_2 st q p Nothing e = omega arith
told_2 st q p (Whole k n) e = omega arith
told_2 st q p (Lost n) e = omega arith

from_2 : (p : Option ℕ) (st : Reader) (line room : List ℕ) → refusal (read_from p st line room).told.event ≡ 2 → ⊥
from_2 None st line room = start_2 st st.mode line
from_2 (Some q) st line room = told_2 st _ _ (walk_from st q line room).answer.met

fault_2 : (c : ℕ) (st : Reader) (long room : ℕ) → impossible_in c st ≡ false → read_fault_in c st long room ≡ 2 → ⊥
unfolding read_fault_in
fault_2 c st long room e z = true_false (sym (given_holds 2 (read_faults_in c st long room) z (λ x. omega arith)) ∙ false_or e refl)

pub never_2 : (c : ℕ) (st : Reader) → impossible_in c st ≡ false → (line room : List ℕ) (d : Bool) → (reading_in c st line room).told.event ≡ Refused 2 d → ⊥
unfolding reading_in
never_2 c st p line room d e =
    pick_elim (λ (x : Reply). refusal x.told.event ≡ 2 → ⊥) (eqb (read_fault_in c st (length line) (length room)) 0)
    (λ h. from_2 st.place st line room) (λ h. fault_2 c st (length line) (length room) p)
    (ap refusal e)

pub fresh_never_2 : (c : ℕ) (system mode : ℕ) (st : Reader) → Reached c system mode st → (line room : List ℕ) (d : Bool) → (reading_in c st line room).told.event ≡ Refused 2 d → ⊥
fresh_never_2 c system mode st r = never_2 c st (reached_possible c system mode st r)
