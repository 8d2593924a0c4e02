-- What a call that is not refused with 1 or 2 has: a state that is possible, and words from its place on.
-- Assumes nothing.
use Rattle.std.specs.Prelude.{Option, Some}
use mathlib.Core.Path.{◌≡◌, refl, sym, ap, ◌∙◌}
use mathlib.Core.Bool.{true, false}
use mathlib.Core.List.{List}
use Prim.Native.Nat.{ℕ, ◌+◌, ◌-◌, ◌≤◌}
use native.Mathlib.Omega.{arith}
use lib.ListN.{length}
use borrow.Author.Tests.{eqb-true, not-false}
use Rattle.lists.specs.Tests.{rising}
use Rattle.lists.proofs.Tests.{or_false, false_or, or_right, both_true}
use Rattle.lists.proofs.Refusals.{lowest_clear}
use Rattle.lists.proofs.Lists.{length_part}
use Rattle.line.specs.Systems.{system_of, is_system}
use Rattle.line.specs.Layout.{payload_at}
use Rattle.line.specs.Check.{fits_length, fits}
use Rattle.course.specs.Course.{blocks_end, impossible_after}
use Rattle.line.proofs.SystemLaws.{fitting}
use Rattle.line.proofs.AreaLaws.{area_most}
use Rattle.course.proofs.CourseLaws.{end_in_area, placed_end, Begun, begun, begun_possible}
use Rattle.machine.specs.Phases.{is_busy, misphased}
use Rattle.reader.specs.declared.state.Reader.{Reader}
use Rattle.reader.specs.State.{impossible_in}
use Rattle.reader.specs.Reading.{words_from, read_faults_in, read_fault_in}

-- ---- the two parts of the rule
pub course_of : (c : ℕ) (st : Reader) → impossible_in c st ≡ false → impossible_after st.system st.last st.settings st.place (is_busy st.phase) ≡ false
unfolding impossible_in
course_of c st e = (or_false _ (misphased c st.phase) e).0

pub phase_of : (c : ℕ) (st : Reader) → impossible_in c st ≡ false → misphased c st.phase ≡ false
unfolding impossible_in
phase_of c st e = (or_false (impossible_after st.system st.last st.settings st.place (is_busy st.phase)) (misphased c st.phase) e).1

pub possible_by : (c : ℕ) (st : Reader) → Begun st.system st.last st.settings st.place (is_busy st.phase) → misphased c st.phase ≡ false → impossible_in c st ≡ false
unfolding impossible_in
possible_by c st b e = false_or (begun_possible st.system st.last st.settings st.place (is_busy st.phase) b) e

-- the numbers rise, whatever the conditions are: the answer is the lowest whose condition holds
pub read_rising : (c : ℕ) (st : Reader) (long room : ℕ) → rising (read_faults_in c st long room) ≡ true
read_rising c st long room = refl

-- what no fault 1 or 2 says, c being the capacity
pub record ReadyIn (c : ℕ) (st : Reader) (line room : List ℕ) : Type 0 where
  pub fit : fits st.system st.mode line ≡ true
  pub long : length room ≡ c
  pub state : impossible_in c st ≡ false

pub ready : (c : ℕ) (st : Reader) (line room : List ℕ) → read_fault_in c st (length line) (length room) ≡ 0 → ReadyIn c st line room
unfolding read_fault_in
ready c st line room e =
    let a = lowest_clear (read_faults_in c st (length line) (length room)) (read_rising c st (length line) (length room)) e in
    let b = both_true (fits st.system st.mode line) _ (not-false _ a.0) in
    record { fit = b.0; long = eqb-true _ _ b.1; state = a.1.0 }

module _ {c : ℕ} (st : Reader) (q : ℕ) (line room : List ℕ) (at : st.place ≡ Some q) (r : ReadyIn c st line room) where
  abbrev payload : ℕ
  payload = (system_of st.system).payload

  abbrev block : ℕ
  block = st.settings.block

  abbrev end : ℕ
  end = blocks_end (system_of st.system).payload st.settings.block st.settings.flag

  pub at_q : Begun st.system st.last st.settings (Some q) (is_busy st.phase)
  at_q =
      begun st.system st.last st.settings (Some q) (is_busy st.phase)
      (sym (ap (λ (p : Option ℕ). impossible_after st.system st.last st.settings p (is_busy st.phase)) at) ∙ course_of c st r.state)
      (or_right (is_busy st.phase) true refl)

  pub in_end : q ≤ blocks_end (system_of st.system).payload st.settings.block st.settings.flag
  in_end = placed_end payload block st.settings.flag q at_q.placed

  -- the words from q on, to the end of the blocks
  pub words_long : length (words_from st q line) ≡ blocks_end (system_of st.system).payload st.settings.block st.settings.flag - q
  unfolding words_from fits_length
  words_long =
      let known : is_system st.system ≡ true = (both_true (is_system st.system) _ r.fit).0 in
      let f = fitting st.system st.mode line r.fit in
      let a = end_in_area st.system st.settings known (eqb-true _ 0 (not-false _ at_q.clean)) in
      let b = area_most payload st.settings.flag in
      length_part (payload_at (system_of st.system) + q) (end - q) line (let c = in_end in omega (arith, f.row.room, f.long, a, b, c))
