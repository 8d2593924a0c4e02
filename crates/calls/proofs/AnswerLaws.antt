-- The answers of the library's calls, by their 1 and 2: where one of these holds it is the answer, and where none does the answer is neither. So a call from C can ask 1 and 2 first,
-- and needs no look at what the call said. Assumes nothing.
use Rattle.std.specs.Prelude.{Option, Some, None}
use Prim.Native.Nat.{ℕ, zero, suc, ◌+◌, ◌/◌, ◌≤◌, ◌<◌}
use mathlib.Core.Bool.{Bool, true, false, not, ◌||◌}
use mathlib.Core.Logic.{◌⊎◌, inl, inr, ⊎_elim}
use mathlib.Core.List.{List, [], ◌∷◌}
use mathlib.Core.Path.{◌≡◌, refl, sym, ap, ap₂, ◌∙◌, subst}
use native.Mathlib.Omega.{arith}
use lib.Dec.{eqb}
use lib.ListN.{length, drop}
use lib.Seq.{length-paste}
use borrow.Author.Tests.{ne_eqb, eqb-true, eq-eqb}
use Rattle.lists.specs.Tests.{pick, Refusal, when, lowest_of, rising_from}
use Rattle.lists.proofs.Tests.{pick_true, pick_false, pick_elim}
use Rattle.lists.proofs.Refusals.{Clear, clear_lowest, lowest_clear, lowest_or}
use Rattle.line.specs.declared.settings.Settings.{Settings}
use Rattle.line.specs.Systems.{system_of}
use Rattle.line.specs.Layout.{payload_at}
use Rattle.line.specs.Settings.{settings_faults}
use Rattle.line.specs.Check.{line_fault, fits_length}
use Rattle.line.proofs.CheckLaws.{from_three}
use Rattle.course.specs.Course.{place_of}
use Rattle.machine.specs.declared.phase.Phase.{Phase}
use Rattle.machine.specs.declared.step.Met.{Met}
use Rattle.machine.specs.declared.step.Met.TheVariants.{Nothing, Whole, Lost}
use Rattle.reader.specs.declared.state.Reader.{Reader}
use Rattle.reader.specs.State.{capacity}
use Rattle.reader.specs.Reading.{Reply, begun, reading, read_fault_in, read_fault, walk_from, told_by}
use Rattle.reader.proofs.AtCapacity.{ready, by_place, accepts, refuses}
use Rattle.reader.proofs.ReadLaws.{read_refused}
use Rattle.reader.specs.declared.within.Within.{Within}
use Rattle.reader.specs.Within.{Sliced, unit_of, walk_within, is_pause, goes_within, within_from, within_in, within}
use Rattle.writer.specs.declared.state.Writer.{Writer}
use Rattle.writer.specs.declared.state.Laid.{Laid}
use Rattle.writer.specs.declared.state.Laid.TheVariants.{Refused as NotLaid, Finished, Unfinished}
use Rattle.writer.specs.Answers.{Left, Added}
use Rattle.writer.specs.State.{impossible}
use Rattle.writer.specs.Opening.{open_faults, open_fault, opening}
use Rattle.writer.specs.Adding.{add_faults, add_fault, todo, fitting, adding}
use Rattle.writer.specs.Packing.{pack_faults, pack_fault, packing}
use Rattle.writer.specs.Closing.{close_faults, close_fault, closing}
use Rattle.writer.specs.Batch.{Entry, whole, broken, entries_of, Batched, behind, lay_all, batch_faults, batch_fault, batching}
use Rattle.writer.proofs.Refusals.{can_add}
use Rattle.writer.proofs.Keeps.{add_leaves, add_stays}
use Rattle.writer.proofs.Stays.{add_possible}
use Rattle.writer.proofs.BatchLaws.{batch_refused, batch_laid}
use Rattle.calls.specs.Answers.{event_answer, report_answer, done_answer, laid_answer, stop_answer, refusal}
use Rattle.calls.specs.Early.{early_by}

-- the answer n of a call whose 1 and 2 are f
pub record AnswersBy (f n : ℕ) : Type 0 where
  pub few : f ≤ 2
  pub refused : (f ≡ 0 → ⊥) → n ≡ f
  pub goes : f ≡ 0 → (n ≡ 0) ⊎ (3 ≤ n)

-- ---- what a call from C answers
off : (n k : ℕ) → (n ≡ 0) ⊎ (3 ≤ n) → k < 3 → 0 < k → eqb n k ≡ false
off n k h l p = ne_eqb n k (λ e. ⊎_elim (λ z. omega (arith, z, e, p)) (λ z. omega (arith, z, e, l)) h)

picked : (a b image : Bool) → a ≡ false → b ≡ false → pick {A = ℕ} a 1 (pick (not image || b) 2 0) ≡ pick image 0 2
unfolding pick
picked a b true ea eb = ap₂ (λ (x y : Bool). pick x 1 (pick y 2 0)) ea eb
picked a b false ea eb = ap (λ (x : Bool). pick {A = ℕ} x 1 2) ea

of_two : (image : Bool) → pick {A = ℕ} (not image || true) 2 0 ≡ pick image 2 2
unfolding pick
of_two true = refl
of_two false = refl

pub early : (f n : ℕ) (image : Bool) → AnswersBy f n → refusal true image n ≡ early_by image f
unfolding refusal pick early_by
early zero n image a = picked (eqb n 1) (eqb n 2) image (off n 1 (a.goes refl) (omega arith) (omega arith)) (off n 2 (a.goes refl) (omega arith) (omega arith))
early (suc zero) n image a = ap (λ (k : ℕ). refusal true image k) (a.refused (λ z. omega (arith, z)))
early (suc (suc zero)) n image a = ap (λ (k : ℕ). refusal true image k) (a.refused (λ z. omega (arith, z))) ∙ of_two image
early (suc (suc (suc f))) n image a = absurd (omega (arith, a.few))

-- a buffer of the wrong length is 1, whatever else is lent
shapeless : (image : Bool) (n : ℕ) → refusal false image n ≡ 1
unfolding refusal pick
shapeless image n = refl

-- a call from C: refused with the number e before anything is written, or what the call does
module _ {A : Type 0} (refused : ℕ → A) (done : A) (shaped image : Bool) (n : ℕ) where
  pub misshaped : shaped ≡ false → refused 1 ≡ pick (eqb (refusal shaped image n) 0) done (refused (refusal shaped image n))
  misshaped s =
      let is = ap (λ (b : Bool). refusal b image n) s ∙ shapeless image n in
      sym (ap (λ (k : ℕ). pick (eqb k 0) done (refused k)) is ∙ pick_false _ _ refl)

  module _ (s : shaped ≡ true) (f : ℕ) (a : AnswersBy f n) (k : ℕ) (is : k ≡ early_by image f) where
    same : refusal shaped image n ≡ k
    same = ap (λ (b : Bool). refusal b image n) s ∙ early f n image a ∙ sym is

    pub turned_away : (k ≡ 0 → ⊥) → refused k ≡ pick (eqb (refusal shaped image n) 0) done (refused (refusal shaped image n))
    turned_away h = sym (ap (λ (j : ℕ). pick (eqb j 0) done (refused j)) same ∙ pick_false _ _ (ne_eqb k 0 h))

    pub let_through : k ≡ 0 → done ≡ pick (eqb (refusal shaped image n) 0) done (refused (refusal shaped image n))
    let_through h = sym (pick_true _ _ (eq-eqb (refusal shaped image n) 0 (same ∙ h)))

-- ---- reading
-- 1, 2 or neither
pub at_most_2 : (a b : Bool) → lowest_of (when 1 a ∷ when 2 b ∷ []) ≤ 2
unfolding pick
at_most_2 true b = omega arith
at_most_2 false true = omega arith
at_most_2 false false = omega arith

told_none : (st : Reader) (q : ℕ) (p : Phase) (met : Met) → event_answer (told_by st q p met).event ≡ 0
told_none st q p Nothing = refl
told_none st q p (Whole k n) = refl
told_none st q p (Lost n) = refl

module _ (st : Reader) (line room : List ℕ) (e : read_fault st (length line) (length room) ≡ 0) where
  by_line : (n : ℕ) → line_fault st.system st.mode line ≡ n → st.place ≡ None → (event_answer (reading st line room).told.event ≡ 0) ⊎ (3 ≤ event_answer (reading st line room).told.event)
  unfolding begun
  by_line zero f s = inl (ap (λ (x : Reply). event_answer x.told.event) (accepts st line room e s f))
  by_line (suc n) f s =
      let is = ap (λ (x : Reply). event_answer x.told.event) (refuses st line room e s (suc n) f (λ z. omega (arith, z))) in
      inr (omega (arith, is, f, from_three st.system st.mode line (ready st line room e).fit (λ z. omega (arith, z, f))))

  by_where : (p : Option ℕ) → st.place ≡ p → (event_answer (reading st line room).told.event ≡ 0) ⊎ (3 ≤ event_answer (reading st line room).told.event)
  by_where None s = by_line _ refl s
  by_where (Some q) s = inl (ap (λ (x : Reply). event_answer x.told.event) (by_place st line room (Some q) e s) ∙ (let x = walk_from st q line room in told_none st (q + x.answer.taken) x.answer.phase x.answer.met))

pub read_answers_lem : (st : Reader) (line room : List ℕ) → AnswersBy (read_fault st (length line) (length room)) (event_answer (reading st line room).told.event)
unfolding read_fault_in
read_answers_lem st line room = record {
  few = at_most_2 _ _;
  refused = λ h. ap (λ (x : Reply). event_answer x.told.event) (sym (read_refused capacity st line room _ refl h));
  goes = λ e. by_where st line room e st.place refl;
}

-- under an allowance
module _ (a : ℕ) (st : Reader) (line room : List ℕ) where
  within_where : read_fault st (length line) (length room) ≡ 0 → (p : Option ℕ) → st.place ≡ p
      → (report_answer (within_from p a st line room).answer.report ≡ 0) ⊎ (3 ≤ report_answer (within_from p a st line room).answer.report)
  unfolding goes_within
  within_where e None s =
      subst (λ (n : ℕ). (n ≡ 0) ⊎ (3 ≤ n)) (ap (λ (x : Reply). event_answer x.told.event) (by_place st line room None e s)) (by_where st line room e None s)
  within_where e (Some q) s =
      let x = walk_within a st q line room in
      let next = q + x.answer.taken in
      pick_elim (λ (y : Within). (report_answer y.report ≡ 0) ⊎ (3 ≤ report_answer y.report)) (is_pause a (x.answer.taken / unit_of st.settings.block) x)
      (λ h. inl refl) (λ h. inl (told_none st next x.answer.phase x.answer.met))

  pub within_answers : AnswersBy (read_fault st (length line) (length room)) (report_answer (within a st line room).answer.report)
  unfolding within_in
  within_answers =
      let f = read_fault st (length line) (length room) in
      record {
        few = (read_answers_lem st line room).few;
        refused = λ h. ap (λ (x : Sliced). report_answer x.answer.report) (pick_false _ _ (ne_eqb f 0 h));
        goes = λ e.
            subst (λ (x : Sliced). (report_answer x.answer.report ≡ 0) ⊎ (3 ≤ report_answer x.answer.report)) (sym (pick_true _ _ (eq-eqb f 0 e)))
            (pick_elim (λ (x : Sliced). (report_answer x.answer.report ≡ 0) ⊎ (3 ≤ report_answer x.answer.report)) (eqb a 0) (λ h. inl refl) (λ h. within_where e st.place refl));
      }

-- ---- the writer's calls: their lists of refusals start with the same 1 and 2
front : (a b : Bool) (rs : List Refusal) → rising_from 2 rs ≡ true → AnswersBy (lowest_of (when 1 a ∷ when 2 b ∷ [])) (lowest_of (when 1 a ∷ when 2 b ∷ rs))
unfolding pick
front true b rs up = record { few = omega arith; refused = λ h. refl; goes = λ e. absurd (omega (arith, e)) }
front false true rs up = record { few = omega arith; refused = λ h. refl; goes = λ e. absurd (omega (arith, e)) }
front false false rs up = record { few = omega arith; refused = λ h. absurd (h refl); goes = λ e. lowest_or 2 rs up }

-- a call that is served answers 0, or 256
served : (f n : ℕ) → AnswersBy f 0 → (n ≡ 0) ⊎ (3 ≤ n) → AnswersBy f n
served f n a g = record { few = a.few; refused = λ h. absurd (h (sym (a.refused h))); goes = λ e. g }

laid_some : (b : Bool) → (laid_answer (pick b Finished Unfinished) ≡ 0) ⊎ (3 ≤ laid_answer (pick b Finished Unfinished))
unfolding pick
laid_some true = inl refl
laid_some false = inr (omega arith)

module _ (w : Writer) (line : List ℕ) where
  by_front : (rs : List Refusal) → rising_from 2 rs ≡ true → AnswersBy (batch_fault w (length line)) (lowest_of (when 1 (not (fits_length w.system w.mode (length line))) ∷ when 2 (impossible w) ∷ rs))
  unfolding batch_fault
  by_front rs up = front (not (fits_length w.system w.mode (length line))) (impossible w) rs up

  done_by_lem : (k : ℕ) (x y : Left) → AnswersBy (batch_fault w (length line)) k → done_answer x.answer ≡ 0 → done_answer y.answer ≡ k
      → AnswersBy (batch_fault w (length line)) (done_answer (pick (eqb k 0) x y).answer)
  done_by_lem k x y a ex ey =
      pick_elim (λ (z : Left). AnswersBy (batch_fault w (length line)) (done_answer z.answer)) (eqb k 0)
      (λ h. subst (AnswersBy (batch_fault w (length line))) (eqb-true k 0 h ∙ sym ex) a) (λ h. subst (AnswersBy (batch_fault w (length line))) (sym ey) a)

  pub open_answers : (f v : Bool) (n : ℕ) (t : Settings) → AnswersBy (batch_fault w (length line)) (done_answer (opening w f v n t line).answer)
  unfolding opening open_fault settings_faults
  open_answers f v n t = done_by_lem (open_fault w n t (length line)) _ _ (by_front (drop 2 (open_faults w n t (length line))) refl) refl refl

  pub pack_answers : (did second : ℕ) (vs : List ℕ) → AnswersBy (batch_fault w (length line)) (done_answer (packing w line did second vs).answer)
  unfolding packing pack_fault
  pack_answers did second vs = done_by_lem (pack_fault w (length line) vs) _ _ (by_front (drop 2 (pack_faults w (length line) vs)) refl) refl refl

  pub close_answers : AnswersBy (batch_fault w (length line)) (done_answer (closing w line).answer)
  unfolding closing close_fault
  close_answers = done_by_lem (close_fault w (length line)) _ _ (by_front (drop 2 (close_faults w (length line))) refl) refl refl

  pub add_answers : (kind : ℕ) (vs : List ℕ) → AnswersBy (batch_fault w (length line)) (laid_answer (adding w line kind vs).answer)
  unfolding adding add_fault
  add_answers kind vs =
      let a = by_front (drop 2 (add_faults w (length line) kind vs)) refl in
      pick_elim (λ (x : Added). AnswersBy (batch_fault w (length line)) (laid_answer x.answer)) (eqb (add_fault w (length line) kind vs) 0)
      (λ h. served _ _ (subst (AnswersBy (batch_fault w (length line))) (eqb-true _ 0 h) a) (laid_some _)) (λ h. a)

-- ---- many blocks: each addition leaves a writer and a line of which neither 1 nor 2 holds
module _ (w : Writer) (line : List ℕ) (kind : ℕ) (vs : List ℕ) (e : batch_fault w (length line) ≡ 0) where
  clear : Clear (batch_faults w (length line))
  unfolding batch_fault
  clear = lowest_clear (batch_faults w (length line)) refl e

  long_still : add_fault w (length line) kind vs ≡ 0 → length (adding w line kind vs).line ≡ length line
  long_still f =
      let a = can_add w line kind vs f in
      ap (λ (y : Added). length y.line) (add_leaves w line kind vs f)
      ∙ length-paste line (payload_at (system_of w.system) + place_of w.place) (todo w kind vs) (fitting w (todo w kind vs))
      (omega (arith, a.room, a.end, a.fit.long, a.fit.row.room)) (omega arith)

  fit_still : add_fault w (length line) kind vs ≡ 0
      → not (fits_length (adding w line kind vs).state.system (adding w line kind vs).state.mode (length (adding w line kind vs).line)) ≡ false
  fit_still f =
      ap (λ (y : Added). not (fits_length y.state.system y.state.mode (length (adding w line kind vs).line))) (add_leaves w line kind vs f)
      ∙ ap (λ (n : ℕ). not (fits_length w.system w.mode n)) (long_still f)
      ∙ clear.0

  still_by : (n : ℕ) → add_fault w (length line) kind vs ≡ n → batch_fault (adding w line kind vs).state (length (adding w line kind vs).line) ≡ 0
  unfolding batch_fault
  still_by zero f = clear_lowest (batch_faults (adding w line kind vs).state (length (adding w line kind vs).line)) (fit_still f, (add_possible w line kind vs clear.1.0, clear.1.1))
  still_by (suc n) f = ap (λ (x : Added). batch_fault x.state (length x.line)) (add_stays w line kind vs (λ z. omega (arith, z, f))) ∙ e

behind_some : (a : Laid) (x : Added) (done : ℕ) (later : Batched) → (laid_answer a ≡ 0) ⊎ (3 ≤ laid_answer a) → (stop_answer later.stop ≡ 0) ⊎ (3 ≤ stop_answer later.stop)
    → (stop_answer (behind a x done later).stop ≡ 0) ⊎ (3 ≤ stop_answer (behind a x done later).stop)
behind_some (NotLaid k) x done later h g = h
behind_some Unfinished x done later h g = h
behind_some Finished x done later h g = g

all_some : (es : List Entry) (w : Writer) (line : List ℕ) (done : ℕ) → batch_fault w (length line) ≡ 0
    → (stop_answer (lay_all w line done es).stop ≡ 0) ⊎ (3 ≤ stop_answer (lay_all w line done es).stop)
unfolding lay_all
all_some [] w line done e = inl refl
all_some (broken ∷ es) w line done e = inr (omega arith)
all_some (whole kind vs ∷ es) w line done e =
    let x = adding w line kind vs in
    behind_some x.answer x done (lay_all x.state x.line (suc done) es) ((add_answers w line kind vs).goes e)
    (all_some es x.state x.line (suc done) (still_by w line kind vs e _ refl))

pub many_answers : (w : Writer) (line blocks : List ℕ) → AnswersBy (batch_fault w (length line)) (stop_answer (batching w line blocks).stop)
many_answers w line blocks = record {
  few = (add_answers w line 0 []).few;
  refused = λ h. ap (λ (x : Batched). stop_answer x.stop) (sym (batch_refused w line blocks _ refl h));
  goes = λ e. subst (λ (x : Batched). (stop_answer x.stop ≡ 0) ⊎ (3 ≤ stop_answer x.stop)) (sym (batch_laid w line blocks e)) (all_some (entries_of blocks) w line 0 e);
}
