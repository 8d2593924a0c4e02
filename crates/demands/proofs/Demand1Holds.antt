-- DEMAND 1, proved: the statement is specs/Demand1.antt. Of each entry: the number that it answers is `lowest_of` of its refusals; the law of
-- refusals (`answers`) then says which number that is.
-- Assumes nothing.
use Rattle.std.specs.Prelude.{Option, Some, None}
use Prim.Native.Nat.{ℕ, zero, suc, ◌≤◌, ◌<◌}
use mathlib.Core.Bool.{Bool, true, false, ◌&&◌}
use mathlib.Core.Logic.{◌⊎◌, inl, inr, ⊎_elim}
use mathlib.Core.List.{List, [], ◌∷◌, ◌++◌, map}
use mathlib.Core.Path.{◌≡◌, refl, sym, ap, ap₂, ◌∙◌, subst}
use native.Mathlib.Omega.{arith}
use lib.IntN.{ℤ, pos, nat_abs}
use lib.ListN.{length, get_or}
use borrow.Author.Tests.{le-leb, lt-leb}
use Rattle.lists.specs.Tests.{pick, or_next, Refusal, lowest_of, rising}
use Rattle.lists.proofs.Tests.{true_false, lt_or_le}
use Rattle.lists.proofs.Refusals.{Answers, answers, lowest_append}
use Rattle.line.specs.declared.settings.Settings.{Settings}
use Rattle.line.specs.Systems.{system_of}
use Rattle.line.specs.Settings.{settings_faults}
use Rattle.line.specs.Check.{head_faults, area_faults, payload_faults, faults, line_faults, line_fault, faulty_with, checked_from, checked_of}
use Rattle.line.proofs.CheckLaws.{check_rising, fault_of_fit, from_three}
use Rattle.writer.specs.declared.state.Writer.{Writer}
use Rattle.writer.specs.Answers.{answer_numbers, laid_numbers, Left, Added}
use Rattle.writer.specs.Opening.{open_faults, open_fault, opening}
use Rattle.writer.specs.Adding.{add_faults, add_fault, adding}
use Rattle.writer.specs.Packing.{pack_faults, pack_fault, packing}
use Rattle.writer.proofs.Packs.{pack_rising, packs_numbered, pack_refused}
use Rattle.writer.specs.Closing.{close_faults, close_fault, closing}
use Rattle.writer.specs.Numbers.{answers_by, all_fits, laid_by}
use Rattle.writer.specs.declared.state.Laid.{Laid}
use Rattle.writer.specs.declared.state.Laid.TheVariants.{Refused as NotLaid, Finished, Unfinished}
use Rattle.writer.specs.Batch.{Entry, whole, broken, entries_of, stop_numbers, Batched, behind, lay_all, batch_faults, batch_fault, batching, stops_at, batch_by}
use Rattle.writer.proofs.AnswerLaws.{laid_injective}
use Rattle.writer.proofs.BatchLaws.{entries_none, batch_refused, batch_laid, batch_numbers}
use Rattle.writer.proofs.StateLaws.{open_rising, add_rising, close_rising, not_opened}
use Rattle.writer.proofs.Calls.{close_refused, add_refused}
use Rattle.writer.proofs.NumberLaws.{open_numbers, add_numbers, close_numbers}
use Rattle.machine.specs.Phases.{is_busy}
use Rattle.machine.specs.declared.step.Met.{Met}
use Rattle.machine.specs.declared.step.Met.TheVariants.{Nothing, Whole, Lost}
use Rattle.machine.specs.declared.phase.Phase.{Phase}
use Rattle.reader.specs.declared.state.Reader.{Reader}
use Rattle.reader.specs.declared.state.Event.TheVariants.{Refused}
use Rattle.reader.specs.State.{capacity}
use Rattle.reader.specs.Events.{yes_no, event_numbers}
use Rattle.reader.specs.Reading.{Reply, reply, refused, begun, told_by, walk_from, read_faults_in, read_fault_in, read_fault, reading}
use Rattle.reader.proofs.Ready.{read_rising}
use Rattle.reader.proofs.ReadLaws.{read_refused}
use Rattle.reader.proofs.AtCapacity.{ready, by_place, accepts, refuses}
use Rattle.demands.specs.Demand1.{IsLowest, NoneHolds, Numbered, where_shut, read_answers, read_refusals, ReadRefused, ServedWith, ReadServed, Forgets, Demand1}

-- ---- the law of refusals, in the words of the demand
off : {A : Type 0} {b : Bool} → b ≡ true → b ≡ false → A
off t f = absurd (true_false (sym t ∙ f))

not_below : (rs : List Refusal) (n k : ℕ) → Answers rs n → IsLowest rs k → n < k → ⊥
not_below rs zero k a l h = off l.holds (a.none refl k)
not_below rs (suc n) k a l h = off (a.holds (λ z. omega arith)) (l.lowest (suc n) h)

lowest_is : (rs : List Refusal) (n k : ℕ) → Answers rs n → IsLowest rs k → n ≡ k
lowest_is rs n k a l =
    ⊎_elim (λ h. absurd (not_below rs n k a l h)) (λ h. ⊎_elim (λ g. off l.holds (a.lowest k g)) (λ g. omega arith) (lt_or_le k n)) (lt_or_le n k)

lowest_some : (rs : List Refusal) (n k : ℕ) → Answers rs n → IsLowest rs k → 1 ≤ k
lowest_some rs n zero a l = off l.holds (a.none (lowest_is rs n 0 a l) 0)
lowest_some rs n (suc k) a l = omega arith

is_lowest : (rs : List Refusal) (n : ℕ) → Answers rs n → 1 ≤ n → IsLowest rs n
is_lowest rs n a h = record { holds = a.holds (λ z. omega (arith, h, z)); lowest = a.lowest }

none_is : (rs : List Refusal) (n : ℕ) → Answers rs n → NoneHolds rs → n ≡ 0
none_is rs zero a h = refl
none_is rs (suc n) a h = off (a.holds (λ z. omega arith)) (h (suc n))

-- an entry whose answer is by the number n, 0 where it serves
numbered : (rs : List Refusal) (ns : List ℕ) (given : ℕ → Type 0) (served : Type 0) → map (λ (r : Refusal). r.number) rs ≡ ns → rising rs ≡ true → (n : ℕ)
    → lowest_of rs ≡ n → ((k : ℕ) → n ≡ k → 1 ≤ k → given k) → ((k : ℕ) → given k → (n ≡ k) × (1 ≤ k)) → (n ≡ 0 → served) → (served → n ≡ 0)
    → Numbered rs ns given served
numbered rs ns given served all up n is to from on back =
    let a = subst (Answers rs) is (answers rs up) in
    record {
      numbers = all;
      rises = up;
      gives = λ k l. to k (lowest_is rs n k a l) (lowest_some rs n k a l);
      only = λ k g. let x = from k g in subst (IsLowest rs) x.0 (is_lowest rs n a (omega (arith, x.0, x.1)));
      serves = λ h. on (none_is rs n a h);
      unless = λ s m. a.none (back s) m;
    }

-- ---- the line check
found_by : (n : ℕ) (line : List ℕ) → (checked_from n line).fault ≡ n
found_by zero line = refl
found_by (suc n) line = refl

nothing_read : (n k : ℕ) (line : List ℕ) → (checked_from n line).fault ≡ k → 1 ≤ k → checked_from n line ≡ faulty_with k
nothing_read zero k line e h = absurd (omega (arith, e, h))
nothing_read (suc n) k line e h = ap faulty_with e

checks : (system mode : ℕ) (line : List ℕ)
    → Numbered (line_faults system mode line) (1 ∷ 3 ∷ 4 ∷ 5 ∷ 6 ∷ 7 ∷ 8 ∷ 9 ∷ 10 ∷ 11 ∷ 12 ∷ 13 ∷ 15 ∷ 16 ∷ []) (λ (k : ℕ). ((checked_of system mode line).fault ≡ k) × (1 ≤ k)) ((checked_of system mode line).fault ≡ 0)
unfolding faults head_faults settings_faults payload_faults area_faults line_fault checked_of
checks system mode line =
    let n = line_fault system mode line in
    let is = found_by n line in
    numbered _ _ _ _ refl (check_rising system mode line) n refl (λ k e h. (is ∙ e, h)) (λ k g. (sym is ∙ g.0, g.1)) (λ e. is ∙ e) (λ s. sym is ∙ s)

check_left : (system mode : ℕ) (line : List ℕ) (k : ℕ) → (checked_of system mode line).fault ≡ k → 1 ≤ k → checked_of system mode line ≡ faulty_with k
unfolding checked_of
check_left system mode line k e h = nothing_read (line_fault system mode line) k line e h

-- ---- opening and closing
first : {k l : List ℕ} → k ≡ l → get_or k 0 0 ≡ get_or l 0 0
first e = ap (λ (x : List ℕ). get_or x 0 0) e

long : {k l : List ℕ} → k ≡ l → length k ≡ length l
long e = ap length e

given_by : (n k : ℕ) → n ≡ k → 1 ≤ k → answers_by n ≡ k ∷ []
given_by zero k e h = absurd (omega (arith, e, h))
given_by (suc n) k e h = ap (λ (m : ℕ). m ∷ []) e

by_given : (n k : ℕ) → answers_by n ≡ k ∷ [] → (n ≡ k) × (1 ≤ k)
by_given zero k e = absurd (omega (arith, long e))
by_given (suc n) k e = (first e, omega (arith, first e))

by_none : (n : ℕ) → answers_by n ≡ [] → n ≡ 0
by_none zero e = refl
by_none (suc n) e = absurd (omega (arith, long e))

answered : (rs : List Refusal) (ns x : List ℕ) → map (λ (r : Refusal). r.number) rs ≡ ns → rising rs ≡ true → x ≡ answers_by (lowest_of rs) → Numbered rs ns (λ (k : ℕ). x ≡ k ∷ []) (x ≡ [])
answered rs ns x all up e =
    numbered rs ns _ _ all up (lowest_of rs) refl (λ k d h. e ∙ given_by (lowest_of rs) k d h) (λ k g. by_given (lowest_of rs) k (sym e ∙ g)) (λ z. e ∙ ap answers_by z)
    (λ s. by_none (lowest_of rs) (sym e ∙ s))

opens : (w : Writer) (f v : Bool) (n : ℕ) (t : Settings) (line : List ℕ)
    → Numbered (open_faults w n t (length line)) (1 ∷ 2 ∷ 9 ∷ 10 ∷ 11 ∷ 12 ∷ 13 ∷ 20 ∷ []) (λ (k : ℕ). answer_numbers (opening w f v n t line).answer ≡ k ∷ [])
    (answer_numbers (opening w f v n t line).answer ≡ [])
unfolding open_fault settings_faults
opens w f v n t line = answered (open_faults w n t (length line)) _ _ refl (open_rising w n t (length line)) (open_numbers w f v n t line)

closes : (w : Writer) (line : List ℕ)
    → Numbered (close_faults w (length line)) (1 ∷ 2 ∷ 20 ∷ []) (λ (k : ℕ). answer_numbers (closing w line).answer ≡ k ∷ []) (answer_numbers (closing w line).answer ≡ [])
unfolding close_fault
closes w line = answered (close_faults w (length line)) _ _ refl (close_rising w (length line)) (close_numbers w line)

open_left : (w : Writer) (f v : Bool) (n : ℕ) (t : Settings) (line : List ℕ) (k : ℕ) → answer_numbers (opening w f v n t line).answer ≡ k ∷ []
    → ((opening w f v n t line).state ≡ w) × ((opening w f v n t line).line ≡ line)
open_left w f v n t line k e =
    let x = by_given (open_fault w n t (length line)) k (sym (open_numbers w f v n t line) ∙ e) in
    let is = not_opened w f v n t line (open_fault w n t (length line)) refl (λ z. omega (arith, x.0, x.1, z)) in
    (ap (λ (l : Left). l.state) (sym is), ap (λ (l : Left). l.line) (sym is))

packs : (w : Writer) (line : List ℕ) (did second : ℕ) (vs : List ℕ)
    → Numbered (pack_faults w (length line) vs) (1 ∷ 2 ∷ 17 ∷ 18 ∷ 20 ∷ 24 ∷ []) (λ (k : ℕ). answer_numbers (packing w line did second vs).answer ≡ k ∷ [])
    (answer_numbers (packing w line did second vs).answer ≡ [])
unfolding pack_fault
packs w line did second vs = answered (pack_faults w (length line) vs) _ _ refl (pack_rising w (length line) vs) (packs_numbered w line did second vs (packing w line did second vs) refl).1

pack_left : (w : Writer) (line : List ℕ) (did second : ℕ) (vs : List ℕ) (k : ℕ) → answer_numbers (packing w line did second vs).answer ≡ k ∷ []
    → ((packing w line did second vs).state ≡ w) × ((packing w line did second vs).line ≡ line)
pack_left w line did second vs k e =
    let x = by_given (pack_fault w (length line) vs) k (sym (packs_numbered w line did second vs (packing w line did second vs) refl).1 ∙ e) in
    let is = pack_refused w line did second vs (pack_fault w (length line) vs) refl (λ z. omega (arith, x.0, x.1, z)) in
    (sym (ap (λ (y : Left). y.state) is), sym (ap (λ (y : Left). y.line) is))

close_left : (w : Writer) (line : List ℕ) (k : ℕ) → answer_numbers (closing w line).answer ≡ k ∷ [] → ((closing w line).state ≡ w) × ((closing w line).line ≡ line)
close_left w line k e =
    let x = by_given (close_fault w (length line)) k (sym (close_numbers w line) ∙ e) in
    let is = close_refused w line (close_fault w (length line)) refl (λ z. omega (arith, x.0, x.1, z)) in
    (ap (λ (l : Left). l.state) (sym is), ap (λ (l : Left). l.line) (sym is))

-- ---- adding
given_laid : (n k : ℕ) (t : Bool) → n ≡ k → 1 ≤ k → laid_by n t ≡ k ∷ []
given_laid zero k t e h = absurd (omega (arith, e, h))
given_laid (suc n) k t e h = ap (λ (m : ℕ). m ∷ []) e

laid_given : (n k : ℕ) (t : Bool) → laid_by n t ≡ k ∷ [] → (n ≡ k) × (1 ≤ k)
laid_given zero k t e = absurd (omega (arith, long e))
laid_given (suc n) k t e = (first e, omega (arith, first e))

served_laid : (n : ℕ) (t : Bool) → n ≡ 0 → (laid_by n t ≡ 0 ∷ 1 ∷ []) ⊎ (laid_by n t ≡ 0 ∷ 0 ∷ [])
unfolding pick
served_laid zero true e = inl refl
served_laid zero false e = inr refl
served_laid (suc n) t e = absurd (omega (arith, e))

laid_served : (n : ℕ) (t : Bool) (m : ℕ) → laid_by n t ≡ 0 ∷ m ∷ [] → n ≡ 0
laid_served zero t m e = refl
laid_served (suc n) t m e = absurd (omega (arith, long e))

adds : (w : Writer) (line : List ℕ) (kind : ℕ) (vs : List ℕ)
    → Numbered (add_faults w (length line) kind vs) (1 ∷ 2 ∷ 17 ∷ 18 ∷ 19 ∷ 20 ∷ []) (λ (k : ℕ). laid_numbers (adding w line kind vs).answer ≡ k ∷ [])
    ((laid_numbers (adding w line kind vs).answer ≡ 0 ∷ 1 ∷ []) ⊎ (laid_numbers (adding w line kind vs).answer ≡ 0 ∷ 0 ∷ []))
unfolding add_fault
adds w line kind vs =
    let n = add_fault w (length line) kind vs in
    let t = all_fits w kind vs in
    let e = add_numbers w line kind vs in
    numbered (add_faults w (length line) kind vs) _ _ _ refl (add_rising w (length line) kind vs) n refl (λ k d h. e ∙ given_laid n k t d h) (λ k g. laid_given n k t (sym e ∙ g))
    (λ z. ⊎_elim (λ x. inl (e ∙ x)) (λ x. inr (e ∙ x)) (served_laid n t z))
    (λ s. ⊎_elim (λ x. laid_served n t 1 (sym e ∙ x)) (λ x. laid_served n t 0 (sym e ∙ x)) s)

add_left : (w : Writer) (line : List ℕ) (kind : ℕ) (vs : List ℕ) (k : ℕ) → laid_numbers (adding w line kind vs).answer ≡ k ∷ []
    → ((adding w line kind vs).state ≡ w) × ((adding w line kind vs).line ≡ line)
add_left w line kind vs k e =
    let x = laid_given (add_fault w (length line) kind vs) k (all_fits w kind vs) (sym (add_numbers w line kind vs) ∙ e) in
    let is = add_refused w line kind vs (add_fault w (length line) kind vs) refl (λ z. omega (arith, x.0, x.1, z)) in
    (ap (λ (l : Added). l.state) (sym is), ap (λ (l : Added). l.line) (sym is))

-- ---- a list of blocks
given_batch : (n k : ℕ) (ns : List ℕ) → n ≡ k → 1 ≤ k → batch_by n ns ≡ k ∷ []
given_batch zero k ns e h = absurd (omega (arith, e, h))
given_batch (suc n) k ns e h = ap (λ (m : ℕ). m ∷ []) e

batch_given : (n k : ℕ) → batch_by n (0 ∷ 1 ∷ []) ≡ k ∷ [] → (n ≡ k) × (1 ≤ k)
batch_given zero k e = absurd (omega (arith, long e))
batch_given (suc n) k e = (first e, omega (arith, first e))

batch_served : (n : ℕ) → batch_by n (0 ∷ 1 ∷ []) ≡ 0 ∷ 1 ∷ [] → n ≡ 0
batch_served zero e = refl
batch_served (suc n) e = absurd (omega (arith, long e))

none_numbers : (w : Writer) (line : List ℕ) → stop_numbers (batching w line []).stop ≡ batch_by (batch_fault w (length line)) (0 ∷ 1 ∷ [])
unfolding stops_at
none_numbers w line = batch_numbers w line [] ∙ ap (λ (es : List Entry). batch_by (batch_fault w (length line)) (stops_at w line es)) entries_none

none_numbered : (w : Writer) (line : List ℕ)
    → Numbered (batch_faults w (length line)) (1 ∷ 2 ∷ []) (λ (k : ℕ). stop_numbers (batching w line []).stop ≡ k ∷ []) (stop_numbers (batching w line []).stop ≡ 0 ∷ 1 ∷ [])
unfolding batch_fault
none_numbered w line =
    let n = batch_fault w (length line) in
    let e = none_numbers w line in
    numbered (batch_faults w (length line)) _ _ _ refl refl n refl (λ k d h. e ∙ given_batch n k (0 ∷ 1 ∷ []) d h) (λ k g. batch_given n k (sym e ∙ g))
    (λ z. e ∙ ap (λ (m : ℕ). batch_by m (0 ∷ 1 ∷ [])) z) (λ s. batch_served n (sym e ∙ s))

blocks_left : (w : Writer) (line blocks : List ℕ) (k : ℕ) → stop_numbers (batching w line []).stop ≡ k ∷ [] →
    let x = batching w line blocks in
    (stop_numbers x.stop ≡ k ∷ []) × ((x.finished ≡ 0) × ((x.state ≡ w) × (x.line ≡ line)))
blocks_left w line blocks k e =
    let g = batch_given (batch_fault w (length line)) k (sym (none_numbers w line) ∙ e) in
    let is = sym (batch_refused w line blocks (batch_fault w (length line)) refl (λ z. omega (arith, g.0, g.1, z))) in
    (ap (λ (x : Batched). stop_numbers x.stop) is ∙ ap (λ (m : ℕ). m ∷ []) g.0, (ap (λ (x : Batched). x.finished) is, (ap (λ (x : Batched). x.state) is, ap (λ (x : Batched). x.line) is)))

blocks_laid : (w : Writer) (line blocks : List ℕ) → stop_numbers (batching w line []).stop ≡ 0 ∷ 1 ∷ [] → batching w line blocks ≡ lay_all w line 0 (entries_of blocks)
blocks_laid w line blocks e = batch_laid w line blocks (batch_served (batch_fault w (length line)) (sym (none_numbers w line) ∙ e))

off_by_28 : (w : Writer) (line : List ℕ) (done : ℕ) (es : List Entry) →
    let x = lay_all w line done (broken ∷ es) in
    (stop_numbers x.stop ≡ 28 ∷ []) × ((x.finished ≡ done) × ((x.state ≡ w) × (x.line ≡ line)))
unfolding lay_all
off_by_28 w line done es = (refl, (refl, (refl, refl)))

module _ (w : Writer) (line : List ℕ) (done kind : ℕ) (vs : List ℕ) (es : List Entry) where
  -- the entry, by what the addition answers
  entry_by : (a : Laid) → laid_numbers (adding w line kind vs).answer ≡ laid_numbers a
      → lay_all w line done (whole kind vs ∷ es) ≡ behind a (adding w line kind vs) done (lay_all (adding w line kind vs).state (adding w line kind vs).line (suc done) es)
  unfolding lay_all
  entry_by a e =
      let x = adding w line kind vs in
      ap (λ (b : Laid). behind b x done (lay_all x.state x.line (suc done) es)) (laid_injective x.answer a e)

  entry_refuses : (k : ℕ) → laid_numbers (adding w line kind vs).answer ≡ k ∷ [] →
      let x = lay_all w line done (whole kind vs ∷ es) in
      (stop_numbers x.stop ≡ k ∷ []) × ((x.finished ≡ done) × ((x.state ≡ w) × (x.line ≡ line)))
  entry_refuses k e =
      let is = entry_by (NotLaid k) e in
      let same = add_left w line kind vs k e in
      (ap (λ (x : Batched). stop_numbers x.stop) is, (ap (λ (x : Batched). x.finished) is, (ap (λ (x : Batched). x.state) is ∙ same.0, ap (λ (x : Batched). x.line) is ∙ same.1)))

  entry_stays : laid_numbers (adding w line kind vs).answer ≡ 0 ∷ 0 ∷ [] →
      let x = lay_all w line done (whole kind vs ∷ es) in
      (stop_numbers x.stop ≡ 0 ∷ 0 ∷ []) × ((x.finished ≡ done) × ((x.state ≡ (adding w line kind vs).state) × (x.line ≡ (adding w line kind vs).line)))
  entry_stays e =
      let is = entry_by Unfinished e in
      (ap (λ (x : Batched). stop_numbers x.stop) is, (ap (λ (x : Batched). x.finished) is, (ap (λ (x : Batched). x.state) is, ap (λ (x : Batched). x.line) is)))

-- ---- reading: what a call does, by the lowest number whose condition holds
data Outcome (st : Reader) (line room : List ℕ) (n : ℕ) : Type 0 where
  is_early_lem : 1 ≤ n → n ≤ 2 → reading st line room ≡ reply (record { event = Refused n false; state = st }) room → Outcome st line room n
  is_late : 3 ≤ n → reading st line room ≡ reply (refused st n) room → Outcome st line room n
  is_served : n ≡ 0 → ReadServed st line room → Outcome st line room n

-- 1 or 2
two_by : (a b : Bool) → pick a 1 (pick b 2 0) ≤ 2
unfolding pick
two_by true b = omega arith
two_by false true = omega arith
two_by false false = omega arith

at_most_2 : (st : Reader) (line room : List ℕ) → read_fault st (length line) (length room) ≤ 2
unfolding read_fault_in
at_most_2 st line room = two_by _ _

-- a line begun
later_by_lem : (st : Reader) (q : ℕ) (p : Phase) (met : Met) (x : ℕ) → ServedWith (Some x) (get_or (event_numbers (told_by st q p met).event) 0 (pos 0))
later_by_lem st q p Nothing x = inr (inr refl)
later_by_lem st q p (Whole k n) x = inl refl
later_by_lem st q p (Lost n) x = inr (inl refl)

begun_by_lem : (st : Reader) (n : ℕ) (t : Settings) → get_or (event_numbers (begun st n t).event) 0 (pos 0) ≡ pos 1
unfolding begun
begun_by_lem st n t = refl

module _ (st : Reader) (line room : List ℕ) where
  abbrev row_faults : List Refusal
  row_faults = faults (system_of st.system) st.mode line

  -- the number: 1 or 2, or else what the line check finds
  number_is : lowest_of (read_refusals st line room) ≡ or_next (read_fault st (length line) (length room)) (lowest_of (where_shut st.place (faults (system_of st.system) st.mode line)))
  unfolding read_fault_in
  number_is = lowest_append (read_faults_in capacity st (length line) (length room)) (where_shut st.place row_faults) (read_rising capacity st (length line) (length room))

  shut_does : read_fault st (length line) (length room) ≡ 0 → st.place ≡ None → (n : ℕ) → line_fault st.system st.mode line ≡ n → Outcome st line room n
  shut_does fit at zero is =
      is_served refl
      (subst (λ (p : Option ℕ). ServedWith p (get_or (event_numbers (reading st line room).told.event) 0 (pos 0))) (sym at)
      (ap (λ (x : Reply). get_or (event_numbers x.told.event) 0 (pos 0)) (accepts st line room fit at is) ∙ begun_by_lem st _ _))
  shut_does fit at (suc n) is =
      is_late (subst (λ (k : ℕ). 3 ≤ k) is (from_three st.system st.mode line (ready st line room fit).fit (λ z. omega (arith, is, z))))
      (refuses st line room fit at (suc n) is (λ z. omega arith))

  place_does : read_fault st (length line) (length room) ≡ 0 → (p : Option ℕ) → st.place ≡ p → Outcome st line room (lowest_of (where_shut p (faults (system_of st.system) st.mode line)))
  place_does fit None at = shut_does fit at (lowest_of row_faults) (fault_of_fit st.system st.mode line (ready st line room fit).fit)
  place_does fit (Some q) at =
      is_served refl
      (subst (λ (p : Option ℕ). ServedWith p (get_or (event_numbers (reading st line room).told.event) 0 (pos 0))) (sym at)
      (subst (λ (x : Reply). ServedWith (Some q) (get_or (event_numbers x.told.event) 0 (pos 0))) (sym (by_place st line room (Some q) fit at))
      (later_by_lem st _ _ (walk_from st q line room).answer.met q)))

  does_by : (r : ℕ) → read_fault st (length line) (length room) ≡ r → Outcome st line room (or_next r (lowest_of (where_shut st.place (faults (system_of st.system) st.mode line))))
  does_by zero is = place_does is st.place refl
  does_by (suc r) is =
      is_early_lem (omega arith) (subst (λ (k : ℕ). k ≤ 2) is (at_most_2 st line room)) (sym (read_refused capacity st line room (suc r) (sym is) (λ z. omega arith)))

  does : Outcome st line room (lowest_of (read_refusals st line room))
  does = subst (Outcome st line room) (sym number_is) (does_by (read_fault st (length line) (length room)) refl)

  -- ---- what it reports
  reports : (x : Reply) → reading st line room ≡ x → event_numbers (reading st line room).told.event ≡ event_numbers x.told.event
  reports x e = ap (λ (y : Reply). event_numbers y.told.event) e

  gives : (n k : ℕ) → Outcome st line room n → n ≡ k → 1 ≤ k → ReadRefused st line room k
  gives n k (is_early_lem one two e) is h =
      reports _ e
      ∙ ap₂ (λ (m : ℕ) (b : Bool). pos 0 ∷ pos m ∷ yes_no b ∷ []) is (ap (λ (b : Bool). b && is_busy st.phase) (sym (lt-leb 3 k (omega (arith, two, is)))))
  gives n k (is_late three e) is h =
      reports _ e
      ∙ ap₂ (λ (m : ℕ) (b : Bool). pos 0 ∷ pos m ∷ yes_no b ∷ []) is (ap (λ (b : Bool). b && is_busy st.phase) (sym (le-leb 3 k (omega (arith, three, is)))))
  gives n k (is_served z s) is h = absurd (omega (arith, z, is, h))

  same_number : {m k : ℕ} {a b : ℤ} → pos 0 ∷ pos m ∷ a ∷ [] ≡ pos 0 ∷ pos k ∷ b ∷ [] → m ≡ k
  same_number e = ap (λ (l : List ℤ). nat_abs (get_or l 1 (pos 0))) e

  number : {i j : ℤ} → i ≡ j → nat_abs i ≡ nat_abs j
  number e = ap nat_abs e

  not_served : (p : Option ℕ) → ServedWith p (pos 0) → ⊥
  not_served None e = omega (arith, number e)
  not_served (Some q) e = ⊎_elim (λ x. omega (arith, number x)) (λ y. ⊎_elim (λ x. omega (arith, number x)) (λ x. omega (arith, number x)) y) e

  serves_not : (z : ℤ) → z ≡ pos 0 → ServedWith st.place z → ⊥
  serves_not z e s = not_served st.place (subst (ServedWith st.place) e s)

  only : (n k : ℕ) → Outcome st line room n → ReadRefused st line room k → (n ≡ k) × (1 ≤ k)
  only n k (is_early_lem one two e) g = let is : n ≡ k = same_number (sym (reports _ e) ∙ g) in (is, omega (arith, one, is))
  only n k (is_late three e) g = let is : n ≡ k = same_number (sym (reports _ e) ∙ g) in (is, omega (arith, three, is))
  only n k (is_served z s) g = absurd (serves_not _ (ap (λ (l : List ℤ). get_or l 0 (pos 0)) g) s)

  back : (n : ℕ) → Outcome st line room n → ReadServed st line room → n ≡ 0
  back n (is_early_lem one two e) s = absurd (serves_not _ (ap (λ (l : List ℤ). get_or l 0 (pos 0)) (reports _ e)) s)
  back n (is_late three e) s = absurd (serves_not _ (ap (λ (l : List ℤ). get_or l 0 (pos 0)) (reports _ e)) s)
  back n (is_served z s) t = z

  serves : (n : ℕ) → Outcome st line room n → n ≡ 0 → ReadServed st line room
  serves n (is_early_lem one two e) z = absurd (omega (arith, one, z))
  serves n (is_late three e) z = absurd (omega (arith, three, z))
  serves n (is_served z s) y = s

  -- the numbers of the refusals, by the place
  all_by : (p : Option ℕ) → map (λ (r : Refusal). r.number) (read_faults_in capacity st (length line) (length room) ++ where_shut p (faults (system_of st.system) st.mode line)) ≡ read_answers p
  unfolding faults head_faults settings_faults payload_faults area_faults
  all_by None = refl
  all_by (Some q) = refl

  rising_by : (p : Option ℕ) → rising (read_faults_in capacity st (length line) (length room) ++ where_shut p (faults (system_of st.system) st.mode line)) ≡ true
  unfolding faults head_faults settings_faults payload_faults area_faults
  rising_by None = refl
  rising_by (Some q) = refl

  reads : Numbered (read_refusals st line room) (read_answers st.place) (ReadRefused st line room) (ReadServed st line room)
  reads =
      let n = lowest_of (read_refusals st line room) in
      numbered (read_refusals st line room) _ _ _ (all_by st.place) (rising_by st.place) n refl (λ k e h. gives n k does e h) (λ k g. only n k does g) (serves n does) (back n does)

  -- ---- what a refusal leaves
  leaves : (n k : ℕ) → Outcome st line room n → ReadRefused st line room k → k ≤ 2 → ((reading st line room).told.state ≡ st) × ((reading st line room).room ≡ room)
  leaves n k (is_early_lem one two e) g h = (ap (λ (x : Reply). x.told.state) e, ap (λ (x : Reply). x.room) e)
  leaves n k (is_late three e) g h = absurd (omega (arith, three, h, (only n k (is_late three e) g).0))
  leaves n k (is_served z s) g h = absurd (omega (arith, z, (only n k (is_served z s) g).0, (only n k (is_served z s) g).1))

  forgets : (n k : ℕ) → Outcome st line room n → ReadRefused st line room k → 3 ≤ k → Forgets st (reading st line room).told.state × ((reading st line room).room ≡ room)
  forgets n k (is_early_lem one two e) g h = absurd (omega (arith, two, h, (only n k (is_early_lem one two e) g).0))
  forgets n k (is_late three e) g h =
      (subst (λ (x : Reply). Forgets st x.told.state) (sym e) (record { idle = refl; none_last = refl; kept = refl; none_begun = refl; same_system = refl; same_mode = refl }), ap (λ (x : Reply). x.room) e)
  forgets n k (is_served z s) g h = absurd (omega (arith, z, (only n k (is_served z s) g).0, (only n k (is_served z s) g).1))

pub demand_1 : Demand1
demand_1 = record {
  check = checks;
  check_leaves = check_left;
  open_line = opens;
  add_block = adds;
  close_line = closes;
  add_packet = packs;
  open_leaves = open_left;
  add_leaves = add_left;
  close_leaves = close_left;
  pack_leaves = pack_left;
  read = reads;
  read_leaves = λ st line room k g h. leaves st line room (lowest_of (read_refusals st line room)) k (does st line room) g h;
  read_forgets = λ st line room k g h. forgets st line room (lowest_of (read_refusals st line room)) k (does st line room) g h;
  no_blocks = none_numbered;
  blocks_leave = blocks_left;
  blocks_served = blocks_laid;
  entry_broken = off_by_28;
  entry_refused = entry_refuses;
  entry_unfinished = entry_stays;
  entry_finished = λ w line done kind vs es e. entry_by w line done kind vs es Finished e;
}
