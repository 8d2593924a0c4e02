-- Item 5 of 02: the five reserved bytes are handed through. 14 is given by no entry; any five bytes are taken, laid and read back in byte form;
-- and a change of any one of them ends a block: the reader drops it, the writer answers 20.
-- Assumes nothing.
use Rattle.std.specs.Prelude.{Option, Some, None}
use Prim.Native.Nat.{ℕ, zero, suc, ◌≤◌, ◌<◌}
use mathlib.Core.Bool.{Bool, true, false, ◌&&◌, ◌||◌, not}
use mathlib.Core.Logic.{⊎_elim}
use mathlib.Core.List.{List, [], ◌∷◌, ◌++◌, map}
use mathlib.Core.Path.{◌≡◌, refl, sym, ap, ap₂, ◌∙◌, subst}
use native.Mathlib.Omega.{arith}
use lib.Dec.{eqb, leb}
use lib.IntN.{ℤ, pos, nat_abs}
use lib.ListN.{length, get_or}
use Rattle.lists.specs.Tests.{Refusal, when, lowest_of, holds_at}
use Rattle.lists.specs.Lists.{part, same, each}
use Rattle.lists.proofs.Tests.{true_false, both_true, or_right, and_none, pick_false}
use Rattle.lists.proofs.Refusals.{answers}
use Rattle.words.specs.Forms.{byte_word}
use Rattle.words.specs.Modes.{is_mode}
use Rattle.line.specs.declared.settings.Settings.{Settings}
use Rattle.line.specs.Systems.{system_of, is_system}
use Rattle.line.specs.Settings.{small, Held, settings_faults, settings_fault, same_settings}
use Rattle.line.specs.Check.{low, number_of, settings_of, fits_length, line_fault, checked_from, checked_of}
use Rattle.line.proofs.SettingsLaws.{same_five, with_five, any_five}
use Rattle.line.proofs.Lines.{five_stand, five_framed}
use Rattle.course.specs.Course.{is_at, impossible_after}
use Rattle.writer.specs.declared.state.Writer.{Writer}
use Rattle.writer.specs.State.{is_part, impossible}
use Rattle.writer.specs.Answers.{answer_numbers, laid_numbers, Left}
use Rattle.writer.specs.Opening.{is_next, open_blocked, open_faults, open_fault, open_words, opening}
use Rattle.writer.specs.Adding.{adding}
use Rattle.writer.specs.Closing.{closing}
use Rattle.writer.proofs.StateLaws.{opened}
use Rattle.machine.specs.Phases.{is_busy}
use Rattle.machine.specs.declared.phase.Phase.TheVariants.{Idle}
use Rattle.reader.specs.declared.state.Reader.{Reader}
use Rattle.reader.specs.declared.state.Event.TheVariants.{Begun}
use Rattle.reader.specs.Jump.{jump_from, is_zero}
use Rattle.reader.specs.Events.{event_numbers}
use Rattle.reader.specs.Reading.{Reply, becomes, goes_on, begun, read_fault, reading}
use Rattle.demands.specs.All.{All}
use Rattle.demands.specs.Sending.{Block}
use Rattle.demands.specs.Writable.{Passes, Writes}
use Rattle.demands.specs.Demand1.{Numbered, ServedWith, read_answers, read_refusals}
use Rattle.demands.proofs.Demand1Holds.{demand_1}
use Rattle.demands.proofs.Demand2Holds.{demand_2}

-- ---- 14 is given by nothing
-- the number is none of these
abbrev none_of : ℕ → List ℕ → Bool
none_of n ns = each (λ (m : ℕ). not (eqb n m)) ns

-- a number that no refusal has is no number whose condition holds
not_among : (n : ℕ) (rs : List Refusal) → none_of n (map (λ (r : Refusal). r.number) rs) ≡ true → holds_at n rs ≡ false
not_among n [] e = refl
not_among n (r ∷ rs) e =
    let b = both_true (not (eqb n r.number)) _ e in
    ap₂ (λ (x y : Bool). (x && r.holds) || y) (not-true (eqb n r.number) b.0) (not_among n rs b.1)
  where
    not-true : (x : Bool) → not x ≡ true → x ≡ false
    not-true true y = absurd (true_false (sym y))
    not-true false y = refl

-- so an entry does not give it
never : (n : ℕ) (rs : List Refusal) (ns : List ℕ) (given : ℕ → Type 0) (served : Type 0) → Numbered rs ns given served → none_of n ns ≡ true → given n → ⊥
never n rs ns given served x none g = true_false (sym (x.only n g).holds ∙ not_among n rs (ap (none_of n) x.numbers ∙ none))

pub check_never_14 : (system mode : ℕ) (line : List ℕ) → (checked_of system mode line).fault ≡ 14 → ⊥
check_never_14 system mode line e = never 14 _ _ _ _ (demand_1.check system mode line) refl (e, omega arith)

pub open_never_14 : (w : Writer) (f v : Bool) (n : ℕ) (t : Settings) (line : List ℕ) → answer_numbers (opening w f v n t line).answer ≡ 14 ∷ [] → ⊥
open_never_14 w f v n t line e = never 14 _ _ _ _ (demand_1.open_line w f v n t line) refl e

pub add_never_14 : (w : Writer) (line : List ℕ) (kind : ℕ) (vs : List ℕ) → laid_numbers (adding w line kind vs).answer ≡ 14 ∷ [] → ⊥
add_never_14 w line kind vs e = never 14 _ _ _ _ (demand_1.add_block w line kind vs) refl e

pub close_never_14 : (w : Writer) (line : List ℕ) → answer_numbers (closing w line).answer ≡ 14 ∷ [] → ⊥
close_never_14 w line e = never 14 _ _ _ _ (demand_1.close_line w line) refl e

-- of a reading call: no event is a refusal with 14, whether it says dropped or not
not_served : (p : Option ℕ) → ServedWith p (pos 0) → ⊥
not_served None e = omega (arith, ap nat_abs e)
not_served (Some q) e = ⊎_elim (λ x. omega (arith, ap nat_abs x)) (λ y. ⊎_elim (λ x. omega (arith, ap nat_abs x)) (λ x. omega (arith, ap nat_abs x)) y) e

none_14 : (p : Option ℕ) → none_of 14 (read_answers p) ≡ true
none_14 None = refl
none_14 (Some q) = refl

pub read_never_14 : (st : Reader) (line room : List ℕ) (dropped : ℤ) → event_numbers (reading st line room).told.event ≡ pos 0 ∷ pos 14 ∷ dropped ∷ [] → ⊥
read_never_14 st line room dropped e = go (lowest_of (read_refusals st line room)) refl
  where
    go : (n : ℕ) → lowest_of (read_refusals st line room) ≡ n → ⊥
    go zero is =
        let x = demand_1.read st line room in
        let s = x.serves ((answers (read_refusals st line room) x.rises).none is) in
        not_served st.place (subst (ServedWith st.place) (ap (λ (l : List ℤ). get_or l 0 (pos 0)) e) s)
    go (suc n) is =
        let rs = read_refusals st line room in
        let x = demand_1.read st line room in
        let a = answers rs x.rises in
        let holds : holds_at (suc n) rs ≡ true = subst (λ (k : ℕ). holds_at k rs ≡ true) is (a.holds (λ z. omega (arith, is, z))) in
        let given = x.gives (suc n) (record { holds = holds; lowest = λ m h. a.lowest m (omega (arith, is, h)) }) in
        let number : suc n ≡ 14 = ap (λ (l : List ℤ). nat_abs (get_or l 1 (pos 0))) (sym given ∙ e) in
        true_false (sym (subst (λ (k : ℕ). holds_at k rs ≡ true) number holds) ∙ not_among 14 rs (ap (none_of 14) x.numbers ∙ none_14 st.place))

-- ---- any five bytes
-- 10 to 13 do not ask for them (`any_five`), and so the impossible rule does not
pub any_five_possible : (system : ℕ) (last : Option ℕ) (t : Settings) (five : List ℕ) (place : Option ℕ) (busy : Bool)
    → impossible_after system last (with_five t five) place busy ≡ impossible_after system last t place busy
unfolding settings_fault settings_faults
any_five_possible system None t five place busy = refl
any_five_possible system (Some x) t five place busy = refl

-- the line check returns those that stand in an accepted line, which has them in byte form
pub five_read : (system mode : ℕ) (line : List ℕ) → line_fault system mode line ≡ 0
    → ((checked_of system mode line).settings.reserved ≡ map low (part 49 5 line)) × (map byte_word (checked_of system mode line).settings.reserved ≡ part 49 5 line)
unfolding checked_of settings_of
five_read system mode line clean =
    let is : (checked_of system mode line).settings.reserved ≡ (settings_of line).reserved = ap (λ (n : ℕ). (checked_from n line).settings.reserved) clean in
    (is, ap (map byte_word) is ∙ five_stand system mode line clean)

-- opening lays those that it is given, in byte form
pub five_opened : (w : Writer) (f v : Bool) (n : ℕ) (t : Settings) (line : List ℕ) → Held t → open_fault w n t (length line) ≡ 0
    → part 49 5 (opening w f v n t line).line ≡ map byte_word t.reserved
unfolding open_words
five_opened w f v n t line held clean =
    ap (λ (l : Left). part 49 5 l.line) (sym (opened w f v n t line _ _ (open_fault w n t (length line)) refl clean refl refl))
    ∙ five_framed (system_of w.system) f v n t [] _ held

-- and takes any: what opening answers is the same whatever they are, as long as no block is unfinished
pub any_five_opened : (w : Writer) (n : ℕ) (t : Settings) (five : List ℕ) (long : ℕ) → is_part w.rest ≡ false → open_fault w n (with_five t five) long ≡ open_fault w n t long
unfolding open_fault settings_faults open_blocked
any_five_opened w n t five long none =
    let free : (s : Settings) → open_blocked w n s ≡ (is_at w.place || false) =
    (λ s. ap (λ (b : Bool). is_at w.place || (b && (not (same_settings s w.settings) || not (is_next (system_of w.system).lines w.last n)))) none) in
    ap
    (λ (b : Bool). lowest_of
    (when 1 (not (fits_length w.system w.mode long))
    ∷ when 2 (impossible w)
    ∷ when 9 (not (leb 1 n && leb n (system_of w.system).lines))
    ∷ settings_faults (system_of w.system) t ++ (when 20 b ∷ [])))
    (free (with_five t five) ∙ sym (free t))

-- so demand 2 speaks of any five bytes: blocks are written with them, and by `heard` each line is given back with them
pub writes_any_five : (system mode : ℕ) (f v : Bool) (n : ℕ) (t : Settings) (five : List ℕ) (bs : List Block) → is_system system ≡ true → is_mode mode ≡ true
    → 1 ≤ n → n ≤ (system_of system).lines → Held t → settings_fault system t ≡ 0 → length five ≡ 5 → each small five ≡ true
    → All (Passes mode (with_five t five)) bs → Writes system mode f v n (with_five t five) bs
writes_any_five system mode f v n t five bs known moded one last h clean long bytes pass =
    demand_2.writable system mode f v n (with_five t five) bs known moded one last
    (record {
      to = h.to;
      from = h.from;
      five = long;
      to_bytes = h.to_bytes;
      from_bytes = h.from_bytes;
      five_bytes = bytes;
      block_byte = h.block_byte;
      flag_byte = h.flag_byte;
    })
    (any_five system t five ∙ clean) pass

-- ---- continuation: a change of any one of the five
pub five_other : (t u : Settings) → same t.reserved u.reserved ≡ false → same_settings t u ≡ false
five_other t u other = go (same_settings t u) refl
  where
    go : (b : Bool) → same_settings t u ≡ b → same_settings t u ≡ false
    go true e = absurd (true_false (sym (same_five t u e) ∙ other))
    go false e = e

-- the writer with an unfinished block answers 20, where no lower number's condition holds
five_blocked : (w : Writer) (n : ℕ) (t : Settings) → is_part w.rest ≡ true → same t.reserved w.settings.reserved ≡ false → open_blocked w n t ≡ true
unfolding open_blocked
five_blocked w n t busy other =
    or_right (is_at w.place) _
    (ap₂ (λ (p s : Bool). p && (not s || not (is_next (system_of w.system).lines w.last n))) busy (five_other t w.settings other))

pub five_20 : (w : Writer) (f v : Bool) (n : ℕ) (t : Settings) (line : List ℕ) → is_part w.rest ≡ true → same t.reserved w.settings.reserved ≡ false
    → ((k : ℕ) → k < 20 → holds_at k (open_faults w n t (length line)) ≡ false) → answer_numbers (opening w f v n t line).answer ≡ 20 ∷ []
unfolding settings_faults
five_20 w f v n t line busy other low =
    (demand_1.open_line w f v n t line).gives 20 (record { holds = ap (λ (b : Bool). b || false) (five_blocked w n t busy other); lowest = low })

-- the reader begins the line, says dropped if a block was open, and is idle
five_ends : (st : Reader) (n : ℕ) (t : Settings) → same t.reserved st.settings.reserved ≡ false → goes_on st n t ≡ false
unfolding goes_on
five_ends st n t other = and_none (is_zero (jump_from (system_of st.system).lines st.last n)) _ (five_other t st.settings other)

if_open : (b : Bool) → (b && true) ≡ b
if_open true = refl
if_open false = refl

pub five_dropped : (st : Reader) (line room : List ℕ) → read_fault st (length line) (length room) ≡ 0 → st.place ≡ None → line_fault st.system st.mode line ≡ 0
    → same (settings_of line).reserved st.settings.reserved ≡ false
    → ((reading st line room).told.event ≡ Begun (number_of line) (jump_from (system_of st.system).lines st.last (number_of line)) (is_busy st.phase))
    × ((reading st line room).told.state ≡ becomes st (Some (number_of line)) (settings_of line) (Some 0) Idle)
unfolding begun
five_dropped st line room fit shut clean other =
    let e = (demand_2.told st line room fit shut clean).0 in
    let n = number_of line in
    let t = settings_of line in
    let ends = five_ends st n t other in (
      ap (λ (x : Reply). x.told.event) e
          ∙ ap (Begun n (jump_from (system_of st.system).lines st.last n)) (ap (λ (b : Bool). is_busy st.phase && not b) ends ∙ if_open (is_busy st.phase)),
      ap (λ (x : Reply). x.told.state) e ∙ ap (becomes st (Some n) t (Some 0)) (pick_false st.phase Idle ends),
    )
