-- Laws of a call over bytes: what it asks, what 1 and 2 tell, and that the bytes of the room are those of its words.
-- Assumes nothing.
use Rattle.std.specs.Prelude.{Option}
use mathlib.Core.Path.{◌≡◌, refl, sym, ap, ap₂, ◌∙◌}
use mathlib.Core.Bool.{Bool, true, false, not, ◌&&◌}
use mathlib.Core.List.{List}
use Prim.Native.Nat.{ℕ, ◌+◌, ◌/◌, ◌%◌, ◌<◌, ◌≤◌, min}
use native.Mathlib.Omega.{arith}
use lib.Dec.{eqb}
use lib.ListN.{length, get_or, take, drop}
use lib.Seq.{length-take-le, take_all, take-append-le, paste}
use borrow.Author.Tests.{eqb-true, eq-eqb, ne_eqb, le-ltb}
use Rattle.lists.specs.Tests.{pick}
use Rattle.lists.proofs.Tests.{both_true, pick_true, pick_false}
use Rattle.octets.specs.Bytes.{words_of, bytes_of, is_even}
use Rattle.octets.proofs.BytesLaws.{length_words, bytes_back}
use Rattle.line.specs.Systems.{system_of}
use Rattle.line.specs.Fixed.{size_of}
use Rattle.line.proofs.SystemLaws.{fitting, length_most}
use Rattle.line.specs.Check.{checked_of}
use Rattle.course.specs.Course.{blocks_end}
use Rattle.machine.specs.declared.phase.Phase.{Phase}
use Rattle.machine.specs.declared.step.Met.{Met}
use Rattle.machine.specs.declared.step.Met.TheVariants.{Nothing, Whole, Lost}
use Rattle.reader.specs.declared.state.Reader.{Reader}
use Rattle.reader.specs.declared.state.Event.TheVariants.{Refused}
use Rattle.reader.specs.declared.state.Event.{Event}
use Rattle.reader.specs.declared.within.Report.TheVariants.{Told as Tells}
use Rattle.reader.specs.declared.read.Asked.{Asked}
use Rattle.reader.specs.declared.within.Within.{Within}
use Rattle.reader.specs.State.{capacity}
use Rattle.reader.specs.Reading.{becomes, starts, told_by, read_fault}
use Rattle.reader.specs.Asking.{barred, asked}
use Rattle.reader.specs.Within.{Sliced, sliced, tells, within}
use Rattle.reader.proofs.AskLaws.{asked_fault, asked_found}
use Rattle.reader.proofs.Ready.{ready}
use Rattle.reader.proofs.WithinLaws.{within_refused}
use Rattle.bytereader.specs.Bytewise.{within_bytes, bytes_fault}
use Rattle.bytereader.specs.Calls.{event_by, place_by, went_of, start_bytes}

-- a line that is long enough and no longer is converted whole
pub line_small : (st : Reader) (line room : List ℕ) → read_fault st (length line) (length room) ≡ 0 → length line ≤ 2304
line_small st line room e =
    let f = fitting st.system st.mode line (ready capacity st line room e).fit in
    omega (arith, f.long, length_most st.system)

-- words pasted in front
pub front_words : (d ws : List ℕ) (n : ℕ) → n ≡ length ws → length ws ≤ length d → take n (paste d 0 ws (min (length ws) (length d))) ≡ ws
front_words d ws n e h =
    let k : min (length ws) (length d) ≡ n = omega arith in
    ap (λ (j : ℕ). take n (paste d 0 ws j)) k
    ∙ take-append-le n (take n ws) (drop (0 + n) d) (omega (arith, length-take-le n ws (omega arith)))
    ∙ take_all n (take n ws) (omega (arith, length-take-le n ws (omega arith)))
    ∙ take_all n ws (omega arith)

-- a line that is begun
pub start_is : (st : Reader) (line room : List ℕ) → read_fault st (length (words_of line)) (length (words_of room)) ≡ 0 → start_bytes st line ≡ starts st (checked_of st.system st.mode (words_of line))
unfolding start_bytes
start_is st line room e = pick_false _ _ (le-ltb 2304 (length line / 2) (omega (arith, line_small st (words_of line) (words_of room) e, length_words line)))

-- what a call on a begun line tells of what was met
by_met : (st : Reader) (q : ℕ) (p : Phase) (met : Met) → record { event = event_by met; state = becomes st st.last st.settings (place_by met q) p } ≡ told_by st q p met
by_met st q p Nothing = refl
by_met st q p (Whole k n) = refl
by_met st q p (Lost n) = refl

pub went_told : (st : Reader) (q : ℕ) (p : Phase) (met : Met) (n : ℕ) {e : Event} {at : Option ℕ} → e ≡ event_by met → at ≡ place_by met q
    → went_of st (record { report = Tells e; consumed = n; place = at; phase = p }) ≡ tells n (told_by st q p met)
went_told st q p met n f g =
    ap₂ (λ (e : Event) (at : Option ℕ). tells n (record { event = e; state = becomes st st.last st.settings at p })) f g
    ∙ ap (tells n) (by_met st q p met)

module _ (st : Reader) (line room : List ℕ) where
  -- neither 1 nor 2
  pub record Fit (x : Asked) : Type 0 where
    pub even : (is_even line && is_even room) ≡ true
    pub fault : read_fault st (length (words_of line)) (length (words_of room)) ≡ 0
    pub end : x.end ≡ blocks_end (system_of st.system).payload st.settings.block st.settings.flag
    pub size : x.size ≡ size_of st.settings.block

  -- an even room is even afterwards, and its bytes are those of its words
  pub back : (is_even line && is_even room) ≡ true → (next : List ℕ) → length next ≡ length room → ((i : ℕ) → get_or next i 0 < 256) → bytes_of (words_of next) ≡ next
  back e next long h = bytes_back next (ap (λ (n : ℕ). n % 2) long ∙ eqb-true _ 0 (both_true (is_even line) (is_even room) e).1) h

  pub sliced_back : (a : ℕ) → (is_even line && is_even room) ≡ true → (t : Within) (next : List ℕ) → bytes_of (words_of next) ≡ next
      → sliced t (words_of next) ≡ within a st (words_of line) (words_of room) → sliced t next ≡ within_bytes a st line room
  unfolding within_bytes
  sliced_back a e t next b is = ap (sliced t) (sym b) ∙ ap (λ (y : Sliced). sliced y.answer (bytes_of y.room)) is ∙ sym (pick_true _ _ e)

  module _ (x : Asked) (is : x ≡ pick (is_even line && is_even room) (asked capacity st (length line / 2) (length room / 2)) (barred 1)) where
    -- by the numbers of words
    of_words : (is_even line && is_even room) ≡ true → x ≡ asked capacity st (length (words_of line)) (length (words_of room))
    of_words e = is ∙ pick_true _ _ e ∙ ap₂ (asked capacity st) (sym (length_words line)) (sym (length_words room))

    fault_is : (is_even line && is_even room) ≡ true → x.fault ≡ read_fault st (length (words_of line)) (length (words_of room))
    fault_is e = ap (λ (y : Asked). y.fault) (of_words e) ∙ asked_fault _ _ _ _

    fault_odd : (is_even line && is_even room) ≡ false → x.fault ≡ 1
    fault_odd e = ap (λ (y : Asked). y.fault) (is ∙ pick_false _ _ e)

    pub fit : x.fault ≡ 0 → Fit x
    fit z = go (is_even line && is_even room) refl
      where
        go : (b : Bool) → (is_even line && is_even room) ≡ b → Fit x
        go true e =
            let none = sym (fault_is e) ∙ z in
            let found = asked_found _ _ _ _ none x (of_words e) in
            record { even = e; fault = none; end = found.0; size = found.1 }
        go false e = absurd (omega (arith, fault_odd e, z))

    -- 1 and 2 by the numbers of bytes
    asked_bytes : x.fault ≡ bytes_fault st (length line) (length room)
    unfolding bytes_fault
    asked_bytes = go (is_even line && is_even room) refl
      where
        go : (b : Bool) → (is_even line && is_even room) ≡ b → x.fault ≡ bytes_fault st (length line) (length room)
        go true e = ap (λ (y : Asked). y.fault) (is ∙ pick_true _ _ e) ∙ asked_fault _ _ _ _ ∙ sym (pick_true _ _ e)
        go false e = fault_odd e ∙ sym (pick_false _ _ e)

    pub barred_is : (x.fault ≡ 0 → ⊥) → true ≡ not (eqb (bytes_fault st (length line) (length room)) 0)
    barred_is h = sym (ap not (ap (λ (n : ℕ). eqb n 0) (sym asked_bytes) ∙ ne_eqb x.fault 0 h))

    pub barred_not : x.fault ≡ 0 → false ≡ not (eqb (bytes_fault st (length line) (length room)) 0)
    barred_not z = sym (ap not (ap (λ (n : ℕ). eqb n 0) (sym asked_bytes) ∙ eq-eqb x.fault 0 z))

    module _ (bytes : (i : ℕ) → get_or room i 0 < 256) (h : x.fault ≡ 0 → ⊥) where
      pub sliced_refused : (a : ℕ) → sliced (tells 0 (record { event = Refused x.fault false; state = st })) room ≡ within_bytes a st line room
      unfolding within_bytes
      sliced_refused a = go (is_even line && is_even room) refl
        where
          go : (b : Bool) → (is_even line && is_even room) ≡ b → sliced (tells 0 (record { event = Refused x.fault false; state = st })) room ≡ within_bytes a st line room
          go true e = sliced_back a e _ room (back e room refl bytes) (within_refused capacity a st (words_of line) (words_of room) x.fault (fault_is e) h)
          go false e = ap (λ (n : ℕ). sliced (tells 0 (record { event = Refused n false; state = st })) room) (fault_odd e) ∙ sym (pick_false _ _ e)
