-- What a call under an allowance comes to: a pause, from which a reading call tells what it would have told before; or what a reading call tells.
-- Assumes nothing.
use Rattle.std.specs.Prelude.{Option, Some, None}
use mathlib.Core.Path.{◌≡◌, refl, sym, ap, ap₂, ◌∙◌, subst}
use mathlib.Core.Bool.{Bool, true, false, ◌&&◌}
use mathlib.Core.List.{List}
use Prim.Native.Nat.{ℕ, zero, suc, ◌+◌, ◌*◌, ◌/◌, ◌≤◌, ◌<◌}
use native.Mathlib.Nat.{mul-div_cancel}
use native.Mathlib.Omega.{arith}
use lib.Dec.{eqb}
use lib.ListN.{length}
use borrow.Author.Tests.{eqb-true, eqb-false, eq-eqb}
use Rattle.lists.proofs.Tests.{true_false}
use Rattle.line.specs.Systems.{system_of}
use Rattle.line.specs.Check.{checked_of}
use Rattle.course.specs.Course.{is_at, place_of}
use Rattle.course.proofs.CourseLaws.{placed_end}
use Rattle.machine.specs.declared.phase.Phase.{Phase}
use Rattle.machine.specs.declared.step.Met.{Met}
use Rattle.machine.specs.declared.step.Met.TheVariants.{Nothing, Whole, Lost}
use Rattle.machine.specs.Walk.{Walk, is_nothing}
use Rattle.reader.specs.declared.state.Reader.{Reader}
use Rattle.reader.specs.declared.state.Event.{Event}
use Rattle.reader.specs.declared.state.Event.TheVariants.{Refused, Begun, Block, Drop, End}
use Rattle.reader.specs.declared.state.Told.{Told}
use Rattle.reader.specs.Reading.{reply, starts, walk_from, told_by, goes_from, read_fault_in, reading_in}
use Rattle.reader.specs.Lending.{is_last}
use Rattle.reader.specs.Within.{Sliced, sliced, paused_at, tells, unit_of, walk_within, goes_within, within_in}
use Rattle.reader.proofs.Ready.{ReadyIn, ready, in_end}
use Rattle.reader.proofs.Stays.{told_possible}
use Rattle.reader.proofs.Accepts.{by_place}
use Rattle.reader.proofs.ReadLaws.{read_refused}
use Rattle.reader.proofs.Ends.{end_in, unfaulted}
use Rattle.reader.proofs.Cutting.{stands, Cuts, cuts}
use Rattle.reader.proofs.WithinLaws.{goes_paused, goes_told, within_refused, within_none, within_goes}

-- paused, in a state and a room
pub record Pauses (c a : ℕ) (st : Reader) (line room : List ℕ) (st' : Reader) (room' : List ℕ) : Type 0 where
  pub same : reading_in c st' line room' ≡ reading_in c st line room
  pub fit : read_fault_in c st (length line) (length room) ≡ 0
  pub again : read_fault_in c st' (length line) (length room') ≡ 0
  pub begun : 1 ≤ a → is_at st.place ≡ true
  pub one : 1 ≤ a → 1 ≤ unit_of st.settings.block
  pub moved : (q : ℕ) → st.place ≡ Some q → (st'.place ≡ Some (q + a * unit_of st.settings.block)) × (q + a * unit_of st.settings.block ≤ end_in st)
  pub still : a ≡ 0 → (st' ≡ st) × (room' ≡ room)
  pub of_system : st'.system ≡ st.system
  pub of_mode : st'.mode ≡ st.mode
  pub of_last : st'.last ≡ st.last
  pub of_settings : st'.settings ≡ st.settings

-- told, with n consumed
pub record Tells (c a : ℕ) (st : Reader) (line room : List ℕ) (n : ℕ) (t : Told) (room' : List ℕ) : Type 0 where
  pub same : reading_in c st line room ≡ reply t room'
  pub moved : (q next : ℕ) → st.place ≡ Some q → t.state.place ≡ Some next → next ≡ q + n * unit_of st.settings.block
  pub ended : (q : ℕ) → st.place ≡ Some q → t.event ≡ End → (end_in st ≡ q + n * unit_of st.settings.block) × (n < a)
  pub opened : st.place ≡ None → n ≡ 0
  pub met : is_at st.place ≡ true → is_last t.event ≡ false → (1 ≤ n) × (n ≤ a)

pub data Outcome (c a : ℕ) (st : Reader) (line room : List ℕ) : Sliced → Type 0 where
  is_paused : (st' : Reader) (room' : List ℕ) → Pauses c a st line room st' room' → Outcome c a st line room (sliced (paused_at a st') room')
  is_told_lem : (n : ℕ) (t : Told) (room' : List ℕ) → Tells c a st line room n t room' → Outcome c a st line room (sliced (tells n t) room')

-- ---- places and events that differ
at_inj : (q p : ℕ) → Some q ≡ Some p → q ≡ p
at_inj q p e = ap place_of e

shut_at : (q : ℕ) → None ≡ Some q → ⊥
shut_at q e = true_false (sym (ap is_at e))

abbrev is_end : Event → Bool
is_end (Refused n dropped) = false
is_end (Begun n jump dropped) = false
is_end (Block k n) = false
is_end (Drop n) = false
is_end End = true

told_met : (st : Reader) (i : ℕ) (p : Phase) (met : Met) → is_nothing met ≡ false → ((told_by st i p met).state.place ≡ Some i) × (is_end (told_by st i p met).event ≡ false)
told_met st i p Nothing e = absurd (true_false e)
told_met st i p (Whole k n) e = (refl, refl)
told_met st i p (Lost n) e = (refl, refl)

told_end : (st : Reader) (i : ℕ) (p : Phase) (met : Met) → is_nothing met ≡ true → ((told_by st i p met).state.place ≡ None) × (is_last (told_by st i p met).event ≡ true)
told_end st i p Nothing e = (refl, refl)
told_end st i p (Whole k n) e = absurd (true_false (sym e))
told_end st i p (Lost n) e = absurd (true_false (sym e))

-- what is told depends on nothing that a pause changes
told_again : (st : Reader) (q : ℕ) (x : Walk) (i : ℕ) (p : Phase) (met : Met) → told_by (stands st q x) i p met ≡ told_by st i p met
told_again st q x i p Nothing = refl
told_again st q x i p (Whole k n) = refl
told_again st q x i p (Lost n) = refl

-- ---- a line begun
module _ (c a : ℕ) (wide : 1920 ≤ c) (st : Reader) (q : ℕ) (line room : List ℕ) (fit : read_fault_in c st (length line) (length room) ≡ 0) (at : st.place ≡ Some q) (given : a ≡ 0 → ⊥) where
  r : ReadyIn c st line room
  r = ready c st line room fit

  abbrev unit : ℕ
  unit = unit_of st.settings.block

  module _ (x : Walk) (k : Cuts c a st q line room x) where
    consumed : k.count ≡ x.answer.taken / unit_of st.settings.block
    consumed = sym (ap (λ (t : ℕ). t / unit) k.whole ∙ mul-div_cancel k.count k.one)

    -- from another name of the place
    from : (p : ℕ) → st.place ≡ Some p → q + x.answer.taken ≡ p + k.count * unit_of st.settings.block
    from p e = ap₂ (λ (i j : ℕ). i + j) (at_inj q p (sym at ∙ e)) k.whole

    -- what a reading call tells of a walk that is this one
    told_same : walk_from st q line room ≡ x → reading_in c st line room ≡ goes_from st q x
    told_same e = by_place c st line room (Some q) fit at ∙ ap (goes_from st q) e

    met_told : is_nothing x.answer.met ≡ false → Outcome c a st line room (goes_within a st q x)
    met_told e =
        let t = told_by st (q + x.answer.taken) x.answer.phase x.answer.met in
        let m = told_met st (q + x.answer.taken) x.answer.phase x.answer.met e in
        subst (Outcome c a st line room) (goes_told a st q x k.count consumed (ap (λ (b : Bool). b && eqb k.count a) e))
        (is_told_lem k.count t x.room
        (record {
          same = told_same (k.stop e);
          moved = λ p next e₁ e₂. at_inj next (q + x.answer.taken) (sym e₂ ∙ m.0) ∙ from p e₁;
          ended = λ p e₁ e₂. absurd (true_false (sym (ap is_end e₂) ∙ m.1));
          opened = λ e₁. absurd (shut_at q (sym e₁ ∙ at));
          met = λ e₁ e₂. (k.some e, k.at_most);
        }))

    end_told : is_nothing x.answer.met ≡ true → (k.count ≡ a → ⊥) → eqb k.count a ≡ false → Outcome c a st line room (goes_within a st q x)
    end_told e h f =
        let t = told_by st (q + x.answer.taken) x.answer.phase x.answer.met in
        let m = told_end st (q + x.answer.taken) x.answer.phase x.answer.met e in
        let n = k.ends e h in
        subst (Outcome c a st line room) (goes_told a st q x k.count consumed (ap₂ ◌&&◌ e f))
        (is_told_lem k.count t x.room
        (record {
          same = told_same n.0;
          moved = λ p next e₁ e₂. absurd (shut_at next (sym m.0 ∙ e₂));
          ended = λ p e₁ e₂. (sym n.1 ∙ from p e₁, omega (arith, h, k.at_most));
          opened = λ e₁. absurd (shut_at q (sym e₁ ∙ at));
          met = λ e₁ e₂. absurd (true_false (sym m.1 ∙ e₂));
        }))

    -- the state of a pause is possible
    stands_fit : read_fault_in c (stands st q x) (length line) (length x.room) ≡ 0
    stands_fit =
        let g = k.stays in
        unfaulted (stands st q x) line x.room
        (record {
          fit = r.fit;
          long = k.room_long ∙ r.long;
          state = told_possible st q line room at r (q + x.answer.taken) x.answer.phase (Lost 0) g.placed g.varied g.phased;
        })

    stands_same : is_nothing x.answer.met ≡ true → k.count ≡ a → reading_in c (stands st q x) line x.room ≡ reading_in c st line room
    stands_same e h =
        let taken = x.answer.taken in
        let y = walk_from (stands st q x) (q + taken) line x.room in
        let sum : q + taken + y.answer.taken ≡ q + (taken + y.answer.taken) = omega arith in
        by_place c (stands st q x) line x.room (Some (q + taken)) stands_fit refl
        ∙ ap (λ (t : Told). reply t y.room)
        (told_again st q x (q + taken + y.answer.taken) y.answer.phase y.answer.met ∙ ap (λ (i : ℕ). told_by st i y.answer.phase y.answer.met) sum)
        ∙ ap (goes_from st q) (sym (k.on e h))
        ∙ sym (by_place c st line room (Some q) fit at)

    pause : is_nothing x.answer.met ≡ true → k.count ≡ a → Outcome c a st line room (goes_within a st q x)
    pause e h =
        subst (Outcome c a st line room)
        (ap (λ (n : ℕ). sliced (paused_at n (stands st q x)) x.room) (sym h) ∙ goes_paused a st q x k.count consumed (ap₂ ◌&&◌ e (eq-eqb k.count a h)))
        (is_paused (stands st q x) x.room
        (record {
          same = stands_same e h;
          fit = fit;
          again = stands_fit;
          begun = λ z. ap is_at at;
          one = λ z. k.one;
          moved = λ p e₁.
              let sum : q + x.answer.taken ≡ p + a * unit = from p e₁ ∙ ap (λ (n : ℕ). p + n * unit) h in
              (ap Some sum, omega (arith, sym sum, placed_end (system_of st.system).payload st.settings.block st.settings.flag (q + x.answer.taken) k.stays.placed));
          still = λ z. absurd (given z);
          of_system = refl;
          of_mode = refl;
          of_last = refl;
          of_settings = refl;
        }))

    by_met : Outcome c a st line room (goes_within a st q x)
    by_met = go (is_nothing x.answer.met) refl (eqb k.count a) refl
      where
        go : (b : Bool) → is_nothing x.answer.met ≡ b → (d : Bool) → eqb k.count a ≡ d → Outcome c a st line room (goes_within a st q x)
        go false e d f = met_told e
        go true e true f = pause e (eqb-true k.count a f)
        go true e false f = end_told e (eqb-false k.count a f) f

  on_outcome : Outcome c a st line room (goes_within a st q (walk_within a st q line room))
  on_outcome = by_met (walk_within a st q line room) (cuts a st q line room at r wide)

-- ---- any call
refused_outcome : (c a : ℕ) (st : Reader) (line room : List ℕ) (n : ℕ) → suc n ≡ read_fault_in c st (length line) (length room) → Outcome c a st line room (within_in c a st line room)
refused_outcome c a st line room n is =
    let ne : suc n ≡ 0 → ⊥ = λ z. omega arith in
    subst (Outcome c a st line room) (within_refused c a st line room (suc n) is ne)
    (is_told_lem 0 (record { event = Refused (suc n) false; state = st }) room
    (record {
      same = sym (read_refused c st line room (suc n) is ne);
      moved = λ q next e₁ e₂. let same = at_inj next q (sym e₂ ∙ e₁) in omega arith;
      ended = λ q e₁ e₂. absurd (true_false (sym (ap is_end e₂)));
      opened = λ e₁. refl;
      met = λ e₁ e₂. absurd (true_false e₂);
    }))

none_outcome : (c : ℕ) (st : Reader) (line room : List ℕ) → 0 ≡ read_fault_in c st (length line) (length room) → Outcome c 0 st line room (within_in c 0 st line room)
none_outcome c st line room is =
    subst (Outcome c 0 st line room) (within_none c 0 st line room 0 is refl refl)
    (is_paused st room
    (record {
      same = refl;
      fit = sym is;
      again = sym is;
      begun = λ z. absurd (omega arith);
      one = λ z. absurd (omega arith);
      moved = λ q e₁.
          let none : q ≡ q + 0 * unit_of st.settings.block = omega arith in
          (e₁ ∙ ap Some none, omega (arith, in_end st q line room e₁ (ready c st line room (sym is))));
      still = λ z. (refl, refl);
      of_system = refl;
      of_mode = refl;
      of_last = refl;
      of_settings = refl;
    }))

pub outcome : (c a : ℕ) → 1920 ≤ c → (st : Reader) (line room : List ℕ) → Outcome c a st line room (within_in c a st line room)
outcome c a wide st line room = go (read_fault_in c st (length line) (length room)) refl a refl st.place refl
  where
    go : (n : ℕ) → read_fault_in c st (length line) (length room) ≡ n → (b : ℕ) → a ≡ b → (p : Option ℕ) → st.place ≡ p → Outcome c a st line room (within_in c a st line room)
    go (suc n) is b e p at = refused_outcome c a st line room n (sym is)
    go zero is zero e p at = subst (λ (k : ℕ). Outcome c k st line room (within_in c k st line room)) (sym e) (none_outcome c st line room (sym is))
    go zero is (suc b) e None at =
        subst (Outcome c a st line room) (within_goes c a st line room 0 (sym is) None refl (λ z. omega arith) at)
        (is_told_lem 0 (starts st (checked_of st.system st.mode line)) room
        (record {
          same = by_place c st line room None is at;
          moved = λ q next e₁ e₂. absurd (shut_at q (sym at ∙ e₁));
          ended = λ q e₁ e₂. absurd (shut_at q (sym at ∙ e₁));
          opened = λ e₁. refl;
          met = λ e₁ e₂. absurd (true_false (sym e₁ ∙ ap is_at at));
        }))
    go zero is (suc b) e (Some q) at =
        subst (Outcome c a st line room) (within_goes c a st line room 0 (sym is) (Some q) refl (λ z. omega arith) at)
        (on_outcome c a wide st q line room is at (λ z. omega arith))
