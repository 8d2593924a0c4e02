-- A call under an allowance, by what it reports; and how much is left to consume behind it.
-- Assumes nothing.
use Rattle.std.specs.Prelude.{Option, Some, None}
use Prim.Native.Nat.{ℕ, zero, suc, ◌+◌, ◌-◌, ◌*◌, ◌/◌, ◌≤◌, ◌<◌}
use mathlib.Core.Bool.{Bool, true, false}
use mathlib.Core.List.{List}
use mathlib.Core.Logic.{⊎_elim}
use mathlib.Core.Path.{◌≡◌, refl, sym, ap, ap₂, ◌∙◌, subst}
use native.Mathlib.Nat.{zero-div, add-mul-div_right, le-div_iff_mul-le, div-mul-le_self, mul-le-mul_left}
use native.Mathlib.Omega.{arith}
use lib.ListN.{length}
use borrow.Author.Tests.{eqb-true, not-false}
use Rattle.lists.specs.Tests.{pick}
use Rattle.lists.proofs.Tests.{true_false, pick_true, pick_false}
use Rattle.line.specs.declared.settings.Settings.{Settings}
use Rattle.line.specs.Systems.{system_of}
use Rattle.line.specs.Settings.{settings_fault}
use Rattle.line.specs.Fixed.{is_variable, places_of, size_of}
use Rattle.line.specs.Layout.{area_length}
use Rattle.line.specs.Check.{settings_of, fits, line_fault}
use Rattle.course.specs.Course.{place_of, blocks_end}
use Rattle.course.proofs.CourseLaws.{at_place, start_placed, grid_count}
use Rattle.reader.specs.declared.state.Reader.{Reader}
use Rattle.reader.specs.declared.state.Event.{Event}
use Rattle.reader.specs.declared.state.Event.TheVariants.{Refused, End}
use Rattle.reader.specs.declared.state.Told.{Told as Tale}
use Rattle.reader.specs.declared.within.Report.{Report}
use Rattle.reader.specs.declared.within.Report.TheVariants.{Paused, Told}
use Rattle.reader.specs.State.{capacity, impossible}
use Rattle.reader.specs.Reading.{Reply, reply, read_fault, reading}
use Rattle.reader.specs.Lending.{is_last}
use Rattle.reader.specs.Within.{Sliced, sliced, paused_at, tells, unit_of, within}
use Rattle.reader.proofs.ReadLaws.{read_refused}
use Rattle.reader.proofs.Ready.{at_q}
use Rattle.reader.proofs.Ends.{end_in, Ended, Further, Moves, in_area, Starts, begun_starts}
use Rattle.reader.proofs.Cutting.{unit_variable, unit_fixed, cuts}
use Rattle.reader.proofs.WithinLaws.{within_refused, within_none, within_goes}
use Rattle.reader.proofs.Pausing.{Pauses, Tells, Outcome, is_paused, is_told_lem}
use Rattle.reader.proofs.AtCapacity.{enough, Ready, ready, by_place, accepts, refuses, read_possible, call_moves, outcome}
use Rattle.demands.specs.Allowed.{count_in, end_of}

-- ---- by the report
abbrev event_of : Report → Event
event_of Paused = End
event_of (Told e) = e

abbrev is_told : Report → Bool
is_told Paused = false
is_told (Told e) = true

module _ (a : ℕ) (st : Reader) (line room : List ℕ) where
  told_by_lem : (s : Sliced) → Outcome capacity a st line room s → (e : Event) → s.answer.report ≡ Told e
      → Tells capacity a st line room s.answer.consumed (record { event = e; state = s.answer.state }) s.room
  told_by_lem _ (is_paused st' room' k) e h = absurd (true_false (sym (ap is_told h)))
  told_by_lem _ (is_told_lem n t room' k) e h = subst (λ (x : Event). Tells capacity a st line room n (record { event = x; state = t.state }) room') (ap event_of h) k

  pub telling : (e : Event) → (within a st line room).answer.report ≡ Told e
      → Tells capacity a st line room (within a st line room).answer.consumed (record { event = e; state = (within a st line room).answer.state }) (within a st line room).room
  telling = told_by_lem (within a st line room) (outcome a st line room)

  paused_by : (s : Sliced) → Outcome capacity a st line room s → s.answer.report ≡ Paused
      → Pauses capacity a st line room s.answer.state s.room × (s.answer.consumed ≡ a)
  paused_by _ (is_paused st' room' k) h = (k, refl)
  paused_by _ (is_told_lem n t room' k) h = absurd (true_false (ap is_told h))

  pub pausing : (within a st line room).answer.report ≡ Paused
      → Pauses capacity a st line room (within a st line room).answer.state (within a st line room).room × ((within a st line room).answer.consumed ≡ a)
  pausing = paused_by (within a st line room) (outcome a st line room)

  -- ---- the places moved on
  moved_by : (s : Sliced) → Outcome capacity a st line room s → (q next : ℕ) → st.place ≡ Some q → s.answer.state.place ≡ Some next
      → next ≡ q + s.answer.consumed * unit_of st.settings.block
  moved_by _ (is_paused st' room' k) q next e f = ap place_of (sym f ∙ (k.moved q e).0)
  moved_by _ (is_told_lem n t room' k) q next e f = k.moved q next e f

  pub moves : (q next : ℕ) → st.place ≡ Some q → (within a st line room).answer.state.place ≡ Some next
      → next ≡ q + (within a st line room).answer.consumed * unit_of st.settings.block
  moves = moved_by (within a st line room) (outcome a st line room)

  -- ---- a possible state
  possible_by : (s : Sliced) → Outcome capacity a st line room s → impossible st ≡ false → impossible s.answer.state ≡ false
  possible_by _ (is_paused st' room' k) p = (ready st' line room' k.again).state
  possible_by _ (is_told_lem n t room' k) p = ap (λ (x : Reply). impossible x.told.state) (sym k.same) ∙ read_possible st line room p

  pub stays_possible : impossible st ≡ false → impossible (within a st line room).answer.state ≡ false
  stays_possible = possible_by (within a st line room) (outcome a st line room)

  -- ---- the order of answers
  pub refused_first : (n : ℕ) → read_fault st (length line) (length room) ≡ n → 1 ≤ n → within a st line room ≡ sliced (tells 0 (record { event = Refused n false; state = st })) room
  refused_first n is h = sym (within_refused capacity a st line room n (sym is) (λ z. omega arith))

  pub opens : 1 ≤ a → st.place ≡ None → within a st line room ≡ sliced (tells 0 (reading st line room).told) (reading st line room).room
  opens some at = go (read_fault st (length line) (length room)) refl
    where
      go : (n : ℕ) → read_fault st (length line) (length room) ≡ n → within a st line room ≡ sliced (tells 0 (reading st line room).told) (reading st line room).room
      go (suc n) is =
          refused_first (suc n) is (omega arith)
          ∙ ap (λ (x : Reply). sliced (tells 0 x.told) x.room) (read_refused capacity st line room (suc n) (sym is) (λ z. omega arith))
      go zero is =
          sym (within_goes capacity a st line room 0 (sym is) None refl (λ z. omega arith) at)
          ∙ ap (λ (x : Reply). sliced (tells 0 x.told) x.room) (sym (by_place st line room None is at))

pub pauses_at_once : (st : Reader) (line room : List ℕ) → read_fault st (length line) (length room) ≡ 0 → within 0 st line room ≡ sliced (paused_at 0 st) room
pauses_at_once st line room is = sym (within_none capacity 0 st line room 0 (sym is) refl refl)

-- ---- an allowance above the area
pub above_area : (a : ℕ) (st : Reader) (line room : List ℕ) → area_length (system_of st.system).payload st.settings.flag < a → (within a st line room).answer.report ≡ Paused → ⊥
above_area a st line room h e =
    let k = (pausing a st line room e).0 in
    let some : 1 ≤ a = omega arith in
    let q = place_of st.place in
    let at = at_place st.place (k.begun some) in
    let unit = unit_of st.settings.block in
    let long : a * 1 ≤ a * unit = mul-le-mul_left a (k.one some) in
    omega (arith, (k.moved q at).1, in_area capacity st q line room k.fit at, long)

-- ---- what is left to consume
left_by : Option ℕ → Reader → List ℕ → ℕ
left_by None st line = count_in (system_of st.system).payload (settings_of line)
left_by (Some q) st line = (end_of st - q) / unit_of st.settings.block

pub left : Reader → List ℕ → ℕ
unfolding left_by
left st line = left_by st.place st line

pub left_shut : (st : Reader) (line : List ℕ) → st.place ≡ None → left st line ≡ count_in (system_of st.system).payload (settings_of line)
unfolding left left_by
left_shut st line at = ap (λ (p : Option ℕ). left_by p st line) at

left_at : (st : Reader) (line : List ℕ) (q : ℕ) → st.place ≡ Some q → left st line ≡ (end_of st - q) / unit_of st.settings.block
unfolding left left_by
left_at st line q at = ap (λ (p : Option ℕ). left_by p st line) at

-- of another state of the same line
left_then : (st s : Reader) (line : List ℕ) (q : ℕ) → s.place ≡ Some q → s.system ≡ st.system → s.settings ≡ st.settings → left s line ≡ (end_of st - q) / unit_of st.settings.block
left_then st s line q at sys set =
    left_at s line q at
    ∙ ap₂ (λ (k : ℕ) (t : Settings). (blocks_end (system_of k).payload t.block t.flag - q) / unit_of t.block) sys set

nearer : (e q a u : ℕ) → 1 ≤ u → 1 ≤ a → q + a * u ≤ e → suc ((e - (q + a * u)) / u) ≤ (e - q) / u
nearer e q a u one some h =
    let sum : e - q ≡ e - (q + a * u) + a * u = omega arith in
    let by : (e - q) / u ≡ (e - (q + a * u)) / u + a = ap (λ (n : ℕ). n / u) sum ∙ add-mul-div_right (e - (q + a * u)) a one in
    omega (arith, by)

-- a pause has less left
pub pause_less : (a : ℕ) (st : Reader) (line room : List ℕ) (st' : Reader) (room' : List ℕ) → Pauses capacity a st line room st' room' → 1 ≤ a → suc (left st' line) ≤ left st line
pause_less a st line room st' room' k some =
    let q = place_of st.place in
    let at = at_place st.place (k.begun some) in
    let unit = unit_of st.settings.block in
    let m = k.moved q at in
    let was = left_at st line q at in
    let is = left_then st st' line (q + a * unit) m.0 k.of_system k.of_settings in
    omega (arith, was, is, nearer (end_of st) q a unit (k.one some) some m.1)

-- a line at its start: the words of its area, or its places
ends_variable : (p block flag : ℕ) → is_variable block ≡ true → blocks_end p block flag ≡ area_length p flag
unfolding blocks_end
ends_variable p block flag v = pick_true _ _ v

start_count : (system : ℕ) (t : Settings) → settings_fault system t ≡ 0
    → (blocks_end (system_of system).payload t.block t.flag - 0) / unit_of t.block ≡ count_in (system_of system).payload t
unfolding count_in
start_count system t clean = go (is_variable t.block) refl
  where
    go : (b : Bool) → is_variable t.block ≡ b
        → (blocks_end (system_of system).payload t.block t.flag - 0) / unit_of t.block
        ≡ pick (is_variable t.block) (area_length (system_of system).payload t.flag) (places_of (system_of system).payload t.block)
    go true v =
        let e : blocks_end (system_of system).payload t.block t.flag ≡ area_length (system_of system).payload t.flag = ends_variable (system_of system).payload t.block t.flag v in
        ap (λ (u : ℕ). (blocks_end (system_of system).payload t.block t.flag - 0) / u) (unit_variable t.block v) ∙ (omega (arith, e)) ∙ sym (pick_true _ _ v)
    go false v =
        let p = (system_of system).payload in
        let z = zero-div (size_of t.block) in
        let n : places_of p t.block - 0 / size_of t.block ≡ places_of p t.block = omega arith in
        ap (λ (u : ℕ). (blocks_end p t.block t.flag - 0) / u) (unit_fixed t.block v)
        ∙ grid_count p t.block t.flag 0 v (start_placed system t clean)
        ∙ n
        ∙ sym (pick_false _ _ v)

fewer : (e q n u : ℕ) → 1 ≤ u → q < n → (e - n) / u ≤ (e - q) / u
fewer e q n u one h = (le-div_iff_mul-le one).1 (omega (arith, div-mul-le_self (e - n) u))

-- ---- an event that is not the line's last has no more left
module _ (st : Reader) (line room : List ℕ) (t : Tale) (room' : List ℕ) (same : reading st line room ≡ reply t room') (on : is_last t.event ≡ false) where
  -- neither 1 nor 2: they are refusals
  fits_on : read_fault st (length line) (length room) ≡ 0
  fits_on = go (read_fault st (length line) (length room)) refl
    where
      go : (n : ℕ) → read_fault st (length line) (length room) ≡ n → read_fault st (length line) (length room) ≡ 0
      go zero is = is
      go (suc n) is =
          absurd (true_false (ap (λ (x : Reply). is_last x.told.event) (read_refused capacity st line room (suc n) (sym is) (λ z. omega arith) ∙ same) ∙ on))

  begun_on : st.place ≡ None → (n : ℕ) → line_fault st.system st.mode line ≡ n → left t.state line ≡ count_in (system_of st.system).payload (settings_of line)
  begun_on at (suc n) is =
      absurd (true_false (ap (λ (x : Reply). is_last x.told.event) (sym (refuses st line room fits_on at (suc n) is (λ z. omega arith)) ∙ same) ∙ on))
  begun_on at zero is =
      let s = subst (Starts st line room) (sym (accepts st line room fits_on at is) ∙ same) (begun_starts st line room) in
      let r = ready st line room fits_on in
      let again : Ready t.state line room' = record {
        fit = ap₂ (λ (i j : ℕ). fits i j line) s.same.system s.same.mode ∙ r.fit;
        long = s.same.room_long ∙ r.long;
        state = ap (λ (x : Reply). impossible x.told.state) (sym same) ∙ read_possible st line room r.state;
      } in
      let clean = eqb-true _ 0 (not-false _ (at_q t.state 0 line room' s.place again).clean) in
      left_at t.state line 0 s.place
      ∙ start_count t.state.system t.state.settings clean
      ∙ ap₂ (λ (k : ℕ) (u : Settings). count_in (system_of k).payload u) s.same.system s.settings

  further_on : (q : ℕ) → st.place ≡ Some q → left t.state line ≤ left st line
  further_on q at =
      let m = subst (Moves capacity st q line room) same (call_moves st q line room fits_on at) in
      ⊎_elim (λ (e : Ended (reply t room')). absurd (true_false (sym (ap is_last e.event) ∙ on)))
      (λ (f : Further q (end_in st) (reply t room')).
      let less = fewer (end_of st) q f.next (unit_of st.settings.block) (cuts 1 st q line room at (ready st line room fits_on) enough).one f.beyond in
      omega (arith, left_at st line q at, left_then st t.state line f.next f.place m.stands.same.system m.stands.settings, less))
      m.stands.moved

  pub told_less : left t.state line ≤ left st line
  told_less = go st.place refl
    where
      go : (p : Option ℕ) → st.place ≡ p → left t.state line ≤ left st line
      go None at = omega (arith, begun_on at _ refl, left_shut st line at)
      go (Some q) at = further_on q at
