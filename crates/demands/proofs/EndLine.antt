-- A line closed: what the ear hears of it where it is kept, and what holds between this line and the next, whatever its fate.
-- Assumes nothing.
use Rattle.std.specs.Prelude.{Some}
use Prim.Native.Nat.{ℕ, zero, suc, ◌+◌, ◌-◌, ◌*◌, ◌≤◌}
use mathlib.Core.Bool.{Bool, true, false}
use mathlib.Core.List.{List, [], ◌++◌, append-nil}
use mathlib.Core.Path.{◌≡◌, refl, sym, ap, ap₂, ◌∙◌, subst}
use native.Mathlib.Nat.{add-zero, add-mul}
use native.Mathlib.Omega.{arith}
use lib.ListN.{length, take, replicate}
use Rattle.lists.specs.Lists.{part}
use Rattle.lists.proofs.Lists.{part_part}
use Rattle.lists.proofs.Tests.{true_false, pick_true, pick_false}
use Rattle.line.specs.declared.settings.Settings.{Settings}
use Rattle.line.specs.Systems.{system_of}
use Rattle.line.specs.Fixed.{is_variable, places_of, size_of}
use Rattle.line.specs.Layout.{payload_at, area_length, area_of}
use Rattle.line.specs.Check.{number_of, settings_of, fits, line_fault, checked_from, checked_of}
use Rattle.line.specs.declared.check.Checked.{Checked}
use Rattle.course.specs.Course.{is_at, blocks_end}
use Rattle.course.proofs.CourseLaws.{end_in_area, start_placed, grid_some}
use Rattle.writer.specs.declared.state.Answer.TheVariants.{Done}
use Rattle.writer.specs.State.{is_part}
use Rattle.writer.specs.Closing.{closing}
use Rattle.writer.specs.Filling.{joined, area_from}
use Rattle.machine.specs.declared.phase.Phase.{Phase}
use Rattle.machine.specs.declared.phase.Phase.TheVariants.{Idle}
use Rattle.machine.specs.Places.{places_in}
use Rattle.machine.proofs.Cut.{front_places}
use Rattle.demands.specs.Sending.{Desk, closed_by}
use Rattle.demands.specs.Hearing.{Heard}
use Rattle.demands.specs.Damage.{all_on, survivors}
use Rattle.demands.proofs.Run.{Now, now, idle, run_to, run_out, places_to, places_out}
use Rattle.demands.proofs.RunLaws.{run_to_append, run_out_append}
use Rattle.demands.proofs.BlockRun.{filler_out, filler_to}
use Rattle.demands.proofs.PlaceRun.{empties, places_out_append, places_to_append, places_empty, places_stay, places_of_lem}
use Rattle.demands.proofs.LineRun.{left_out, left_to, block_part, area_out, area_to}
use Rattle.demands.proofs.Ear.{Ear, own, refusal, input_by, input_of}
use Rattle.demands.proofs.DeskOk.{OpenNow, DeskOk}
use Rattle.demands.proofs.Outcomes.{Closes}
use Rattle.demands.proofs.DeskCalls.{shut_at, none_left, fixed_none}
use Rattle.demands.proofs.DeskCloses.{long_joined}
use Rattle.demands.proofs.Ahead.{blocks_heard, Matches, ByWords, ByPlaces, Inside, is_known, Between, Listens, Ahead}
use Rattle.demands.proofs.StartLine.{idle_behind, matches_idle}

-- ---- what the line check found
fault_none : (line : List ℕ) (k : ℕ) → (checked_from k line).fault ≡ 0 → k ≡ 0
fault_none line zero e = refl
fault_none line (suc k) e = absurd (omega arith)

pub record Found (system mode n : ℕ) (t : Settings) (line : List ℕ) : Type 0 where
  pub clear : line_fault system mode line ≡ 0
  pub number : number_of line ≡ n
  pub settings : settings_of line ≡ t

pub found : (system mode n : ℕ) (t : Settings) (line : List ℕ) → checked_of system mode line ≡ record { fault = 0; number = n; settings = t } → Found system mode n t line
unfolding checked_of
found system mode n t line e =
    let z = fault_none line (line_fault system mode line) (ap (λ (c : Checked). c.fault) e) in
    let k : checked_from 0 line ≡ record { fault = 0; number = n; settings = t } = sym (ap (λ (i : ℕ). checked_from i line) z) ∙ e in
    record { clear = z; number = ap (λ (c : Checked). c.number) k; settings = ap (λ (c : Checked). c.settings) k }

-- what an accepted line and a refused one are to the ear
pub own_input : (system mode n : ℕ) (t : Settings) (line : List ℕ) → fits system mode line ≡ true → Found system mode n t line
    → input_of system mode line ≡ own n t (block_part system t line)
unfolding input_of
own_input system mode n t line fit f =
    pick_true _ _ fit
    ∙ ap (λ (k : ℕ). input_by system k line) f.clear
    ∙ ap₂ (λ (i : ℕ) (u : Settings). own i u (block_part system u line)) f.number f.settings

refused_by_lem : (system : ℕ) (line : List ℕ) (k : ℕ) → (k ≡ 0 → ⊥) → input_by system k line ≡ refusal k
refused_by_lem system line zero h = absurd (h refl)
refused_by_lem system line (suc k) h = refl

pub refusal_input : (system mode : ℕ) (line : List ℕ) → fits system mode line ≡ true → (line_fault system mode line ≡ 0 → ⊥)
    → input_of system mode line ≡ refusal (line_fault system mode line)
unfolding input_of
refusal_input system mode line fit bad = pick_true _ _ fit ∙ refused_by_lem system line (line_fault system mode line) bad

module _ (system mode cap : ℕ) (keeps : ℕ → Bool) (d : Desk) (dk : DeskOk system mode d) (o : OpenNow system mode d) (c : Closes system mode d) (q : Now) where
  abbrev t : Settings
  t = d.now.settings

  abbrev payload : ℕ
  payload = (system_of system).payload

  abbrev area : List ℕ
  area = area_from (system_of system).payload d.now.settings.flag d.now.pieces

  abbrev line : List ℕ
  line = (closing d.writer d.now.words).line

  -- ---- a variable line: what was laid, and filler
  variable_words : is_variable d.now.settings.block ≡ true → block_part system d.now.settings line ≡ area
  unfolding area_of blocks_end
  variable_words v =
      ap (λ (n : ℕ). part (payload_at (system_of system)) n line) (pick_true (area_length payload t.flag) (places_of payload t.block * size_of t.block) v) ∙ c.accepts.area_back

  module _ (w : ByWords mode cap keeps d q) where
    mid : Now
    mid = run_to mode q (joined d.now.pieces)

    abbrev count : ℕ
    count = area_length (system_of system).payload d.now.settings.flag - length (joined d.now.pieces)

    -- the filler changes nothing: there is none behind an unfinished block, and idle passes over it
    filler_says : (run_out mode mid (replicate count 0x200) ≡ []) × (run_to mode mid (replicate count 0x200) ≡ mid)
    unfolding mid
    filler_says = by (is_part d.writer.rest) refl
      where
        by : (b : Bool) → is_part d.writer.rest ≡ b → (run_out mode mid (replicate count 0x200) ≡ []) × (run_to mode mid (replicate count 0x200) ≡ mid)
        by true e =
            let f = c.full e in
            let z : count ≡ 0 = omega arith in
            (ap (λ (n : ℕ). run_out mode mid (replicate n 0x200)) z, ap (λ (n : ℕ). run_to mode mid (replicate n 0x200)) z)
        by false e =
            let i = idle_behind mode cap keeps d.pieces mid (none_left system mode d dk e) w.matches in
            let m : mid ≡ idle mid.room = ap (λ (p : Phase). now p mid.room) i in (
              ap (λ (x : Now). run_out mode x (replicate count 0x200)) m ∙ filler_out mode count mid.room,
              ap (λ (x : Now). run_to mode x (replicate count 0x200)) m ∙ filler_to mode count mid.room ∙ sym m,
            )

    words_heard : run_out mode q area ≡ blocks_heard (survivors keeps d.now.blocks)
    unfolding mid area_from
    words_heard =
        run_out_append mode q (joined d.now.pieces) (replicate count 0x200) ∙ ap₂ (λ (x y : List Heard). x ++ y) w.heard filler_says.0 ∙ append-nil _

    words_left : run_to mode q area ≡ mid
    unfolding mid area_from
    words_left = run_to_append mode q (joined d.now.pieces) (replicate count 0x200) ∙ filler_says.1

  -- ---- a fixed line: its places, and empty ones
  module _ (v : is_variable d.now.settings.block ≡ false) (w : ByPlaces mode cap keeps d q) where
    abbrev size : ℕ
    size = size_of d.now.settings.block

    abbrev places : ℕ
    places = places_of (system_of system).payload d.now.settings.block

    some_size : 1 ≤ size_of d.now.settings.block
    some_size = (grid_some payload t.block t.flag 0 v (start_placed system t o.openable.clean)).0

    end_is : blocks_end payload t.block t.flag ≡ places * size
    unfolding blocks_end
    end_is = pick_false (area_length payload t.flag) (places_of payload t.block * size_of t.block) v

    in_area : places * size ≤ area_length payload t.flag
    in_area = subst (λ (n : ℕ). n ≤ area_length payload t.flag) end_is (end_in_area system t o.openable.known o.openable.clean)

    fixed_words_lem : block_part system d.now.settings line ≡ take (places * size) area
    unfolding area_of
    fixed_words_lem =
        ap (λ (n : ℕ). part (payload_at (system_of system)) n line) end_is
        ∙ sym (part_part (payload_at (system_of system)) (area_length payload t.flag) 0 (places * size) line (omega (arith, in_area))
        ∙ ap (λ (i : ℕ). part i (places * size) line) (add-zero (payload_at (system_of system))))
        ∙ ap (take (places * size)) c.accepts.area_back

    abbrev empty : ℕ
    empty = places_of (system_of system).payload d.now.settings.block - length d.now.pieces

    -- the places that are left fit behind those that were laid
    fits_behind : empty * size ≤ area_length payload t.flag - length (joined d.now.pieces)
    fits_behind =
        let all : places ≡ length d.now.pieces + empty = omega (arith, c.within v) in
        let sum : places * size ≡ length d.now.pieces * size + empty * size = ap (λ (n : ℕ). n * size) all ∙ add-mul (length d.now.pieces) empty size in
        let l = long_joined size d.now.pieces (o.placed v) in
        let i = in_area in
        omega (arith, sum, l, i)

    places_are : places_in size places (block_part system d.now.settings line) ≡ d.now.pieces ++ empties size empty
    unfolding area_from
    places_are =
        let all : length d.now.pieces + empty ≡ places = omega (arith, c.within v) in
        ap (places_in size places) fixed_words_lem
        ∙ front_places size places (places * size) area (omega arith)
        ∙ places_of_lem size empty places d.now.pieces (o.placed v) all (area_length payload t.flag - length (joined d.now.pieces)) fits_behind

    places_heard : places_out mode q.room (places_in size places (block_part system d.now.settings line)) ≡ blocks_heard (survivors keeps d.now.blocks)
    places_heard =
        ap (places_out mode q.room) places_are
        ∙ places_out_append mode q.room d.now.pieces (empties size empty)
        ∙ ap₂ (λ (x y : List Heard). x ++ y) w.heard (places_empty mode size empty _ some_size)
        ∙ append-nil _

    places_left_lem : places_to mode q.room (places_in size places (block_part system d.now.settings line)) ≡ places_to mode q.room d.now.pieces
    places_left_lem =
        ap (places_to mode q.room) places_are
        ∙ places_to_append mode q.room d.now.pieces (empties size empty)
        ∙ places_stay mode size empty _ some_size

    none_owing : d.pieces ≡ []
    none_owing = fixed_none system mode d dk (ap (λ (u : Settings). is_variable u.block) c.settings_are ∙ v)

  -- ---- any line
  pub area_heard : Inside mode cap keeps d q → area_out (system_of system).payload mode d.now.settings q (block_part system d.now.settings (closing d.writer d.now.words).line) ≡ blocks_heard (survivors keeps d.now.blocks)
  unfolding left_out
  area_heard i = by (is_variable t.block) refl
    where
      by : (b : Bool) → is_variable t.block ≡ b → area_out payload mode t q (block_part system t line) ≡ blocks_heard (survivors keeps d.now.blocks)
      by true v = pick_true _ _ v ∙ ap (run_out mode q) (variable_words v) ∙ words_heard (i.by_words v)
      by false v = pick_false _ _ v ∙ places_heard v (i.by_places v)

  pub area_left : Inside mode cap keeps d q → Matches mode cap keeps d.pieces (area_to (system_of system).payload mode d.now.settings q (block_part system d.now.settings (closing d.writer d.now.words).line))
  unfolding left_to mid
  area_left i = by (is_variable t.block) refl
    where
      by : (b : Bool) → is_variable t.block ≡ b → Matches mode cap keeps d.pieces (area_to payload mode t q (block_part system t line))
      by true v =
          subst (Matches mode cap keeps d.pieces) (sym (pick_true _ _ v ∙ ap (run_to mode q) (variable_words v) ∙ words_left (i.by_words v))) (i.by_words v).matches
      by false v =
          let w = i.by_places v in
          subst (Matches mode cap keeps d.pieces)
          (sym (pick_false _ _ v ∙ ap (now q.phase) (places_left_lem v w)))
          (matches_idle mode cap keeps d.pieces (now q.phase (places_to mode q.room d.now.pieces)) (none_owing v w) w.phase w.long)

-- ---- between this line and the next
module _ (system mode cap : ℕ) (keeps : ℕ → Bool) (told : Bool) (d : Desk) (c : Closes system mode d) where
  abbrev next : Desk
  next = closed_by Done (closing d.writer d.now.words) d

  pub shut_ahead : (gone : Bool) (ear : Ear) → Listens (system_of system).lines cap ear
      → Between mode cap keeps told (closed_by Done (closing d.writer d.now.words) d) ear gone
      → Ahead system mode cap keeps told gone (closed_by Done (closing d.writer d.now.words) d) ear
  shut_ahead gone ear l b = record {
    listens = l;
    between = λ e. b;
    inside = λ e k h. absurd (true_false (sym e ∙ ap is_at c.state_place));
    none_dropped = λ e h g. absurd (true_false (sym e ∙ ap is_at c.state_place));
    missing = λ k p e least part. absurd (shut_at p (sym c.state_place ∙ e));
  }

  still_part : is_part next.writer.rest ≡ true → is_part d.writer.rest ≡ true
  still_part e = sym (ap is_part c.state_rest) ∙ e

  -- the line was kept
  pub kept_between : (ear : Ear) → Matches mode cap keeps d.pieces (now ear.phase ear.room) → ear.last ≡ Some d.now.number → ear.settings ≡ d.now.settings
      → Between mode cap keeps told (closed_by Done (closing d.writer d.now.words) d) ear false
  kept_between ear m l s = record {
    here = λ g. m;
    same = λ g e w. record { known = ap is_known l; last = λ z. l ∙ sym (c.state_last ∙ c.last_is); settings = s ∙ sym (c.state_settings ∙ c.settings_are) };
    away = λ g e. absurd (true_false (sym g));
  }

  -- it was not: an unfinished block has lost words
  pub removed_between : (ear : Ear) → (is_part d.writer.rest ≡ true → all_on keeps d.pieces ≡ false)
      → Between mode cap keeps told (closed_by Done (closing d.writer d.now.words) d) ear true
  removed_between ear h = record {
    here = λ g. absurd (true_false g);
    same = λ g e w. absurd (true_false g);
    away = λ g e. h (still_part e);
  }

  pub replaced_between : (ear : Ear) → DeskOk system mode d → ear.phase ≡ Idle → length ear.room ≡ cap → (is_part d.writer.rest ≡ true → all_on keeps d.pieces ≡ false)
      → Between mode cap keeps told (closed_by Done (closing d.writer d.now.words) d) ear false
  replaced_between ear dk i l h = record {
    here = λ g. by (is_part d.writer.rest) refl;
    same = λ g e w. absurd (true_false (sym w ∙ h (still_part e)));
    away = λ g e. absurd (true_false (sym g));
  }
    where
      by : (b : Bool) → is_part d.writer.rest ≡ b → Matches mode cap keeps d.pieces (now ear.phase ear.room)
      by true e = record { long = l; whole = λ w. absurd (true_false (sym w ∙ h e)); lost = λ w. i }
      by false e = matches_idle mode cap keeps d.pieces (now ear.phase ear.room) (none_left system mode d dk e) i l
