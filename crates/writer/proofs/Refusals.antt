-- What a fault number 0 says, and what a possible state has.
-- Assumes nothing.
use Rattle.std.specs.Prelude.{Option, Some, None}
use mathlib.Core.Path.{◌≡◌, sym}
use mathlib.Core.Bool.{Bool, true, false, ◌&&◌, ◌||◌, not}
use mathlib.Core.List.{List}
use Prim.Native.Nat.{ℕ, ◌+◌, ◌≤◌, ◌<◌}
use native.Mathlib.Omega.{arith}
use lib.Dec.{ltb, leb, eqb}
use lib.ListN.{length}
use borrow.Author.Tests.{ltb-false, leb-true, leb-false, eqb-true, not-false}
use Rattle.lists.proofs.Tests.{true_false, or_right, or_false, false_or, both_true}
use Rattle.lists.proofs.Refusals.{lowest_clear, clear_lowest, clear_append, clear_split}
use Rattle.words.specs.Modes.{is_mode}
use Rattle.line.specs.declared.settings.Settings.{Settings}
use Rattle.line.specs.Systems.{system_of, is_system}
use Rattle.line.specs.Fixed.{is_variable}
use Rattle.line.specs.Settings.{settings_faults, settings_fault, same_settings}
use Rattle.line.specs.Check.{fits_length}
use Rattle.course.specs.Course.{is_at, place_of, impossible_after}
use Rattle.line.proofs.SystemLaws.{Sound, sound, Fit, fitting}
use Rattle.line.proofs.CheckLaws.{settings_rising}
use Rattle.line.proofs.AreaLaws.{area_most}
use Rattle.course.proofs.CourseLaws as laws
use Rattle.course.proofs.CourseLaws.{end_in_area}
use Rattle.writer.specs.declared.state.Writer.{Writer}
use Rattle.writer.specs.State.{most, is_part, laid_of, misshapen, overlong, overfull, impossible, end_in}
use Rattle.writer.specs.Adding.{valued, ill_shaped, is_full, is_other, add_faults, add_fault}
use Rattle.writer.specs.Opening.{is_next, open_blocked, open_faults, open_fault}
use Rattle.writer.specs.Closing.{close_faults, close_fault}
use Rattle.writer.proofs.StateLaws.{open_rising, add_rising, close_rising}
use Rattle.writer.proofs.BlockLaws.{count, count_variable, count_between}
use Rattle.writer.specs.declared.state.Part.{Part}

-- ---- 1, 18, 19
fit_of : (w : Writer) (line : List ℕ) → not (fits_length w.system w.mode (length line)) ≡ false → (is_system w.system ≡ true) × Fit w.system w.mode line
unfolding fits_length
fit_of w line e =
    let f = not-false _ e in
    ((both_true (is_system w.system) _ f).0, fitting w.system w.mode line f)

shape_of : (place : Option ℕ) (block kind n : ℕ) → ill_shaped place block kind n ≡ false → (n ≤ most) × (kind < 256)
unfolding ill_shaped
shape_of place block kind n e =
    let a = or_false (ltb most n) _ e in
    let k = ltb-false 255 kind (or_false (ltb 255 kind) _ a.1).0 in
    (ltb-false most n a.0, omega arith)

room_of_place : (end : ℕ) (place : Option ℕ) → is_at place ≡ true → is_full end place ≡ false → place_of place < end
room_of_place end None o e = absurd (true_false (sym o))
room_of_place end (Some p) o e = leb-false end p e

-- ---- what a possible state holds with a line or a block begun
pub record Begun (w : Writer) : Type 0 where
  pub course : laws.Begun w.system w.last w.settings w.place (is_part w.rest)
  pub shaped : misshapen w.rest ≡ false
  pub short : overlong w.crc ≡ false
  pub gapped : overfull w.system w.used ≡ false

pub begun : (w : Writer) → impossible w ≡ false → (is_part w.rest || is_at w.place) ≡ true → Begun w
unfolding impossible
begun w e o =
    let h = or_false (impossible_after w.system w.last w.settings w.place (is_part w.rest)) _ e in
    let held = or_false (misshapen w.rest) _ h.1 in
    let more = or_false (overlong w.crc) _ held.1 in
    record { course = laws.begun w.system w.last w.settings w.place (is_part w.rest) h.0 o; shaped = held.0; short = more.0; gapped = more.1 }

pub possible_by : (w : Writer) → Begun w → impossible w ≡ false
unfolding impossible
possible_by w b = false_or (laws.begun_possible w.system w.last w.settings w.place (is_part w.rest) b.course) (false_or b.shaped (false_or b.short b.gapped))

-- ---- an unfinished block has a word left
laid_below : (block : ℕ) (rest : Option Part) (kind n : ℕ) → (is_part rest && not (is_variable block)) ≡ false → misshapen rest ≡ false → is_other rest kind n ≡ false
    → laid_of rest < count block n
laid_below block None kind n v m o = (count_between block n).0
laid_below block (Some p) kind n v m o =
    let a = (or_false (ltb most p.count) _ m).1 in
    let b = ltb-false (p.count + 6) p.laid (or_false (ltb p.laid 1) (ltb (p.count + 6) p.laid) a).1 in
    let e = eqb-true p.count n (both_true (eqb p.kind kind) (eqb p.count n) (not-false _ o)).1 in
    rw (count_variable block n (not-false _ v)) (omega arith)

-- ---- what an accepted opening finds
pub record CanOpen (w : Writer) (n : ℕ) (t : Settings) (long : ℕ) : Type 0 where
  pub known : is_system w.system ≡ true
  pub moded : is_mode w.mode ≡ true
  pub row : Sound (system_of w.system)
  pub state : impossible w ≡ false
  pub one : 1 ≤ n
  pub last : n ≤ (system_of w.system).lines
  pub clean : settings_fault w.system t ≡ 0
  pub shut : is_at w.place ≡ false
  -- an unfinished block goes on with the same settings and the next number
  pub goes : is_part w.rest ≡ true → (same_settings t w.settings ≡ true) × (is_next (system_of w.system).lines w.last n ≡ true)

goes_by : (part same next : Bool) → (part && (not same || not next)) ≡ false → part ≡ true → (same ≡ true) × (next ≡ true)
goes_by true same next e p = let h = or_false (not same) (not next) e in (not-false same h.0, not-false next h.1)
goes_by false same next e p = absurd (true_false (sym p))

pub can_open : (w : Writer) (n : ℕ) (t : Settings) (long : ℕ) → open_fault w n t long ≡ 0 → CanOpen w n t long
unfolding open_fault open_blocked fits_length settings_fault
can_open w n t long e =
    let c = lowest_clear (open_faults w n t long) (open_rising w n t long) e in
    let behind = clear_split (settings_faults (system_of w.system) t) _ c.1.1.1 in
    let fit = both_true (is_system w.system) _ (not-false _ c.0) in
    let range = both_true (leb 1 n) _ (not-false _ c.1.1.0) in
    let free = or_false (is_at w.place) _ behind.1.0 in
    record {
      known = fit.0;
      moded = (both_true (is_mode w.mode) _ fit.1).0;
      row = sound w.system fit.0;
      state = c.1.0;
      one = leb-true 1 n range.0;
      last = leb-true n _ range.1;
      clean = clear_lowest (settings_faults (system_of w.system) t) behind.0;
      shut = free.0;
      goes = goes_by (is_part w.rest) (same_settings t w.settings) (is_next (system_of w.system).lines w.last n) free.1;
    }

-- and the other way round
pub clear_open : (w : Writer) (n : ℕ) (t : Settings) (long : ℕ) → not (fits_length w.system w.mode long) ≡ false → impossible w ≡ false
    → not (leb 1 n && leb n (system_of w.system).lines) ≡ false → settings_fault w.system t ≡ 0 → open_blocked w n t ≡ false → open_fault w n t long ≡ 0
unfolding open_fault settings_fault
clear_open w n t long fit possible range clean free =
    let row = system_of w.system in
    clear_lowest (open_faults w n t long) (fit, (possible, (range, clear_append (settings_faults row t) _ (lowest_clear (settings_faults row t) (settings_rising row t) clean) (free, tt))))

-- ---- what an accepted addition finds
pub record CanAdd (w : Writer) (line : List ℕ) (kind : ℕ) (vs : List ℕ) : Type 0 where
  pub fit : Fit w.system w.mode line
  pub state : impossible w ≡ false
  pub begun : is_at w.place ≡ true
  pub values : valued w.mode vs ≡ true
  pub shape : ill_shaped w.place w.settings.block kind (length vs) ≡ false
  pub number : length vs ≤ most
  pub byte : kind < 256
  pub room : place_of w.place < end_in w
  pub end : end_in w ≤ (system_of w.system).payload
  pub same : is_other w.rest kind (length vs) ≡ false
  pub left : laid_of w.rest < count w.settings.block (length vs)

pub can_add : (w : Writer) (line : List ℕ) (kind : ℕ) (vs : List ℕ) → add_fault w (length line) kind vs ≡ 0 → CanAdd w line kind vs
unfolding add_fault
can_add w line kind vs e =
    let n = length vs in
    let block = w.settings.block in
    let c = lowest_clear (add_faults w (length line) kind vs) (add_rising w (length line) kind vs) e in
    let from_17 = c.1.1 in
    let o = or_false (not (is_at w.place)) _ from_17.1.1.1.0 in
    let at = not-false (is_at w.place) o.0 in
    let f = fit_of w line c.0 in
    let s = shape_of w.place block kind n from_17.1.0 in
    let h = begun w c.1.0 (or_right (is_part w.rest) (is_at w.place) at) in
    let area = area_most (system_of w.system).payload w.settings.flag in
    let end = end_in_area w.system w.settings f.0 (eqb-true _ 0 (not-false _ h.course.clean)) in
    record {
      fit = f.1;
      state = c.1.0;
      begun = at;
      values = not-false _ from_17.0;
      shape = from_17.1.0;
      number = s.0;
      byte = s.1;
      room = room_of_place (end_in w) w.place at from_17.1.1.0;
      end = omega (arith, area, end);
      same = o.1;
      left = laid_below block w.rest kind n h.course.varied h.shaped o.1;
    }

-- ---- what an accepted closing finds
pub record CanClose (w : Writer) (line : List ℕ) : Type 0 where
  pub fit : Fit w.system w.mode line
  pub state : impossible w ≡ false
  pub begun : is_at w.place ≡ true
  pub none_left : (is_part w.rest && not (is_full (end_in w) w.place)) ≡ false

pub can_close : (w : Writer) (line : List ℕ) → close_fault w (length line) ≡ 0 → CanClose w line
unfolding close_fault
can_close w line e =
    let c = lowest_clear (close_faults w (length line)) (close_rising w (length line)) e in
    let o = or_false (not (is_at w.place)) _ c.1.1.0 in
    record { fit = (fit_of w line c.0).1; state = c.1.0; begun = not-false (is_at w.place) o.0; none_left = o.1 }
