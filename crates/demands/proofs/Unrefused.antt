-- A call that no condition refuses is accepted: from the conditions, one by one, to the fault number 0 and the answer.
-- Assumes nothing.
use Rattle.std.specs.Prelude.{Option, Some}
use Prim.Native.Nat.{ℕ, ◌+◌, ◌-◌, ◌^◌, ◌≤◌, ◌<◌}
use mathlib.Core.Bool.{Bool, true, false, ◌&&◌, ◌||◌, not}
use mathlib.Core.List.{List, [], ◌∷◌, ◌++◌}
use mathlib.Core.Path.{◌≡◌, refl, sym, ap, ◌∙◌, subst}
use native.Mathlib.Omega.{arith}
use lib.Dec.{eqb, ltb}
use lib.ListN.{length, replicate, length-append, length-replicate}
use borrow.Author.Tests.{eqb-true, eq-eqb, ne_eqb, lt-ltb, le-ltb, le-leb, lt-leb}
use Rattle.lists.specs.Lists.{each}
use Rattle.lists.proofs.Tests.{true_false, false_or, and_true}
use Rattle.lists.proofs.Refusals.{clear_lowest}
use Rattle.lists.proofs.Lists.{eq_same}
use Rattle.words.specs.Modes.{is_mode, values}
use Rattle.line.specs.declared.settings.Settings.{Settings}
use Rattle.line.specs.Systems.{system_of, is_system}
use Rattle.line.specs.Fixed.{is_variable, size_of}
use Rattle.line.specs.Settings.{Held, settings_fault, same_settings}
use Rattle.line.specs.Check.{fits_length}
use Rattle.line.proofs.SystemLaws.{sound}
use Rattle.line.proofs.AreaLaws.{area_most}
use Rattle.line.proofs.SettingsLaws.{block_passes}
use Rattle.course.specs.Course.{is_at, blocks_end}
use Rattle.course.proofs.CourseLaws.{start_placed, grid_some, whole_small}
use Rattle.writer.specs.declared.state.Writer.{Writer}
use Rattle.writer.specs.State.{most, is_part, impossible, end_in}
use Rattle.writer.specs.Opening.{open_blocked, open_fault}
use Rattle.writer.specs.Adding.{valued, ill_shaped, is_full, is_other, add_faults, add_fault}
use Rattle.writer.specs.Closing.{close_faults, close_fault}
use Rattle.writer.proofs.Refusals.{clear_open}
use Rattle.writer.proofs.Framing.{front, front_length, framed_front}
use Rattle.writer.proofs.Writing.{Open}
use Rattle.demands.specs.All.{All}
use Rattle.demands.specs.Sending.{Block}
use Rattle.demands.specs.Writable.{Passes}
use Rattle.demands.proofs.DeskCloses.{area_some, end_variable}

-- ---- no condition holds
pub opens_clear : (w : Writer) (n : ℕ) (t : Settings) (long : ℕ) → fits_length w.system w.mode long ≡ true → impossible w ≡ false → 1 ≤ n → n ≤ (system_of w.system).lines
    → settings_fault w.system t ≡ 0 → open_blocked w n t ≡ false → open_fault w n t long ≡ 0
opens_clear w n t long fit possible one last clean free =
    clear_open w n t long (ap not fit) possible (ap not (and_true (le-leb 1 n one) (le-leb n (system_of w.system).lines last))) clean free

pub adds_clear : (w : Writer) (long kind : ℕ) (vs : List ℕ) → fits_length w.system w.mode long ≡ true → impossible w ≡ false → valued w.mode vs ≡ true
    → ill_shaped w.place w.settings.block kind (length vs) ≡ false → is_full (end_in w) w.place ≡ false → is_at w.place ≡ true
    → is_other w.rest kind (length vs) ≡ false → add_fault w long kind vs ≡ 0
unfolding add_fault
adds_clear w long kind vs fit possible fits shape left at same =
    clear_lowest (add_faults w long kind vs) (ap not fit, (possible, (ap not fits, (shape, (left, (false_or (ap not at) same, tt))))))

pub closes_clear : (w : Writer) (long : ℕ) → fits_length w.system w.mode long ≡ true → impossible w ≡ false → is_at w.place ≡ true
    → (is_part w.rest && not (is_full (end_in w) w.place)) ≡ false → close_fault w long ≡ 0
unfolding close_fault
closes_clear w long fit possible at left = clear_lowest (close_faults w long) (ap not fit, (possible, (false_or (ap not at) left, tt)))

-- ---- 1
pub fits_by : (system mode long : ℕ) → is_system system ≡ true → is_mode mode ≡ true → long ≡ (system_of system).length → fits_length system mode long ≡ true
unfolding fits_length
fits_by system mode long known moded e = and_true known (and_true moded (eq-eqb long (system_of system).length e))

-- an open line has the length of its system
pub open_long : (system mode : ℕ) (f v : Bool) (n : ℕ) (t : Settings) (gs a : List ℕ) (w : Writer) (line : List ℕ) → Held t → is_system system ≡ true
    → Open system mode f v n t gs a w line → length line ≡ (system_of system).length
open_long system mode f v n t gs a w line held known o =
    let row = sound system known in
    let p = (system_of system).payload in
    let filler : List ℕ = replicate (p - length a) 0x200 in
    ap length (o.is ∙ framed_front (system_of system) f v n t gs (a ++ filler))
    ∙ omega (
      arith,
      length-append (front (system_of system) f v n t gs) (a ++ filler),
      length-append a filler,
      length-replicate {A = ℕ} (p - length a) 0x200,
      front_length (system_of system) f v n t gs held row.room o.holds,
      o.within,
      area_most p t.flag,
      row.room,
    )

-- ---- 17 and 18
values_by : (mode : ℕ) → is_mode mode ≡ true → 2 ^ mode ≡ values mode
unfolding is_mode values
values_by mode e = by (eqb mode 8) (eqb mode 9) refl refl e
  where
    by : (a b : Bool) → eqb mode 8 ≡ a → eqb mode 9 ≡ b → (a || b) ≡ true → 2 ^ mode ≡ values mode
    by true b ha hb h = subst (λ (m : ℕ). 2 ^ m ≡ values m) (sym (eqb-true mode 8 ha)) refl
    by false true ha hb h = subst (λ (m : ℕ). 2 ^ m ≡ values m) (sym (eqb-true mode 9 hb)) refl
    by false false ha hb h = absurd (true_false (sym h))

each_below : (n : ℕ) (vs : List ℕ) → All (λ (v : ℕ). v < n) vs → each (λ (v : ℕ). ltb v n) vs ≡ true
each_below n [] h = refl
each_below n (v ∷ vs) h = and_true (lt-ltb v n h.0) (each_below n vs h.1)

pub passes_values : (mode : ℕ) (t : Settings) (b : Block) → is_mode mode ≡ true → Passes mode t b → valued mode b.values ≡ true
unfolding valued
passes_values mode t b moded p = ap (λ (n : ℕ). each (λ (v : ℕ). ltb v n) b.values) (sym (values_by mode moded)) ∙ each_below (2 ^ mode) b.values p.values

pub shape_by : (v : Bool) (at long none : Bool) → (v ≡ false → (long ≡ true) × (none ≡ false)) → ((at && not v) && (not long || none)) ≡ false
shape_by true true long none h = refl
shape_by true false long none h = refl
shape_by false false long none h = refl
shape_by false true long none h = false_or (ap not (h refl).0) (h refl).1

pub passes_shape : (mode : ℕ) (t : Settings) (b : Block) (place : Option ℕ) → Passes mode t b → ill_shaped place t.block b.kind (length b.values) ≡ false
unfolding ill_shaped
passes_shape mode t b place p =
    let n = length b.values in
    false_or (le-ltb most n p.number)
    (false_or (le-ltb 255 b.kind p.kind)
    (shape_by (is_variable t.block) (is_at place) (eqb (n + 1) (size_of t.block)) (eqb b.kind 0)
    (λ v. (eq-eqb (n + 1) (size_of t.block) (p.fixed v).0, ne_eqb b.kind 0 (λ z. omega (arith, z, (p.fixed v).1))))))

-- ---- 19: where blocks end, a line has a word
pub end_some : (system : ℕ) (t : Settings) → is_system system ≡ true → settings_fault system t ≡ 0 → 1 ≤ blocks_end (system_of system).payload t.block t.flag
end_some system t known clean = by (is_variable t.block) refl
  where
    by : (b : Bool) → is_variable t.block ≡ b → 1 ≤ blocks_end (system_of system).payload t.block t.flag
    by true v = omega (arith, end_variable (system_of system).payload t.block t.flag v, area_some system t.flag known)
    by false v =
        let p = (system_of system).payload in
        omega (arith, (grid_some p t.block t.flag 0 v (start_placed system t clean)).0, whole_small p t.block t.flag v (block_passes system t clean))

pub not_full : (end p : ℕ) → p < end → is_full end (Some p) ≡ false
not_full end p h = lt-leb end p h

-- ---- 20
pub same_again : (t : Settings) → same_settings t t ≡ true
unfolding same_settings
same_again t =
    and_true (eq-eqb t.code t.code refl)
    (and_true (eq-eqb t.aai t.aai refl)
    (and_true (eq_same t.destination t.destination refl)
    (and_true (eq_same t.source t.source refl)
    (and_true (eq-eqb t.block t.block refl) (and_true (eq-eqb t.flag t.flag refl) (eq_same t.reserved t.reserved refl))))))
