-- Laws of a course of lines: where blocks end, places of fixed and variable lines, and what a possible course has.
-- Assumes nothing.
use Rattle.std.specs.Prelude.{Option, Some, None}
use mathlib.Core.Path.{◌≡◌, refl, sym, ap, ap₂, ◌∙◌, subst}
use mathlib.Core.Bool.{Bool, true, false, ◌&&◌, ◌||◌, not}
use Prim.Native.Nat.{ℕ, zero, suc, ◌+◌, ◌-◌, ◌*◌, ◌/◌, ◌%◌, ◌≤◌, ◌<◌}
use native.Mathlib.Nat.{zero-mod, mod-add-div', add-mul, add-mul-mod_self_right, suc-mul, mul-le-mul_right, lt_of_mul-lt-mul_right, le_of_mul-le-mul_right, one-mul, mul-div_cancel}
use native.Mathlib.Omega.{arith}
use lib.Dec.{eqb, leb, ltb}
use borrow.Author.Tests.{eqb-true, eqb-false, eq-eqb, le-ltb, ltb-false, not-false}
use Rattle.lists.specs.Tests.{pick}
use Rattle.lists.proofs.Tests.{true_false, or_left, or_false, false_or, pick_false}
use Rattle.line.specs.declared.settings.Settings.{Settings}
use Rattle.line.specs.declared.fixed.Fixed.{Fixed}
use Rattle.line.specs.Systems.{system_of, is_system}
use Rattle.line.specs.Fixed.{is_variable, fixed_of, places_of, size_of, fills_all, block_refused}
use Rattle.line.specs.Settings.{settings_fault, same_settings}
use Rattle.line.specs.Layout.{area_length}
use Rattle.line.proofs.FixedLaws.{places_in_area, size_some}
use Rattle.line.proofs.SettingsLaws.{block_passes, same_block}
use Rattle.course.specs.Course.{is_at, place_of, blocks_end, off_grid, misplaced, impossible_after}
use Rattle.course.specs.Looks.{misplaced_by}

-- ---- the rules by what was found of the settings
pub end_found : (p block flag : ℕ) (row : Fixed) → row ≡ fixed_of block
    → pick (is_variable block) (area_length p flag) (pick (eqb p 1440) row.at270 row.at360 * row.size) ≡ blocks_end p block flag
unfolding blocks_end places_of size_of
end_found p block flag row hr = ap (λ (x : Fixed). pick (is_variable block) (area_length p flag) (pick (eqb p 1440) x.at270 x.at360 * x.size)) hr

found_misplaced : (p block flag : ℕ) (place : Option ℕ) → misplaced_by (is_variable block) (blocks_end p block flag) (size_of block) place ≡ misplaced p block flag place
unfolding off_grid
found_misplaced p block flag None = refl
found_misplaced p block flag (Some q) = refl

-- a place is misplaced by what was found exactly where it is misplaced
pub off_found : (p block flag : ℕ) (place : Option ℕ) (row : Fixed) (v : Bool) (end : ℕ) → row ≡ fixed_of block → is_variable block ≡ v → end ≡ blocks_end p block flag
    → misplaced_by v end row.size place ≡ misplaced p block flag place
unfolding size_of
off_found p block flag place row v end hr hv he =
    ap₂ (λ (b : Bool) (n : ℕ). misplaced_by b n row.size place) (sym hv) he
    ∙ ap (λ (x : Fixed). misplaced_by (is_variable block) (blocks_end p block flag) x.size place) hr
    ∙ found_misplaced p block flag place

-- with a good number and good settings: a variable line asks the place alone, a fixed one also that no block is open
asked_by : (n f m v busy : Bool) → n ≡ false → f ≡ false → (n || (f || (m || (busy && not v)))) ≡ pick v m (m || busy)
unfolding pick
asked_by true f m v busy hn hf = absurd (true_false hn)
asked_by false true m v busy hn hf = absurd (true_false hf)
asked_by false false true true busy hn hf = refl
asked_by false false true false busy hn hf = refl
asked_by false false false true true hn hf = refl
asked_by false false false true false hn hf = refl
asked_by false false false false true hn hf = refl
asked_by false false false false false hn hf = refl

pub asked_after : (system x : ℕ) (t : Settings) (place : Option ℕ) (busy : Bool) → not (leb 1 x && leb x (system_of system).lines) ≡ false → settings_fault system t ≡ 0
    → impossible_after system (Some x) t place busy
    ≡ pick (is_variable t.block) (misplaced (system_of system).payload t.block t.flag place) (misplaced (system_of system).payload t.block t.flag place || busy)
asked_after system x t place busy hn hf = asked_by _ _ (misplaced (system_of system).payload t.block t.flag place) (is_variable t.block) busy hn (ap not (eq-eqb _ _ hf))

-- ---- on the grid or not
on_grid : (block q : ℕ) → off_grid block q ≡ false → q % size_of block ≡ 0
unfolding off_grid
on_grid block q e = eqb-true _ _ (not-false _ (or_false (eqb (size_of block) 0) _ e).1)

-- ---- where blocks end: in the area
ends_fixed : (p block flag : ℕ) → is_variable block ≡ false → blocks_end p block flag ≡ places_of p block * size_of block
unfolding blocks_end
ends_fixed p block flag v = pick_false _ _ v

pub end_in_area : (system : ℕ) (t : Settings) → is_system system ≡ true → settings_fault system t ≡ 0
    → blocks_end (system_of system).payload t.block t.flag ≤ area_length (system_of system).payload t.flag
unfolding blocks_end pick
end_in_area system t known e = go (is_variable t.block) refl
  where
    go : (b : Bool) → is_variable t.block ≡ b
        → pick b (area_length (system_of system).payload t.flag) (places_of (system_of system).payload t.block * size_of t.block)
        ≤ area_length (system_of system).payload t.flag
    go true v = omega arith
    go false v = places_in_area system known t.block t.flag v (block_passes system t e)

-- ---- places
-- a line that is begun is begun at its place
pub at_place : (place : Option ℕ) → is_at place ≡ true → place ≡ Some (place_of place)
at_place None e = absurd (true_false (sym e))
at_place (Some q) e = refl

-- a line starts at a place
start_by_lem : (v a z c g : Bool) → (not v && (a || (z || c))) ≡ false → (z ≡ false → g ≡ false) → (not v && g) ≡ false
start_by_lem true a z c g e h = refl
start_by_lem false a z c g e h = h (or_false z c (or_false a (z || c) e).1).0

pub start_placed : (system : ℕ) (t : Settings) → settings_fault system t ≡ 0 → misplaced (system_of system).payload t.block t.flag (Some 0) ≡ false
unfolding block_refused off_grid
start_placed system t clean =
    let p = (system_of system).payload in
    false_or (le-ltb (blocks_end p t.block t.flag) 0 (omega arith))
    (start_by_lem (is_variable t.block) (leb 128 t.block) _ (eqb t.flag 1 && fills_all p t.block) (off_grid t.block 0) (block_passes system t clean)
    (λ z. false_or (size_some p t.block z) (ap not (eq-eqb (0 % size_of t.block) 0 (zero-mod (size_of t.block))))))

-- a variable line: every word up to the end
pub variable_placed : (p block flag q : ℕ) → is_variable block ≡ true → q ≤ blocks_end p block flag → misplaced p block flag (Some q) ≡ false
variable_placed p block flag q v h = false_or (le-ltb (blocks_end p block flag) q h) (ap (λ (b : Bool). not b && off_grid block q) v)

-- a place is within the end
pub placed_end : (p block flag q : ℕ) → misplaced p block flag (Some q) ≡ false → q ≤ blocks_end p block flag
placed_end p block flag q e = ltb-false (blocks_end p block flag) q (or_false (ltb (blocks_end p block flag) q) _ e).0

-- a fixed line: a place stands on the grid
grid_by : (a v g : Bool) → v ≡ false → (a || (not v && g)) ≡ false → g ≡ false
grid_by a true g v e = absurd (true_false v)
grid_by a false g v e = (or_false a g e).1

pub placed_grid : (p block flag q : ℕ) → is_variable block ≡ false → misplaced p block flag (Some q) ≡ false → off_grid block q ≡ false
placed_grid p block flag q v e = grid_by (ltb (blocks_end p block flag) q) (is_variable block) (off_grid block q) v e

-- so does the k-th after it
grid_after : (block q k : ℕ) → off_grid block q ≡ false → off_grid block (q + k * size_of block) ≡ false
unfolding off_grid
grid_after block q k e =
    let a = or_false (eqb (size_of block) 0) _ e in
    false_or a.0 (ap (λ (x : ℕ). not (eqb x 0)) (add-mul-mod_self_right q k (size_of block)) ∙ a.1)

pub grid_next : (p block flag q k : ℕ) → is_variable block ≡ false → misplaced p block flag (Some q) ≡ false → q + k * size_of block ≤ blocks_end p block flag
    → misplaced p block flag (Some (q + k * size_of block)) ≡ false
grid_next p block flag q k v e h =
    false_or (le-ltb (blocks_end p block flag) (q + k * size_of block) h)
    (ap₂ (λ (b c : Bool). not b && c) v (grid_after block q k (placed_grid p block flag q v e)))

-- and before the end there is a whole place
whole_place : (s n q : ℕ) → q % s ≡ 0 → q < n * s → q + s ≤ n * s
whole_place s n q e h =
    let d : q / s * s ≡ q = omega (arith, mod-add-div' q s, e) in
    let l : q / s < n = lt_of_mul-lt-mul_right s (subst (λ (x : ℕ). x < n * s) (sym d) h) in
    let m : suc (q / s) * s ≤ n * s = mul-le-mul_right s l in
    omega (arith, m, suc-mul (q / s) s, d)

pub grid_room : (p block flag q : ℕ) → is_variable block ≡ false → misplaced p block flag (Some q) ≡ false → q < blocks_end p block flag
    → q + size_of block ≤ blocks_end p block flag
grid_room p block flag q v e h =
    let n = ends_fixed p block flag v in
    subst (λ (x : ℕ). q + size_of block ≤ x) (sym n)
    (whole_place (size_of block) (places_of p block) q (on_grid block q (placed_grid p block flag q v e)) (subst (λ (x : ℕ). q < x) n h))

-- of the places that are left after it none passes the end
left_by : (s n q k : ℕ) → q % s ≡ 0 → q ≤ n * s → k ≤ n - q / s → q + k * s ≤ n * s
left_by s n q zero e h l = omega arith
left_by s n q (suc k) e h l =
    let d : q / s * s ≡ q = omega (arith, mod-add-div' q s, e) in
    let m : q / s + suc k ≤ n = omega arith in
    omega (arith, mul-le-mul_right s m, add-mul (q / s) (suc k) s, d)

pub grid_left : (p block flag q k : ℕ) → is_variable block ≡ false → misplaced p block flag (Some q) ≡ false → k ≤ places_of p block - q / size_of block
    → q + k * size_of block ≤ blocks_end p block flag
grid_left p block flag q k v e h =
    let n = ends_fixed p block flag v in
    subst (λ (x : ℕ). q + k * size_of block ≤ x) (sym n)
    (left_by (size_of block) (places_of p block) q k (on_grid block q (placed_grid p block flag q v e)) (subst (λ (x : ℕ). q ≤ x) n (placed_end p block flag q e)) h)

-- a place has a word, and no more places stand before it than there are
pub grid_some : (p block flag q : ℕ) → is_variable block ≡ false → misplaced p block flag (Some q) ≡ false → (1 ≤ size_of block) × (q / size_of block ≤ places_of p block)
unfolding off_grid
grid_some p block flag q v e =
    let g = placed_grid p block flag q v e in
    let z = eqb-false (size_of block) 0 (or_false (eqb (size_of block) 0) _ g).0 in
    let one : 1 ≤ size_of block = omega (arith, z) in
    let d : q / size_of block * size_of block ≡ q = omega (arith, mod-add-div' q (size_of block), on_grid block q g) in
    let h : q ≤ places_of p block * size_of block = subst (λ (x : ℕ). q ≤ x) (ends_fixed p block flag v) (placed_end p block flag q e) in
    (one, le_of_mul-le-mul_right (subst (λ (x : ℕ). x ≤ places_of p block * size_of block) (sym d) h) one)

-- the words from a place to the end are as many places as are left
count_by : (s n k q w : ℕ) → 1 ≤ s → k * s ≡ q → k ≤ n → w ≡ n * s - q → w / s ≡ n - k
count_by s n k q w one d h e =
    let m : n ≡ k + (n - k) = omega arith in
    let a : n * s ≡ k * s + (n - k) * s = ap (λ (x : ℕ). x * s) m ∙ add-mul k (n - k) s in
    let b : w ≡ (n - k) * s = omega arith in
    ap (λ (x : ℕ). x / s) b ∙ mul-div_cancel (n - k) one

pub grid_count : (p block flag q : ℕ) → is_variable block ≡ false → misplaced p block flag (Some q) ≡ false
    → (blocks_end p block flag - q) / size_of block ≡ places_of p block - q / size_of block
grid_count p block flag q v e =
    let s = grid_some p block flag q v e in
    let d : q / size_of block * size_of block ≡ q = omega (arith, mod-add-div' q (size_of block), on_grid block q (placed_grid p block flag q v e)) in
    count_by (size_of block) (places_of p block) (q / size_of block) q _ s.0 d s.1 (ap (λ (x : ℕ). x - q) (ends_fixed p block flag v))

some_by : (v a z c : Bool) → v ≡ false → (not v && (a || (z || c))) ≡ false → z ≡ false
some_by true a z c v e = absurd (true_false v)
some_by false a z c v e = (or_false z c (or_false a (z || c) e).1).0

-- a place that the rate has is no longer than where blocks end
pub whole_small : (p block flag : ℕ) → is_variable block ≡ false → block_refused p block flag ≡ false → size_of block ≤ blocks_end p block flag
unfolding block_refused
whole_small p block flag v e =
    let n : eqb (places_of p block) 0 ≡ false = some_by (is_variable block) (leb 128 block) (eqb (places_of p block) 0) _ v e in
    let one : 1 ≤ places_of p block = omega (arith, eqb-false (places_of p block) 0 n) in
    subst (λ (x : ℕ). size_of block ≤ x) (sym (ends_fixed p block flag v)) (omega (arith, mul-le-mul_right (size_of block) one, one-mul (size_of block)))

-- ---- what a possible course has with a line begun or an open block
pub record Begun (system : ℕ) (last : Option ℕ) (t : Settings) (place : Option ℕ) (busy : Bool) : Type 0 where
  pub number : ℕ
  pub numbered : last ≡ Some number
  pub range : not (leb 1 number && leb number (system_of system).lines) ≡ false
  pub clean : not (eqb (settings_fault system t) 0) ≡ false
  pub placed : misplaced (system_of system).payload t.block t.flag place ≡ false
  pub varied : (busy && not (is_variable t.block)) ≡ false

pub begun : (system : ℕ) (last : Option ℕ) (t : Settings) (place : Option ℕ) (busy : Bool) → impossible_after system last t place busy ≡ false → (busy || is_at place) ≡ true
    → Begun system last t place busy
begun system None t place busy e o = absurd (true_false (sym o ∙ e))
begun system (Some x) t place busy e o =
    let a = or_false _ _ e in
    let b = or_false _ _ a.1 in
    let c = or_false _ _ b.1 in
    record { number = x; numbered = refl; range = a.0; clean = b.0; placed = c.0; varied = c.1 }

pub begun_possible : (system : ℕ) (last : Option ℕ) (t : Settings) (place : Option ℕ) (busy : Bool) → Begun system last t place busy → impossible_after system last t place busy ≡ false
begun_possible system last t place busy b =
    ap (λ (l : Option ℕ). impossible_after system l t place busy) b.numbered ∙ false_or b.range (false_or b.clean (false_or b.placed b.varied))

-- a line begun: with a good number, good settings and a place where it may stand, and a block open only if it was and has its settings still
pub begins : (system : ℕ) (last : Option ℕ) (held t : Settings) (place to : Option ℕ) (was is : Bool) (n : ℕ) → impossible_after system last held place was ≡ false
    → not (leb 1 n && leb n (system_of system).lines) ≡ false → settings_fault system t ≡ 0
    → misplaced (system_of system).payload t.block t.flag to ≡ false
    → (is ≡ true → (was ≡ true) × (same_settings t held ≡ true)) → Begun system (Some n) t to is
begins system last held t place to was is n possible range clean placed goes =
    record { number = n; numbered = refl; range = range; clean = ap not (eq-eqb _ _ clean); placed = placed; varied = go is refl }
  where
    go : (b : Bool) → is ≡ b → (is && not (is_variable t.block)) ≡ false
    go false e = ap (λ (x : Bool). x && not (is_variable t.block)) e
    go true e =
        let g = goes e in
        ap₂ (λ (x : Bool) (y : ℕ). x && not (is_variable y)) (e ∙ sym g.0) (same_block t held g.1)
        ∙ (begun system last held place was possible (or_left was (is_at place) g.0)).varied
