-- What a possible course holds: a last number of 16 bits, and a place of 64.
-- Assumes nothing.
use Rattle.std.specs.Prelude.{Option, Some, None}
use Prim.Native.Nat.{ℕ, zero, suc, ◌≤◌, ◌^◌}
use mathlib.Core.Bool.{Bool, true, false, ◌&&◌, not}
use mathlib.Core.Path.{◌≡◌, refl}
use native.Mathlib.Omega.{arith}
use lib.Dec.{leb}
use borrow.Author.Tests.{leb-true, eqb-true, not-false, lt-ltb}
use Rattle.lists.proofs.Tests.{both_true, or_false, or_right}
use Rattle.line.specs.declared.settings.Settings.{Settings}
use Rattle.line.specs.Systems.{system_of, is_system}
use Rattle.line.proofs.SystemLaws.{payload_most}
use Rattle.line.proofs.AreaLaws.{area_most}
use Rattle.course.specs.Course.{impossible_after}
use Rattle.course.proofs.CourseLaws.{end_in_area, placed_end, begun}
use Rattle.fields.specs.Widths.{held_last, held_place}

-- no system has more lines than 625
pub lines_most : (system : ℕ) → (system_of system).lines ≤ 625
lines_most zero = omega arith
lines_most (suc zero) = omega arith
lines_most (suc (suc zero)) = omega arith
lines_most (suc (suc (suc zero))) = omega arith
lines_most (suc (suc (suc (suc n)))) = omega arith

-- where there are lines, there is a system
known_by : (system : ℕ) → 1 ≤ (system_of system).lines → is_system system ≡ true
unfolding is_system
known_by zero h = refl
known_by (suc zero) h = refl
known_by (suc (suc zero)) h = refl
known_by (suc (suc (suc zero))) h = refl
known_by (suc (suc (suc (suc n)))) h = absurd (omega arith)

-- a number in its range
in_range : (system x : ℕ) → not (leb 1 x && leb x (system_of system).lines) ≡ false → (1 ≤ x) × (x ≤ (system_of system).lines)
in_range system x e = let b = both_true (leb 1 x) _ (not-false _ e) in (leb-true 1 x b.0, leb-true x _ b.1)

pub last_by : (system : ℕ) (last : Option ℕ) (t : Settings) (place : Option ℕ) (busy : Bool) → impossible_after system last t place busy ≡ false → held_last last ≡ true
last_by system None t place busy e = refl
last_by system (Some x) t place busy e =
    let r = in_range system x (or_false _ _ e).0 in
    lt-ltb x (2 ^ 16) (omega (arith, r.1, lines_most system))

pub place_by_lem : (system : ℕ) (last : Option ℕ) (t : Settings) (place : Option ℕ) (busy : Bool) → impossible_after system last t place busy ≡ false → held_place place ≡ true
place_by_lem system last t None busy e = refl
place_by_lem system last t (Some q) busy e =
    let b = begun system last t (Some q) busy e (or_right busy true refl) in
    let r = in_range system b.number b.range in
    let known = known_by system (omega (arith, r.0, r.1)) in
    let end = end_in_area system t known (eqb-true _ 0 (not-false _ b.clean)) in
    let at = placed_end (system_of system).payload t.block t.flag q b.placed in
    let area = area_most (system_of system).payload t.flag in
    let most = payload_most system in
    lt-ltb q (2 ^ 64) (omega (arith, end, at, area, most))
