-- The filler of a gap: only an index's being odd counts.
-- Assumes nothing.
use mathlib.Core.Path.{◌≡◌, ap}
use Prim.Native.Nat.{ℕ, ◌+◌, ◌%◌}
use native.Mathlib.Omega.{arith}
use lib.Dec.{eqb}
use borrow.Author.Tests.{eq-eqb, ne_eqb}
use Rattle.lists.specs.Tests.{pick}
use Rattle.lists.proofs.Tests.{pick_true, pick_false}
use Rattle.line.specs.Layout.{gap_word}

pub gap_odd : (i k : ℕ) → gap_word (i % 2 + k) ≡ gap_word (i + k)
unfolding gap_word
gap_odd i k = let e : (i % 2 + k) % 2 ≡ (i + k) % 2 = omega arith in ap (λ (m : ℕ). pick (eqb m 0) 0x200 0x040) e

pub gap_even : (i : ℕ) → i % 2 ≡ 0 → gap_word i ≡ 0x200
unfolding gap_word
gap_even i e = pick_true 0x200 0x040 (eq-eqb (i % 2) 0 e)

pub gap_uneven : (i : ℕ) → (i % 2 ≡ 0 → ⊥) → gap_word i ≡ 0x040
unfolding gap_word
gap_uneven i e = pick_false 0x200 0x040 (ne_eqb (i % 2) 0 e)
