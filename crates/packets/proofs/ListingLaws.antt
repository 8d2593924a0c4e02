-- The answers of the listing: 1, the line check's number, or the packets.
-- Assumes nothing.
use mathlib.Core.Path.{◌≡◌, refl, ap, ◌∙◌}
use mathlib.Core.Bool.{Bool, true, false, ◌&&◌, not}
use mathlib.Core.List.{List}
use Prim.Native.Nat.{ℕ, zero, suc, ◌+◌, ◌-◌, ◌≤◌}
use native.Mathlib.Omega.{arith}
use lib.Dec.{eqb}
use lib.ListN.{length, take, drop}
use borrow.Author.Tests.{eq-eqb, ne_eqb, not-false}
use Rattle.lists.specs.Tests.{pick, lowest_of}
use Rattle.lists.proofs.Tests.{and_none, pick_true, pick_false}
use Rattle.lists.proofs.Refusals.{lowest_clear}
use Rattle.line.specs.declared.systems.System.{System}
use Rattle.line.specs.Systems.{system_of}
use Rattle.line.specs.Layout.{gap_at}
use Rattle.line.specs.Check.{fits, faults, line_faults, line_fault, checked_from, checked_of}
use Rattle.line.proofs.SystemLaws.{fitting}
use Rattle.line.proofs.CheckLaws.{check_rising}
use Rattle.packets.specs.Gap.{list_in}
use Rattle.packets.specs.Listing.{gap_length, gap_of, outcome, list_fault, none_listed, listed_of, listing}

-- how long the gap is, as the code computes it
pub gap_of_lem : (s r : System) (a b : ℕ) → r ≡ s → a ≡ r.length - r.payload → b ≡ a - 61 → b ≡ gap_length s
gap_of_lem s r a b e f g = g ∙ ap (λ (x : ℕ). x - 61) (f ∙ ap (λ (x : System). x.length - x.payload) e) ∙ omega arith

checked_by : (n : ℕ) (line : List ℕ) → (checked_from n line).fault ≡ n
checked_by zero line = refl
checked_by (suc n) line = refl

and_more : (a b : Bool) → b ≡ true → (a && b) ≡ a
and_more true b e = e
and_more false b e = refl

module _ (system mode : ℕ) (line out : List ℕ) where
  pub list_1 : (length out ≡ gap_length (system_of system) → ⊥) → listing system mode line out ≡ outcome (none_listed 1 0) out
  unfolding listing list_fault
  list_1 h =
      let e = pick_true 1 (lowest_of (faults (system_of system) mode line)) (ap not (and_none (fits system mode line) _ (ne_eqb (length out) (gap_length (system_of system)) h))) in
      ap (λ (n : ℕ). pick (eqb n 0) (listed_of (list_in (gap_of (system_of system) line)) out) (outcome (none_listed n 0) out)) e ∙ pick_false _ _ refl

  pub checked_fault : (checked_of system mode line).fault ≡ line_fault system mode line
  unfolding checked_of
  checked_fault = checked_by (line_fault system mode line) line

  module _ (h : length out ≡ gap_length (system_of system)) where
    by_check : list_fault system mode line (length out) ≡ line_fault system mode line
    unfolding list_fault line_fault
    by_check = ap (λ (b : Bool). pick (not b) 1 (lowest_of (faults (system_of system) mode line))) (and_more (fits system mode line) _ (eq-eqb _ _ h))

    pub list_fault_lem : (n : ℕ) → line_fault system mode line ≡ n → (n ≡ 0 → ⊥) → listing system mode line out ≡ outcome (none_listed n 0) out
    unfolding listing
    list_fault_lem n e k =
        ap (λ (n : ℕ). pick (eqb n 0) (listed_of (list_in (gap_of (system_of system) line)) out) (outcome (none_listed n 0) out)) (by_check ∙ e) ∙ pick_false _ _ (ne_eqb n 0 k)

    pub list_done : line_fault system mode line ≡ 0 → listing system mode line out ≡ listed_of (list_in (gap_of (system_of system) line)) out
    unfolding listing
    list_done e = pick_true _ _ (eq-eqb _ 0 (by_check ∙ e))

  -- the gap of an accepted line lies within it
  pub gap_in : line_fault system mode line ≡ 0 → gap_at + gap_length (system_of system) ≤ length line
  unfolding line_fault
  gap_in e =
      let k = fitting system mode line (not-false _ (lowest_clear (line_faults system mode line) (check_rising system mode line) e).0) in
      omega (arith, k.row.room, k.long)

-- the gap as it is lent
pub gap_lent : (s : System) (line : List ℕ) (n : ℕ) → n ≡ gap_length s → take (57 + n - 57) (drop 57 line) ≡ gap_of s line
unfolding gap_of
gap_lent s line n e = let m : 57 + n - 57 ≡ gap_length s = omega arith in ap (λ (k : ℕ). take k (drop 57 line)) m
