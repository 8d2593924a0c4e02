-- The systems, row by row: what every line of a system has room for. Nothing above goes by the four rows again.
-- Assumes nothing.
use mathlib.Core.Path.{◌≡◌, refl, sym, ap, ◌∙◌, subst}
use mathlib.Core.Bool.{true}
use mathlib.Core.List.{List}
use mathlib.Core.Logic.{◌⊎◌, inl, inr}
use Prim.Native.Nat.{ℕ, zero, suc, ◌+◌, ◌*◌, ◌/◌, ◌≤◌}
use native.Mathlib.Omega.{arith}
use lib.Dec.{lit≤}
use lib.ListN.{length}
use borrow.Author.Tests.{ltb-true, eqb-true}
use Rattle.lists.proofs.Tests.{both_true}
use Rattle.words.specs.Modes.{is_mode}
use Rattle.line.specs.declared.systems.System.{System}
use Rattle.line.specs.Systems.{system_of, is_system}
use Rattle.line.specs.Check.{fits_length, fits}

pub no_system : (system : ℕ) → (system ≡ 0 → ⊥) → (system ≡ 1 → ⊥) → (system ≡ 2 → ⊥) → (system ≡ 3 → ⊥) → system_of system ≡ system_of 4
no_system zero a b c d = absurd (a refl)
no_system (suc zero) a b c d = absurd (b refl)
no_system (suc (suc zero)) a b c d = absurd (c refl)
no_system (suc (suc (suc zero))) a b c d = absurd (d refl)
no_system (suc (suc (suc (suc n)))) a b c d = refl

-- what each row has
pub record Sound (s : System) : Type 0 where
  pub room : s.payload + 61 ≤ s.length
  pub area : 2 ≤ s.payload
  pub some : 3 ≤ s.payload
  pub rates : (s.payload ≡ 1440) ⊎ (s.payload ≡ 1920)
  pub one : 1 ≤ s.lines
  pub lines : s.lines ≤ 625
  pub odd : s.lines ≡ 2 * (s.lines / 2) + 1
  pub code : s.code ≤ 2

pub sound : (system : ℕ) → is_system system ≡ true → Sound (system_of system)
unfolding is_system
sound zero e = record { room = lit≤ tt; area = lit≤ tt; some = lit≤ tt; rates = inl refl; one = lit≤ tt; lines = lit≤ tt; odd = refl; code = lit≤ tt }
sound (suc zero) e = record { room = lit≤ tt; area = lit≤ tt; some = lit≤ tt; rates = inl refl; one = lit≤ tt; lines = lit≤ tt; odd = refl; code = lit≤ tt }
sound (suc (suc zero)) e = record { room = lit≤ tt; area = lit≤ tt; some = lit≤ tt; rates = inr refl; one = lit≤ tt; lines = lit≤ tt; odd = refl; code = lit≤ tt }
sound (suc (suc (suc zero))) e = record { room = lit≤ tt; area = lit≤ tt; some = lit≤ tt; rates = inr refl; one = lit≤ tt; lines = lit≤ tt; odd = refl; code = lit≤ tt }
sound (suc (suc (suc (suc n)))) e = absurd (omega (arith, ltb-true (suc (suc (suc (suc n)))) 4 e))

-- what every row has, the row of no system too: shown of each
by_row : (P : System → Type 0) → P (system_of 0) → P (system_of 1) → P (system_of 2) → P (system_of 3) → P (system_of 4) → (system : ℕ) → P (system_of system)
by_row P a b c d e zero = a
by_row P a b c d e (suc zero) = b
by_row P a b c d e (suc (suc zero)) = c
by_row P a b c d e (suc (suc (suc zero))) = d
by_row P a b c d e (suc (suc (suc (suc n)))) = e

pub payload_most : (system : ℕ) → (system_of system).payload ≤ 1920
payload_most = by_row (λ s. s.payload ≤ 1920) (lit≤ tt) (lit≤ tt) (lit≤ tt) (lit≤ tt) (lit≤ tt)

pub length_most : (system : ℕ) → (system_of system).length ≤ 2304
length_most = by_row (λ s. s.length ≤ 2304) (lit≤ tt) (lit≤ tt) (lit≤ tt) (lit≤ tt) (lit≤ tt)

-- N is odd, where there are lines
pub odd_lines : (system : ℕ) → 1 ≤ (system_of system).lines → (system_of system).lines ≡ 2 * ((system_of system).lines / 2) + 1
odd_lines = by_row (λ s. 1 ≤ s.lines → s.lines ≡ 2 * (s.lines / 2) + 1) (λ l. refl) (λ l. refl) (λ l. refl) (λ l. refl) (λ l. absurd (omega arith))

-- what a line that fits has
pub record Fit (system mode : ℕ) (line : List ℕ) : Type 0 where
  pub row : Sound (system_of system)
  pub known : is_mode mode ≡ true
  pub long : (system_of system).length ≡ length line

pub fitting : (system mode : ℕ) (line : List ℕ) → fits system mode line ≡ true → Fit system mode line
unfolding fits_length
fitting system mode line e =
    let a = both_true (is_system system) _ e in
    let b = both_true (is_mode mode) _ a.1 in
    record { row = sound system a.0; known = b.0; long = sym (eqb-true (length line) (system_of system).length b.1) }

-- the same of the row at hand
pub room_of : (system mode : ℕ) (line : List ℕ) (s : System) → s ≡ system_of system → fits system mode line ≡ true
    → (s.payload + 61 ≤ s.length) × (s.length ≡ length line)
room_of system mode line s e f =
    let k = fitting system mode line f in
    (subst (λ (x : System). x.payload + 61 ≤ x.length) (sym e) k.row.room, ap (λ (x : System). x.length) e ∙ k.long)
