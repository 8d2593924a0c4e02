-- The bytes of words are even in number.
-- Assumes nothing.
use Prim.Native.Nat.{ℕ, ◌*◌, ◌%◌}
use mathlib.Core.Bool.{true}
use mathlib.Core.Path.{◌≡◌, ap, ◌∙◌}
use mathlib.Core.List.{List}
use native.Mathlib.Omega.{arith}
use lib.ListN.{length}
use borrow.Author.Tests.{eq-eqb}
use Rattle.octets.specs.Bytes.{bytes_of, is_even}
use Rattle.octets.proofs.BytesLaws.{length_bytes}

twice_even : (n : ℕ) → 2 * n % 2 ≡ 0
twice_even n = omega arith

pub even_bytes : (ws : List ℕ) → is_even (bytes_of ws) ≡ true
even_bytes ws = eq-eqb _ 0 (ap (λ (n : ℕ). n % 2) (length_bytes ws) ∙ twice_even (length ws))
