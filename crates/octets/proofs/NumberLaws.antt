-- Laws of a number read from its text: what makes no number.
-- Assumes nothing.
use mathlib.Core.Path.{◌≡◌, refl}
use mathlib.Core.List.{List, [], ◌∷◌}
use Prim.Native.Nat.{ℕ}
use lib.ListN.{length}
use Rattle.octets.specs.Numbers.{digits_more, number_of}

pub some : (s : List ℕ) → (length s ≡ 0 → ⊥) → digits_more 0 s ≡ number_of s
some [] h = absurd (h refl)
some (b ∷ s) h = refl
