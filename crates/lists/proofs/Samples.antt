-- Computed samples: cases in a list, and one claim that they hold.
-- Assumes nothing.
use mathlib.Core.Bool.{Bool, true, ◌&&◌}
use mathlib.Core.List.{List, [], ◌∷◌}
use Prim.Native.Nat.{ℕ}
use Rattle.lists.specs.Lists.{same}

-- what the definitions give, and what 01 has
pub record Case : Type 0 where
  pub given : List ℕ
  pub wanted : List ℕ

abbrev pub case : List ℕ → List ℕ → Case
case g w = record { given = g; wanted = w }

unfoldable pub hold : List Case → Bool
hold [] = true
hold (c ∷ cs) = same c.given c.wanted && hold cs
