-- Words laid in an array part by part. Only the promises of private functions cite this; no public function's does.
-- Assumes nothing.
use Rattle.std.specs.Prelude.{ℕ, ◌+◌, List, ◌++◌, ◌≡◌, length, take}

-- the words ws stand in the second list behind the first a words of the first; the lengths are equal
pub record Laid (a : ℕ) (ws before after : List ℕ) : Type 0 where
  pub kept : length after ≡ length before
  pub front : take (a + length ws) after ≡ take a before ++ ws
