-- What stands for values of which there are too many. Only the promises of functions that the crate keeps to itself cite this.
-- Assumes nothing.
use Rattle.std.specs.Prelude.{ℕ, List, leb, ltb, length, replicate, set}
use Rattle.lists.specs.Tests.{pick}
use Rattle.lists.specs.Lists.{each}

-- 0 where every value is below the limit, else a value above every limit
abbrev pub stand_in : ℕ → List ℕ → ℕ
stand_in limit vs = pick (each (λ v. ltb v limit) vs) 0 65535

-- the values themselves where they are no more than so many; else so many others, that one and zeros
unfoldable pub standing : ℕ → ℕ → List ℕ → List ℕ
standing limit most vs = pick (leb (length vs) most) vs (set (replicate most 0) 0 (stand_in limit vs))
