-- Words laid into a lent part.
-- Assumes nothing.
use Rattle.std.specs.Prelude.{ℕ, List, ◌++◌, eqb, length, take, drop}
use Rattle.lists.specs.Tests.{pick}
use Rattle.words.specs.Crc.{crc_of}

-- Words fill a part that is as long as they are; any other part is left as it was.
unfoldable pub laid_in : List ℕ → List ℕ → List ℕ
laid_in ws out = pick (eqb (length ws) (length out)) ws out

-- Words laid from a part's beginning on, as many as have room; behind them the part stays as it was.
unfoldable pub laid_on : List ℕ → List ℕ → List ℕ
laid_on ws out = take (length out) ws ++ drop (length ws) out

-- A CRC is taken on over the words that fill a part, or over none.
unfoldable pub crc_in : ℕ → List ℕ → List ℕ → ℕ
crc_in c ws out = pick (eqb (length ws) (length out)) (crc_of c ws) c
