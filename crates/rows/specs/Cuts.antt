-- A row's text added part by part. Only the promises of private functions cite this; no public function's does.
-- Assumes nothing.
use Rattle.std.specs.Prelude.{ℕ, ◌+◌, List, [], ◌∷◌, ltb, replicate, set}
use Rattle.lists.specs.Tests.{pick}
use Rattle.rows.specs.declared.Row.{Row}

-- a row with no text
abbrev pub none : Row
none = record { bytes = replicate 48 0; length = 0 }

-- one byte more, unless the 48 are full
unfoldable pub put : Row → ℕ → Row
put row b = pick (ltb row.length 48) (record { bytes = set row.bytes row.length b; length = row.length + 1 }) row

-- the bytes of a text, one by one
abbrev pub added : Row → List ℕ → Row
added row [] = row
added row (b ∷ s) = added (put row b) s
