-- What the listing writes for an event: one row, exactly as 01 writes them.
-- Assumes nothing.
use Rattle.std.specs.Prelude.{ℕ, ◌-◌, List, ◌++◌, length, replicate, Option, Some, None, ℤ}
use Rattle.reader.specs.declared.state.Event.{Event}
use Rattle.reader.specs.declared.state.Event.TheVariants.{Refused, Begun, Block, Drop, End}
use Rattle.rows.specs.declared.Row.{Row}
use Rattle.rows.specs.Text.{decimal, signed, begun_text, refused_text, block_text, drop_text, end_text, unknown_text, dropped_text, space, newline}

-- A known jump is decimal, as `begun 21 0` or `begun 20 -1`.
abbrev pub jump_text : Option ℤ → List ℕ
jump_text None = unknown_text
jump_text (Some z) = signed z

-- Else `block 1 3`, `drop 4`, `refused 16`, `end`; ` dropped` ends a begun or refused that says so.
abbrev pub row_text : Event → List ℕ
row_text (Refused n dropped) = refused_text ++ (decimal n ++ (dropped_text dropped ++ newline))
row_text (Begun n jump dropped) = begun_text ++ (decimal n ++ (space ++ (jump_text jump ++ (dropped_text dropped ++ newline))))
row_text (Block k n) = block_text ++ (decimal k ++ (space ++ (decimal n ++ newline)))
row_text (Drop n) = drop_text ++ (decimal n ++ newline)
row_text End = end_text ++ newline

-- a row in its 48 bytes, zeros behind the text
unfoldable pub row_of : Event → Row
row_of event = let t = row_text event in record { bytes = t ++ replicate (48 - length t) 0; length = length t }
