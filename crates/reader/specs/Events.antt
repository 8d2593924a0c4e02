-- What a reading call reports, and 01's numbers and values for it.
-- Assumes nothing.
use Rattle.std.specs.Prelude.{Bool, true, false, List, [], ◌∷◌, ℤ, pos}
use Rattle.reader.specs.declared.state.Event.{Event}
use Rattle.reader.specs.declared.state.Event.TheVariants.{Refused, Begun, Block, Drop, End}
use Rattle.reader.specs.Jump.{jump_numbers}

-- whether an open block was dropped: 1 or 0
abbrev pub yes_no : Bool → ℤ
yes_no true = pos 1
yes_no false = pos 0

-- refused, 0, with the answer's number; begun, 1, with the line number and the jump; both with whether an open block was dropped;
-- a block, 2, with type and length; a drop, 3, with its number; the line's end, 4
abbrev pub event_numbers : Event → List ℤ
event_numbers (Refused n dropped) = pos 0 ∷ pos n ∷ yes_no dropped ∷ []
event_numbers (Begun n jump dropped) = pos 1 ∷ pos n ∷ yes_no dropped ∷ jump_numbers jump
event_numbers (Block k n) = pos 2 ∷ pos k ∷ pos n ∷ []
event_numbers (Drop n) = pos 3 ∷ pos n ∷ []
event_numbers End = pos 4 ∷ []
