-- A line lent again and again, until its end or a refusal is reported.
-- Assumes nothing.
use Rattle.std.specs.Prelude.{ℕ, zero, suc, Bool, true, false, ◌||◌, List}
use Rattle.reader.specs.declared.state.Reader.{Reader}
use Rattle.reader.specs.declared.state.Event.{Event}
use Rattle.reader.specs.declared.state.Event.TheVariants.{Refused, Begun, Block, Drop, End}
use Rattle.reader.specs.State.{capacity}
use Rattle.reader.specs.Reading.{reading_in}

-- the line's end or a refusal
abbrev pub is_last : Event → Bool
is_last (Refused n dropped) = true
is_last (Begun n jump dropped) = false
is_last (Block k n) = false
is_last (Drop n) = false
is_last End = true

-- the line is accepted
abbrev pub is_begun_event : Event → Bool
is_begun_event (Refused n dropped) = false
is_begun_event (Begun n jump dropped) = true
is_begun_event (Block k n) = false
is_begun_event (Drop n) = false
is_begun_event End = false

-- one of n calls, each with the state and the room that the call before it left, is the line's last; the capacity is c
abbrev pub ends_within_in : ℕ → ℕ → Reader → List ℕ → List ℕ → Bool
ends_within_in c zero st line room = false
ends_within_in c (suc n) st line room =
    let x = reading_in c st line room in
    is_last x.told.event || ends_within_in c n x.told.state line x.room

abbrev pub ends_within : ℕ → Reader → List ℕ → List ℕ → Bool
ends_within n st line room = ends_within_in capacity n st line room
