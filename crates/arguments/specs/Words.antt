-- A word of a command line: whether it is there, its text and its first letter, by what its reading answered and the room that it had.
-- Assumes nothing.
use Rattle.std.specs.Prelude.{ℕ, Bool, true, false, List, [], Result, Ok, Err, get_or, take}
use Rattle.std.specs.declared.env.FillError.{FillError}
use Rattle.std.specs.declared.env.FillError.TheVariants.{NotPresent, TooLong}
use Rattle.arguments.specs.declared.Word.{Word}

-- Only where the answer is that the word is not present it is not there: one that is too long is there.
abbrev pub found : Result ℕ FillError → Bool
found (Ok n) = true
found (Err NotPresent) = false
found (Err TooLong) = true

abbrev pub is_there : Word → Bool
is_there w = found w.read

-- so many bytes of the room as the answer says, all where it says more; none where it says no length
abbrev pub text_in : List ℕ → Result ℕ FillError → List ℕ
text_in room (Ok n) = take n room
text_in room (Err e) = []

abbrev pub text : Word → List ℕ
text w = text_in w.room w.read

-- the first byte of the room, whatever the answer is
abbrev pub letter : Word → ℕ
letter w = get_or w.room 0 0
