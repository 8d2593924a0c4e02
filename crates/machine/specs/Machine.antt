-- The word machine: what one word of a variable area does, by the phase and the class of the word.
-- It knows no line and no settings; the room's length is its capacity.
-- Assumes nothing.
use Rattle.std.specs.Prelude.{ℕ, ◌+◌, ◌*◌, ◌%◌, Bool, false, ◌&&◌, ◌||◌, not, eqb, leb, ltb}
use Rattle.lists.specs.Tests.{pick}
use Rattle.words.specs.Class.{class_of}
use Rattle.words.specs.declared.class.Class.{Class}
use Rattle.words.specs.declared.class.Class.TheVariants.{Byte, Other, Separator, Ending, Illegal, Null}
use Rattle.machine.specs.declared.phase.Mark.{Mark}
use Rattle.machine.specs.declared.phase.Mark.TheVariants.{Typed, Nulled}
use Rattle.machine.specs.declared.phase.Phase.{Phase}
use Rattle.machine.specs.declared.phase.Phase.TheVariants.{Idle, Kind, First, Second, Third, Fourth, Data}
use Rattle.machine.specs.declared.step.Met.TheVariants.{Nothing, Whole, Lost}
use Rattle.machine.specs.declared.step.Step.{Step}

-- the next phase, what is reported, and whether the word's value goes into the room
abbrev pub on : Phase → Step
on p = record { phase = p; met = Nothing; keeps = false }

-- All drops but 1 lead to idle. In any open phase 309h is drop 1 and then type awaited.
abbrev pub dropped : ℕ → Step
dropped n = record { phase = Idle; met = Lost n; keeps = false }

abbrev pub again : Step
again = record { phase = Kind; met = Lost 1; keeps = false }

-- Idle: 309h leads to type awaited; any other word is passed over.
abbrev pub idle_step : Class → Step
idle_step Separator = on Kind
idle_step Byte = on Idle
idle_step Other = on Idle
idle_step Ending = on Idle
idle_step Illegal = on Idle
idle_step Null = on Idle

-- Type: 30Ah is drop 4; 100h marks a null; any other word not in byte form is drop 2.
abbrev pub kind_step : Class → ℕ → Step
kind_step Separator b = again
kind_step Ending b = dropped 4
kind_step Byte b = on (First (Typed b))
kind_step Null b = on (First Nulled)
kind_step Other b = dropped 2
kind_step Illegal b = dropped 2

-- Count: 30Ah is drop 4; a word not in byte form is drop 3; else `next`.
abbrev pub count_step : Class → Step → Step
count_step Separator next = again
count_step Ending next = dropped 4
count_step Byte next = next
count_step Other next = dropped 3
count_step Illegal next = dropped 3
count_step Null next = dropped 3

-- the count is whole: above the room's length it is drop 3
unfoldable pub counted : ℕ → Mark → ℕ → Step
counted room k n = pick (ltb room n) (dropped 3) (on (Data k n 0))

-- A block that ends properly is handed out; a null is not, and the machine goes on.
abbrev pub ended : Mark → ℕ → Step
ended (Typed k) m = record { phase = Idle; met = Whole k m; keeps = false }
ended Nulled m = on Idle

-- Data: 30Ah ends the block if the count is 0 or met, else drop 4.
unfoldable pub end_step : Mark → ℕ → ℕ → Step
end_step k n m = pick (eqb n 0 || eqb n m) (ended k m) (dropped 4)

-- A data word past a met count is drop 5; one past the room with no count is drop 6; one that is no value, `void`, is drop 7; else its
-- value goes into the room. A stated count above the room is drop 3 before; where a caller of the machine lends such a phase, a value
-- beyond the room's end goes nowhere.
unfoldable pub value_step : Bool → ℕ → Mark → ℕ → ℕ → Step
value_step void room k n m =
    pick (not (eqb n 0) && leb n m) (dropped 5)
    (pick (eqb n 0 && leb room m) (dropped 6) (pick void (dropped 7) (record { phase = Data k n (m + 1); met = Nothing; keeps = ltb m room })))

-- 100h is no value in 8-bit mode
abbrev pub data_step : ℕ → ℕ → Mark → ℕ → ℕ → Class → Step
data_step mode room k n m Separator = again
data_step mode room k n m Ending = end_step k n m
data_step mode room k n m Byte = value_step false room k n m
data_step mode room k n m Other = value_step false room k n m
data_step mode room k n m Illegal = value_step false room k n m
data_step mode room k n m Null = value_step (eqb mode 8) room k n m

-- one word w, in that mode and a room of that length; a byte-form word's byte is its low eight bits
abbrev pub step_by : ℕ → ℕ → Phase → Class → ℕ → Step
step_by mode room Idle c b = idle_step c
step_by mode room Kind c b = kind_step c b
step_by mode room (First k) c b = count_step c (on (Second k b))
step_by mode room (Second k x) c b = count_step c (on (Third k x b))
step_by mode room (Third k x y) c b = count_step c (on (Fourth k x y b))
step_by mode room (Fourth k x y z) c b = count_step c (counted room k (x + y * 256 + z * 65536 + b * 16777216))
step_by mode room (Data k n m) c b = data_step mode room k n m c

unfoldable pub step_of : ℕ → ℕ → Phase → ℕ → Step
step_of mode room p w = step_by mode room p (class_of w) (w % 256)
