-- The machine's definitions at work: the worked block of 01, each drop, and places of fixed lines, in one checked list with one claim.
-- The room's length is the machine's capacity, so a short room shows what a room of 16,384 words would.
-- Assumes nothing.
use mathlib.Core.List.{List, [], ◌∷◌, ◌++◌}
use Prim.Native.Nat.{ℕ}
use lib.Dec.{T}
use lib.ListN.{replicate}
use Rattle.lists.proofs.Samples.{Case, case, hold}
use Rattle.words.specs.Forms.{is_byte}
use Rattle.words.specs.Modes.{value_of}
use Rattle.words.specs.Class.{class_of}
use Rattle.machine.specs.declared.phase.Mark.TheVariants.{Typed, Nulled}
use Rattle.machine.specs.declared.phase.Phase.{Phase}
use Rattle.machine.specs.declared.phase.Phase.TheVariants.{Idle, Kind, First, Data}
use Rattle.machine.specs.Phases.{phase_numbers, met_numbers}
use Rattle.machine.specs.Machine.{counted, end_step, value_step, step_of}
use Rattle.machine.specs.Walk.{Walk, stored, walk_of}
use Rattle.machine.specs.Places.{has_null, met_at, walk_places, walk_fixed}

-- what a walk leaves, as numbers: what was met, how many words were taken, the phase, and the room
shown : Walk → List ℕ
shown x = met_numbers x.answer.met ++ (x.answer.taken ∷ phase_numbers x.answer.phase ++ x.room)

-- words walked from a phase, and by places of that size, in a room of n words, all 0
walked : ℕ → ℕ → Phase → List ℕ → List ℕ
walked mode n p ws = shown (walk_of mode p ws (replicate n 0))

placed : ℕ → ℕ → ℕ → List ℕ → List ℕ
placed mode size n ws = shown (walk_fixed mode Idle size ws (replicate n 0))

-- 01's block: type 01h, 8-bit data 00h FFh 01h
pub worked : List ℕ
worked = 0x309 ∷ 0x101 ∷ 0x203 ∷ 0x200 ∷ 0x200 ∷ 0x200 ∷ 0x200 ∷ 0x2ff ∷ 0x101 ∷ 0x30a ∷ []

-- the start of a block of type 01h of that count, in byte form
head : ℕ → List ℕ
head n = 0x309 ∷ 0x101 ∷ n ∷ 0x200 ∷ 0x200 ∷ 0x200 ∷ []

-- the worked block, after filler and before it; in two parts; and one of no stated count, of 9-bit values
pub blocks : List Case
blocks =
    case (walked 8 16 Idle worked) (2 ∷ 1 ∷ 3 ∷ 10 ∷ 0 ∷ 0 ∷ 255 ∷ 1 ∷ replicate 13 0)
    ∷ case (walked 8 3 Idle (0x200 ∷ 0x200 ∷ worked ++ (0x200 ∷ []))) (2 ∷ 1 ∷ 3 ∷ 12 ∷ 0 ∷ 0 ∷ 255 ∷ 1 ∷ [])
    ∷ case (walked 8 3 Idle (head 0x203 ++ (0x102 ∷ []))) (0 ∷ 7 ∷ 3 ∷ 1 ∷ 3 ∷ 1 ∷ 2 ∷ 0 ∷ 0 ∷ [])
    ∷ case (walked 8 3 (Data (Typed 1) 3 1) (0x2ff ∷ 0x101 ∷ 0x30a ∷ [])) (2 ∷ 1 ∷ 3 ∷ 3 ∷ 0 ∷ 0 ∷ 255 ∷ 1 ∷ [])
    ∷ case (walked 9 3 Idle (head 0x200 ++ (0x100 ∷ 0x2ff ∷ 0x30a ∷ []))) (2 ∷ 1 ∷ 2 ∷ 9 ∷ 0 ∷ 256 ∷ 255 ∷ 0 ∷ [])
    ∷ []

-- each drop: 1 leads to type awaited, all others to idle
pub drops : List Case
drops =
    case (walked 8 2 Idle (0x309 ∷ 0x101 ∷ 0x309 ∷ [])) (3 ∷ 1 ∷ 3 ∷ 1 ∷ 0 ∷ 0 ∷ [])
    ∷ case (walked 8 2 Idle (0x309 ∷ 0x103 ∷ [])) (3 ∷ 2 ∷ 2 ∷ 0 ∷ 0 ∷ 0 ∷ [])
    ∷ case (walked 8 2 Idle (0x309 ∷ 0x101 ∷ 0x103 ∷ [])) (3 ∷ 3 ∷ 3 ∷ 0 ∷ 0 ∷ 0 ∷ [])
    ∷ case (walked 8 2 Idle (head 0x203)) (3 ∷ 3 ∷ 6 ∷ 0 ∷ 0 ∷ 0 ∷ [])
    ∷ case (walked 8 2 Kind (0x30a ∷ [])) (3 ∷ 4 ∷ 1 ∷ 0 ∷ 0 ∷ 0 ∷ [])
    ∷ case (walked 8 2 Idle (head 0x102 ++ (0x101 ∷ 0x30a ∷ []))) (3 ∷ 4 ∷ 8 ∷ 0 ∷ 1 ∷ 0 ∷ [])
    ∷ case (walked 8 2 Idle (head 0x101 ++ (0x101 ∷ 0x102 ∷ []))) (3 ∷ 5 ∷ 8 ∷ 0 ∷ 1 ∷ 0 ∷ [])
    ∷ case (walked 8 2 Idle (head 0x200 ++ (0x101 ∷ 0x102 ∷ 0x203 ∷ []))) (3 ∷ 6 ∷ 9 ∷ 0 ∷ 1 ∷ 2 ∷ [])
    ∷ []

-- a stated count above the room, which only a caller of the machine can lend: no drop, and a value beyond the room's end goes nowhere
pub beyond : List Case
beyond =
    case (walked 8 2 (Data (Typed 1) 4 1) (0x101 ∷ 0x102 ∷ 0x203 ∷ 0x30a ∷ [])) (2 ∷ 1 ∷ 4 ∷ 4 ∷ 0 ∷ 0 ∷ 1 ∷ [])
    ∷ case (walked 8 2 (Data (Typed 1) 4 4) (0x101 ∷ [])) (3 ∷ 5 ∷ 1 ∷ 0 ∷ 0 ∷ 0 ∷ [])
    ∷ []

-- places of three words: an empty one is skipped, and a type not in byte form is drop 2 for that place alone; words behind the last whole
-- place are not looked at; a place of no word, or with more values than the room has words, is none
pub places : List Case
places =
    case (placed 8 3 4 (0x200 ∷ 0x101 ∷ 0x102 ∷ 0x104 ∷ 0x203 ∷ 0x2ff ∷ [])) (2 ∷ 4 ∷ 2 ∷ 6 ∷ 0 ∷ 3 ∷ 255 ∷ 0 ∷ 0 ∷ [])
    ∷ case (placed 8 3 4 (0x103 ∷ 0x101 ∷ 0x102 ∷ 0x104 ∷ 0x203 ∷ 0x2ff ∷ [])) (3 ∷ 2 ∷ 3 ∷ 0 ∷ 0 ∷ 0 ∷ 0 ∷ 0 ∷ [])
    ∷ case (placed 8 3 4 (0x200 ∷ 0x101 ∷ 0x102 ∷ 0x104 ∷ [])) (0 ∷ 3 ∷ 0 ∷ 0 ∷ 0 ∷ 0 ∷ 0 ∷ [])
    ∷ case (placed 8 3 2 (0x104 ∷ 0x203 ∷ 0x2ff ∷ [])) (2 ∷ 4 ∷ 2 ∷ 3 ∷ 0 ∷ 3 ∷ 255 ∷ [])
    ∷ case (placed 8 3 1 (0x104 ∷ 0x203 ∷ 0x2ff ∷ [])) (0 ∷ 0 ∷ 0 ∷ 0 ∷ [])
    ∷ case (placed 8 0 1 (0x104 ∷ 0x203 ∷ 0x2ff ∷ [])) (0 ∷ 0 ∷ 0 ∷ 0 ∷ [])
    ∷ []

-- a null's start, of that count
void : ℕ → List ℕ
void n = 0x309 ∷ 0x100 ∷ n ∷ 0x200 ∷ 0x200 ∷ 0x200 ∷ []

-- 100h: between blocks it is passed over; a null that ends properly reports nothing, whether its count is stated or not, its values are in the
-- room, and a block behind it lies over them; it may end with its words; its faults are drops; as a count word 100h is drop 3; as data it is the
-- value 256 in 9-bit mode, and in 8-bit mode drop 7, of a null too, after drops 5 and 6
pub nulls : List Case
nulls =
    case (walked 8 3 Idle (0x100 ∷ 0x100 ∷ [])) (0 ∷ 2 ∷ 0 ∷ 0 ∷ 0 ∷ 0 ∷ [])
    ∷ case (walked 8 3 Idle (void 0x102 ++ (0x104 ∷ 0x105 ∷ 0x30a ∷ 0x200 ∷ []))) (0 ∷ 10 ∷ 0 ∷ 4 ∷ 5 ∷ 0 ∷ [])
    ∷ case (walked 9 3 Idle (void 0x200 ++ (0x104 ∷ 0x100 ∷ 0x30a ∷ []))) (0 ∷ 9 ∷ 0 ∷ 260 ∷ 256 ∷ 0 ∷ [])
    ∷ case (walked 8 3 Idle (void 0x203 ++ (0x104 ∷ 0x105 ∷ 0x206 ∷ 0x30a ∷ head 0x101 ++ (0x107 ∷ 0x30a ∷ [])))) (2 ∷ 1 ∷ 1 ∷ 18 ∷ 0 ∷ 7 ∷ 5 ∷ 6 ∷ [])
    ∷ case (walked 8 3 Kind (0x100 ∷ [])) (0 ∷ 1 ∷ 4 ∷ 0 ∷ 0 ∷ 0 ∷ [])
    ∷ case (walked 8 3 (First Nulled) (0x203 ∷ 0x200 ∷ [])) (0 ∷ 2 ∷ 4 ∷ 3 ∷ 0 ∷ 0 ∷ 0 ∷ 0 ∷ [])
    ∷ case (walked 8 3 (Data Nulled 3 1) (0x104 ∷ [])) (0 ∷ 1 ∷ 5 ∷ 3 ∷ 2 ∷ 0 ∷ 4 ∷ 0 ∷ [])
    ∷ case (walked 8 3 (Data Nulled 0 1) (0x309 ∷ [])) (3 ∷ 1 ∷ 1 ∷ 1 ∷ 0 ∷ 0 ∷ 0 ∷ [])
    ∷ case (walked 9 2 Idle (0x309 ∷ 0x100 ∷ 0x30a ∷ [])) (3 ∷ 4 ∷ 3 ∷ 0 ∷ 0 ∷ 0 ∷ [])
    ∷ case (walked 8 2 Idle (0x309 ∷ 0x100 ∷ 0x100 ∷ [])) (3 ∷ 3 ∷ 3 ∷ 0 ∷ 0 ∷ 0 ∷ [])
    ∷ case (walked 9 2 Idle (0x309 ∷ 0x101 ∷ 0x100 ∷ [])) (3 ∷ 3 ∷ 3 ∷ 0 ∷ 0 ∷ 0 ∷ [])
    ∷ case (walked 8 2 Idle (void 0x203)) (3 ∷ 3 ∷ 6 ∷ 0 ∷ 0 ∷ 0 ∷ [])
    ∷ case (walked 8 2 Idle (void 0x102 ++ (0x101 ∷ 0x30a ∷ []))) (3 ∷ 4 ∷ 8 ∷ 0 ∷ 1 ∷ 0 ∷ [])
    ∷ case (walked 8 2 Idle (head 0x102 ++ (0x101 ∷ 0x100 ∷ []))) (3 ∷ 7 ∷ 8 ∷ 0 ∷ 1 ∷ 0 ∷ [])
    ∷ case (walked 8 2 Idle (void 0x200 ++ (0x101 ∷ 0x100 ∷ []))) (3 ∷ 7 ∷ 8 ∷ 0 ∷ 1 ∷ 0 ∷ [])
    ∷ case (walked 8 2 (Data (Typed 1) 1 1) (0x100 ∷ [])) (3 ∷ 5 ∷ 1 ∷ 0 ∷ 0 ∷ 0 ∷ [])
    ∷ case (walked 8 2 (Data Nulled 0 2) (0x100 ∷ [])) (3 ∷ 6 ∷ 1 ∷ 0 ∷ 0 ∷ 0 ∷ [])
    ∷ case (walked 8 2 Idle (head 0x102 ++ (0x500 ∷ 0x2ff ∷ 0x30a ∷ []))) (2 ∷ 1 ∷ 2 ∷ 9 ∷ 0 ∷ 0 ∷ 255 ∷ [])
    ∷ []

-- a place of type 100h is skipped, whatever its data, and so is an empty one; 100h among the data is drop 7 in 8-bit mode for that place alone,
-- and no value is stored; a type not in byte form comes first
pub null_places : List Case
null_places =
    case (placed 8 3 2 (0x100 ∷ 0x100 ∷ 0x102 ∷ 0x200 ∷ 0x203 ∷ 0x100 ∷ 0x104 ∷ 0x203 ∷ 0x2ff ∷ [])) (2 ∷ 4 ∷ 2 ∷ 9 ∷ 0 ∷ 3 ∷ 255 ∷ [])
    ∷ case (placed 9 3 2 (0x100 ∷ 0x100 ∷ 0x102 ∷ 0x104 ∷ 0x203 ∷ 0x100 ∷ [])) (2 ∷ 4 ∷ 2 ∷ 6 ∷ 0 ∷ 3 ∷ 256 ∷ [])
    ∷ case (placed 8 3 2 (0x104 ∷ 0x203 ∷ 0x100 ∷ 0x104 ∷ 0x203 ∷ 0x2ff ∷ [])) (3 ∷ 7 ∷ 3 ∷ 0 ∷ 0 ∷ 0 ∷ [])
    ∷ case (placed 8 3 2 (0x103 ∷ 0x203 ∷ 0x100 ∷ [])) (3 ∷ 2 ∷ 3 ∷ 0 ∷ 0 ∷ 0 ∷ [])
    ∷ []

pub they_hold : T (hold (blocks ++ (drops ++ (beyond ++ (places ++ (nulls ++ null_places))))))
unfolding hold blocks drops beyond places nulls null_places void shown walked placed worked head is_byte value_of class_of counted end_step value_step step_of stored walk_of has_null met_at walk_places walk_fixed
they_hold = tt
