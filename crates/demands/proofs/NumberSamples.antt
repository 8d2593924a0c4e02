-- 01's numbers for what a reading call reports, for what an addition answers, and for the phase: each case once, in numbers.
-- Assumes nothing.
use Rattle.std.specs.Prelude.{Some, None}
use mathlib.Core.Bool.{true, false}
use mathlib.Core.List.{[], ◌∷◌, map}
use mathlib.Core.Path.{◌≡◌, refl}
use lib.IntN.{pos, negsuc}
use Rattle.machine.specs.declared.phase.Mark.TheVariants.{Typed, Nulled}
use Rattle.machine.specs.declared.phase.Phase.TheVariants.{Idle, Kind, First, Second, Third, Fourth, Data}
use Rattle.machine.specs.Phases.{phase_numbers}
use Rattle.writer.specs.declared.state.Answer.TheVariants.{Refused as NotDone, Done}
use Rattle.writer.specs.declared.state.Laid.TheVariants.{Refused as NotLaid, Finished, Unfinished}
use Rattle.writer.specs.Answers.{answer_numbers, laid_numbers}
use Rattle.reader.specs.declared.state.Event.TheVariants.{Refused, Begun, Block, Drop, End}
use Rattle.reader.specs.Events.{event_numbers}

-- refused with 16, and a block was dropped; begun with 20 and no jump known; with 525 and a jump of -1; with 1, a jump of 3 and a block dropped;
-- a block of type 7 and 5 values; drop 4; the line's end
pub event_numbers_lem : map event_numbers (Refused 16 true ∷ Refused 3 false ∷ Begun 20 None false ∷ Begun 525 (Some (negsuc 0)) false ∷ Begun 1 (Some (pos 3)) true ∷ Block 7 5 ∷ Drop 4 ∷ End ∷ [])
    ≡ (pos 0 ∷ pos 16 ∷ pos 1 ∷ []) ∷ (pos 0 ∷ pos 3 ∷ pos 0 ∷ []) ∷ (pos 1 ∷ pos 20 ∷ pos 0 ∷ []) ∷ (pos 1 ∷ pos 525 ∷ pos 0 ∷ negsuc 0 ∷ [])
    ∷ (pos 1 ∷ pos 1 ∷ pos 1 ∷ pos 3 ∷ []) ∷ (pos 2 ∷ pos 7 ∷ pos 5 ∷ []) ∷ (pos 3 ∷ pos 4 ∷ []) ∷ (pos 4 ∷ []) ∷ []
event_numbers_lem = refl

-- opening and closing: refused with 20; done
pub answer_numbers_lem : map answer_numbers (NotDone 20 ∷ Done ∷ []) ≡ (20 ∷ []) ∷ [] ∷ []
answer_numbers_lem = refl

-- adding: refused with 17; finished; unfinished
pub laid_numbers_lem : map laid_numbers (NotLaid 17 ∷ Finished ∷ Unfinished ∷ []) ≡ (17 ∷ []) ∷ (0 ∷ 1 ∷ []) ∷ (0 ∷ 0 ∷ []) ∷ []
laid_numbers_lem = refl

-- idle; type awaited; count awaited with type 5 and none, one, two and three bytes; data of type 5, 9 announced and 4 collected
pub phase_numbers_lem : let k = Typed 5 in map phase_numbers (Idle ∷ Kind ∷ First k ∷ Second k 6 ∷ Third k 6 7 ∷ Fourth k 6 7 8 ∷ Data k 9 4 ∷ [])
    ≡ (0 ∷ []) ∷ (1 ∷ []) ∷ (2 ∷ 5 ∷ []) ∷ (2 ∷ 5 ∷ 6 ∷ []) ∷ (2 ∷ 5 ∷ 6 ∷ 7 ∷ []) ∷ (2 ∷ 5 ∷ 6 ∷ 7 ∷ 8 ∷ []) ∷ (3 ∷ 5 ∷ 9 ∷ 4 ∷ []) ∷ []
phase_numbers_lem = refl

-- the same of a null
pub null_numbers : map phase_numbers (First Nulled ∷ Second Nulled 6 ∷ Third Nulled 6 7 ∷ Fourth Nulled 6 7 8 ∷ Data Nulled 9 4 ∷ [])
    ≡ (4 ∷ []) ∷ (4 ∷ 6 ∷ []) ∷ (4 ∷ 6 ∷ 7 ∷ []) ∷ (4 ∷ 6 ∷ 7 ∷ 8 ∷ []) ∷ (5 ∷ 9 ∷ 4 ∷ []) ∷ []
null_numbers = refl
