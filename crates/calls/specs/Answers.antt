-- What the calls from C answer (02, Item 1): 0, 01's number of the refusal, or 256 for an unfinished block.
-- Assumes nothing.
use Rattle.std.specs.Prelude.{ℕ, min, Bool, not, ◌||◌, [], ◌∷◌, eqb}
use Rattle.lists.specs.Tests.{when, lowest_of}
use Rattle.reader.specs.declared.state.Event.{Event}
use Rattle.reader.specs.declared.state.Event.TheVariants.{Refused, Begun, Block, Drop, End}
use Rattle.reader.specs.declared.within.Report.{Report}
use Rattle.reader.specs.declared.within.Report.TheVariants.{Paused, Told}
use Rattle.writer.specs.declared.state.Answer.{Answer}
use Rattle.writer.specs.declared.state.Answer.TheVariants.{Refused as NotDone, Done}
use Rattle.writer.specs.declared.state.Laid.{Laid}
use Rattle.writer.specs.declared.state.Laid.TheVariants.{Refused as NotLaid, Finished, Unfinished}
use Rattle.writer.specs.declared.batch.Stop.{Stop}
use Rattle.writer.specs.declared.batch.Stop.TheVariants.{Refused as Stopped, All, Unfinished as Broken}

-- above every refusal's number
abbrev pub unfinished : ℕ
unfinished = 256

abbrev pub event_answer : Event → ℕ
event_answer (Refused n dropped) = n
event_answer (Begun n jump dropped) = 0
event_answer (Block k n) = 0
event_answer (Drop n) = 0
event_answer End = 0

abbrev pub report_answer : Report → ℕ
report_answer Paused = 0
report_answer (Told e) = event_answer e

abbrev pub done_answer : Answer → ℕ
done_answer (NotDone n) = n
done_answer Done = 0

abbrev pub laid_answer : Laid → ℕ
laid_answer (NotLaid n) = n
laid_answer Finished = 0
laid_answer Unfinished = unfinished

abbrev pub stop_answer : Stop → ℕ
stop_answer (Stopped n) = n
stop_answer All = 0
stop_answer Broken = unfinished

-- Refusals of a call before anything is written. 1: also a wrong image length, or settings or event buffer of the wrong length (not `shaped`); 2: also an image that no state gives (no
-- `image`). Beside these the library's own call, on the state that the bytes spell, answers `n`, 1 for an odd buffer among its answers.
unfoldable pub refusal : Bool → Bool → ℕ → ℕ
refusal shaped image n = lowest_of (when 1 (not shaped || eqb n 1) ∷ when 2 (not image || eqb n 2) ∷ [])

-- a number of 32 bits as one of 16: what is above 65,535 counts as 65,535, which every rule refuses that would refuse the number itself
unfoldable pub sixteen : ℕ → ℕ
sixteen n = min n 65535
