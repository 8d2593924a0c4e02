-- The writer's answers, and 01's numbers for them.
-- Assumes nothing.
use Rattle.std.specs.Prelude.{ℕ, List, [], ◌∷◌}
use Rattle.writer.specs.declared.state.Writer.{Writer}
use Rattle.writer.specs.declared.state.Answer.{Answer}
use Rattle.writer.specs.declared.state.Answer.TheVariants.{Refused, Done}
use Rattle.writer.specs.declared.state.Laid.{Laid}
use Rattle.writer.specs.declared.state.Laid.TheVariants.{Refused as NotLaid, Finished, Unfinished}

-- opening and closing: refused with 01's number, or done
abbrev pub answer_numbers : Answer → List ℕ
answer_numbers (Refused n) = n ∷ []
answer_numbers Done = []

-- adding: refused with 01's number; finished, 1; or unfinished, 0
abbrev pub laid_numbers : Laid → List ℕ
laid_numbers (NotLaid n) = n ∷ []
laid_numbers Finished = 0 ∷ 1 ∷ []
laid_numbers Unfinished = 0 ∷ 0 ∷ []

-- what a call leaves: the answer, the state and the lent line
pub record Left : Type 0 where
  pub answer : Answer
  pub state : Writer
  pub line : List ℕ

abbrev pub left : Answer → Writer → List ℕ → Left
left a w l = record { answer = a; state = w; line = l }

pub record Added : Type 0 where
  pub answer : Laid
  pub state : Writer
  pub line : List ℕ

abbrev pub added : Laid → Writer → List ℕ → Added
added a w l = record { answer = a; state = w; line = l }
