-- The numbers of the writer's answers, by the fault and the block alone.
-- Assumes nothing.
use Rattle.std.specs.Prelude.{ℕ, zero, suc, ◌-◌, Bool, List, [], ◌∷◌, leb, length}
use Rattle.lists.specs.Tests.{pick}
use Rattle.course.specs.Course.{place_of}
use Rattle.writer.specs.declared.state.Writer.{Writer}
use Rattle.writer.specs.State.{end_in}
use Rattle.writer.specs.Adding.{todo}

-- opening and closing: the number of the fault, or none where they are done
abbrev pub answers_by : ℕ → List ℕ
answers_by zero = []
answers_by (suc n) = suc n ∷ []

-- what is left of the block fits what is left of the open line
abbrev pub all_fits : Writer → ℕ → List ℕ → Bool
all_fits w kind vs = leb (length (todo w kind vs)) (end_in w - place_of w.place)

-- adding: the number of the fault; or 0, and then 1 where the block is finished and 0 where not
abbrev pub laid_by : ℕ → Bool → List ℕ
laid_by zero all = 0 ∷ pick all 1 0 ∷ []
laid_by (suc n) all = suc n ∷ []
