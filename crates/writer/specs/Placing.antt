-- A block of a fixed line, its place alone lent and not the line.
-- Assumes nothing.
use Rattle.std.specs.Prelude.{ℕ, ◌+◌, ◌&&◌, not, List, eqb, length, replicate}
use Rattle.lists.specs.Tests.{pick}
use Rattle.line.specs.Fixed.{is_variable}
use Rattle.blocks.specs.Laid.{laid_in}
use Rattle.writer.specs.declared.state.Writer.{Writer}
use Rattle.writer.specs.declared.state.Laid.TheVariants.{Refused}
use Rattle.writer.specs.Answers.{Added, added}
use Rattle.writer.specs.Adding.{adding}
use Rattle.writer.specs.Filling.{piece_of}

-- a line of which only the length counts
abbrev pub zeros : ℕ → List ℕ
zeros long = replicate long 0

-- Answer and state are those of the addition to a line of so many words, whatever they are; the place gets the words that it lays. 1 also for a line that is
-- not a fixed one, and for a place that has not the block's n+1 words.
unfoldable pub placing : Writer → ℕ → ℕ → List ℕ → List ℕ → Added
placing w long kind vs place =
    let line = zeros long in
    let x = adding w line kind vs in
    pick (not (is_variable w.settings.block) && eqb (length place) (length vs + 1))
    (added x.answer x.state (laid_in (piece_of w line kind vs) place)) (added (Refused 1) w place)
