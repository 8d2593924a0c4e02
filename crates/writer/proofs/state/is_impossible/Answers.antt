-- `writer::state::is_impossible` meets its contract. Assumes nothing.
use Rattle.writer.specs.State.{impossible}
use borrow.Author.Rules.{rules}
use Rattle.writer.proofs.state.is_impossible.Goals as goal

pub is_part-requires : goal.is_part-requires
is_part-requires c = search rules

pub is_impossible-lines-requires : goal.is_impossible-lines-requires
is_impossible-lines-requires c = search rules

pub is_misheld-requires : goal.is_misheld-requires
is_misheld-requires c = search rules

pub returns : goal.returns
unfolding impossible
returns c = simp (c.is_impossible-lines.ensures, c.is_part.ensures, c.is_misheld.ensures)
