-- `lines::opening::is_blocked` meets its contract. Assumes nothing.
use Rattle.writer.specs.Opening.{open_blocked}
use Rattle.lines.proofs.opening.is_blocked.Goals as goal

pub returns : goal.returns
unfolding open_blocked
returns c = simp (c.is_at.ensures, c.is_part.ensures, c.same_settings.ensures, c.is_next.ensures, c.system_of-s.ensures)
