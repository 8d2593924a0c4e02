-- `fields::frame::last_bytes` meets its contract. Assumes nothing.
use mathlib.Core.Path.{refl}
use Rattle.fields.specs.Fields.{bytes_for}
use Rattle.fields.proofs.frame.last_bytes.Goals as goal

pub returns-in-Some : goal.returns-in-Some
unfolding bytes_for
returns-in-Some c = simp (c.to_le_bytes.ensures, c.in-Some.is) refl
