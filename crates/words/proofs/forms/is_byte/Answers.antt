-- `words::forms::is_byte` meets its contract. Assumes nothing.
use mathlib.Core.Path.{ap, ◌∙◌}
use Prim.Native.Nat.{ℕ, ◌+◌, ◌/◌}
use lib.Dec.{eqb}
use Rattle.words.proofs.FormLaws.{byte_above}
use Rattle.words.proofs.forms.is_byte.Goals as goal

pub returns : goal.returns
returns c = let w = c.args.w in ap (λ (p : ℕ). eqb (w / 256 + p) 2) c.parity_of.ensures.0 ∙ byte_above w
