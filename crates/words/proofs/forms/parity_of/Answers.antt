-- `words::forms::parity_of` meets its contract. Assumes nothing.
use Prim.Native.Nat.{◌%◌}
use lib.Dec.{lit<}
use native.Mathlib.Nat.{mod-lt}
use Rattle.words.proofs.FormLaws.{folded_is}
use Rattle.words.proofs.forms.parity_of.Goals as goal

pub returns : goal.returns
returns c = (folded_is (c.args.w % 256) (mod-lt c.args.w (lit< tt)), mod-lt _ (lit< tt))
