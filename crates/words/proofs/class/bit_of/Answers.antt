-- `words::class::bit_of` meets its contract: the array that it names is the table. Assumes nothing.
use mathlib.Core.Path.{ap, ◌∙◌}
use mathlib.Core.List.{List}
use Prim.Native.Nat.{ℕ}
use Rattle.words.specs.Table.{bit_in}
use Rattle.words.proofs.class.bit_of.Goals as goal

pub returns : goal.returns
returns c =
    let w = c.args.w in
    c.bit_in.ensures ∙ ap (λ (t : List ℕ). bit_in t w) c.classes.ensures
