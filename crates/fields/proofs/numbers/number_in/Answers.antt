-- `fields::numbers::number_in` meets its contract. Assumes nothing.
use mathlib.Core.Path.{sym, ◌∙◌}
use native.Mathlib.Omega.{arith}
use borrow.Author.Tests.{le-leb, lt-leb}
use Rattle.lists.proofs.Tests.{pick_true, pick_false}
use Rattle.fields.proofs.NumberLaws.{each_small}
use Rattle.fields.proofs.numbers.number_in.Goals as goal

pub returns-then-b-le8 : goal.returns-then-b-le8
returns-then-b-le8 c =
    (c.number_from.ensures.0 ∙ sym (pick_true _ _ (le-leb _ _ c.if-b-le8.true)), each_small c.args.b.now (λ i. omega (arith, c.type_inv.b i)))

pub returns-else-b-le8 : goal.returns-else-b-le8
returns-else-b-le8 c =
    (sym (pick_false _ _ (lt-leb _ _ c.if-b-le8.false)), each_small c.args.b.now (λ i. omega (arith, c.type_inv.b i)))
