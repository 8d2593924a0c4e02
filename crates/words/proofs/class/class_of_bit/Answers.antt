-- `words::class::class_of_bit` meets its contract: each case of the match is a case of the definition. Assumes nothing.
use mathlib.Core.Path.{sym, ap}
use Rattle.lists.specs.Tests.{pick}
use Rattle.words.specs.Table.{class_of_bit}
use Rattle.words.proofs.TableLaws.{rest_illegal}
use Rattle.words.proofs.class.class_of_bit.Goals as goal

pub returns-in-1 : goal.returns-in-1
unfolding class_of_bit pick
returns-in-1 c = ap class_of_bit (sym c.in-1.is)

pub returns-in-2 : goal.returns-in-2
unfolding class_of_bit pick
returns-in-2 c = ap class_of_bit (sym c.in-2.is)

pub returns-in-4 : goal.returns-in-4
unfolding class_of_bit pick
returns-in-4 c = ap class_of_bit (sym c.in-4.is)

pub returns-in-8 : goal.returns-in-8
unfolding class_of_bit pick
returns-in-8 c = ap class_of_bit (sym c.in-8.is)

pub returns-in-32 : goal.returns-in-32
unfolding class_of_bit pick
returns-in-32 c = ap class_of_bit (sym c.in-32.is)

pub returns-in_default : goal.returns-in_default
returns-in_default c =
    let r = c.in_default.in_default-own.rest in
    sym (rest_illegal _ r.0.0.0.0.1 r.0.0.0.1 r.0.0.1 r.0.1 r.1)
