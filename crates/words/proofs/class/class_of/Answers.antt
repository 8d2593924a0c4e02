-- `words::class::class_of` meets its contract: the table's class of every number is the number's class. Assumes nothing.
use mathlib.Core.Path.{sym, ap, ◌∙◌}
use mathlib.Core.List.{List}
use Prim.Native.Nat.{ℕ}
use Rattle.words.specs.Class.{class_of}
use Rattle.words.specs.Table.{class_of_bit, class_in}
use Rattle.words.proofs.ClassLaws.{class_numbered}
use Rattle.words.proofs.TableLaws.{table_class}
use Rattle.words.proofs.class.class_of.Goals as goal

-- of 30Ah
pub returns-then-w-eq-END_CODE : goal.returns-then-w-eq-END_CODE
unfolding class_in
returns-then-w-eq-END_CODE c =
    let t = c.before.before.before in
    let e = t.before in
    class_numbered e.args.w _
    (c.class_of_bit.ensures ∙ ap class_of_bit c.bit_in.ensures
    ∙ ap (λ (l : List ℕ). class_in l 778) t.classes.ensures ∙ table_class 778 ∙ ap class_of (sym e.if-w-eq-END_CODE.true))

pub returns-else-w-eq-END_CODE : goal.returns-else-w-eq-END_CODE
unfolding class_in
returns-else-w-eq-END_CODE c =
    let w = c.args.w in
    class_numbered w _ (c.class_of_bit-else-w-eq-END_CODE.ensures ∙ ap class_of_bit c.bit_of.ensures ∙ table_class w)
