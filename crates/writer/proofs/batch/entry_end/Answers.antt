-- `writer::batch::entry_end` meets its contract. Assumes nothing.
use mathlib.Core.Path.{sym, ap, ◌∙◌}
use mathlib.Core.Bool.{Bool, ◌&&◌}
use Prim.Native.Nat.{◌+◌, ◌-◌}
use native.Mathlib.Omega.{arith}
use lib.Dec.{leb}
use lib.ListN.{length, get_or}
use borrow.Author.Tests.{le-leb, lt-leb}
use Rattle.lists.proofs.Tests.{pick_true, pick_false, and_true, and_none}
use Rattle.writer.specs.Ground.{entry_end}
use Rattle.writer.proofs.batch.entry_end.Goals as goal

pub returns-then-left-lt2 : goal.returns-then-left-lt2
unfolding entry_end
returns-then-left-lt2 c =
    let a = c.args in
    let ws = a.blocks.now in
    sym (pick_false _ _ (ap (λ (b : Bool). b && leb (get_or ws (a.at + 1) 0) (length ws - a.at - 2)) (lt-leb 2 (length ws - a.at) c.if-left-lt2.true)))

pub returns-then-left-n : goal.returns-then-left-n
unfolding entry_end
returns-then-left-n c =
    let a = c.args in
    let ws = a.blocks.now in
    sym (pick_false _ _ (and_none (leb 2 (length ws - a.at)) _ (lt-leb (get_or ws (a.at + 1) 0) (length ws - a.at - 2) (omega (arith, c.if-left-n.true, c.from-n.ensures)))))

pub returns : goal.returns
unfolding entry_end
returns c =
    let a = c.args in
    let ws = a.blocks.now in
    ap (λ n. a.at + 2 + n) c.from-n.ensures
    ∙ sym (pick_true _ _ (and_true (le-leb 2 (length ws - a.at) c.if-left-lt2.false) (le-leb (get_or ws (a.at + 1) 0) (length ws - a.at - 2) (omega (arith, c.if-left-n.false, c.from-n.ensures)))))
