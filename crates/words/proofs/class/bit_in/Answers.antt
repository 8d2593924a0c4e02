-- `words::class::bit_in` meets its contract. Assumes nothing.
use mathlib.Core.Path.{sym, ap, ◌∙◌}
use Prim.Native.Nat.{ℕ}
use lib.ListN.{get_or}
use borrow.Author.Tests.{lt-ltb, le-ltb}
use Rattle.lists.proofs.Tests.{pick_true, pick_false}
use Rattle.words.specs.Table.{bit_in}
use Rattle.words.proofs.class.bit_in.Goals as goal

pub returns-then-w-lt1024 : goal.returns-then-w-lt1024
unfolding bit_in
returns-then-w-lt1024 c = ap (λ (i : ℕ). get_or c.args.t.now i 0) c.from.ensures ∙ sym (pick_true _ _ (lt-ltb _ 1024 c.if-w-lt1024.true))

pub returns-else-w-lt1024 : goal.returns-else-w-lt1024
unfolding bit_in
returns-else-w-lt1024 c = sym (pick_false _ _ (le-ltb _ 1024 c.if-w-lt1024.false))
