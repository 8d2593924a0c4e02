-- `words::forms::value_of` meets its contract. Assumes nothing.
use mathlib.Core.Path.{sym, ap}
use borrow.Author.Tests.{eq-eqb, ne_eqb}
use Rattle.lists.proofs.Tests.{pick_true, pick_false}
use Prim.Native.Nat.{ℕ, ◌%◌}
use Rattle.words.specs.Modes.{values, value_of}
use Rattle.words.proofs.forms.value_of.Goals as goal

pub returns-then-mode-eq8 : goal.returns-then-mode-eq8
unfolding value_of values
returns-then-mode-eq8 c = ap (λ (n : ℕ). c.args.w % n) (sym (pick_true 256 512 (eq-eqb c.args.mode 8 c.if-mode-eq8.true)))

pub returns-else-mode-eq8 : goal.returns-else-mode-eq8
unfolding value_of values
returns-else-mode-eq8 c = ap (λ (n : ℕ). c.args.w % n) (sym (pick_false 256 512 (ne_eqb c.args.mode 8 c.if-mode-eq8.false)))
