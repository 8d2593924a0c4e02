-- `words::forms::word_of` meets its contract. Assumes nothing.
use mathlib.Core.Path.{sym, ◌∙◌}
use borrow.Author.Tests.{eq-eqb, ne_eqb}
use Rattle.lists.proofs.Tests.{pick_true, pick_false}
use Rattle.words.specs.Modes.{word_of}
use Rattle.words.proofs.forms.word_of.Goals as goal

pub returns-then-mode-eq8 : goal.returns-then-mode-eq8
unfolding word_of
returns-then-mode-eq8 c = c.byte_word.ensures ∙ sym (pick_true _ _ (eq-eqb c.args.mode 8 c.if-mode-eq8.true))

pub returns-else-mode-eq8 : goal.returns-else-mode-eq8
unfolding word_of
returns-else-mode-eq8 c = c.data_word.ensures ∙ sym (pick_false _ _ (ne_eqb c.args.mode 8 c.if-mode-eq8.false))
