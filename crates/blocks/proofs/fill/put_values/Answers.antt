-- `blocks::fill::put_values` meets its contract. Assumes nothing.
use mathlib.Core.Path.{◌∙◌}
use Rattle.std.proofs.Common.{rules}
use Rattle.words.specs.Forms.{byte_word, data_word}
use Rattle.blocks.proofs.FillLaws.{map_by_each, values_8, values_9}
use Rattle.blocks.proofs.fill.put_values.Goals as goal

pub returns-then-mode-eq8 : goal.returns-then-mode-eq8
returns-then-mode-eq8 c =
    map_by_each byte_word c.args.values.now _ (search rules) (λ k h. search (rules, c.put_each.ensures k h)) ∙ values_8 _ c.args.values.now c.if-mode-eq8.true

pub returns-else-mode-eq8 : goal.returns-else-mode-eq8
returns-else-mode-eq8 c =
    map_by_each data_word c.args.values.now _ (search rules) (λ k h. search (rules, c.put_each-else-mode-eq8.ensures k h)) ∙ values_9 _ c.args.values.now c.if-mode-eq8.false
