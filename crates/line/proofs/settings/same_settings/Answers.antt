-- `line::settings::same_settings` meets its contract. Assumes nothing.
use mathlib.Core.Path.{◌∙◌}
use Rattle.line.specs.Settings.{same_settings}
use Rattle.line.proofs.SettingsLaws.{pointwise_same}
use Rattle.line.proofs.settings.same_settings.Goals as goal

pub returns : goal.returns
unfolding same_settings
returns c = c.eq.ensures ∙ simp pointwise_same
