-- `bytewriter::adding::payload_at` meets its contract. Assumes nothing.
use mathlib.Core.Path.{ap, ◌∙◌}
use Rattle.line.specs.declared.systems.System.{System}
use Rattle.line.specs.Layout.{payload_at}
use Rattle.bytewriter.proofs.adding.payload_at.Goals as goal

pub returns : goal.returns
returns c = c.saturating_sub.ensures ∙ ap (λ (s : System). payload_at s) c.system_of-s.ensures
