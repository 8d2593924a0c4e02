-- `writer::state::is_misheld` meets its contract. Assumes nothing.
use mathlib.Core.Path.{ap₂, ◌∙◌}
use Rattle.std.proofs.Math.Bool.{or_assoc}
use mathlib.Core.Bool.{Bool, ◌||◌}
use Prim.Native.Nat.{ℕ}
use lib.Dec.{ltb}
use Rattle.writer.specs.State.{overlong}
use Rattle.writer.proofs.state.is_misheld.Goals as goal

pub returns : goal.returns
returns c =
    let a = c.args in
    simp c.from.ensures
    (or_assoc c.is_misshapen.result (overlong a.crc) (ltb c.gap_length-gap.result a.used) ∙ ap₂ (λ (b : Bool) (g : ℕ). b || (overlong a.crc || ltb g a.used)) c.is_misshapen.ensures c.gap_length-gap.ensures)
