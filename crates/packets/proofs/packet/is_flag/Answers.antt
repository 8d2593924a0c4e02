-- `packets::packet::is_flag` meets its contract. Assumes nothing.
use mathlib.Core.Path.{refl}
use Rattle.line.specs.Header.{flag_words}
use Rattle.line.proofs.Fronts.{stands}
use Rattle.packets.proofs.packet.is_flag.Goals as goal

pub returns : goal.returns
returns c = stands _ flag_words flag_words c.args.gap.now c.starts_with.ensures.value refl
