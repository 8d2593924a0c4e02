-- `hostreads::looking::words_in` meets its contract: the words in front of the room are those that the bytes spell. Assumes nothing.
use mathlib.Core.Path.{refl}
use Prim.Native.Nat.{◌/◌}
use native.Mathlib.Omega.{arith}
use lib.ListN.{length}
use Rattle.octets.proofs.BytesLaws.{length_words}
use Rattle.octets.proofs.PartLaws.{converted}
use Rattle.hostreads.proofs.looking.words_in.Goals as goal

pub shared_ref_as_front-result : goal.shared_ref_as_front-result
shared_ref_as_front-result c = omega (arith, c.requires, length_words c.args.line.now)

pub returns : goal.returns
returns c =
    let line = c.args.line.now in
    converted line c.args.room.now _ (length line / 2) c.words_of.ensures refl (omega (arith, c.requires, length_words line, c.told-room))
