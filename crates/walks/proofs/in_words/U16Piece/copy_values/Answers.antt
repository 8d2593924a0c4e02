use Rattle.std.proofs.Common.{arith}
use lib.ListN.{length-map}
use Rattle.lists.proofs.Loops.{map_turn}
use Rattle.words.specs.Modes.{value_of}
use Rattle.walks.proofs.in_words.U16Piece.copy_values.Goals as goal

pub loop-i-preserved : goal.loop-i-preserved
loop-i-preserved c =
    let a = c.args in
    let f = c.loop-i.invariant in
    map_turn (value_of a.mode) a.pieces.now _ _ _ _ f (omega (arith, c.loop-i-test.true, f.long, length-map a.pieces.now (value_of a.mode))) c.value_of.ensures
