-- Plain words lent as they are, in each mode. Assumes nothing.
use Rattle.std.proofs.Common.{◌∙◌}
use Rattle.machine.proofs.PlainLaws.{plain_eight, plain_nine}
use Rattle.walks.proofs.in_words.U16Piece.all_plain.Goals as goal

pub returns-then-mode-eq8 : goal.returns-then-mode-eq8
returns-then-mode-eq8 c = let a = c.args in c.all_from.ensures ∙ plain_eight a.mode a.pieces.now c.if-mode-eq8.true

pub returns : goal.returns
returns c = let a = c.args in c.all_from-2.ensures ∙ plain_nine a.mode a.pieces.now c.if-mode-eq8.false
