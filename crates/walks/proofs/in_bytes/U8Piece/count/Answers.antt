-- How many words bytes spell. Assumes nothing.
use Rattle.std.proofs.Common.{sym}
use Rattle.octets.proofs.BytesLaws.{length_words}
use Rattle.walks.proofs.in_bytes.U8Piece.count.Goals as goal

pub returns : goal.returns
returns c = sym (length_words c.args.pieces.now)
