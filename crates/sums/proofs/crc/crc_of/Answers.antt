-- `sums::crc::crc_of` meets its contract. Assumes nothing.
use mathlib.Core.Path.{◌∙◌}
use native.Mathlib.Nat.{mod-lt}
use lib.Dec.{lit<}
use Rattle.words.proofs.CrcLaws.{crc_register}
use borrow.Author.Rules.{rules}
use Rattle.sums.proofs.crc.crc_of.Goals as goal

pub crc_short-requires : goal.crc_short-requires
crc_short-requires c = mod-lt _ (lit< tt)

pub returns-in-0-to-455 : goal.returns-in-0-to-455
returns-in-0-to-455 c = c.crc_short.ensures ∙ crc_register _ _

pub crc_long-requires : goal.crc_long-requires
crc_long-requires c = (mod-lt _ (lit< tt), (search rules, search rules))

pub returns-in-456-to-1920 : goal.returns-in-456-to-1920
returns-in-456-to-1920 c = c.crc_long.ensures ∙ crc_register _ _

pub crc_pieces-requires : goal.crc_pieces-requires
crc_pieces-requires c = mod-lt _ (lit< tt)

pub returns-in_default : goal.returns-in_default
returns-in_default c = c.crc_pieces.ensures ∙ crc_register _ _
