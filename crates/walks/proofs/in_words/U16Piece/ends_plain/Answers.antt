-- Words lent as they are, where a run is known to reach the last 32. Assumes nothing.
use Rattle.std.proofs.Common.{◌-◌, length, sym, ap, ◌∙◌}
use Rattle.lists.specs.Lists.{each}
use Rattle.machine.specs.Runs.{plain_by}
use Rattle.machine.proofs.Going.{rest_lent}
use Rattle.machine.proofs.PlainLaws.{plain_end}
use Rattle.walks.proofs.in_words.U16Piece.ends_plain.Goals as goal

pub returns : goal.returns
returns c e h =
    let a = c.args in
    let ws = a.pieces.now in
    plain_end a.mode ws a.i (length ws - 32) c.if-i-last.false h
    (ap (each (plain_by a.mode)) (sym (rest_lent (length ws - 32) ws)) ∙ sym c.all_plain.ensures ∙ e)
