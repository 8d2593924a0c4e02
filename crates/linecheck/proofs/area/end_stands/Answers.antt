-- `linecheck::area::end_stands` meets its contract. Assumes nothing.
use mathlib.Core.Path.{sym, ap, ◌∙◌}
use borrow.Author.Tests.{eq-eqb, ne_eqb}
use Rattle.lists.proofs.Tests.{pick_true, pick_false}
use mathlib.Core.List.{[]}
use Rattle.lists.specs.Lists.{same}
use Rattle.words.specs.Crc.{register_words, crc_words}
use Rattle.line.specs.Layout.{end_words}
use Rattle.linecheck.proofs.area.end_stands.Goals as goal

pub returns-then-flag-ne1 : goal.returns-then-flag-ne1
unfolding end_words
returns-then-flag-ne1 c = c.same.ensures ∙ ap (same c.args.end.now) (sym (pick_false (crc_words c.args.area.now) [] (ne_eqb c.args.flag 1 c.if-flag-ne1.true)))

pub returns : goal.returns
unfolding end_words crc_words
returns c =
    let a = c.args in
    c.same-2.ensures
    ∙ ap (same a.end.now)
    (c.crc_words.ensures
    ∙ ap register_words c.crc_of-c.ensures
    ∙ sym (pick_true (crc_words a.area.now) [] (eq-eqb a.flag 1 c.if-flag-ne1.false)))
