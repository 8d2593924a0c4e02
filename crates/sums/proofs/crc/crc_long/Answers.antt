-- `sums::crc::crc_long` meets its contract. Assumes nothing.
use mathlib.Core.Path.{refl, ap, ◌∙◌}
use native.Mathlib.Omega.{arith}
use borrow.Rule.Slice.PartMut.{same_len_mid}
use Rattle.words.specs.Crc.{crc_of}
use Rattle.sums.proofs.Folds.{folds_152, folds_304}
use Rattle.sums.proofs.Gather.{entered}
use Rattle.sums.proofs.Moving.{part_rest, behind_both}
use borrow.Author.Rules.{rules}
use Rattle.sums.proofs.crc.crc_long.Goals as goal

pub fold-requires : goal.fold-requires
fold-requires c = (folds_304, (search rules, (search rules, (search rules, refl))))

pub moved-requires : goal.moved-requires
moved-requires c = (folds_152, (search rules, (search rules, (search rules, (search rules, search rules)))))

pub moved-requires-2 : goal.moved-requires-2
moved-requires-2 c = (folds_152, (search rules, (search rules, (search rules, (search rules, search rules)))))

pub slice_bounds-crc_folded-end : goal.slice_bounds-crc_folded-end
slice_bounds-crc_folded-end c =
    let again = c.before.before in
    let y4 = again.before.before in
    omega (arith, same_len_mid 76 228 y4.moved.new.f again.moved-2.new.f c.y-6-1.given, y4.y-4-1.given)

pub returns : goal.returns
returns c =
    let again = c.before.before.before.before in
    let first = again.before.before.before in
    let fold = first.before.before.before.before in
    let start = fold in
    let y = first.moved.new.f in
    c.crc_folded.ensures
    ∙ ap (crc_of 0) (behind_both 76 152 228 y again.moved-2.new.f (search rules) (search rules))
    ∙ again.moved-2.ensures
    ∙ ap (crc_of 0) (part_rest 76 228 y (search rules))
    ∙ first.moved.ensures
    ∙ entered 302 150 126 start.args.c 2222 _ start.args.s.now folds_304 start.requires.0 (omega arith) fold.fold.ensures
