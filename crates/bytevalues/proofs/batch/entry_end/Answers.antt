-- `bytevalues::batch::entry_end` meets its contract. Assumes nothing.
use mathlib.Core.Path.{sym, ap, ◌∙◌}
use mathlib.Core.Bool.{Bool, ◌&&◌}
use Prim.Native.Nat.{ℕ, ◌+◌, ◌-◌, ◌<◌, ◌≤◌}
use native.Mathlib.Omega.{arith}
use lib.Dec.{leb}
use lib.ListN.{length, get_or}
use borrow.Author.Tests.{le-leb, lt-leb}
use Rattle.lists.proofs.Tests.{pick_true, pick_false, and_true, and_none}
use Rattle.octets.specs.Bytes.{words_of}
use Rattle.octets.proofs.BytesLaws.{length_words}
use Rattle.writer.specs.Ground.{entry_end}
use Rattle.bytevalues.proofs.batch.entry_end.Goals as goal

pub overflow_sub-left : goal.overflow_sub-left
overflow_sub-left c = omega (arith, c.requires, length_words c.args.blocks.now)

pub returns-then-left-lt2 : goal.returns-then-left-lt2
unfolding entry_end
returns-then-left-lt2 c =
    let a = c.args in
    let ws = words_of a.blocks.now in
    let few : length ws - a.at < 2 = omega (arith, c.if-left-lt2.true, length_words a.blocks.now) in
    sym (pick_false _ _ (ap (λ (b : Bool). b && leb (get_or ws (a.at + 1) 0) (length ws - a.at - 2)) (lt-leb 2 (length ws - a.at) few)))

pub returns-then-left-n : goal.returns-then-left-n
unfolding entry_end
returns-then-left-n c =
    let a = c.args in
    let ws = words_of a.blocks.now in
    let cut : length ws - a.at - 2 < get_or ws (a.at + 1) 0 = omega (arith, c.if-left-n.true, c.from-n.ensures, c.word_at.ensures, length_words a.blocks.now) in
    sym (pick_false _ _ (and_none (leb 2 (length ws - a.at)) _ (lt-leb (get_or ws (a.at + 1) 0) (length ws - a.at - 2) cut)))

pub returns : goal.returns
unfolding entry_end
returns c =
    let a = c.args in
    let ws = words_of a.blocks.now in
    let two : 2 ≤ length ws - a.at = omega (arith, c.if-left-lt2.false, length_words a.blocks.now) in
    let all : get_or ws (a.at + 1) 0 ≤ length ws - a.at - 2 = omega (arith, c.if-left-n.false, c.from-n.ensures, c.word_at.ensures, length_words a.blocks.now) in
    ap (λ (n : ℕ). a.at + 2 + n) (c.from-n.ensures ∙ c.word_at.ensures) ∙ sym (pick_true _ _ (and_true (le-leb 2 (length ws - a.at) two) (le-leb (get_or ws (a.at + 1) 0) (length ws - a.at - 2) all)))
