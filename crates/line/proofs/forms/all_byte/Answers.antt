-- `line::forms::all_byte` meets its contract: the halves, and the word that is over. Assumes nothing.
use Prim.Native.Nat.{◌*◌, ◌/◌, ◌≤◌}
use native.Mathlib.Omega.{arith}
use lib.ListN.{length}
use Rattle.lists.proofs.Loops.{test_turn, test_end}
use Rattle.words.specs.Forms.{is_byte}
use Rattle.line.proofs.FormPairs.{halves}
use Rattle.line.proofs.forms.all_byte.Goals as goal

pub returns-then-e-s : goal.returns-then-e-s
returns-then-e-s c =
    let b = c.before.before.before in
    let s = b.args.s.now in
    let half = length s / 2 in
    let fits : half * 2 ≤ length s = omega arith in
    let over = c.if-e-s.true in
    test_end is_byte s _ _ (test_turn is_byte s _ _ (half * 2) (halves s half _ fits b.both_byte-pairs.ensures) over c.is_byte.ensures) (omega arith)

pub returns : goal.returns
returns c =
    let b = c.before in
    let s = b.args.s.now in
    let half = length s / 2 in
    let fits : half * 2 ≤ length s = omega arith in
    let left = c.if-e-s.false in
    test_end is_byte s _ (half * 2) (halves s half _ fits b.both_byte-pairs.ensures) left
