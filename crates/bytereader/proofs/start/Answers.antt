-- `bytereader::start` meets its contract: the words in front of the array are those that the bytes spell. Assumes nothing.
use mathlib.Core.Path.{◌≡◌, sym, ap, ◌∙◌}
use mathlib.Core.List.{List}
use Prim.Native.Nat.{ℕ, ◌/◌, ◌≤◌}
use native.Mathlib.Omega.{arith}
use lib.ListN.{length, take, replicate}
use lib.Seq.{length-take-le}
use borrow.Author.Tests.{lt-ltb, le-ltb}
use Rattle.lists.proofs.Tests.{pick_true, pick_false}
use Rattle.line.specs.Check.{checked_of}
use Rattle.octets.specs.Bytes.{words_of}
use Rattle.octets.proofs.BytesLaws.{length_words}
use Rattle.reader.specs.Reading.{starts}
use Rattle.bytereader.specs.Calls.{start_bytes}
use Rattle.bytereader.proofs.CallLaws.{front_words}
use Rattle.bytereader.proofs.start.Goals as goal
use Rattle.bytereader.proofs.start.Goals.{After-words_of}

-- the array has as many words as before, and the line's in front
long : (x : After-words_of) → length x.words_of.new.out ≡ 2304
long x = x.words_of.auto.out

fits : (x : After-words_of) → length x.args.line.now / 2 ≤ length x.words_of.new.out
fits x = omega (arith, x.if-n-gt2304.false, long x)

front : (x : After-words_of) → let line = x.args.line.now in take (length line / 2) x.words_of.new.out ≡ words_of line
front x =
    let line = x.args.line.now in
    ap (take (length line / 2)) x.words_of.ensures
    ∙ front_words (replicate 2304 0) (words_of line) (length line / 2) (sym (length_words line)) (omega (arith, x.if-n-gt2304.false, length_words line))

pub returns-then-n-gt2304 : goal.returns-then-n-gt2304
unfolding start_bytes
returns-then-n-gt2304 c =
    sym (pick_true _ _ (lt-ltb _ _ c.if-n-gt2304.true))

pub slice_bounds-words-end : goal.slice_bounds-words-end
slice_bounds-words-end c =
    fits (goal.at.slice_bounds-words-end c).After-words_of

pub slice_bounds-start-end : goal.slice_bounds-start-end
slice_bounds-start-end c =
    sym (length-take-le _ _ (fits (goal.at.slice_bounds-start-end c).After-words_of))

pub returns : goal.returns
unfolding start_bytes
returns c =
    let st = c.args.st in
    c.start.ensures.0 ∙ ap (λ (l : List ℕ). starts st (checked_of st.system st.mode l)) (front (goal.at.returns c).After-words_of)
    ∙ sym (pick_false _ _ (le-ltb _ _ c.if-n-gt2304.false))
