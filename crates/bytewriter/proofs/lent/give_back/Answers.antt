-- `bytewriter::lent::give_back` meets its contract: the part of the bytes that stands for the part of the words is filled with its bytes. Assumes nothing.
use mathlib.Core.Path.{◌≡◌, sym, ap, ◌∙◌}
use Prim.Native.Nat.{ℕ, ◌+◌, ◌-◌, ◌*◌, ◌≤◌}
use native.Mathlib.Omega.{arith}
use lib.ListN.{length, take, drop}
use lib.Seq.{paste, paste-zero}
use Rattle.octets.specs.Bytes.{words_of, bytes_of}
use Rattle.octets.proofs.PartLaws.{given_back}
use Rattle.octets.proofs.BytesLaws.{bytes_back}
use Rattle.bytewriter.proofs.lent.give_back.Goals as goal
use Rattle.bytewriter.proofs.lent.give_back.Goals.{After-slice_known-1, Else-after-before}

-- the line's bytes come back from its words
back : (c : After-slice_known-1) → bytes_of (words_of c.args.line.now) ≡ c.args.line.now
back c = bytes_back c.args.line.now (omega (arith, c.requires.1)) (λ i. omega (arith, c.type_inv.line i))

-- what is laid lies in the line
inn : (c : Else-after-before) → let a = c.args in a.start + a.after ≤ length a.words.now
inn c = c.requires.0 c.if-after-before.false

pub returns-then-after-before : goal.returns-then-after-before
returns-then-after-before c =
    let a = c.args in
    let none : 0 ≡ a.after - a.before = omega (arith, c.if-after-before.true) in
    let at = a.start + a.before in
    sym (back (goal.at.returns-then-after-before c).After-slice_known-1) ∙ ap bytes_of (paste-zero (words_of a.line.now) at (drop at a.words.now) ∙ ap (paste (words_of a.line.now) at (drop at a.words.now)) none)

pub overflow_add-a : goal.overflow_add-a
overflow_add-a c = omega (arith, inn c)

pub overflow_add-e : goal.overflow_add-e
overflow_add-e c = omega (arith, inn c)

pub overflow_mul-from : goal.overflow_mul-from
overflow_mul-from c = omega (arith, inn c)

pub overflow_mul-to : goal.overflow_mul-to
overflow_mul-to c = omega (arith, inn c)

pub offset_bounds-words-a : goal.offset_bounds-words-a
offset_bounds-words-a c = omega (arith, inn c)

pub slice_bounds-bytes_of-end : goal.slice_bounds-bytes_of-end
slice_bounds-bytes_of-end c = inn c

pub slice_bounds-bytes_of-end-2 : goal.slice_bounds-bytes_of-end-2
slice_bounds-bytes_of-end-2 c = omega (arith, inn (goal.at.slice_bounds-bytes_of-end-2 c).Else-after-before, c.requires.1)

pub returns : goal.returns
returns c =
    let a = c.args in
    let at = a.start + a.before in
    let many : a.start + a.after - at ≡ a.after - a.before = omega arith in
    let span : 2 * (a.start + a.after) - 2 * at ≡ 2 * (at + (a.after - a.before)) - 2 * at = omega (arith, c.if-after-before.false) in
    given_back a.line.now a.words.now _ _ at (a.after - a.before) _ (back (goal.at.returns c).After-slice_known-1) c.requires.1 (omega (arith, inn (goal.at.returns c).Else-after-before, c.if-after-before.false)) span
    (ap (λ (n : ℕ). take n (drop at a.words.now)) many) c.bytes_of.ensures
