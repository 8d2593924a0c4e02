-- `bytewriter::lent::give_place` meets its contract: the part of the bytes that stands for the place is filled with its bytes. Assumes nothing.
use mathlib.Core.Path.{◌≡◌, refl, sym, ap, ◌∙◌}
use Prim.Native.Nat.{◌+◌, ◌-◌, ◌*◌, ◌%◌, ◌≤◌}
use native.Mathlib.Omega.{arith}
use lib.ListN.{length}
use lib.Seq.{paste, paste-zero, length-take-le}
use borrow.Author.Tests.{eqb-true}
use Rattle.octets.specs.Bytes.{words_of, bytes_of}
use Rattle.octets.proofs.BytesLaws.{bytes_back, length_words}
use Rattle.bytewriter.proofs.Placed.{place_back}
use Rattle.bytewriter.proofs.lent.give_place.Goals as goal
use Rattle.bytewriter.proofs.lent.give_place.Goals.{After-slice_known-1, Else-after-before}

-- the line's bytes come back from its words
back : (c : After-slice_known-1) → bytes_of (words_of c.args.line.now) ≡ c.args.line.now
back c = bytes_back c.args.line.now (eqb-true (length c.args.line.now % 2) 0 c.requires.1) (λ i. omega (arith, c.type_inv.line i))

-- what is laid lies in the line, and in the place
inn : (c : Else-after-before) → let a = c.args in (2 * (a.start + a.after) ≤ length a.line.now) × (a.after - a.before ≤ length a.place.now)
inn c =
    let there = c.requires.0 c.if-after-before.false in
    (omega (arith, there.0, length_words c.args.line.now), there.1)

pub returns-then-after-before : goal.returns-then-after-before
returns-then-after-before c =
    let a = c.args in
    let none : 0 ≡ a.after - a.before = omega (arith, c.if-after-before.true) in
    let at = a.start + a.before in
    sym (back (goal.at.returns-then-after-before c).After-slice_known-1) ∙ ap bytes_of (paste-zero (words_of a.line.now) at a.place.now ∙ ap (paste (words_of a.line.now) at a.place.now) none)

pub overflow_add-from : goal.overflow_add-from
overflow_add-from c = omega (arith, (inn c).0, c.if-after-before.false)

pub overflow_mul-from : goal.overflow_mul-from
overflow_mul-from c = omega (arith, (inn c).0, c.if-after-before.false)

pub overflow_add-to : goal.overflow_add-to
overflow_add-to c = omega (arith, (inn c).0)

pub overflow_mul-to : goal.overflow_mul-to
overflow_mul-to c = omega (arith, (inn c).0)

pub slice_bounds-bytes_of-end : goal.slice_bounds-bytes_of-end
slice_bounds-bytes_of-end c = sym (length-take-le _ c.args.place.now (inn c).1)

pub slice_bounds-bytes_of-end-2 : goal.slice_bounds-bytes_of-end-2
slice_bounds-bytes_of-end-2 c = (inn c).0

pub returns : goal.returns
returns c =
    let a = c.args in
    let at = a.start + a.before in
    let span : 2 * (a.start + a.after) - 2 * at ≡ 2 * (at + (a.after - a.before)) - 2 * at = omega (arith, c.if-after-before.false) in
    place_back a.line.now a.place.now at (a.after - a.before) c.requires.1 (back (goal.at.returns c).After-slice_known-1) (omega (arith, (inn (goal.at.returns c).Else-after-before).0, length_words a.line.now, c.if-after-before.false)) (inn (goal.at.returns c).Else-after-before).1 _ _ _ span refl
    c.bytes_of.ensures
