-- `bytewriter::adding::add_block` meets its contract. Assumes nothing.
use mathlib.Core.Path.{◌≡◌, refl, sym, ap₂, ◌∙◌}
use mathlib.Core.Bool.{Bool, true, ◌||◌, not}
use native.Mathlib.Omega.{arith}
use lib.ListN.{length, replicate}
use borrow.Author.Tests.{not-true, not-false, leb-true}
use Rattle.lists.proofs.Tests.{or_false, both_true}
use Rattle.octets.specs.Bytes.{is_even}
use Rattle.bytewriter.proofs.Unlent.{lent, add_unlent}
use Rattle.bytewriter.proofs.Given.{even_in, most_in, zeros_in, Given, part_in, part_long, line_long, add_in, add_given}
use Rattle.bytewriter.proofs.adding.add_block.Goals as goal
use Rattle.bytewriter.proofs.adding.add_block.Goals.{Else-is_lent-is_even, After-add_valued-r}

is-lent : (c : Else-is_lent-is_even) → lent c.args.line.now ≡ true
is-lent c = sym c.is_lent.ensures ∙ not-false _ (or_false (not c.is_lent.result) _ c.if-is_lent-is_even.false).0

are-even : (c : Else-is_lent-is_even) → is_even c.args.values.now ≡ true
are-even c = sym c.is_even.ensures ∙ not-false _ (or_false (not c.is_lent.result) _ c.if-is_lent-is_even.false).1

-- the words as the writer left them
given : (c : After-add_valued-r) → (by_is_lent : lent c.args.line.now ≡ true)
    → Given c.args.line.now (replicate 2304 0) c.add_valued-r.new.line
given c by_is_lent = record { is = by_is_lent; size = refl; kept = c.add_valued-r.auto.line }

pub returns-then-is_lent-is_even : goal.returns-then-is_lent-is_even
returns-then-is_lent-is_even c =
    let a = c.args in
    add_unlent a.w a.line.now (λ i. omega (arith, c.slice_known-1.given i)) a.kind a.values.now
    (ap₂ (λ (p q : Bool). not p || not q) (sym c.is_lent.ensures) (sym c.is_even.ensures) ∙ c.if-is_lent-is_even.true)

-- a small block of a fixed line
pub add_small-requires : goal.add_small-requires
add_small-requires c =
    let a = c.args in
    let small = both_true (not c.is_variable.result) _ c.if-is_variable-values.true in
    (even_in a.line.now (is-lent (goal.at.add_small-requires c).Else-is_lent-is_even), are-even (goal.at.add_small-requires c).Else-is_lent-is_even, sym c.is_variable.ensures ∙ not-true _ small.0, leb-true (length a.values.now) 64 small.1)

pub returns-then-is_variable-values : goal.returns-then-is_variable-values
returns-then-is_variable-values c = c.add_small.ensures

-- any other
pub slice_bounds-words-end : goal.slice_bounds-words-end
slice_bounds-words-end c = most_in c.args.line.now (is-lent (goal.at.slice_bounds-words-end c).Else-is_lent-is_even)

pub slice_bounds-add_valued-end : goal.slice_bounds-add_valued-end
slice_bounds-add_valued-end c = zeros_in c.args.line.now (is-lent (goal.at.slice_bounds-add_valued-end c).Else-is_lent-is_even) (replicate 2304 0) refl

pub slice_bounds-words-end-2 : goal.slice_bounds-words-end-2
slice_bounds-words-end-2 c = part_in (given (goal.at.slice_bounds-words-end-2 c).After-add_valued-r (is-lent (goal.at.slice_bounds-words-end-2 c).Else-is_lent-is_even)) _

pub slice_bounds-give_back-end : goal.slice_bounds-give_back-end
slice_bounds-give_back-end c = part_long (given (goal.at.slice_bounds-give_back-end c).After-add_valued-r (is-lent (goal.at.slice_bounds-give_back-end c).Else-is_lent-is_even)) _

pub give_back-requires : goal.give_back-requires
give_back-requires c =
    let a = c.args in
    (add_in (given (goal.at.give_back-requires c).After-add_valued-r (is-lent (goal.at.give_back-requires c).Else-is_lent-is_even)) _ _ _ _ _ _ c.payload_at-start.ensures c.place_of.ensures c.place_of-2.ensures a.kind a.values.now _ c.add_valued-r.ensures, line_long (given (goal.at.give_back-requires c).After-add_valued-r (is-lent (goal.at.give_back-requires c).Else-is_lent-is_even)) _)

pub returns : goal.returns
returns c =
    let a = c.args in
    add_given (given (goal.at.returns c).After-add_valued-r (is-lent (goal.at.returns c).Else-is_lent-is_even)) _ _ _ _ _ _ c.payload_at-start.ensures c.place_of.ensures c.place_of-2.ensures a.kind a.values.now _ c.add_valued-r.ensures (are-even (goal.at.returns c).Else-is_lent-is_even) _
    c.give_back.ensures
