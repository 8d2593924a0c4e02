-- `bytewriter::packing::add_packet` meets its contract. Assumes nothing.
use mathlib.Core.Path.{◌≡◌, refl, sym, ap₂, ◌∙◌}
use mathlib.Core.Bool.{Bool, true, ◌||◌, not}
use native.Mathlib.Omega.{arith}
use lib.ListN.{replicate}
use borrow.Author.Tests.{not-false}
use Rattle.lists.proofs.Tests.{or_false}
use Rattle.octets.specs.Bytes.{is_even}
use Rattle.bytewriter.proofs.Unlent.{lent, pack_unlent}
use Rattle.bytewriter.proofs.Given.{most_in, zeros_in, Given, part_in, part_long, line_long, pack_in, pack_given}
use Rattle.bytewriter.proofs.packing.add_packet.Goals as goal
use Rattle.bytewriter.proofs.packing.add_packet.Goals.{Else-is_lent-is_even, After-pack_valued-r}

is-lent : (c : Else-is_lent-is_even) → lent c.args.line.now ≡ true
is-lent c = sym c.is_lent.ensures ∙ not-false _ (or_false (not c.is_lent.result) _ c.if-is_lent-is_even.false).0

are-even : (c : Else-is_lent-is_even) → is_even c.args.values.now ≡ true
are-even c = sym c.is_even.ensures ∙ not-false _ (or_false (not c.is_lent.result) _ c.if-is_lent-is_even.false).1

-- the words as the writer left them
given : (c : After-pack_valued-r) → (by_is_lent : lent c.args.line.now ≡ true)
    → Given c.args.line.now (replicate 2304 0) c.pack_valued-r.new.line
given c by_is_lent = record { is = by_is_lent; size = refl; kept = c.pack_valued-r.auto.line }

pub returns-then-is_lent-is_even : goal.returns-then-is_lent-is_even
returns-then-is_lent-is_even c =
    let a = c.args in
    pack_unlent a.w a.line.now (λ i. omega (arith, c.slice_known-1.given i)) a.did a.second a.values.now
    (ap₂ (λ (p q : Bool). not p || not q) (sym c.is_lent.ensures) (sym c.is_even.ensures) ∙ c.if-is_lent-is_even.true)

pub slice_bounds-words-end : goal.slice_bounds-words-end
slice_bounds-words-end c = most_in c.args.line.now (is-lent c)

pub slice_bounds-pack_valued-end : goal.slice_bounds-pack_valued-end
slice_bounds-pack_valued-end c = zeros_in c.args.line.now (is-lent (goal.at.slice_bounds-pack_valued-end c).Else-is_lent-is_even) (replicate 2304 0) refl

pub slice_bounds-words-end-2 : goal.slice_bounds-words-end-2
slice_bounds-words-end-2 c = part_in (given (goal.at.slice_bounds-words-end-2 c).After-pack_valued-r (is-lent (goal.at.slice_bounds-words-end-2 c).Else-is_lent-is_even)) _

pub slice_bounds-give_back-end : goal.slice_bounds-give_back-end
slice_bounds-give_back-end c = part_long (given (goal.at.slice_bounds-give_back-end c).After-pack_valued-r (is-lent (goal.at.slice_bounds-give_back-end c).Else-is_lent-is_even)) _

pub give_back-requires : goal.give_back-requires
give_back-requires c =
    let a = c.args in
    (pack_in (given (goal.at.give_back-requires c).After-pack_valued-r (is-lent (goal.at.give_back-requires c).Else-is_lent-is_even)) _ a.w a.did a.second a.values.now _ _ c.pack_valued-r.ensures, line_long (given (goal.at.give_back-requires c).After-pack_valued-r (is-lent (goal.at.give_back-requires c).Else-is_lent-is_even)) _)

pub returns : goal.returns
returns c =
    let a = c.args in
    pack_given (given (goal.at.returns c).After-pack_valued-r (is-lent (goal.at.returns c).Else-is_lent-is_even)) _ a.w a.did a.second a.values.now _ _ c.pack_valued-r.ensures (are-even (goal.at.returns c).Else-is_lent-is_even) _ c.give_back.ensures
