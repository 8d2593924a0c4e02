-- `bytewriter::opening::open_line` meets its contract. Assumes nothing.
use mathlib.Core.Path.{◌≡◌, refl, sym, ◌∙◌}
use mathlib.Core.Bool.{true}
use native.Mathlib.Omega.{arith}
use lib.ListN.{replicate}
use Rattle.bytewriter.proofs.Unlent.{lent, open_unlent}
use Rattle.bytewriter.proofs.Given.{most_in, zeros_in, Given, part_in, part_long, line_long, open_in, open_given}
use Rattle.bytewriter.proofs.opening.open_line.Goals as goal
use Rattle.bytewriter.proofs.opening.open_line.Goals.{Else-not-is_lent, After-open_line-r}

is-lent : (c : Else-not-is_lent) → lent c.args.line.now ≡ true
is-lent c = sym c.is_lent.ensures ∙ c.if-not-is_lent.false

-- the words as the writer left them
given : (c : After-open_line-r) → (by_is_lent : lent c.args.line.now ≡ true)
    → Given c.args.line.now (replicate 2304 0) c.open_line-r.new.line
given c by_is_lent = record { is = by_is_lent; size = refl; kept = c.open_line-r.auto.line }

pub returns-then-not-is_lent : goal.returns-then-not-is_lent
returns-then-not-is_lent c =
    let a = c.args in
    open_unlent a.w a.line.now (λ i. omega (arith, c.slice_known-1.given i)) a.f a.v a.n a.t (sym c.is_lent.ensures ∙ c.if-not-is_lent.true)

pub slice_bounds-words-end : goal.slice_bounds-words-end
slice_bounds-words-end c = most_in c.args.line.now (is-lent c)

pub slice_bounds-open_line-end : goal.slice_bounds-open_line-end
slice_bounds-open_line-end c = zeros_in c.args.line.now (is-lent (goal.at.slice_bounds-open_line-end c).Else-not-is_lent) (replicate 2304 0) refl

pub slice_bounds-words-end-2 : goal.slice_bounds-words-end-2
slice_bounds-words-end-2 c = part_in (given (goal.at.slice_bounds-words-end-2 c).After-open_line-r (is-lent (goal.at.slice_bounds-words-end-2 c).Else-not-is_lent)) _

pub slice_bounds-give_back-end : goal.slice_bounds-give_back-end
slice_bounds-give_back-end c = part_long (given (goal.at.slice_bounds-give_back-end c).After-open_line-r (is-lent (goal.at.slice_bounds-give_back-end c).Else-not-is_lent)) _

pub give_back-requires : goal.give_back-requires
give_back-requires c =
    let g = given (goal.at.give_back-requires c).After-open_line-r (is-lent (goal.at.give_back-requires c).Else-not-is_lent) in
    let a = c.args in
    (λ h. open_in g _ a.w a.f a.v a.n a.t _ _ c.open_line-r.ensures.0 _ c.done_in-laid.ensures, line_long g _)

pub returns : goal.returns
returns c =
    let g = given (goal.at.returns c).After-open_line-r (is-lent (goal.at.returns c).Else-not-is_lent) in
    let a = c.args in
    open_given g _ a.w a.f a.v a.n a.t _ _ c.open_line-r.ensures.0 _ c.done_in-laid.ensures _ c.give_back.ensures
