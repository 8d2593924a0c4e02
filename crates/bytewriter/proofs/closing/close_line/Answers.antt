-- `bytewriter::closing::close_line` meets its contract. Assumes nothing.
use mathlib.Core.Path.{◌≡◌, refl, sym, ap, ◌∙◌}
use mathlib.Core.Bool.{true}
use Prim.Native.Nat.{ℕ, ◌-◌, ◌/◌}
use native.Mathlib.Omega.{arith}
use lib.ListN.{length, replicate}
use Rattle.bytewriter.specs.Laid.{done_in}
use Rattle.bytewriter.proofs.Calls.{behind}
use Rattle.bytewriter.proofs.Unlent.{lent, close_unlent}
use Rattle.bytewriter.proofs.Given.{most_in, zeros_in, Given, part_in, part_long, line_long, close_in, close_given}
use Rattle.bytewriter.proofs.closing.close_line.Goals as goal
use Rattle.bytewriter.proofs.closing.close_line.Goals.{Else-not-is_lent, After-close_line-r, After-saturating_sub-start, After-done_in}

is-lent : (c : Else-not-is_lent) → lent c.args.line.now ≡ true
is-lent c = sym c.is_lent.ensures ∙ c.if-not-is_lent.false

-- the words as the writer left them
given : (c : After-close_line-r) → (by_is_lent : lent c.args.line.now ≡ true)
    → Given c.args.line.now (replicate 2304 0) c.close_line-r.new.line
given c by_is_lent = record { is = by_is_lent; size = refl; kept = c.close_line-r.auto.line }

-- where the words behind the area start, and how many of them were laid
starts : (c : After-saturating_sub-start) → let a = c.args in c.saturating_sub-start.result ≡ length a.line.now / 2 - behind a.w
starts c = c.saturating_sub-start.ensures ∙ ap (λ (n : ℕ). length c.args.line.now / 2 - n) c.behind_area-k.ensures

laid : (c : After-done_in) →
    c.done_in.result ≡ done_in c.close_line-r.result.answer (behind c.args.w)
laid c = c.done_in.ensures ∙ ap (done_in c.close_line-r.result.answer) c.behind_area-k.ensures

pub returns-then-not-is_lent : goal.returns-then-not-is_lent
returns-then-not-is_lent c =
    let a = c.args in
    close_unlent a.w a.line.now (λ i. omega (arith, c.slice_known-1.given i)) (sym c.is_lent.ensures ∙ c.if-not-is_lent.true)

pub slice_bounds-words-end : goal.slice_bounds-words-end
slice_bounds-words-end c = most_in c.args.line.now (is-lent c)

pub slice_bounds-close_line-end : goal.slice_bounds-close_line-end
slice_bounds-close_line-end c = zeros_in c.args.line.now (is-lent (goal.at.slice_bounds-close_line-end c).Else-not-is_lent) (replicate 2304 0) refl

pub slice_bounds-words-end-2 : goal.slice_bounds-words-end-2
slice_bounds-words-end-2 c = part_in (given (goal.at.slice_bounds-words-end-2 c).After-close_line-r (is-lent (goal.at.slice_bounds-words-end-2 c).Else-not-is_lent)) _

pub slice_bounds-give_back-end : goal.slice_bounds-give_back-end
slice_bounds-give_back-end c = part_long (given (goal.at.slice_bounds-give_back-end c).After-close_line-r (is-lent (goal.at.slice_bounds-give_back-end c).Else-not-is_lent)) _

pub give_back-requires : goal.give_back-requires
give_back-requires c =
    let g = given (goal.at.give_back-requires c).After-close_line-r (is-lent (goal.at.give_back-requires c).Else-not-is_lent) in
    (close_in g _ _ _ _ c.close_line-r.ensures.0 _ _ (starts (goal.at.give_back-requires c).After-saturating_sub-start) (laid (goal.at.give_back-requires c).After-done_in), line_long g _)

pub returns : goal.returns
returns c =
    close_given (given (goal.at.returns c).After-close_line-r (is-lent (goal.at.returns c).Else-not-is_lent)) _ _ _ _ c.close_line-r.ensures.0 _ _ (starts (goal.at.returns c).After-saturating_sub-start) (laid (goal.at.returns c).After-done_in) _ c.give_back.ensures
