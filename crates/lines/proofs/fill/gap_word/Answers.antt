-- `lines::fill::gap_word` meets its contract. Assumes nothing.
use mathlib.Core.Path.{sym}
use native.Mathlib.Omega.{arith}
use Rattle.lines.proofs.GapFiller.{gap_even, gap_uneven}
use borrow.Author.Rules.{rules}
use Rattle.lines.proofs.fill.gap_word.Goals as goal

pub overflow_add-odd : goal.overflow_add-odd
overflow_add-odd c = search rules

pub returns-then-odd-i-eq0 : goal.returns-then-odd-i-eq0
returns-then-odd-i-eq0 c = sym (gap_even _ (omega (arith, c.if-odd-i-eq0.true)))

pub returns-else-odd-i-eq0 : goal.returns-else-odd-i-eq0
returns-else-odd-i-eq0 c = sym (gap_uneven _ (λ e. c.if-odd-i-eq0.false (omega (arith, e))))
