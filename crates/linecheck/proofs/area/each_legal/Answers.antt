-- `linecheck::area::each_legal` meets its contract: every mode but 8 asks what 9 asks. Assumes nothing.
use mathlib.Core.Path.{sym, ap, ◌∙◌}
use mathlib.Core.Bool.{Bool, true, false}
use borrow.Author.Tests.{ne_eqb}
use Rattle.lists.specs.Lists.{each}
use Rattle.line.specs.Check.{legal}
use Rattle.line.proofs.AreaLaws.{not_eight, all_nine}
use borrow.Author.Rules.{rules}
use Rattle.linecheck.proofs.area.each_legal.Goals as goal

pub returns-in_default-true : goal.returns-in_default-true
returns-in_default-true c =
    let a = c.args in
    let i = c.in_default-true in
    c.every-in_default-true.ensures (legal 9 true) (λ w b e. search rules)
    ∙ not_eight a.mode true a.s.now (ne_eqb _ _ i.is-0.1)
    ∙ ap (λ (v : Bool). each (legal a.mode v) a.s.now) (sym i.is-1)

pub returns-in_default-false : goal.returns-in_default-false
returns-in_default-false c =
    let a = c.args in
    let i = c.in_default-false in
    c.all_data.ensures
    ∙ all_nine a.s.now
    ∙ not_eight a.mode false a.s.now (ne_eqb _ _ i.is-0.1)
    ∙ ap (λ (v : Bool). each (legal a.mode v) a.s.now) (sym i.is-1)
