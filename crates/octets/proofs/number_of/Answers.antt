use mathlib.Core.Path.{sym, ap, ◌∙◌}
use Prim.Native.Nat.{ℕ, ◌+◌, ◌≤◌}
use lib.ListN.{length, drop, drop_of_length-le}
use Rattle.lists.proofs.Loops.{next_drop}
use Rattle.octets.specs.Numbers.{digits_more}
use Rattle.octets.proofs.NumberLaws.{some}
use borrow.Author.Rules.{rules}
use Rattle.octets.proofs.number_of.Goals as goal

pub loop-b-preserved : goal.loop-b-preserved
loop-b-preserved c =
    let l = c.loop-b in
    let text = c.args.text.now in
    ap (λ (x : ℕ). digits_more x (drop (l.b-index + 1) text)) c.digit_more-x.ensures ∙ ap (digits_more l.x) (sym (next_drop text l.b-index (search rules))) ∙ l.invariant

pub returns : goal.returns
returns c =
    let l = c.loop-b in
    let text = c.args.text.now in
    let whole : length text ≤ l.b-index = search rules in
    sym (ap (digits_more l.x) (drop_of_length-le text whole)) ∙ l.invariant ∙ some text (search rules)
