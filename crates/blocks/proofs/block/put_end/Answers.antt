-- `blocks::block::put_end` meets its contract. Assumes nothing.
use mathlib.Core.Path.{sym, ap, ◌∙◌}
use mathlib.Core.List.{List, [], ◌∷◌}
use Prim.Native.Nat.{ℕ}
use native.Mathlib.Omega.{arith}
use lib.ListN.{drop, drop_of_length-le}
use Rattle.std.proofs.Common.{rules}
use Rattle.words.specs.Class.{end_code}
use Rattle.blocks.specs.Laid.{laid_on}
use Rattle.blocks.proofs.LaidLaws.{none_on, one_on, on_none}
use Rattle.blocks.proofs.block.put_end.Goals as goal
use Rattle.blocks.proofs.block.put_end.Goals.{else-j-eq0-via-then-j-eq0+else-not-is_empty, else-j-eq0-via-else-j-eq0}

pub returns-then-not-is_empty : goal.returns-then-not-is_empty
returns-then-not-is_empty c =
    one_on c.args.out.now end_code (search rules) ∙ ap (λ (i : ℕ). laid_on (drop i (end_code ∷ [])) c.args.out.now) (sym c.if-j-eq0.true)

pub returns-else-j-eq0 : goal.returns-else-j-eq0
returns-else-j-eq0 c =
    let a = c.args in
    elim c.else-j-eq0.branch [
      | else-j-eq0-via-then-j-eq0+else-not-is_empty w ↦ on_none _ _ (search rules)
      | else-j-eq0-via-else-j-eq0 w ↦ none_on a.out.now ∙ ap (λ (l : List ℕ). laid_on l a.out.now) (sym (drop_of_length-le (end_code ∷ []) {i = a.j} (omega (arith, w.if-j-eq0.false))))
    ]
