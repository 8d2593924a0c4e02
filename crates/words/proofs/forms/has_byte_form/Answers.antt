-- `words::forms::has_byte_form` meets its contract. Assumes nothing.
use mathlib.Core.Path.{ap, ◌∙◌}
use mathlib.Core.List.{List}
use Prim.Native.Nat.{ℕ, ◌%◌, ◌-◌}
use native.Mathlib.Nat.{mod-lt}
use lib.Dec.{eqb, lit<}
use lib.ListN.{get_or}
use Rattle.words.proofs.FormLaws.{folded, folded_is, two_bytes, byte_halves}
use borrow.Author.Rules.{rules}
use Rattle.words.proofs.forms.has_byte_form.Goals as goal

pub returns : goal.returns
returns c =
    let w = c.args.w in
    ap (λ (b : List ℕ). eqb (get_or b 1 0) (2 - folded (get_or b 0 0))) (c.to_le_bytes.ensures ∙ two_bytes w (search rules))
    ∙ byte_halves w _ (folded_is (w % 256) (mod-lt w (lit< tt))) (mod-lt _ (lit< tt))
