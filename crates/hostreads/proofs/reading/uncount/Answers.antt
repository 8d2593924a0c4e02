-- `hostreads::reading::uncount` meets its contract. Assumes nothing.
use mathlib.Core.Path.{ap, ap₂, ◌∙◌}
use mathlib.Core.List.{List, ◌++◌, append-nil}
use Prim.Native.Nat.{ℕ}
use native.Mathlib.Omega.{arith}
use lib.ListN.{take, drop_of_length-le}
use lib.Seq.{drop-drop}
use Rattle.lists.proofs.Lists.{length_part}
use Rattle.fields.specs.Fields.{bytes_for}
use Rattle.hostreads.proofs.reading.uncount.Goals as goal

pub returns : goal.returns
returns c =
    let b = c.args.event.now in
    let put = c.put_number.ensures ∙ ap (λ (k : ℕ). bytes_for k 0) (length_part 24 8 b (omega (arith, c.requires))) in
    ap₂ (λ (p q : List ℕ). take 24 b ++ (p ++ q)) put (drop-drop 8 24 b ∙ drop_of_length-le b {i = 32} (omega (arith, c.requires))) ∙ ap (λ (p : List ℕ). take 24 b ++ p) (append-nil (bytes_for 8 0))
