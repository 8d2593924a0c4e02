-- What is asked before a call, of the bytes lent and of what they spell. Assumes nothing.
use mathlib.Core.Path.{◌≡◌, sym, ap₂, ap, ◌∙◌}
use mathlib.Core.Bool.{Bool}
use mathlib.Core.List.{List}
use Prim.Native.Nat.{ℕ}
use lib.Dec.{eqb}
use lib.ListN.{length}
use borrow.Author.Tests.{eq-eqb}
use Rattle.lists.specs.Tests.{pick}
use Rattle.lists.proofs.Tests.{pick_true}
use Rattle.writer.specs.declared.state.Writer.{Writer}
use Rattle.writerimages.specs.WriterImage.{state_of, is_image}
use Rattle.calls.specs.Early.{write_early, early_by}

pub asked : (s : List ℕ) {w : Writer} {image : Bool} (line : ℕ) (even : Bool) {n : ℕ} → length s ≡ 80 → (w ≡ state_of s) × (image ≡ is_image s)
    → n ≡ early_by image (write_early w line even) → n ≡ pick (eqb (length s) 80) (early_by (is_image s) (write_early (state_of s) line even)) 1
asked s line even long spelt is =
    is ∙ ap₂ early_by spelt.1 (ap (λ (w : Writer). write_early w line even) spelt.0) ∙ sym (pick_true _ _ (eq-eqb _ 80 long))
