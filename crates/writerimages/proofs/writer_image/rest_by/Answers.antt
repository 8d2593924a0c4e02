-- `writerimages::writer_image::rest_by` meets its contract. Assumes nothing.
use mathlib.Core.Path.{◌≡◌, refl, sym, ap₂, ◌∙◌}
use mathlib.Core.List.{List}
use Prim.Native.Nat.{ℕ, zero, suc, ◌+◌, ◌≤◌}
use lib.ListN.{length, get_or}
use Rattle.lists.specs.Lists.{part}
use Rattle.fields.specs.Fields.{number_from}
use Rattle.fields.proofs.NumberLaws.{number_two}
use Rattle.writerimages.specs.WriterImage.{rest_by}
use borrow.Author.Rules.{rules}
use Rattle.writerimages.proofs.writer_image.rest_by.Goals as goal
use Rattle.writer.specs.State.{unfinished}

there : (n : ℕ) (h : List ℕ) → (n ≡ 0 → ⊥) → unfinished (get_or h 1 0) (number_from (part 2 2 h)) (number_from (part 5 2 h)) ≡ rest_by n h
there zero h z = absurd (z refl)
there (suc n) h z = refl

pub returns-else-n-eq0 : goal.returns-else-n-eq0
returns-else-n-eq0 c =
    let g = c.args in
    let h = g.h.now in
    let count : 2 + 2 ≤ length h = search rules in
    let laid : 5 + 2 ≤ length h = search rules in
    ap₂ (unfinished (get_or h 1 0)) (c.from_le_bytes.ensures ∙ sym (number_two 2 h count)) (c.from_le_bytes-else-n-eq0.ensures ∙ sym (number_two 5 h laid)) ∙ there g.n h c.if-n-eq0.false
