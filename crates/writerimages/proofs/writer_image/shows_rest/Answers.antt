-- `writerimages::writer_image::shows_rest` meets its contract. Assumes nothing.
use mathlib.Core.Path.{ap, ap₂, ◌∙◌, ◌≡◌}
use native.Mathlib.Omega.{arith}
use mathlib.Core.Bool.{Bool, ◌&&◌}
use Prim.Native.Nat.{ℕ}
use lib.Dec.{eqb}
use lib.ListN.{length, get_or}
use Rattle.lists.specs.Lists.{part}
use Rattle.fields.proofs.NumberLaws.{part_known, same_number}
use borrow.Author.Rules.{rules}
use Rattle.writerimages.proofs.writer_image.shows_rest.Goals as goal

pub returns : goal.returns
returns c =
    let g = c.args in
    let b = g.b.now in
    let long : length b ≡ 80 = search rules in
    let n = part_known 29 8 b _ (omega (arith, long)) (omega arith) c.number_in.ensures in
    let last = ap (λ (u : ℕ). eqb u 0) n.0 ∙ same_number 8 0 (part 29 8 b) n.2 (omega arith) in
    ap₂ (λ (u v : Bool). u && v) (ap (eqb (get_or b 7 0)) c.rest_byte.ensures) (ap₂ (λ (u v : Bool). u && v) c.shows_block.ensures last)
