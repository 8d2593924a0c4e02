-- `images::reader_image::shows_phase` meets its contract. Assumes nothing.
use mathlib.Core.Path.{ap, ap₂, ◌∙◌, ◌≡◌}
use native.Mathlib.Omega.{arith}
use mathlib.Core.Bool.{Bool, ◌&&◌}
use Prim.Native.Nat.{ℕ, ◌<◌, ◌^◌}
use lib.Dec.{eqb}
use lib.ListN.{get_or, length}
use Rattle.lists.specs.Lists.{same}
use Rattle.fields.specs.Frame.{held_in}
use Rattle.images.specs.ReaderImage.{count_bytes}
use Rattle.fields.proofs.NumberLaws.{part_known}
use Rattle.fields.proofs.PartLaws.{two_of}
use Rattle.images.proofs.ShownLaws.{held_shown}
use borrow.Author.Rules.{rules}
use Rattle.images.proofs.reader_image.shows_phase.Goals as goal
use Rattle.images.proofs.reader_image.shows_phase.Goals.{After-counted_of-x}

-- numbers of their width
fits : (x : After-counted_of-x) → (x.counted_of-x.result.announced < 256 ^ 8) × (x.counted_of-x.result.collected < 256 ^ 8)
fits x =
    let n : x.counted_of-x.result.announced < 256 ^ 8 = search rules in
    let j : x.counted_of-x.result.collected < 256 ^ 8 = search rules in
    (n, j)

pub returns : goal.returns
returns c =
    let g = c.args in
    let b = g.b.now in
    let x = c.counted_of-x in
    let r = x.result in
    let long : length b ≡ 80 = search rules in
    let n = part_known 21 8 b _ (omega (arith, long)) (omega arith) c.number_in.ensures in
    let j = part_known 29 8 b _ (omega (arith, long)) (omega arith) c.number_in-2.ensures in
    let (first-less, second-less) = fits (goal.at.returns c).After-counted_of-x in
    let counts = count_bytes r.b0 r.b1 r.b2 r.announced r.collected in
    ap₂ (λ (u v : Bool). u && v) (ap (eqb (get_or b 7 0)) c.phase_byte.ensures)
    (ap₂ (λ (u v : ℕ). eqb (get_or b 16 0) (get_or r.mark 0 0) && (eqb (get_or b 17 0) (get_or r.mark 1 0) && (eqb (get_or b 18 0) r.b0 && (eqb (get_or b 19 0) r.b1 && (eqb (get_or b 20 0) r.b2 && (eqb u r.announced && eqb v r.collected))))))
    n.0 j.0
    ∙ held_shown b r.mark r.b0 r.b1 r.b2 r.announced r.collected long x.ensures.1 (two_of r.mark counts x.ensures.1) n.2 j.2 first-less second-less
    ∙ ap (same (held_in b)) x.ensures.0)
