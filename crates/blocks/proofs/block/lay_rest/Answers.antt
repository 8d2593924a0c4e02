-- `blocks::block::lay_rest` meets its contract. Assumes nothing.
use mathlib.Core.Path.{◌≡◌, sym, ap, ◌∙◌}
use mathlib.Core.List.{[], ◌∷◌, map}
use Prim.Native.Nat.{ℕ, ◌-◌, min}
use lib.ListN.{length, take, drop, length-map}
use Rattle.words.specs.Modes.{word_of}
use Rattle.words.specs.Class.{end_code}
use Rattle.blocks.proofs.FillLaws.{part_map, front_long, part_long, laid_by_two}
use Rattle.blocks.proofs.block.lay_rest.Goals as goal
use Rattle.blocks.proofs.block.lay_rest.Goals.{After-min-a}

-- how many values are laid
some : (m : After-min-a) → let a = m.args in m.min-a.result ≡ min (length a.out.now) (length a.values.now - a.j)
some m = let a = m.args in m.min-a.ensures ∙ ap (min (length a.out.now)) m.saturating_sub.ensures

pub slice_bounds-put_values-end-3 : goal.slice_bounds-put_values-end-3
slice_bounds-put_values-end-3 c =
    let a = c.args in
    sym (front_long (length a.values.now) a.j c.min-a.result a.out.now (some (goal.at.slice_bounds-put_values-end-3 c).After-min-a))

pub put_values-requires : goal.put_values-requires
put_values-requires c =
    let a = c.args in
    part_long a.j c.min-b.result c.min-a.result a.out.now a.values.now
    (some (goal.at.put_values-requires c).After-min-a) c.min-b.ensures

pub returns : goal.returns
returns c =
    let a = c.args in
    let f = word_of a.mode in
    let v = a.values.now in
    let k = c.min-a.result in
    let is = c.put_values.ensures ∙ part_map f c.min-b.result k v ∙ ap (λ (i : ℕ). take k (drop i (map f v))) c.min-b.ensures in
    laid_by_two a.j (length v) k (map f v) (end_code ∷ []) a.out.now _ (length-map v f) (some (goal.at.returns c).After-min-a) is _ _ c.saturating_sub-2.ensures c.put_end.ensures
