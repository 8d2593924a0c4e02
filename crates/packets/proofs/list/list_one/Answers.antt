-- `packets::list::list_one` meets its contract. Assumes nothing.
use mathlib.Core.Path.{◌≡◌, sym, ap, ap₂, ◌∙◌}
use mathlib.Core.List.{◌∷◌, ◌++◌, map}
use Prim.Native.Nat.{ℕ, ◌+◌, ◌-◌}
use native.Mathlib.Omega.{arith}
use lib.ListN.{length, get_or, take, drop, length-map}
use Rattle.lists.specs.Lists.{part}
use Rattle.lists.proofs.Lists.{length_part}
use Rattle.line.specs.Check.{low}
use Rattle.packets.specs.Gap.{count_at, value}
use borrow.Author.Rules.{rules}
use Rattle.packets.proofs.list.list_one.Goals as goal

pub returns : goal.returns
returns c =
    let g = c.args.gap.now in
    let n = count_at g in
    let m : n + 6 - 6 ≡ n = omega arith in
    let k : length (map value (part 6 n g)) ≡ n = length-map (part 6 n g) value ∙ length_part 6 n g (omega (arith, c.requires.0)) in
    let values = c.put.ensures value (λ w v e. search rules) in
    ap₂ ◌++◌ c.copy_from_slice.ensures.after (values ∙ ap (λ (x : ℕ). map value (take x (drop 6 g))) m)
    ∙ ap (λ (x : ℕ). low (get_or g 3 0) ∷ low (get_or g 4 0) ∷ x ∷ map value (part 6 n g)) (sym k)
