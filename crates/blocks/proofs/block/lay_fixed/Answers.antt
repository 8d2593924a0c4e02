-- `blocks::block::lay_fixed` meets its contract. Assumes nothing.
use mathlib.Core.Path.{ap₂, ◌∙◌}
use mathlib.Core.List.{List, ◌∷◌}
use Prim.Native.Nat.{ℕ}
use native.Mathlib.Omega.{arith}
use lib.ListN.{length, length-set, length-map}
use Rattle.words.specs.Modes.{word_of}
use Rattle.blocks.specs.Block.{fixed_words}
use Rattle.blocks.proofs.LaidLaws.{first_long, first_set, first_same}
use Rattle.blocks.proofs.block.lay_fixed.Goals as goal

pub put_values-requires : goal.put_values-requires
put_values-requires c = first_long c.args.out.now _ _ c.requires

pub shape_of-out : goal.shape_of-out
shape_of-out c =
    first_same c.args.out.now _ _ _ (length c.args.values.now) c.requires c.put_values.ensures (length-map c.args.values.now (word_of c.args.mode))

pub returns : goal.returns
unfolding fixed_words
returns c =
    first_set c.args.out.now _ _ (length c.args.values.now) c.requires ∙ ap₂ {B = List ℕ} (λ (x : ℕ) (l : List ℕ). x ∷ l) c.byte_word.ensures c.put_values.ensures

pub slice_bounds-put_values-count : goal.slice_bounds-put_values-count
slice_bounds-put_values-count c = simp length-set (omega (arith, c.requires))

pub slice_bounds-put_values-start : goal.slice_bounds-put_values-start
slice_bounds-put_values-start c = simp length-set (omega (arith, c.requires))
