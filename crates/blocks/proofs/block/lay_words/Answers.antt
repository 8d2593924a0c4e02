-- `blocks::block::lay_words` meets its contract. Assumes nothing.
use mathlib.Core.Path.{◌≡◌, refl, sym, ap, ◌∙◌}
use mathlib.Core.List.{List, [], ◌∷◌, ◌++◌, map}
use Prim.Native.Nat.{ℕ, ◌-◌, min}
use lib.ListN.{length}
use Rattle.words.specs.Forms.{byte_word}
use Rattle.words.specs.Modes.{word_of}
use Rattle.words.specs.Class.{separator, end_code}
use Rattle.blocks.specs.Block.{count_words, block_words}
use Rattle.blocks.proofs.FillLaws.{front_long, front_in, front_is, laid_by_two}
use Rattle.blocks.proofs.block.lay_words.Goals as goal
use Rattle.blocks.proofs.block.lay_words.Goals.{After-min-a}

abbrev head : ℕ → List ℕ → List ℕ
head kind vs = separator ∷ byte_word kind ∷ count_words (length vs)

abbrev rest : ℕ → List ℕ → List ℕ
rest mode vs = map (word_of mode) vs ++ (end_code ∷ [])

head_six : (kind : ℕ) (vs : List ℕ) → length (head kind vs) ≡ 6
unfolding count_words
head_six kind vs = refl

-- how many words of the head are laid
some : (m : After-min-a) → let a = m.args in m.min-a.result ≡ min (length a.out.now) (6 - a.j)
some m = let a = m.args in m.min-a.ensures ∙ ap (min (length a.out.now)) m.saturating_sub.ensures

pub slice_bounds-lay_head-end-2 : goal.slice_bounds-lay_head-end-2
slice_bounds-lay_head-end-2 c =
    let a = c.args in
    sym (front_long 6 a.j c.min-a.result a.out.now (some (goal.at.slice_bounds-lay_head-end-2 c).After-min-a))

pub lay_head-requires : goal.lay_head-requires
lay_head-requires c =
    let a = c.args in
    front_in a.j 6 c.min.result c.min-a.result a.out.now (some (goal.at.lay_head-requires c).After-min-a) c.min.ensures

pub returns : goal.returns
unfolding block_words count_words
returns c =
    let a = c.args in
    let v = a.values.now in
    let k = c.min-a.result in
    let is = front_is a.j 6 _ k (head a.kind v) a.out.now _ (some (goal.at.returns c).After-min-a) c.min.ensures c.lay_head.ensures in
    laid_by_two a.j 6 k (head a.kind v) (rest a.mode v) a.out.now _ (head_six a.kind v) (some (goal.at.returns c).After-min-a) is _ _ c.saturating_sub-2.ensures
    c.lay_rest.ensures
