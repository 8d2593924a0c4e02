-- `blocks::block::lay_head` meets its contract: all six words one by one, or some of them from an array. Assumes nothing.
use mathlib.Core.Path.{◌≡◌, sym, ap, ap₂, ◌∙◌}
use mathlib.Core.List.{List, [], ◌∷◌}
use Prim.Native.Nat.{ℕ, ◌+◌, ◌/◌, ◌%◌, ◌≤◌}
use native.Mathlib.Omega.{arith}
use lib.ListN.{length, take, drop}
use Rattle.words.specs.Forms.{byte_word}
use Rattle.words.specs.Class.{separator}
use Rattle.blocks.specs.Block.{count_words}
use Rattle.blocks.proofs.FillLaws.{six_set, part_of}
use Rattle.blocks.proofs.block.lay_head.Goals as goal

-- the six words
head_is : (kind n x b0 b1 b2 b3 : ℕ) → x ≡ byte_word kind → b0 ≡ byte_word (n / 1 % 256) → b1 ≡ byte_word (n / 256 % 256) → b2 ≡ byte_word (n / 65536 % 256) → b3 ≡ byte_word (n / 16777216 % 256)
    → separator ∷ x ∷ b0 ∷ b1 ∷ b2 ∷ b3 ∷ [] ≡ separator ∷ byte_word kind ∷ count_words n
unfolding count_words
head_is kind n x b0 b1 b2 b3 e f0 f1 f2 f3 =
    let one : n / 1 ≡ n = omega arith in
    simp (e, f0, f1, f2, f3, one)

-- where there is room for six, it is all of them
all-six : (d : List ℕ) (j kind n : ℕ) → length d ≡ 6 → j + length d ≤ 6
    → separator ∷ byte_word kind ∷ count_words n ≡ take (length d) (drop j (separator ∷ byte_word kind ∷ count_words n))
unfolding count_words
all-six d j kind n h k = let z : j ≡ 0 = omega arith in sym (ap₂ (λ (i m : ℕ). take i (drop m (separator ∷ byte_word kind ∷ count_words n))) h z)

pub returns-then-out-eq6 : goal.returns-then-out-eq6
returns-then-out-eq6 c =
    let a = c.args in
    six_set a.out.now _ _ _ _ _ _ c.if-out-eq6.true
    ∙ head_is a.kind a.n _ _ _ _ _ c.byte_word-word.ensures c.count_word-b0.ensures c.count_word-b1.ensures c.count_word-b2.ensures c.count_word-b3.ensures
    ∙ all-six a.out.now a.j a.kind a.n c.if-out-eq6.true c.requires

pub returns : goal.returns
returns c =
    let a = c.args in
    c.copy_from_slice.ensures.after ∙ part_of a.j (length a.out.now) _
    ∙ ap (λ (l : List ℕ). take (length a.out.now) (drop a.j l))
    (head_is a.kind a.n _ _ _ _ _ c.byte_word-word.ensures c.count_word-b0.ensures c.count_word-b1.ensures c.count_word-b2.ensures c.count_word-b3.ensures)
