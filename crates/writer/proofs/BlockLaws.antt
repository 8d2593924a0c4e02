-- Laws of the words of a block: how many they are, by the block type of the line.
-- Assumes nothing.
use mathlib.Core.Path.{◌≡◌, refl, sym, ap, ◌∙◌}
use mathlib.Core.Bool.{Bool, true, false}
use mathlib.Core.List.{List}
use Prim.Native.Nat.{ℕ, ◌+◌, ◌≤◌, ◌<◌}
use native.Mathlib.Omega.{arith}
use lib.ListN.{length}
use Rattle.lists.specs.Tests.{pick}
use Rattle.lists.proofs.Tests.{pick_true, pick_false}
use Rattle.line.specs.Fixed.{is_variable}
use Rattle.writer.specs.Block.{block_words, fixed_words, words_in}
pub use Rattle.blocks.proofs.Lengths.{block_long, fixed_long}

pub words_variable : (block mode kind : ℕ) (vs : List ℕ) → is_variable block ≡ true → words_in block mode kind vs ≡ block_words mode kind vs
unfolding words_in
words_variable block mode kind vs v = pick_true _ _ v

pub words_fixed : (block mode kind : ℕ) (vs : List ℕ) → is_variable block ≡ false → words_in block mode kind vs ≡ fixed_words mode kind vs
unfolding words_in
words_fixed block mode kind vs v = pick_false _ _ v

-- how many words a block of n values has
unfoldable pub count : ℕ → ℕ → ℕ
count block n = pick (is_variable block) (n + 7) (n + 1)

pub count_variable : (block n : ℕ) → is_variable block ≡ true → count block n ≡ n + 7
unfolding count
count_variable block n v = pick_true (n + 7) (n + 1) v

pub count_fixed : (block n : ℕ) → is_variable block ≡ false → count block n ≡ n + 1
unfolding count
count_fixed block n v = pick_false (n + 7) (n + 1) v

pub count_between : (block n : ℕ) → (0 < count block n) × (count block n ≤ n + 7)
count_between block n = go (is_variable block) refl
  where
    go : (b : Bool) → is_variable block ≡ b → (0 < count block n) × (count block n ≤ n + 7)
    go true v = rw (count_variable block n v) (omega arith, omega arith)
    go false v = rw (count_fixed block n v) (omega arith, omega arith)

pub words_long : (block mode kind : ℕ) (vs : List ℕ) → length (words_in block mode kind vs) ≡ count block (length vs)
words_long block mode kind vs = go (is_variable block) refl
  where
    go : (b : Bool) → is_variable block ≡ b → length (words_in block mode kind vs) ≡ count block (length vs)
    go true v = ap length (words_variable block mode kind vs v) ∙ block_long mode kind vs ∙ sym (count_variable block (length vs) v)
    go false v = ap length (words_fixed block mode kind vs v) ∙ fixed_long mode kind vs ∙ sym (count_fixed block (length vs) v)
