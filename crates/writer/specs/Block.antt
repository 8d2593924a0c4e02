-- The words of a block, by the block type of the line.
-- Assumes nothing.
use Rattle.std.specs.Prelude.{ℕ, List}
use Rattle.lists.specs.Tests.{pick}
use Rattle.line.specs.Fixed.{is_variable}
unfoldable pub use Rattle.blocks.specs.Block.{count_words, block_words, fixed_words}

unfoldable pub words_in : ℕ → ℕ → ℕ → List ℕ → List ℕ
unfolding block_words fixed_words
words_in block mode kind values = pick (is_variable block) (block_words mode kind values) (fixed_words mode kind values)
