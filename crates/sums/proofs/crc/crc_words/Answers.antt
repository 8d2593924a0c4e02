-- `sums::crc::crc_words` meets its contract. Assumes nothing.
use mathlib.Core.Path.{ap₂}
use mathlib.Core.List.{[], ◌∷◌}
use Prim.Native.Nat.{ℕ}
use Rattle.words.specs.Crc.{register_words}
use borrow.Author.Rules.{rules}
use Rattle.sums.proofs.crc.crc_words.Goals as goal

pub overflow_cast-register : goal.overflow_cast-register
overflow_cast-register c = search rules

pub data_word-low-requires : goal.data_word-low-requires
data_word-low-requires c = search rules

pub overflow_cast-register-2 : goal.overflow_cast-register-2
overflow_cast-register-2 c = search rules

pub data_word-high-requires : goal.data_word-high-requires
data_word-high-requires c = search rules

pub returns : goal.returns
unfolding register_words
returns c = ap₂ (λ (x y : ℕ). x ∷ y ∷ []) c.data_word-low.ensures c.data_word-high.ensures
