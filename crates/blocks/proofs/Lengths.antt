-- How many words a block has, and which of them fill a part.
-- Assumes nothing.
use mathlib.Core.Path.{◌≡◌}
use mathlib.Core.List.{List, [], ◌∷◌, map}
use Prim.Native.Nat.{ℕ, ◌+◌}
use native.Mathlib.Omega.{arith}
use lib.ListN.{length, length-append, length-map}
use Rattle.words.specs.Modes.{word_of}
use Rattle.words.specs.Class.{end_code}
use Rattle.blocks.specs.Block.{count_words, block_words, fixed_words}

pub block_long : (mode kind : ℕ) (vs : List ℕ) → length (block_words mode kind vs) ≡ length vs + 7
unfolding block_words count_words
block_long mode kind vs = let a = length-append (map (word_of mode) vs) (end_code ∷ []) in let b = length-map vs (word_of mode) in omega arith

pub fixed_long : (mode kind : ℕ) (vs : List ℕ) → length (fixed_words mode kind vs) ≡ length vs + 1
unfolding fixed_words
fixed_long mode kind vs = let b = length-map vs (word_of mode) in omega arith
