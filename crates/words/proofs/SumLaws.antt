-- The checksum goes on: a loop's turn.
-- Assumes nothing.
use mathlib.Core.Path.{◌≡◌, sym, ap, ◌∙◌}
use mathlib.Core.List.{List}
use Prim.Native.Nat.{ℕ, ◌+◌, ◌%◌, ◌<◌}
use native.Mathlib.Nat.{mod-add-mod, add_assoc}
use lib.ListN.{length, drop, get_or}
use Rattle.lists.proofs.Loops.{next_drop}
use Rattle.words.specs.Checksum.{sum_of}

pub sum_next : (a i : ℕ) (s : List ℕ) → i < length s → ((a + get_or s i 0 % 512) % 512 + sum_of (drop (i + 1) s)) % 512 ≡ (a + sum_of (drop i s)) % 512
unfolding sum_of
sum_next a i s h =
    mod-add-mod (a + get_or s i 0 % 512) 512 (sum_of (drop (i + 1) s))
    ∙ ap (λ (x : ℕ). x % 512) (add_assoc a (get_or s i 0 % 512) (sum_of (drop (i + 1) s)) ∙ ap (λ (l : List ℕ). a + sum_of l) (sym (next_drop s i h)))
