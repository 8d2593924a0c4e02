-- `blocks::fill::put_each` meets its contract. Assumes nothing.
use Rattle.std.proofs.Common.{ℕ, ◌≡◌, ◌<◌, length, slice_index}
use Rattle.blocks.proofs.fill.put_each.Given as goal

abbrev pub invariant-loop-i : goal.invariant-loop-i
invariant-loop-i g l = record {
  long : length l.out ≡ length l.values;
  made : (k : ℕ) → k < l.i → goal.F-post g l.f (slice_index l.values k) (slice_index l.out k);
}
