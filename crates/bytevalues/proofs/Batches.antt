-- A list of blocks: 1, 2 and neither; and what a batch that was put together is.
-- Assumes nothing.
use mathlib.Core.Path.{◌≡◌, sym, ap}
use mathlib.Core.Bool.{true, false, not}
use mathlib.Core.List.{List}
use Prim.Native.Nat.{ℕ}
use native.Mathlib.Omega.{arith}
use lib.ListN.{length}
use Rattle.lists.proofs.Refusals.{LowestOf, low_hit, low_miss, clear_lowest}
use Rattle.line.specs.Check.{fits_length}
use Rattle.writer.specs.declared.state.Writer.{Writer}
use Rattle.writer.specs.declared.batch.Stop.{Stop}
use Rattle.writer.specs.declared.batch.Stop.TheVariants.{Refused as Stopped}
use Rattle.writer.specs.State.{impossible}
use Rattle.writer.specs.Batch.{entries_of, Batched, batched, lay_all, batch_faults, batch_fault, batching}
use Rattle.writer.proofs.BatchLaws.{batch_refused, batch_laid}

module _ (w : Writer) (line : List ℕ) (unfit : fits_length w.system w.mode (length line) ≡ false) where
  pub batch_1 : (blocks : List ℕ) → batching w line blocks ≡ batched 0 (Stopped 1) w line
  unfolding batch_fault
  batch_1 blocks = let l : LowestOf (batch_faults w (length line)) 1 = low_hit 1 (ap not unfit) in sym (batch_refused w line blocks 1 l.is (λ z. omega (arith, z)))

module _ (w : Writer) (line blocks : List ℕ) (fit : fits_length w.system w.mode (length line) ≡ true) where
  pub batch_2 : impossible w ≡ true → batched 0 (Stopped 2) w line ≡ batching w line blocks
  unfolding batch_fault
  batch_2 e =
      let l : LowestOf (batch_faults w (length line)) 2 = low_miss 1 (ap not fit) (low_hit 2 e) in
      batch_refused w line blocks 2 l.is (λ z. omega (arith, z))

  pub batch_all : impossible w ≡ false → batching w line blocks ≡ lay_all w line 0 (entries_of blocks)
  unfolding batch_fault
  batch_all e = batch_laid w line blocks (clear_lowest (batch_faults w (length line)) (ap not fit, (e, tt)))

-- what a batch that was put together is
pub ended_is : {n n' : ℕ} {stop stop' : Stop} {st st' : Writer} {line : List ℕ} {b : Batched} → (n ≡ n') × (stop ≡ stop') × (st ≡ st') → batched n' stop' st' line ≡ b → batched n stop st line ≡ b
ended_is e h = cc (e.0, e.1, e.2, h)
