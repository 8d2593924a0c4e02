-- 1 and 2 of a call, by the state and the numbers of bytes. No promise of a call from C cites this; those of `calls::early` do.
-- Assumes nothing.
use Rattle.std.specs.Prelude.{ℕ, ◌/◌, ◌%◌, Bool, ◌&&◌, eqb}
use Rattle.lists.specs.Tests.{pick}
use Rattle.writer.specs.declared.state.Writer.{Writer}
use Rattle.writer.specs.Batch.{batch_fault}

-- of the writer's calls, which all have the same 1 and 2: a line of so many bytes, and whether what else is lent is even
unfoldable pub write_early : Writer → ℕ → Bool → ℕ
write_early w line even = pick (eqb (line % 2) 0 && even) (batch_fault w (line / 2)) 1

-- 1 comes before an image that no state gives, and that before 2 of the state
unfoldable pub early_by : Bool → ℕ → ℕ
early_by image f = pick (eqb f 1) 1 (pick image f 2)
