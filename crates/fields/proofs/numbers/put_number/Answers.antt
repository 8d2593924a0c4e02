use native.Mathlib.Omega.{arith}
use Rattle.fields.proofs.NumberLaws.{put_turn, put_end}
use Rattle.fields.proofs.numbers.put_number.Goals as goal

pub loop-b-preserved : goal.loop-b-preserved
loop-b-preserved c = put_turn _ _ _ _ _ c.loop-b.auto.out (omega arith) c.loop-b.invariant

pub returns : goal.returns
returns c = put_end _ _ _ _ _ c.loop-b.auto.out (omega arith) c.loop-b.invariant
