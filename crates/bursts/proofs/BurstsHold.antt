-- Short bursts never pass, proved: the statement is specs/Bursts.antt.
-- Assumes nothing.
use mathlib.Core.Path.{refl}
use mathlib.Core.Logic.{⊎_elim}
use native.Mathlib.Omega.{arith}
use lib.Dec.{lit≤}
use Rattle.line.specs.Systems.{is_system}
use Rattle.reader.proofs.AtCapacity.{refuses}
use Rattle.demands.proofs.Demand3Holds.{demand_3}
use Rattle.bursts.specs.Bursts.{NeverPasses, Bursts}
use Rattle.bursts.proofs.BurstLaws.{never_at_any_length, never_passes, refused_after}
use Rattle.bursts.proofs.HitLines.{as_replaced, covers}
use Rattle.bursts.proofs.BurstSamples.{fifteen, sixteen, passing}

sharp : NeverPasses 19 → ⊥
unfolding is_system
sharp never =
    let x = passing 0 refl in
    ⊎_elim (λ e. omega (arith, e, x.answer)) (λ e. omega (arith, e, x.answer)) (never 0 9 x.line x.line' x.hit)

pub bursts : Bursts
bursts = record {
  once = never_at_any_length (lit≤ tt);
  checked = never_passes (lit≤ tt);
  read = λ st line line' room fit shut h. refuses st line' room fit shut _ refl (refused_after st.system st.mode line line' h);
  as_replaced = as_replaced;
  covers = covers;
  handed = λ system mode cs fs x. demand_3.handed system mode cs fs (covers system mode cs fs x);
  fifteen = fifteen;
  sixteen = sixteen;
  passing = passing;
  sharp = sharp;
}
