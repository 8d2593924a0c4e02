-- `writer::adding::ask` meets its contract. Assumes nothing.
use mathlib.Core.Path.{◌≡◌, refl, ap, ap₂, ◌∙◌}
use mathlib.Core.Bool.{Bool, ◌||◌, not}
use Prim.Native.Nat.{◌-◌}
use Rattle.lists.proofs.Refusals.{LowestOf, low_none, low_step}
use Rattle.line.specs.declared.systems.System.{System}
use Rattle.course.specs.Course.{impossible_after}
use Rattle.writer.specs.declared.state.Writer.{Writer}
use Rattle.writer.specs.State.{is_part, misshapen, overlong, overfull, impossible}
use Rattle.writer.specs.Batch.{batch_faults, batch_fault}
use Rattle.writer.proofs.adding.ask.Goals as goal

-- the test of the state, by what the look found
impossible-by : (w : Writer) (i b m : Bool) → i ≡ impossible_after w.system w.last w.settings w.place b → b ≡ is_part w.rest
    → m ≡ (misshapen w.rest || (overlong w.crc || overfull w.system w.used)) → (i || m) ≡ impossible w
unfolding impossible
impossible-by w i b m e f g = ap₂ ◌||◌ (e ∙ ap (λ (b : Bool). impossible_after w.system w.last w.settings w.place b) f) g

pub returns : goal.returns
unfolding batch_fault
returns c =
    let w = c.args.w in
    let l : LowestOf (batch_faults w c.args.long) c.or_else.result =
    low_step 1 c.or_else.ensures (ap not c.is_fit.ensures)
    (low_step 2 c.or_else-r2.ensures (impossible-by w _ _ _ c.look-x.ensures.0 c.is_part.ensures c.is_misheld.ensures) low_none) in (
      l.is,
      record {
        mode = refl;
        block = refl;
        size = c.look-x.ensures.2;
        end = c.look-x.ensures.1;
        start = c.saturating_sub.ensures ∙ ap (λ (s : System). s.length - s.payload) c.system_of-s.ensures;
      },
    )
