-- `course::looked_by` meets its contract. Assumes nothing.
use mathlib.Core.Path.{refl, ap, ◌∙◌}
use Rattle.line.specs.declared.systems.System.{System}
use Rattle.line.specs.declared.fixed.Fixed.{Fixed}
use Rattle.line.specs.Fixed.{size_of}
use Rattle.course.specs.Course.{blocks_end}
use Rattle.course.proofs.looked_by.Goals as goal

pub returns : goal.returns
unfolding size_of
returns c =
    let g = c.args in (
      refl,
      c.end_by.ensures ∙ ap (λ (x : System). blocks_end x.payload g.t.block g.t.flag) c.system_of-payload.ensures,
      ap (λ (x : Fixed). x.size) c.requires,
    )
