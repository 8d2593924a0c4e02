use mathlib.Core.Path.{refl, sym, ap, ap₂, ◌∙◌, subst}
use mathlib.Core.List.{[], ◌++◌, append-nil}
use lib.Dec.{ltb}
use lib.ListN.{take-append-drop}
use Rattle.blocks.proofs.ValueLaws.{Together, bits_chunk, bits_end, bits_valued}
use Rattle.blocks.proofs.values.all_valued.Goals as goal

pub loop-front-preserved : goal.loop-front-preserved
loop-front-preserved c =
    let l = c.loop-front in
    let cut = c.in-Some.ensures.cases in
    bits_chunk _ _ _ _ _ (subst (Together c.args.s.now l.bits) (sym (ap₂ ◌++◌ cut.0 cut.1 ∙ take-append-drop 512 l.left.now)) l.invariant) c.bits_of-bits.ensures

pub returns : goal.returns
returns c =
    let l = c.loop-front in
    let s = c.args.s.now in
    let all = bits_chunk s l.left.now [] l.bits c.bits_of.result (subst (Together s l.bits) (sym (append-nil l.left.now)) l.invariant) c.bits_of.ensures in
    ap (ltb _) c.values_of.ensures ∙ bits_valued c.args.mode s _ (bits_end s [] _ all refl)
