use Rattle.std.proofs.Common.{◌-◌, length, arith}
use Rattle.std.proofs.lemmas.Iterator.Adapters.{YieldsList-from_rev_slice}
use Rattle.std.proofs.lemmas.Iterator.Consumers.{YieldsList-turn, YieldsList-end}
use Rattle.std.proofs.lemmas.List.{length_push, length-reverse}
use Rattle.fields.proofs.NumberLaws.{spell_start, spell_turn, spell_fits, spell_end, next_back}
use Rattle.fields.proofs.numbers.number_from.Goals as goal

pub loop-v-init : goal.loop-v-init
loop-v-init c = (tt, tt, spell_start _)

pub overflow_mul-x : goal.overflow_mul-x
overflow_mul-x c =
    let b = c.args.b.now in
    let n = length c.loop-v.yielded in
    let t = YieldsList-turn (YieldsList-from_rev_slice b cc) c.loop-v.yielded _ c.loop-v.yielded_by _ _ c.in-Some.v c.in-Some.is c.next.ensures.steps in
    let x = next_back b n _ _ c.from.ensures t in
    let fits = spell_fits b _ n c.from.result c.loop-v.invariant.2 x.0 c.requires (omega (arith, x.1, c.type_inv.b (length b - 1 - n))) in
    omega (arith, fits)

pub overflow_add-x : goal.overflow_add-x
overflow_add-x c =
    let b = c.args.b.now in
    let n = length c.loop-v.yielded in
    let t = YieldsList-turn (YieldsList-from_rev_slice b cc) c.loop-v.yielded _ c.loop-v.yielded_by _ _ c.in-Some.v c.in-Some.is c.next.ensures.steps in
    let x = next_back b n _ _ c.from.ensures t in
    let fits = spell_fits b _ n c.from.result c.loop-v.invariant.2 x.0 c.requires (omega (arith, x.1, c.type_inv.b (length b - 1 - n))) in
    omega (arith, fits)

pub loop-v-preserved : goal.loop-v-preserved
loop-v-preserved c =
    let b = c.args.b.now in
    let n = length c.loop-v.yielded in
    let t = YieldsList-turn (YieldsList-from_rev_slice b cc) c.loop-v.yielded _ c.loop-v.yielded_by _ _ c.in-Some.v c.in-Some.is c.next.ensures.steps in
    let x = next_back b n _ _ c.from.ensures t in
    let s = spell_turn b _ n _ c.loop-v.invariant.2 x (omega (arith, x.1, c.type_inv.b (length b - 1 - n))) in
    (tt, tt, rw (length_push c.loop-v.yielded c.in-Some.v) s)

pub returns : goal.returns
returns c =
    let b = c.args.b.now in
    let t = YieldsList-end (YieldsList-from_rev_slice b cc) c.loop-v.yielded _ c.loop-v.yielded_by _ _ c.in-None.is c.next.ensures.steps in
    spell_end b _ _ c.loop-v.invariant.2 (omega (arith, t.1, length-reverse b))
