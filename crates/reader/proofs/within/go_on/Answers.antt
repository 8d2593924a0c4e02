-- `reader::within::go_on` meets its contract. Assumes nothing.
use mathlib.Core.Path.{◌≡◌, refl, ap, ap₂, ◌∙◌}
use Prim.Native.Nat.{ℕ, ◌+◌, ◌-◌, ◌*◌, ◌/◌, ◌≤◌, ◌<◌, min}
use native.Mathlib.Omega.{arith}
use lib.ListN.{length}
use Rattle.line.specs.Systems.{system_of}
use Rattle.machine.specs.Walk.{Walk, leaves}
use Rattle.reader.specs.Within.{unit_of, walk_within, goes_within}
use Rattle.reader.proofs.Ready.{ReadyIn, ready, in_end}
use Rattle.reader.proofs.ReadLaws.{end_small, next_small}
use Rattle.reader.proofs.Cutting.{Cuts, cuts, Far, far_walk}
use borrow.Author.Rules.{rules}
use Rattle.std.proofs.lemmas.Grind.{common_steps}
use Rattle.lists.specs.Tests.{pick}
use Rattle.reader.proofs.within.go_on.Goals as goal
use Rattle.reader.proofs.within.go_on.Goals.{Start, After-unit_of-unit, After-min, After-walk_from-x}

-- neither 1 nor 2
is-ready : (s : Start) → ReadyIn (length s.args.room.now) s.args.st s.args.line.now s.args.room.now
is-ready s = ready (length s.args.room.now) s.args.st s.args.line.now s.args.room.now s.requires.1

-- the cut walk
cut : (s : Start) → let g = s.args in Cuts (length g.room.now) g.allowance g.st g.q g.line.now g.room.now (walk_within g.allowance g.st g.q g.line.now g.room.now)
cut s = let g = s.args in cuts g.allowance g.st g.q g.line.now g.room.now s.requires.0 (is-ready s) s.requires.2

-- a place has a word
unit : (x : After-unit_of-unit) → (by_cut : let g = x.args in Cuts (length g.room.now) g.allowance g.st g.q g.line.now g.room.now (walk_within g.allowance g.st g.q g.line.now g.room.now))
    → 0 < x.unit_of-unit.result
unit x by_cut = omega (arith, by_cut.one, x.unit_of-unit.ensures)

-- where the walk has to stop
least : (x : After-min) → x.min.result ≡ min x.args.allowance ((x.args.end - x.args.q) / x.unit_of-unit.result)
least x = search rules

far : (x : After-min) → (by_is_ready : ReadyIn (length x.args.room.now) x.args.st x.args.line.now x.args.room.now)
    → let g = x.args in
    Far g.allowance g.st g.q g.line.now g.room.now (g.q + x.min.result * x.unit_of-unit.result)
far x by_is_ready =
    let g = x.args in
    let u = x.unit_of-unit.ensures in
    far_walk g.allowance g.st g.q g.line.now g.room.now x.requires.0 by_is_ready x.requires.2 _
    (ap₂ (λ (n k : ℕ). g.q + n * k) (least x) u ∙ ap₂ (λ (e k : ℕ). g.q + min g.allowance ((e - g.q) / k) * unit_of g.st.settings.block) x.requires.3 u)

far-small : (x : After-min) → (by_is_ready : ReadyIn (length x.args.room.now) x.args.st x.args.line.now x.args.room.now)
    → x.args.q + x.min.result * x.unit_of-unit.result ≤ 1920
far-small x by_is_ready =
    let g = x.args in
    omega (arith, (far x by_is_ready).high, end_small g.st g.q g.line.now g.room.now x.requires.0 by_is_ready)

-- what it leaves
walked : (x : After-walk_from-x) → (by_far : let g = x.args in Far g.allowance g.st g.q g.line.now g.room.now (g.q + x.min.result * x.unit_of-unit.result))
    → let g = x.args in
    leaves x.walk_from-x.result x.walk_from-x.new.room ≡ walk_within g.allowance g.st g.q g.line.now g.room.now
walked x by_far = x.walk_from-x.ensures ∙ by_far.walk

-- the place is within the payload
small : (x : After-walk_from-x) → (by_is_ready : ReadyIn (length x.args.room.now) x.args.st x.args.line.now x.args.room.now)
    → (by_cut : let g = x.args in Cuts (length g.room.now) g.allowance g.st g.q g.line.now g.room.now (walk_within g.allowance g.st g.q g.line.now g.room.now))
    → (by_far : let g = x.args in Far g.allowance g.st g.q g.line.now g.room.now (g.q + x.min.result * x.unit_of-unit.result))
    → x.args.q + x.walk_from-x.result.taken ≤ 1920
small x by_is_ready by_cut by_far =
    let g = x.args in
    let n = next_small g.st g.q g.line.now g.room.now x.requires.0 by_is_ready (system_of g.st.system) refl _ by_cut.stays in
    omega (arith, n, ap (λ (y : Walk). y.answer.taken) (walked x by_far))

low : (s : Start) → s.args.q ≤ s.args.end
low s = let g = s.args in omega (arith, in_end g.st g.q g.line.now g.room.now s.requires.0 (is-ready s), s.requires.3)

pub overflow_sub-end : goal.overflow_sub-end
overflow_sub-end c = low (goal.at.overflow_sub-end c).Start

pub nonzero_div-end : goal.nonzero_div-end
nonzero_div-end c = unit c (cut (goal.at.nonzero_div-end c).Start)

pub overflow_mul-far : goal.overflow_mul-far
overflow_mul-far c = let h = far-small c (is-ready (goal.at.overflow_mul-far c).Start) in search rules

pub overflow_add-far : goal.overflow_add-far
overflow_add-far c = let h = far-small c (is-ready (goal.at.overflow_add-far c).Start) in search rules

pub walk_from-x-requires : goal.walk_from-x-requires
walk_from-x-requires c =
    let at = goal.at.walk_from-x-requires c in
    let f = far at.After-min (is-ready at.Start) in
    (c.requires.0, c.requires.1, f.low, f.high, c.requires.4)

pub overflow_add-next : goal.overflow_add-next
overflow_add-next c =
    let at = goal.at.overflow_add-next c in
    let r = is-ready at.Start in
    let h = small at.After-walk_from-x r (cut at.Start) (far at.After-min r) in
    search rules

pub nonzero_div-consumed : goal.nonzero_div-consumed
nonzero_div-consumed c = unit (goal.at.nonzero_div-consumed c).After-unit_of-unit (cut (goal.at.nonzero_div-consumed c).Start)

pub returns-then-is_nothing-consumed : goal.returns-then-is_nothing-consumed
unfolding goes_within pick
returns-then-is_nothing-consumed c =
    let at = goal.at.returns-then-is_nothing-consumed c in
    let w = walked at.After-walk_from-x (far at.After-min (is-ready at.Start)) in
    grind (arith, common_steps, w)

pub returns : goal.returns
unfolding goes_within pick
returns c =
    let at = goal.at.returns c in
    let w = walked at.After-walk_from-x (far at.After-min (is-ready at.Start)) in
    grind (arith, common_steps, w)
