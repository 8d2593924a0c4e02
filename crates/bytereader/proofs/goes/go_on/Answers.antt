-- `bytereader::goes::go_on` meets its contract: what it tells of the walk is what the reader tells. Assumes nothing.
use mathlib.Core.Path.{◌≡◌, refl, sym, ap, ap₂, ◌∙◌}
use mathlib.Core.Bool.{Bool, true, false, ◌&&◌}
use Prim.Native.Nat.{ℕ, ◌+◌, ◌-◌, ◌*◌, ◌/◌, ◌≤◌, ◌<◌, min}
use native.Mathlib.Omega.{arith}
use lib.Dec.{eqb}
use Rattle.octets.specs.Bytes.{words_of}
use Rattle.line.specs.Systems.{system_of}
use Rattle.machine.specs.Walk.{Walk, leaves, is_nothing}
use Rattle.reader.specs.declared.within.Within.{Within}
use Rattle.reader.specs.State.{capacity}
use Rattle.reader.specs.Within.{sliced, unit_of, walk_within, goes_within}
use Rattle.reader.proofs.Ready.{ReadyIn, ready, in_end}
use Rattle.reader.proofs.ReadLaws.{end_small, next_small}
use Rattle.reader.proofs.AtCapacity.{enough}
use Rattle.reader.proofs.Cutting.{Cuts, cuts, Far, far_walk}
use Rattle.reader.proofs.WithinLaws.{goes_paused, goes_told}
use Rattle.bytereader.proofs.CallLaws.{went_told}
use borrow.Author.Rules.{rules}
use Rattle.bytereader.proofs.goes.go_on.Goals as goal
use Rattle.bytereader.proofs.goes.go_on.Goals.{Start, After-unit_of-unit, After-min, After-walk_from-x, After-is_nothing}

-- neither 1 nor 2
is-ready : (s : Start) → ReadyIn capacity s.args.st (words_of s.args.line.now) (words_of s.args.room.now)
is-ready s = ready capacity s.args.st (words_of s.args.line.now) (words_of s.args.room.now) s.requires.1

-- the cut walk
cut : (s : Start) →
    let g = s.args in
    let line = words_of g.line.now in
    let room = words_of g.room.now in
    Cuts capacity g.allowance g.st g.q line room (walk_within g.allowance g.st g.q line room)
cut s = let g = s.args in cuts g.allowance g.st g.q (words_of g.line.now) (words_of g.room.now) s.requires.0 (is-ready s) enough

-- a place has a word
unit : (x : After-unit_of-unit) → (by_cut : let g = x.args in let line = words_of g.line.now in let room = words_of g.room.now in Cuts capacity g.allowance g.st g.q line room (walk_within g.allowance g.st g.q line room))
    → 0 < x.unit_of-unit.result
unit x by_cut = omega (arith, (by_cut).one, x.unit_of-unit.ensures)

-- where the walk has to stop
far : (x : After-min) → (by_is_ready : ReadyIn capacity x.args.st (words_of x.args.line.now) (words_of x.args.room.now))
    → let g = x.args in
    Far g.allowance g.st g.q (words_of g.line.now) (words_of g.room.now) (g.q + x.min.result * x.unit_of-unit.result)
far x by_is_ready =
    let g = x.args in
    let u = x.unit_of-unit.ensures in
    far_walk g.allowance g.st g.q (words_of g.line.now) (words_of g.room.now) x.requires.0 (by_is_ready) enough _
    (ap₂ (λ (n k : ℕ). g.q + n * k) x.min.ensures u ∙ ap₂ (λ (e k : ℕ). g.q + min g.allowance ((e - g.q) / k) * unit_of g.st.settings.block) x.requires.2 u)

far-small : (x : After-min) → (by_is_ready : ReadyIn capacity x.args.st (words_of x.args.line.now) (words_of x.args.room.now))
    → x.args.q + x.min.result * x.unit_of-unit.result ≤ 1920
far-small x by_is_ready =
    let g = x.args in
    omega (arith, (far x by_is_ready).high, end_small g.st g.q (words_of g.line.now) (words_of g.room.now) x.requires.0 (by_is_ready))

-- what it leaves
walked : (x : After-walk_from-x) → (by_far : let g = x.args in Far g.allowance g.st g.q (words_of g.line.now) (words_of g.room.now) (g.q + x.min.result * x.unit_of-unit.result))
    → let g = x.args in
    leaves x.walk_from-x.result (words_of x.walk_from-x.new.room) ≡ walk_within g.allowance g.st g.q (words_of g.line.now) (words_of g.room.now)
walked x by_far = x.walk_from-x.ensures ∙ (by_far).walk

-- the place is within the payload
small : (x : After-walk_from-x) → (by_is_ready : ReadyIn capacity x.args.st (words_of x.args.line.now) (words_of x.args.room.now))
    → (by_cut : let g = x.args in let line = words_of g.line.now in let room = words_of g.room.now in Cuts capacity g.allowance g.st g.q line room (walk_within g.allowance g.st g.q line room))
    → (by_far : let g = x.args in Far g.allowance g.st g.q (words_of g.line.now) (words_of g.room.now) (g.q + x.min.result * x.unit_of-unit.result))
    → x.args.q + x.walk_from-x.result.taken ≤ 1920
small x by_is_ready by_cut by_far =
    let g = x.args in
    let n = next_small g.st g.q (words_of g.line.now) (words_of g.room.now) x.requires.0 (by_is_ready) (system_of g.st.system) refl _ (by_cut).stays in
    omega (arith, n, ap (λ (y : Walk). y.answer.taken) (walked x by_far))

low : (s : Start) → s.args.q ≤ s.args.end
low s = let g = s.args in omega (arith, in_end g.st g.q (words_of g.line.now) (words_of g.room.now) s.requires.0 (is-ready s), s.requires.2)

-- whether it pauses
asked : (x : After-is_nothing) (b : Bool) →
    let met = x.walk_from-x.result.met in
    let n = x.walk_from-x.result.taken / x.unit_of-unit.result in
    (x.is_nothing.result && eqb n x.args.allowance) ≡ b → (is_nothing met && eqb n x.args.allowance) ≡ b
asked x b e = ap (λ (f : Bool). f && eqb (x.walk_from-x.result.taken / x.unit_of-unit.result) x.args.allowance) (sym x.is_nothing.ensures) ∙ e

pub overflow_sub-end : goal.overflow_sub-end
overflow_sub-end c = low (goal.at.overflow_sub-end c).Start

pub nonzero_div-end : goal.nonzero_div-end
nonzero_div-end c = unit c (cut (goal.at.nonzero_div-end c).Start)

pub overflow_mul-far : goal.overflow_mul-far
overflow_mul-far c = let h = far-small c (is-ready (goal.at.overflow_mul-far c).Start) in search rules

pub overflow_add-far : goal.overflow_add-far
overflow_add-far c = let h = far-small c (is-ready (goal.at.overflow_add-far c).Start) in search rules

pub walk_from-x-requires : goal.walk_from-x-requires
walk_from-x-requires c = (c.requires.0, c.requires.1, (far (goal.at.walk_from-x-requires c).After-min (is-ready (goal.at.walk_from-x-requires c).Start)).low, (far (goal.at.walk_from-x-requires c).After-min (is-ready (goal.at.walk_from-x-requires c).Start)).high, c.requires.3)

pub overflow_add-next : goal.overflow_add-next
overflow_add-next c = let h = small (goal.at.overflow_add-next c).After-walk_from-x (is-ready (goal.at.overflow_add-next c).Start) (cut (goal.at.overflow_add-next c).Start) (far (goal.at.overflow_add-next c).After-min (is-ready (goal.at.overflow_add-next c).Start)) in search rules

pub nonzero_div-consumed : goal.nonzero_div-consumed
nonzero_div-consumed c = unit (goal.at.nonzero_div-consumed c).After-unit_of-unit (cut (goal.at.nonzero_div-consumed c).Start)

pub returns-then-is_nothing-consumed : goal.returns-then-is_nothing-consumed
returns-then-is_nothing-consumed c =
    let g = c.args in
    let w = leaves c.walk_from-x.result (words_of c.walk_from-x.new.room) in
    let u = c.unit_of-unit.ensures in
    goes_paused g.allowance g.st g.q w _ (ap (λ (k : ℕ). c.walk_from-x.result.taken / k) u) (asked (goal.at.returns-then-is_nothing-consumed c).After-is_nothing true c.if-is_nothing-consumed.true)
    ∙ ap (goes_within g.allowance g.st g.q) (walked (goal.at.returns-then-is_nothing-consumed c).After-walk_from-x (far (goal.at.returns-then-is_nothing-consumed c).After-min (is-ready (goal.at.returns-then-is_nothing-consumed c).Start)))

pub returns : goal.returns
returns c =
    let g = c.args in
    let room' = words_of c.walk_from-x.new.room in
    let w = leaves c.walk_from-x.result room' in
    let u = c.unit_of-unit.ensures in
    ap (λ (y : Within). sliced y room') (went_told g.st _ c.walk_from-x.result.phase c.walk_from-x.result.met _ c.event_by.ensures c.place_by.ensures)
    ∙ goes_told g.allowance g.st g.q w _ (ap (λ (k : ℕ). c.walk_from-x.result.taken / k) u) (asked (goal.at.returns c).After-is_nothing false c.if-is_nothing-consumed.false)
    ∙ ap (goes_within g.allowance g.st g.q) (walked (goal.at.returns c).After-walk_from-x (far (goal.at.returns c).After-min (is-ready (goal.at.returns c).Start)))
