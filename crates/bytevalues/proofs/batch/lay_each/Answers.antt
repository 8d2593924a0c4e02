use mathlib.Core.Path.{◌≡◌, ap₂, ◌∙◌}
use mathlib.Core.List.{List}
use Prim.Native.Nat.{ℕ, ◌+◌, ◌-◌, ◌*◌, ◌<◌, ◌≤◌}
use native.Mathlib.Omega.{arith}
use lib.ListN.{length, take, drop, get_or}
use Rattle.octets.specs.Bytes.{words_of}
use Rattle.octets.proofs.BytesLaws.{length_words}
use Rattle.octets.proofs.PartLaws.{words_part}
use Rattle.writer.specs.Answers.{added}
use Rattle.writer.specs.Adding.{adding}
use Rattle.writer.proofs.BatchLaws.{IsWhole, whole_at}
use Rattle.bytevalues.proofs.Batches.{ended_is}
use Rattle.bytevalues.proofs.Entries.{laying_start, all_laid, breaks_off, stops_refused, stops_unfinished, goes_on}
use Rattle.bytevalues.proofs.batch.lay_each.Goals as goal
use Rattle.bytevalues.proofs.batch.lay_each.Goals.{In-loop-at, Else-e-eq0, After-add_valued-x}

-- another entry starts
more : (c : In-loop-at) → c.loop-at.at < length (words_of c.args.blocks.now)
more c = omega (arith, c.loop-at-test.true, length_words c.args.blocks.now)

-- the entry
entry : (c : Else-e-eq0) → (by_more : c.loop-at.at < length (words_of c.args.blocks.now))
    → IsWhole (words_of c.args.blocks.now) c.loop-at.at c.entry_end-e.result
entry c by_more = whole_at (words_of c.args.blocks.now) _ (by_more) _ c.entry_end-e.ensures c.if-e-eq0.false

-- it lies in the bytes
lies : (c : Else-e-eq0) → (by_more : c.loop-at.at < length (words_of c.args.blocks.now))
    → (2 * c.loop-at.at + 4 ≤ 2 * c.entry_end-e.result) × (2 * c.entry_end-e.result ≤ length c.args.blocks.now)
lies c by_more =
    let x = entry c by_more in
    let long = length_words c.args.blocks.now in
    (omega (arith, x.head), omega (arith, x.within, long))

-- the addition is that of the entry
step : (c : After-add_valued-x) →
    let ws = words_of c.args.blocks.now in
    let e = c.entry_end-e.result in
    added c.add_valued-x.result.answer c.add_valued-x.result.state c.add_valued-x.new.line
    ≡ adding c.loop-at.now c.loop-at.line (get_or ws c.loop-at.at 0) (take (e - (c.loop-at.at + 2)) (drop (c.loop-at.at + 2) ws))
step c =
    let at = c.loop-at.at in
    let e = c.entry_end-e.result in
    let from : 2 * at + 4 ≡ 2 * (at + 2) = omega arith in
    let many : 2 * e - (2 * at + 4) ≡ 2 * (e - (at + 2)) = omega arith in
    c.add_valued-x.ensures
    ∙ ap₂ (λ (kind : ℕ) (vs : List ℕ). adding c.loop-at.now c.loop-at.line kind vs) c.word_at-kind.ensures (words_part c.args.blocks.now (at + 2) (e - (at + 2)) _ _ from many)

pub loop-at-init : goal.loop-at-init
loop-at-init c = laying_start _ _ _

pub entry_end-e-requires : goal.entry_end-e-requires
entry_end-e-requires c = more c

pub returns-then-e-eq0 : goal.returns-then-e-eq0
returns-then-e-eq0 c =
    ended_is c.ended.ensures (breaks_off c.loop-at.invariant (more (goal.at.returns-then-e-eq0 c).In-loop-at) _ c.entry_end-e.ensures c.if-e-eq0.true)

pub overflow_mul-from : goal.overflow_mul-from
overflow_mul-from c = let x = lies c (more (goal.at.overflow_mul-from c).In-loop-at) in omega (arith, x.0, x.1)

pub overflow_add-from : goal.overflow_add-from
overflow_add-from c = let x = lies c (more (goal.at.overflow_add-from c).In-loop-at) in omega (arith, x.0, x.1)

pub overflow_mul-to : goal.overflow_mul-to
overflow_mul-to c = let x = lies c (more (goal.at.overflow_mul-to c).In-loop-at) in omega (arith, x.0, x.1)

pub slice_bounds-add_valued-count : goal.slice_bounds-add_valued-count
slice_bounds-add_valued-count c = let x = lies (goal.at.slice_bounds-add_valued-count c).Else-e-eq0 (more (goal.at.slice_bounds-add_valued-count c).In-loop-at) in omega (arith, x.0)

pub slice_bounds-add_valued-start : goal.slice_bounds-add_valued-start
slice_bounds-add_valued-start c = let x = lies (goal.at.slice_bounds-add_valued-start c).Else-e-eq0 (more (goal.at.slice_bounds-add_valued-start c).In-loop-at) in omega (arith, x.0)

pub slice_bounds-add_valued-end : goal.slice_bounds-add_valued-end
slice_bounds-add_valued-end c = let x = lies (goal.at.slice_bounds-add_valued-end c).Else-e-eq0 (more (goal.at.slice_bounds-add_valued-end c).In-loop-at) in omega (arith, x.1)

pub returns-in-Refused : goal.returns-in-Refused
returns-in-Refused c =
    ended_is c.ended-in-Refused.ensures (stops_refused c.loop-at.invariant _ (entry (goal.at.returns-in-Refused c).Else-e-eq0 (more (goal.at.returns-in-Refused c).In-loop-at)) _ _ _ (step (goal.at.returns-in-Refused c).After-add_valued-x) _ c.in-Refused.is)

pub returns-in-Unfinished : goal.returns-in-Unfinished
returns-in-Unfinished c =
    ended_is c.ended-in-Unfinished.ensures (stops_unfinished c.loop-at.invariant _ (entry (goal.at.returns-in-Unfinished c).Else-e-eq0 (more (goal.at.returns-in-Unfinished c).In-loop-at)) _ _ _ (step (goal.at.returns-in-Unfinished c).After-add_valued-x) c.in-Unfinished.is)

pub overflow_add-finished : goal.overflow_add-finished
overflow_add-finished c =
    omega (arith, c.loop-at.invariant.few, c.loop-at-test.true)

pub loop-at-smaller : goal.loop-at-smaller
loop-at-smaller c =
    let x = entry (goal.at.loop-at-smaller c).Else-e-eq0 (more (goal.at.loop-at-smaller c).In-loop-at) in
    omega (arith, x.head, c.loop-at-test.true)

pub loop-at-preserved : goal.loop-at-preserved
loop-at-preserved c =
    goes_on c.loop-at.invariant _ (entry (goal.at.loop-at-preserved c).Else-e-eq0 (more (goal.at.loop-at-preserved c).In-loop-at)) _ _ _ (step (goal.at.loop-at-preserved c).After-add_valued-x) c.in-Finished.is c.add_valued-x.auto.line

pub returns : goal.returns
returns c =
    let long = length_words c.args.blocks.now in
    ended_is c.ended-2.ensures (all_laid c.loop-at.invariant (omega (arith, c.loop-at-test.false, long)))
