-- `hostreads::reading::serve` meets its contract: its three ways, and what comes of the call. Assumes nothing.
use mathlib.Core.Path.{◌≡◌, refl, sym, ap, ◌∙◌}
use mathlib.Core.Bool.{false}
use native.Mathlib.Omega.{arith}
use lib.ListN.{length}
use borrow.Author.Tests.{not-true, not-false, eq-eqb}
use Rattle.lists.proofs.Tests.{pick_true}
use Rattle.reader.specs.declared.state.Event.TheVariants.{Refused}
use Rattle.reader.specs.Within.{tells}
use Rattle.images.specs.ReaderImage.{state_of, is_image}
use Rattle.bytereader.specs.declared.Outcome.{Outcome}
use Rattle.bytereader.specs.Calls.{went_of, start_bytes, left_by, is_barred}
use Rattle.calls.specs.Reading.{reads_within}
use Rattle.calls.proofs.CallLaws.{Spelt, misfit, fit, as_long, read_wrong, read_no, read_barred, read_served, moves}
use Rattle.hostreads.proofs.reading.serve.Goals as goal
use Rattle.hostreads.proofs.reading.serve.Goals.{Else-state-event, After-read_image-spelt}

-- the buffers are as long as they have to be
long : (e : Else-state-event) → let g = e.args in (length g.state.now ≡ 80) × (length g.event.now ≡ 32)
long e = let g = e.args in as_long g.state.now g.event.now 80 32 e.if-state-event.false

-- the image copied, the state that it spells, and whether it is one
seen : (i : After-read_image-spelt)
    → let g = i.args in
    let x = i.read_image-spelt.result in Spelt g.state.now g.event.now x.state x.image
seen i =
    let g = i.args in
    let fits = (as_long g.state.now g.event.now 80 32 i.if-state-event.false).0 in
    let image = i.array_of.ensures ∙ pick_true _ _ (eq-eqb 80 _ (sym fits)) in
    record {
      right = fit g.state.now g.event.now 80 32 i.if-state-event.false;
      spelt = i.read_image-spelt.ensures.0 ∙ ap state_of image;
      shown = i.read_image-spelt.ensures.1 ∙ ap is_image image;
    }

pub returns-then-state-event : goal.returns-then-state-event
unfolding reads_within
returns-then-state-event c =
    let g = c.args in
    read_wrong g.allowance g.state.now g.line.now g.room.now g.event.now (misfit g.state.now g.event.now 80 32 c.if-state-event.true)

pub returns-then-not-spelt : goal.returns-then-not-spelt
unfolding reads_within
returns-then-not-spelt c =
    let g = c.args in
    read_no g.allowance g.state.now g.line.now g.room.now g.event.now (seen (goal.at.returns-then-not-spelt c).After-read_image-spelt) (not-true _ c.if-not-spelt.true) c.read_early.ensures c.early_by.ensures

pub begin-requires : goal.begin-requires
begin-requires c = long (goal.at.begin-requires c).Else-state-event

pub go_on-requires : goal.go_on-requires
go_on-requires c = long (goal.at.go_on-requires c).Else-state-event

pub returns-in-Barred : goal.returns-in-Barred
unfolding reads_within
returns-in-Barred c =
    let e = c.in-Barred.is in
    let g = c.args in
    let st = c.read_image-spelt.result.state in
    let room = c.call.new.room in
    read_barred g.allowance g.state.now g.line.now g.room.now g.event.now (seen (goal.at.returns-in-Barred c).After-read_image-spelt) (not-false _ c.if-not-spelt.false) (tells 0 (record { event = Refused _ false; state = st })) room
    (ap (λ (o : Outcome). left_by st g.line.now o room) (sym e) ∙ c.call.ensures.0) (ap is_barred (sym e) ∙ c.call.ensures.1) (c.call.ensures.2 (ap is_barred e)) refl

pub returns-in-Starts : goal.returns-in-Starts
unfolding reads_within
returns-in-Starts c =
    let e = c.in-Starts.is in
    let g = c.args in
    let st = c.read_image-spelt.result.state in
    let room = c.call.new.room in
    let b = c.begin.ensures in
    read_served g.allowance g.state.now g.line.now g.room.now g.event.now (seen (goal.at.returns-in-Starts c).After-read_image-spelt) (not-false _ c.if-not-spelt.false) (tells 0 (start_bytes st g.line.now)) room
    (ap (λ (o : Outcome). left_by st g.line.now o room) (sym e) ∙ c.call.ensures.0) (ap is_barred (sym e) ∙ c.call.ensures.1) b.0 b.1 b.2

pub returns-in-Goes : goal.returns-in-Goes
unfolding reads_within
returns-in-Goes c =
    let e = c.in-Goes.is in
    let w = c.in-Goes.w in
    let g = c.args in
    let st = c.read_image-spelt.result.state in
    let room = c.call.new.room in
    let b = c.go_on.ensures in
    let holds = not-false _ c.if-not-spelt.false in
    read_served g.allowance g.state.now g.line.now g.room.now g.event.now (seen (goal.at.returns-in-Goes c).After-read_image-spelt) holds (went_of st w) room
    (ap (λ (o : Outcome). left_by st g.line.now o room) (sym e) ∙ c.call.ensures.0) (ap is_barred (sym e) ∙ c.call.ensures.1) b.0 (b.1 ∙ moves (seen (goal.at.returns-in-Goes c).After-read_image-spelt) holds w) b.2
