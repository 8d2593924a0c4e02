-- `hostreads::reading::begin` meets its contract. Assumes nothing.
use mathlib.Core.Path.{ap, ◌∙◌}
use Rattle.reader.specs.declared.within.Report.TheVariants.{Told}
use Rattle.reader.specs.declared.state.Told.{Told as Tale}
use Rattle.images.specs.ReaderImage.{image_of}
use Rattle.events.specs.EventImage.{event_image}
use Rattle.calls.specs.Answers.{event_answer}
use Rattle.calls.proofs.CallLaws.{filled}
use Rattle.hostreads.proofs.reading.begin.Goals as goal

pub returns : goal.returns
returns c =
    let t = c.start-t.ensures in (
      c.event_answer.ensures ∙ ap (λ (x : Tale). event_answer x.event) t,
      filled 80 c.args.state.now _ _ c.requires.0 c.put_image.ensures ∙ ap (λ (x : Tale). image_of x.state) t,
      filled 32 c.args.event.now _ _ c.requires.1 c.put_event.ensures ∙ ap (λ (x : Tale). event_image (Told x.event) 0) t,
    )
