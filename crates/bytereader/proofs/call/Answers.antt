-- `bytereader::call` meets its contract: it is the reader's call on the words, and the room's bytes are those of its words. Assumes nothing.
use mathlib.Core.Path.{◌≡◌, refl, sym, ap, ◌∙◌}
use native.Mathlib.Omega.{arith}
use lib.ListN.{length}
use Rattle.lists.proofs.Tests.{true_false}
use Rattle.octets.specs.Bytes.{words_of}
use Rattle.reader.specs.declared.state.Told.{Told}
use Rattle.reader.specs.State.{capacity}
use Rattle.reader.specs.Within.{sliced, tells}
use Rattle.reader.proofs.WithinLaws.{within_none, within_goes}
use Rattle.bytereader.proofs.CallLaws.{Fit, back, sliced_back, fit, sliced_refused, barred_is, barred_not, start_is}
use mathlib.Core.Bool.{false, not}
use lib.Dec.{eqb}
use Rattle.bytereader.specs.Bytewise.{bytes_fault}
use Rattle.bytereader.proofs.call.Goals as goal
use Rattle.bytereader.proofs.call.Goals.{Else-x-ne0}

-- neither 1 nor 2
fitting : (f : Else-x-ne0) →
    let g = f.args in
    Fit g.st g.line.now g.room.now f.ask-x.result
fitting f =
    let g = f.args in
    fit g.st g.line.now g.room.now f.ask-x.result f.ask-x.ensures f.if-x-ne0.false

free : (f : Else-x-ne0) →
    let g = f.args in
    false ≡ not (eqb (bytes_fault g.st (length g.line.now) (length g.room.now)) 0)
free f =
    let g = f.args in
    barred_not g.st g.line.now g.room.now f.ask-x.result f.ask-x.ensures f.if-x-ne0.false

pub returns-then-x-ne0 : goal.returns-then-x-ne0
returns-then-x-ne0 c =
    let g = c.args in (
      sliced_refused g.st g.line.now g.room.now c.ask-x.result c.ask-x.ensures (λ i. omega (arith, c.type_inv.room i)) c.if-x-ne0.true g.allowance,
      barred_is g.st g.line.now g.room.now c.ask-x.result c.ask-x.ensures c.if-x-ne0.true,
      λ e. refl,
    )

pub returns-then-allowance-eq0 : goal.returns-then-allowance-eq0
returns-then-allowance-eq0 c =
    let g = c.args in
    let line = words_of g.line.now in
    let room = words_of g.room.now in (
      sliced_back g.st g.line.now g.room.now g.allowance (fitting (goal.at.returns-then-allowance-eq0 c).Else-x-ne0).even _ g.room.now
          (back g.st g.line.now g.room.now (fitting (goal.at.returns-then-allowance-eq0 c).Else-x-ne0).even g.room.now refl (λ i. omega (arith, c.type_inv.room i)))
          (within_none capacity g.allowance g.st line room _ refl (fitting (goal.at.returns-then-allowance-eq0 c).Else-x-ne0).fault c.if-allowance-eq0.true),
      free (goal.at.returns-then-allowance-eq0 c).Else-x-ne0,
      λ e. absurd (true_false (sym e)),
    )

pub go_on-requires : goal.go_on-requires
go_on-requires c =
    let z = fitting (goal.at.go_on-requires c).Else-x-ne0 in (c.in-Some.is, z.fault, z.end, z.size)

pub returns-in-None : goal.returns-in-None
returns-in-None c =
    let g = c.args in
    let line = words_of g.line.now in
    let room = words_of g.room.now in (
      sliced_back g.st g.line.now g.room.now g.allowance (fitting (goal.at.returns-in-None c).Else-x-ne0).even _ g.room.now
          (back g.st g.line.now g.room.now (fitting (goal.at.returns-in-None c).Else-x-ne0).even g.room.now refl (λ i. omega (arith, c.type_inv.room i)))
          (ap (λ (t : Told). sliced (tells 0 t) room) (start_is g.st g.line.now g.room.now (fitting (goal.at.returns-in-None c).Else-x-ne0).fault)
          ∙ within_goes capacity g.allowance g.st line room _ refl _ (fitting (goal.at.returns-in-None c).Else-x-ne0).fault c.if-allowance-eq0.false c.in-None.is),
      free (goal.at.returns-in-None c).Else-x-ne0,
      λ e. absurd (true_false (sym e)),
    )

pub returns-in-Some : goal.returns-in-Some
returns-in-Some c =
    let g = c.args in
    let line = words_of g.line.now in
    let room = words_of g.room.now in
    let next = c.go_on.new.room in (
      sliced_back g.st g.line.now g.room.now g.allowance (fitting (goal.at.returns-in-Some c).Else-x-ne0).even _ next
          (back g.st g.line.now g.room.now (fitting (goal.at.returns-in-Some c).Else-x-ne0).even next c.go_on.auto.room (λ i. omega (arith, c.type_inv.room i)))
          (c.go_on.ensures ∙ within_goes capacity g.allowance g.st line room _ refl _ (fitting (goal.at.returns-in-Some c).Else-x-ne0).fault c.if-allowance-eq0.false c.in-Some.is),
      free (goal.at.returns-in-Some c).Else-x-ne0,
      λ e. absurd (true_false (sym e)),
    )
