-- `bytevalues::batch::add_listed` meets its contract: a short list's words stand in the front of the array; of a longer one each entry is laid. Assumes nothing.
use mathlib.Core.Path.{◌≡◌, refl, sym, ap, ◌∙◌}
use mathlib.Core.Bool.{true}
use mathlib.Core.List.{List}
use Prim.Native.Nat.{ℕ, ◌/◌, ◌≤◌}
use native.Mathlib.Omega.{arith}
use lib.ListN.{length, replicate}
use lib.Seq.{length-take-le}
use Rattle.line.specs.Check.{fits_length}
use Rattle.writer.specs.Batch.{batching}
use Rattle.octets.specs.Bytes.{words_of}
use Rattle.octets.proofs.PartLaws.{converted}
use Rattle.bytevalues.proofs.Batches.{ended_is}
use Rattle.bytevalues.proofs.Batches.{batch_1, batch_2, batch_all}
use Rattle.bytevalues.proofs.batch.add_listed.Goals as goal
use Rattle.bytevalues.proofs.batch.add_listed.Goals.{Else-not-is_fit}

-- 1 does not hold
fits : (c : Else-not-is_fit) →
    let a = c.args in
    fits_length a.w.system a.w.mode (length a.line.now) ≡ true
fits c = sym c.is_fit.ensures ∙ c.if-not-is_fit.false

pub slice_bounds-add_blocks-end : goal.slice_bounds-add_blocks-end
slice_bounds-add_blocks-end c =
    let a = c.args in
    let room : length a.blocks.now / 2 ≤ length c.words_of.new.out = omega (arith, c.words_of.auto.out, c.if-blocks-le6145.true) in
    sym (length-take-le _ c.words_of.new.out room)

pub returns-then-blocks-le6145 : goal.returns-then-blocks-le6145
returns-then-blocks-le6145 c =
    let a = c.args in
    c.add_blocks.ensures.0
    ∙ ap (λ (vs : List ℕ). batching a.w a.line.now vs) (converted a.blocks.now (replicate 3072 0) _ _ c.words_of.ensures refl (omega (arith, c.if-blocks-le6145.true)))

pub returns-then-not-is_fit : goal.returns-then-not-is_fit
returns-then-not-is_fit c =
    let a = c.args in
    ended_is c.ended.ensures (sym (batch_1 a.w a.line.now (sym c.is_fit.ensures ∙ c.if-not-is_fit.true) (words_of a.blocks.now)))

pub returns-then-is_impossible : goal.returns-then-is_impossible
returns-then-is_impossible c =
    let a = c.args in
    ended_is c.ended-then-is_impossible.ensures (batch_2 a.w a.line.now (words_of a.blocks.now) (fits (goal.at.returns-then-is_impossible c).Else-not-is_fit) (sym c.is_impossible.ensures ∙ c.if-is_impossible.true))

pub returns : goal.returns
returns c =
    let a = c.args in
    c.lay_each.ensures ∙ sym (batch_all a.w a.line.now (words_of a.blocks.now) (fits (goal.at.returns c).Else-not-is_fit) (sym c.is_impossible.ensures ∙ c.if-is_impossible.false))
