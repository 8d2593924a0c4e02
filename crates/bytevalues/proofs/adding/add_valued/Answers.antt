-- `bytevalues::adding::add_valued` meets its contract: the words of the bytes stand in the front of the array, or others as good. Assumes nothing.
use mathlib.Core.Path.{◌≡◌, sym, ap, ◌∙◌}
use mathlib.Core.List.{List}
use Prim.Native.Nat.{ℕ, ◌≤◌}
use native.Mathlib.Omega.{arith}
use lib.ListN.{length, replicate, length-replicate}
use lib.Seq.{length-take-le}
use Rattle.writer.specs.Adding.{adding}
use Rattle.octets.specs.Bytes.{words_of}
use Rattle.octets.proofs.BytesLaws.{length_words}
use Rattle.bytevalues.specs.Standing.{standing}
use Rattle.bytevalues.proofs.Beyond.{few_standing, add_standing}
use Rattle.bytevalues.proofs.adding.add_valued.Goals as goal

pub slice_bounds-add_block-end : goal.slice_bounds-add_block-end
slice_bounds-add_block-end c =
    let room : c.take_in-n.result ≤ length c.take_in-n.new.out = omega (arith, c.take_in-n.auto.out, c.take_in-n.ensures.0) in
    sym (length-take-le _ c.take_in-n.new.out room)

pub returns-then-values-le1025 : goal.returns-then-values-le1025
returns-then-values-le1025 c =
    let a = c.args in
    let limit = c.values_of-limit.result in
    let ws = words_of a.values.now in
    let few : standing limit 512 ws ≡ ws = few_standing limit 512 ws (omega (arith, c.if-values-le1025.true, length_words a.values.now)) in
    c.add_block.ensures.0
    ∙ ap (λ (vs : List ℕ). adding a.w a.line.now a.kind vs)
    (c.take_in-n.ensures.1 ∙ ap (λ (k : ℕ). standing limit k ws) (length-replicate {A = ℕ} 512 0) ∙ few)

pub take_in-n-requires-2 : goal.take_in-n-requires-2
take_in-n-requires-2 c =
    let long = length-replicate {A = ℕ} 16385 0 in
    (ap (λ (k : ℕ). replicate k 0) (sym long), omega (arith, long))

pub slice_bounds-add_block-end-2 : goal.slice_bounds-add_block-end-2
slice_bounds-add_block-end-2 c =
    let room : c.take_in-n-2.result ≤ length c.take_in-n-2.new.out = omega (arith, c.take_in-n-2.auto.out, c.take_in-n-2.ensures.0) in
    sym (length-take-le _ c.take_in-n-2.new.out room)

pub returns : goal.returns
returns c =
    let a = c.args in
    let limit = c.values_of-limit.result in
    let ws = words_of a.values.now in
    c.add_block-2.ensures.0
    ∙ ap (λ (vs : List ℕ). adding a.w a.line.now a.kind vs) (c.take_in-n-2.ensures.1 ∙ ap (λ (k : ℕ). standing limit k ws) (length-replicate {A = ℕ} 16385 0))
    ∙ add_standing a.w a.line.now ws a.kind limit c.values_of-limit.ensures
