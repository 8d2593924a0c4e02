-- `bytevalues::packing::pack_valued` meets its contract: the words of the bytes stand in the front of the array, or others as good. Assumes nothing.
use mathlib.Core.Path.{sym, ap, ◌∙◌}
use mathlib.Core.List.{List}
use Prim.Native.Nat.{ℕ, ◌≤◌}
use native.Mathlib.Omega.{arith}
use lib.ListN.{length, length-replicate}
use lib.Seq.{length-take-le}
use Rattle.writer.specs.Packing.{packing}
use Rattle.octets.specs.Bytes.{words_of}
use Rattle.bytevalues.specs.Standing.{standing}
use Rattle.bytevalues.proofs.Beyond.{pack_standing}
use Rattle.bytevalues.proofs.packing.pack_valued.Goals as goal

pub slice_bounds-add_packet-end : goal.slice_bounds-add_packet-end
slice_bounds-add_packet-end c =
    let room : c.take_in-n.result ≤ length c.take_in-n.new.out = omega (arith, c.take_in-n.auto.out, c.take_in-n.ensures.0) in
    sym (length-take-le _ c.take_in-n.new.out room)

pub returns : goal.returns
returns c =
    let a = c.args in
    let ws = words_of a.values.now in
    c.add_packet.ensures.0
    ∙ ap (λ (vs : List ℕ). packing a.w a.line.now a.did a.second vs) (c.take_in-n.ensures.1 ∙ ap (λ (k : ℕ). standing 512 k ws) (length-replicate {A = ℕ} 256 0))
    ∙ pack_standing a.w a.line.now ws a.did a.second
