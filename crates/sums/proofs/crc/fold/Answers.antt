-- `sums::crc::fold` meets its contract. Assumes nothing.
use mathlib.Core.Path.{sym}
use Prim.Native.Nat.{◌-◌}
use native.Mathlib.Omega.{arith}
use lib.ListN.{length}
use lib.Seq.{length-take-le}
use Rattle.sums.proofs.Gather.{folded}
use Rattle.sums.proofs.crc.fold.Goals as goal

pub slice_bounds-gather-end : goal.slice_bounds-gather-end
slice_bounds-gather-end c =
    let start = c in
    let s = start.args.s.now in
    sym (length-take-le (length s - start.args.z) s (omega arith))

pub gather-requires : goal.gather-requires
gather-requires c =
    let start = c in
    let s = start.args.s.now in
    let p = start.requires in
    let n = length-take-le (length s - start.args.z) s (omega arith) in
    (p.0, omega (arith, n, p.1.1.0))

pub returns : goal.returns
returns c =
    let start = c in
    let p = start.requires in
    folded p.0 start.args.s.now start.args.f.now _ p.1.0 p.1.1.0 p.1.1.1.1
    c.gather.ensures _ c.mix.ensures
