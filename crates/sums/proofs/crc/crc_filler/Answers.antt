use mathlib.Core.Path.{◌≡◌, sym, ap, ◌∙◌}
use Prim.Native.Nat.{◌+◌, ◌-◌, ◌%◌, ◌^◌, ◌<◌}
use native.Mathlib.Nat.{mod-lt, div-add-mod'}
use native.Mathlib.Omega.{arith}
use lib.Dec.{lit<}
use lib.Bits.{xor_lt}
use lib.ListN.{replicate}
use lib.Seq.{length-take-le}
use Rattle.lists.proofs.Lists.{take_filler}
use Rattle.words.specs.Crc.{crc_of}
use Rattle.words.proofs.CrcLaws.{crc_register, filler_turn}
use Rattle.words.proofs.Shifts.{six_fillers}
use Rattle.sums.proofs.crc.crc_filler.Goals as goal

pub loop-left-init : goal.loop-left-init
loop-left-init c =
    let a = c.args in
    filler_turn _ (a.c % 262144) _ _ _ _ 0x200 c.filler_far-x.ensures (div-add-mod' a.n 156) (crc_register a.c (replicate a.n 0x200))

pub after_sixty-x-requires : goal.after_sixty-x-requires
after_sixty-x-requires c =
    let r : c.loop-left.x < 2 ^ 60 = let l = c.loop-left.invariant.0 in omega arith in
    xor_lt 60 _ _ r (lit< tt)

pub loop-left-preserved : goal.loop-left-preserved
loop-left-preserved c =
    let l = c.loop-left in
    let t = c.loop-left-test.true in
    let all : 6 + (l.left - 6) ≡ l.left = omega arith in
    filler_turn _ l.x _ _ 6 _ 0x200 (c.after_sixty-x.ensures ∙ six_fillers l.x l.invariant.0) all l.invariant.1

pub slice_bounds-crc_each-end : goal.slice_bounds-crc_each-end
slice_bounds-crc_each-end c =
    let t = c.loop-left-test.false in
    sym (length-take-le c.loop-left.left (replicate 5 0x200) (omega arith))

pub returns : goal.returns
returns c =
    let l = c.loop-left in
    let t = c.loop-left-test.false in
    c.crc_each.ensures ∙ ap (crc_of l.x) (take_filler l.left 5 0x200 (omega arith)) ∙ l.invariant.1

pub filler_far-x-requires : goal.filler_far-x-requires
filler_far-x-requires c = mod-lt _ (lit< tt)
