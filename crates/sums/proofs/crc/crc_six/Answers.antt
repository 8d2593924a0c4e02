-- `sums::crc::crc_six` meets its contract. Assumes nothing.
use mathlib.Core.Path.{◌∙◌}
use native.Mathlib.Omega.{arith}
use Prim.Native.Nat.{◌^◌, ◌+◌, ◌*◌, ◌<◌}
use lib.Bits.{xor_lt}
use Rattle.words.proofs.Shifts.{six_words}
use Rattle.sums.proofs.crc.crc_six.Goals as goal

pub after_sixty-requires : goal.after_sixty-requires
after_sixty-requires c =
    let t5 = c.ten in
    let t4 = c.ten-2 in
    let t3 = c.ten-3 in
    let t2 = c.ten-4 in
    let t1 = c.ten-5 in
    let t0 = c.ten-6 in
    let small : ((t5.result * 1024 + t4.result) * 1024 + t3.result) * 1073741824 + ((t2.result * 1024 + t1.result) * 1024 + t0.result) < 2 ^ 60 =
    omega (arith, t5.ensures.1, t4.ensures.1, t3.ensures.1, t2.ensures.1, t1.ensures.1, t0.ensures.1) in
    let register : c.args.c < 2 ^ 60 = omega arith in
    xor_lt 60 _ _ register small

pub returns : goal.returns
returns c =
    let a = c.args in
    c.after_sixty.ensures
    ∙ six_words a.c a.s.now c.requires.0 c.requires.1 _ _ _ _ _ _
    c.ten-6.ensures.0 c.ten-5.ensures.0 c.ten-4.ensures.0 c.ten-3.ensures.0 c.ten-2.ensures.0 c.ten.ensures.0
