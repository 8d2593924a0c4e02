use mathlib.Core.Path.{◌≡◌, sym, ap, ◌∙◌}
use Prim.Native.Nat.{ℕ, ◌+◌, ◌-◌, ◌*◌}
use native.Mathlib.Nat.{sub-zero}
use native.Mathlib.Omega.{arith}
use lib.Bits.{bit_xor}
use lib.ListN.{replicate}
use Rattle.words.specs.Crc.{crc_of}
use Rattle.words.proofs.CrcLaws.{crc_none, filler_turn}
use Rattle.sums.proofs.Folds.{far_fits, far_fillers}
use Rattle.sums.proofs.crc.filler_far.Goals as goal

pub loop-init : goal.loop-init
loop-init c = (c.requires, ap (λ (k : ℕ). crc_of c.args.c (replicate (k * 156) 0x200)) (sub-zero c.args.n))

pub after_sixty-x-requires : goal.after_sixty-x-requires
after_sixty-x-requires c =
    let l = c.loop in
    far_fits 35 12 3 l.x l.invariant.0 (omega arith) (omega arith) (omega arith)

pub loop-preserved : goal.loop-preserved
loop-preserved c =
    let l = c.loop in
    let t = c.loop-test.true in
    let all : 156 + (c.args.n - (l.counter + 1)) * 156 ≡ (c.args.n - l.counter) * 156 = omega arith in
    filler_turn _ l.x _ _ 156 _ 0x200 (ap (λ (y : ℕ). bit_xor y 0x314c3) c.after_sixty-x.ensures ∙ far_fillers l.x l.invariant.0) all l.invariant.1

pub returns : goal.returns
returns c =
    let l = c.loop in
    let t = c.loop-test.false in
    let none : (c.args.n - l.counter) * 156 ≡ 0 = omega arith in
    sym (ap (λ (k : ℕ). crc_of l.x (replicate k 0x200)) none ∙ crc_none l.x l.invariant.0) ∙ l.invariant.1
