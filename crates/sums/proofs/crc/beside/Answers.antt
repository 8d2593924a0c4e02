use mathlib.Core.Path.{◌≡◌, sym, ap, ap₂, ◌∙◌}
use Prim.Native.Nat.{ℕ, ◌+◌, ◌-◌, ◌*◌, ◌<◌, ◌≤◌}
use native.Mathlib.Omega.{arith}
use lib.ListN.{length, drop, drop_of_length-le}
use Rattle.words.specs.Shifts.{packed}
use Rattle.words.proofs.Shifts.{packed_next, packed_small}
use borrow.Author.Rules.{rules}
use Rattle.sums.proofs.crc.beside.Goals as goal

pub loop-i-init : goal.loop-i-init
loop-i-init c = sym (ap packed (drop_of_length-le c.args.s.now {i = length c.args.s.now} (omega arith)))

pub overflow_mul-z : goal.overflow_mul-z
overflow_mul-z c =
    let l = c.loop-i in
    let within : l.i ≤ length c.args.s.now = search rules in
    let more : 0 < l.i = search rules in
    omega (arith, l.invariant, packed_small c.args.s.now l.i c.requires more within)

pub overflow_add-z : goal.overflow_add-z
overflow_add-z c =
    let l = c.loop-i in
    let within : l.i ≤ length c.args.s.now = search rules in
    let more : 0 < l.i = search rules in
    omega (arith, l.invariant, c.ten.ensures.1, packed_small c.args.s.now l.i c.requires more within)

pub loop-i-preserved : goal.loop-i-preserved
loop-i-preserved c =
    let l = c.loop-i in
    let s = c.args.s.now in
    let more : 0 < l.i = search rules in
    let back : l.i - 1 + 1 ≡ l.i = omega (arith, more) in
    let inside : l.i - 1 < length s = search rules in
    ap₂ (λ (x y : ℕ). x * 1024 + y) (l.invariant ∙ ap (λ (k : ℕ). packed (drop k s)) (sym back)) c.ten.ensures.0 ∙ sym (packed_next s (l.i - 1) inside)

pub returns : goal.returns
returns c =
    let l = c.loop-i in
    let none : l.i ≡ 0 = search rules in
    l.invariant ∙ ap (λ (k : ℕ). packed (drop k c.args.s.now)) none
