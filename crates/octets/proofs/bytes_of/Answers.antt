use mathlib.Core.Path.{◌≡◌, ap, ap₂, ◌∙◌}
use mathlib.Core.List.{List}
use Prim.Native.Nat.{ℕ, ◌+◌, ◌*◌, ◌/◌, ◌%◌, ◌<◌, min}
use native.Mathlib.Omega.{arith}
use lib.ListN.{length, set, get_or, length-set}
use lib.Seq.{paste}
use Rattle.octets.specs.Bytes.{bytes_of}
use Rattle.octets.proofs.BytesLaws.{next_two}
use borrow.Author.Rules.{rules}
use Rattle.octets.proofs.bytes_of.Goals as goal

pub bounds-out-i-in-loop-i : goal.bounds-out-i-in-loop-i
bounds-out-i-in-loop-i c =
    let l = c.loop-i in
    let room : 2 * l.i + 1 < length l.out = omega arith in
    rw (length-set l.out (2 * l.i) c.low.result) room

pub loop-i-preserved : goal.loop-i-preserved
loop-i-preserved c =
    let l = c.loop-i in
    let a = c.args in
    let ws = a.words.now in
    let w = get_or ws l.i 0 in
    let inside : l.i < length ws = omega arith in
    let room : 2 * l.i + 1 < length a.out.now = omega arith in (
      search rules,
      ap₂ (λ (x y : ℕ). set (set l.out (2 * l.i) x) (2 * l.i + 1) y) c.low.ensures c.high.ensures
          ∙ ap (λ (t : List ℕ). set (set t (2 * l.i) (w % 256)) (2 * l.i + 1) (w / 256)) l.invariant.1
          ∙ next_two ws a.out.now l.i inside room,
    )

pub returns : goal.returns
returns c =
    let l = c.loop-i in
    let a = c.args in
    let all : 2 * l.i ≡ 2 * min (length a.words.now) (length a.out.now / 2) = omega arith in
    l.invariant.1 ∙ ap (paste a.out.now 0 (bytes_of a.words.now)) all
