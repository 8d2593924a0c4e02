-- `sums::crc::after_sixty` meets its contract. Assumes nothing.
use mathlib.Core.Path.{ap, ◌∙◌}
use Prim.Native.Nat.{ℕ, ◌%◌, ◌/◌, ◌^◌, ◌<◌}
use native.Mathlib.Nat.{mod-lt}
use native.Mathlib.Omega.{arith}
use lib.Dec.{lit<}
use lib.Pow.{shr_lt}
use lib.Bits.{bit_xor, xor_lt}
use Rattle.words.specs.Shifts.{fed}
use Rattle.words.proofs.Shifts.{sixty_is}
use borrow.Author.Rules.{rules}
use Rattle.sums.proofs.crc.after_sixty.Goals as goal

pub feed-once-requires : goal.feed-once-requires
feed-once-requires c = search rules

pub feed-twice-requires : goal.feed-twice-requires
feed-twice-requires c = search rules

pub feed-f-requires : goal.feed-f-requires
feed-f-requires c = search rules

pub overflow_cast-result : goal.overflow_cast-result
overflow_cast-result c =
    let f = c.feed-f.result % 2 ^ 60 in
    let small : f < 2 ^ 60 = mod-lt c.feed-f.result (lit< tt) in
    let a : f / 2 ^ 42 < 2 ^ 18 = shr_lt 18 42 small in
    let b : f / 2 ^ 46 < 2 ^ 18 = omega arith in
    let d : f / 2 ^ 47 < 2 ^ 18 = omega arith in
    record { fits = omega (arith, xor_lt 18 _ _ (xor_lt 18 _ _ a b) d) }

pub returns : goal.returns
returns c =
    let f = c.feed-f.ensures ∙ ap (fed 52 56 60) (c.feed-twice.ensures ∙ ap (fed 26 28 36) c.feed-once.ensures) in
    ap (λ (y : ℕ). bit_xor (bit_xor (y % 2 ^ 60 / 2 ^ 42) (y % 2 ^ 60 / 2 ^ 46)) (y % 2 ^ 60 / 2 ^ 47)) f
    ∙ sixty_is c.args.x c.requires
