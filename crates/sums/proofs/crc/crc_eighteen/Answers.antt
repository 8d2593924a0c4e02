-- `sums::crc::crc_eighteen` meets its contract. Assumes nothing.
use mathlib.Core.Path.{sym, subst}
use Prim.Native.Nat.{ℕ, ◌^◌, ◌<◌}
use native.Mathlib.Omega.{arith}
use Rattle.words.proofs.CrcLaws.{crc_lt}
use Rattle.sums.proofs.Folds.{far_fits, eighteen}
use borrow.Author.Rules.{rules}
use Rattle.sums.proofs.crc.crc_eighteen.Goals as goal

pub crc_six-b-requires : goal.crc_six-b-requires
crc_six-b-requires c = (subst (λ (x : ℕ). x < 2 ^ 18) (sym c.crc_six-a.ensures) (crc_lt _ _), search rules)

pub crc_six-own-requires : goal.crc_six-own-requires
crc_six-own-requires c = (subst (λ (x : ℕ). x < 2 ^ 18) (sym c.crc_six-b.ensures) (crc_lt _ _), search rules)

pub after_sixty-requires : goal.after_sixty-requires
after_sixty-requires c =
    let start = c.before.before.before.before.before.before.before in
    far_fits 23 18 12 start.args.c start.requires.0 (omega arith) (omega arith) (omega arith)

pub returns : goal.returns
returns c =
    let start = c.before.before.before.before.before.before.before.before in
    eighteen start.args.c _ _ _ _ start.args.s.now start.requires.0 start.requires.1
    c.crc_six-a.ensures c.crc_six-b.ensures c.crc_six-own.ensures c.after_sixty.ensures
