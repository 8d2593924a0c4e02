-- `sums::crc::crc_few` meets its contract. Assumes nothing.
use mathlib.Core.Path.{sym, ap, ◌∙◌, subst}
use Prim.Native.Nat.{ℕ, ◌^◌, ◌<◌}
use native.Mathlib.Omega.{arith}
use Rattle.words.specs.Shifts.{quiet}
use Rattle.words.proofs.Shifts.{few_fit, few_shifted, few_words}
use Rattle.sums.proofs.crc.crc_few.Goals as goal

pub overflow_sub-up : goal.overflow_sub-up
overflow_sub-up c = omega (arith, c.requires.1.1)

pub after_sixty-requires : goal.after_sixty-requires
after_sixty-requires c =
    let t = c.before.before in
    let p = t.requires in
    subst (λ (x : ℕ). x < 2 ^ 60) (sym (few_shifted t.args.c t.args.s.now p.0 p.1.0 p.1.1 _ c.beside.ensures)) (few_fit t.args.c t.args.s.now p.0 p.1.0 p.1.1)

pub returns : goal.returns
returns c =
    let t = c.before.before.before in
    let p = t.requires in
    c.after_sixty.ensures
    ∙ ap (quiet 60) (few_shifted t.args.c t.args.s.now p.0 p.1.0 p.1.1 _ c.beside.ensures)
    ∙ few_words t.args.c t.args.s.now p.0 p.1.0 p.1.1
