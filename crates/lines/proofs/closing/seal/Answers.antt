-- `lines::closing::seal` meets its contract. Assumes nothing.
use mathlib.Core.Path.{◌≡◌, sym, ap, ap₂, ◌∙◌}
use mathlib.Core.List.{[], ◌++◌}
use Prim.Native.Nat.{ℕ, ◌+◌, ◌-◌}
use native.Mathlib.Omega.{arith}
use lib.ListN.{take, replicate}
use borrow.Author.Tests.{eq-eqb}
use Rattle.lists.proofs.Tests.{pick_true}
use Rattle.line.specs.Layout.{area_length, payload_at}
use Rattle.words.specs.Crc.{crc_of, register_words}
use Rattle.writer.specs.Closing.{sealed}
use Rattle.writer.proofs.Calls.{seal_none}
use Rattle.lines.proofs.closing.seal.Goals as goal

pub returns-then-flag-eq1 : goal.returns-then-flag-eq1
unfolding sealed area_length
returns-then-flag-eq1 c =
    let a = c.args in
    let s = a.s in
    let p = c.requires in
    let e : s.length - 2 ≡ payload_at s + (s.payload - 2) = omega (arith, p.0, p.1) in
    let one = eq-eqb a.flag 1 c.if-flag-eq1.true in
    let short = pick_true (s.payload - 2) s.payload one in
    let left = c.saturating_sub-left.ensures ∙ ap (λ (x : ℕ). x - a.place) (sym short) in
    ap₂ ◌++◌ (c.split_at_mut-last.ensures.front ∙ ap (λ (x : ℕ). take x a.line.now) (e ∙ ap (λ (x : ℕ). payload_at s + x) (sym short)))
    (c.copy_from_slice.ensures.after ∙ c.crc_words.ensures
    ∙ ap register_words (c.crc_filler.ensures ∙ ap (λ (x : ℕ). crc_of a.c (replicate x 0x200)) left)
    ∙ sym (pick_true _ [] one))

pub returns-else-flag-eq1 : goal.returns-else-flag-eq1
returns-else-flag-eq1 c =
    let a = c.args in
    let p = c.requires in
    seal_none a.s a.flag a.place a.c a.line.now c.if-flag-eq1.false p.0 p.2
