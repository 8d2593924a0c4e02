-- `lines::opening::put_line` meets its contract. Assumes nothing.
use mathlib.Core.Path.{ap, ap₂, ◌∙◌}
use mathlib.Core.List.{◌++◌}
use Prim.Native.Nat.{ℕ}
use native.Mathlib.Omega.{arith}
use lib.ListN.{replicate}
use borrow.Author.Rules.{rules}
use Rattle.line.specs.Layout.{gap_words}
use Rattle.lines.proofs.Frame.{whole_line}
use Rattle.lines.proofs.opening.put_line.Goals as goal

pub returns : goal.returns
returns c =
    let a = c.args in
    let row = c.system_of-s in
    let room = c.requires in
    let eav = c.copy_from_slice.ensures.after ∙ c.timing_words.ensures in
    let header = c.copy_from_slice-2.ensures.after ∙ c.header_words.ensures in
    let gap = c.put_gap.ensures ∙ ap (gap_words 57) c.split_at_mut-gap.ensures.front_len in
    let sav = c.copy_from_slice-3.ensures.after ∙ c.timing_words-2.ensures in
    let payload = c.fill.ensures.after (search rules) ∙ ap (λ (n : ℕ). replicate n 0x200) (omega (arith, c.split_at_mut-sav.ensures.back_len, c.split_at_mut-gap.ensures.back_len, c.split_at_mut-header.ensures.back_len, c.split_at_mut-eav.ensures.back_len)) in
    ap₂ ◌++◌ eav (ap₂ ◌++◌ header (ap₂ ◌++◌ gap (ap₂ ◌++◌ sav payload))) ∙ whole_line a.system a.f a.v a.n a.t row.result a.out.now row.ensures room.0 room.1
