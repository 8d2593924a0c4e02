-- `listing::put_row` meets its contract. Assumes nothing.
use mathlib.Core.Path.{◌≡◌, ap, ◌∙◌}
use mathlib.Core.List.{List, ◌++◌}
use Prim.Native.Nat.{ℕ}
use native.Mathlib.Omega.{arith}
use lib.ListN.{length, take}
use Rattle.rows.specs.Rows.{row_text}
use Rattle.listing.proofs.TextLaws.{laid, text_fits, text_of}
use borrow.Author.Rules.{rules}
use Rattle.listing.proofs.put_row.Goals as goal

pub returns : goal.returns
returns c =
    let r = c.row_of-row in
    let b = c.as_bytes-bytes in
    let before = c.args.text.now in
    let long : length r.result.bytes ≡ 48 = search rules in
    let is : b.result.now ≡ row_text c.args.event = b.ensures ∙ text_of _ _ r.ensures in
    let same : length b.result.now ≡ length (row_text c.args.event) = ap length is in (
      laid c.args.n before b.result.now _ _ (omega (arith, c.requires)) c.copy_from_slice.ensures.after ∙ ap (λ (x : List ℕ). take c.args.n before ++ x) is,
      omega (arith, same, text_fits _ _ r.ensures long),
    )
