-- `hostreads::making::make_reader` meets its contract: the bytes lent are as long as an image, which is put there. Assumes nothing.
use mathlib.Core.Path.{sym, ap, ◌∙◌}
use mathlib.Core.List.{List}
use Prim.Native.Nat.{ℕ}
use borrow.Author.Tests.{eq-eqb, ne_eqb}
use Rattle.lists.proofs.Tests.{pick_true, pick_false}
use Rattle.images.specs.ReaderImage.{image_of}
use Rattle.calls.specs.Making.{made, makes_reader}
use Rattle.calls.proofs.CallLaws.{filled}
use Rattle.hostreads.proofs.making.make_reader.Goals as goal

pub returns-then-state-ne80 : goal.returns-then-state-ne80
unfolding makes_reader
returns-then-state-ne80 c =
    sym (pick_false _ _ (ne_eqb _ _ c.if-state-ne80.true))

pub returns : goal.returns
unfolding makes_reader
returns c =
    let long = c.if-state-ne80.false in
    ap (λ (s : List ℕ). made 0 s) (filled 80 c.args.state.now _ _ long c.put_image.ensures ∙ ap image_of c.fresh_reader.ensures) ∙ sym (pick_true _ _ (eq-eqb _ _ long))
