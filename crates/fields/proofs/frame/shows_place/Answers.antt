-- `fields::frame::shows_place` meets its contract. Assumes nothing.
use mathlib.Core.Path.{◌≡◌, sym, ap, ap₂, ◌∙◌}
use mathlib.Core.Bool.{Bool, ◌&&◌}
use Prim.Native.Nat.{ℕ, ◌+◌, ◌≤◌, ◌<◌, ◌^◌}
use lib.Dec.{eqb}
use lib.ListN.{length, get_or}
use Rattle.lists.specs.Lists.{part, same}
use Rattle.lists.proofs.Lists.{length_part}
use Rattle.fields.specs.Fields.{bytes_for, number_from}
use Rattle.fields.proofs.NumberLaws.{same_number}
use borrow.Author.Rules.{rules}
use Rattle.fields.proofs.frame.shows_place.Goals as goal

pub returns : goal.returns
returns c =
    let g = c.args in
    let b = g.b.now in
    let x = c.number_from in
    let long : 8 + 8 ≤ length b = search rules in
    let less : c.place_of.result < 256 ^ 8 = search rules in
    let p = part 8 8 b in
    let back : bytes_for 8 (number_from p) ≡ p = ap₂ bytes_for (sym (length_part 8 8 b long)) (sym x.ensures.0) ∙ x.ensures.2 in
    ap₂ (λ (u v : Bool). u && v) (ap (eqb (get_or b 6 0)) c.place_byte.ensures)
    (ap (λ (n : ℕ). eqb n c.place_of.result) x.ensures.0 ∙ same_number 8 _ p back less ∙ ap (λ (n : ℕ). same p (bytes_for 8 n)) c.place_of.ensures)
