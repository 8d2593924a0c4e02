-- `fields::frame::last_in` meets its contract. Assumes nothing.
use Rattle.std.specs.Prelude.{Some}
use mathlib.Core.Path.{◌≡◌, refl, sym, ap, ◌∙◌}
use Prim.Native.Nat.{ℕ, zero, suc, ◌+◌, ◌*◌, ◌≤◌}
use native.Mathlib.Nat.{add-zero}
use lib.ListN.{length, get_or}
use Rattle.lists.specs.Lists.{part}
use Rattle.fields.specs.Fields.{number_from}
use Rattle.fields.proofs.NumberLaws.{number_two}
use Rattle.fields.specs.Frame.{last_by, last_in}
use borrow.Author.Rules.{rules}
use Rattle.fields.proofs.frame.last_in.Goals as goal

there : (n x : ℕ) → (n ≡ 0 → ⊥) → Some x ≡ last_by n x
there zero x h = absurd (h refl)
there (suc n) x h = refl

pub returns-then-b-eq0 : goal.returns-then-b-eq0
unfolding last_in
returns-then-b-eq0 c = sym (ap (λ (n : ℕ). last_by n (number_from (part 4 2 c.args.b.now))) c.if-b-eq0.true)

pub returns-else-b-eq0 : goal.returns-else-b-eq0
unfolding last_in number_from
returns-else-b-eq0 c =
    let b = c.args.b.now in
    let long : 4 + 2 ≤ length b = search rules in
    ap Some (c.from_le_bytes.ensures ∙ sym (number_two 4 b long)) ∙ there (get_or b 3 0) (number_from (part 4 2 b)) c.if-b-eq0.false
