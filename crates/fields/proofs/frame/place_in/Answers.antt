-- `fields::frame::place_in` meets its contract. Assumes nothing.
use Rattle.std.specs.Prelude.{Some}
use mathlib.Core.Path.{◌≡◌, refl, sym, ap, ◌∙◌}
use Prim.Native.Nat.{ℕ, zero, suc}
use lib.ListN.{get_or}
use Rattle.lists.specs.Lists.{part}
use Rattle.fields.specs.Fields.{number_from}
use Rattle.fields.specs.Frame.{place_by, place_in}
use Rattle.fields.proofs.frame.place_in.Goals as goal

there : (n x : ℕ) → (n ≡ 0 → ⊥) → Some x ≡ place_by n x
there zero x h = absurd (h refl)
there (suc n) x h = refl

pub returns-then-b-eq0 : goal.returns-then-b-eq0
unfolding place_in
returns-then-b-eq0 c = sym (ap (λ (n : ℕ). place_by n (number_from (part 8 8 c.args.b.now))) c.if-b-eq0.true)

pub returns-else-b-eq0 : goal.returns-else-b-eq0
unfolding place_in
returns-else-b-eq0 c =
    let b = c.args.b.now in
    ap Some c.number_from.ensures.0 ∙ there (get_or b 6 0) (number_from (part 8 8 b)) c.if-b-eq0.false
