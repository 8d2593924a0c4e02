use mathlib.Core.Path.{◌≡◌, sym, ap, ◌∙◌}
use mathlib.Core.List.{[], ◌∷◌}
use Prim.Native.Nat.{◌/◌, ◌%◌}
use native.Mathlib.Omega.{arith}
use Rattle.rows.specs.declared.Row.{Row}
use Rattle.rows.specs.Text.{digit, decimal}
use Rattle.rows.specs.Cuts.{put, added}
use Rattle.rows.proofs.TextLaws.{decimal_one, decimal_more, added_append}
use Rattle.rows.proofs.Row.+add_decimal.Goals.{then-n-ge10, else-n-ge10}
use Rattle.rows.proofs.Row.+add_decimal.Goals as goal

pub returns : goal.returns
returns t c =
    let row = c.args.self.now in
    let n = c.args.n in
    let last = digit (n % 10) in
    c.add_byte.ensures
    ∙ elim c.if-n-ge10.branch [
      | then-n-ge10 w ↦
          ap (λ (r : Row). put r last) (w.self-is ∙ w.add_decimal.ensures)
          ∙ sym (ap (added row) (decimal_more n w.if-n-ge10.true (omega arith)) ∙ added_append row (decimal (n / 10)) (last ∷ []))
      | else-n-ge10 w ↦
          let same : n % 10 ≡ n = omega (arith, w.if-n-ge10.false) in
          ap (λ (r : Row). put r last) w.self-is
          ∙ ap (λ d. put row (digit d)) same
          ∙ sym (ap (added row) (decimal_one n w.if-n-ge10.false))
    ]
