-- `line::fixed::block_refused` meets its contract. Assumes nothing.
use mathlib.Core.Path.{◌≡◌, sym, ap, ap₂, ◌∙◌}
use mathlib.Core.Bool.{Bool, false, ◌&&◌, ◌||◌, not}
use Prim.Native.Nat.{ℕ, ◌*◌, ◌^◌, ◌<◌}
use native.Mathlib.Omega.{arith}
use lib.Dec.{eqb, leb}
use borrow.Author.Tests.{le-leb, lt-leb, eq-eqb, ne_eqb}
use Rattle.lists.specs.Tests.{pick}
use Rattle.line.specs.declared.fixed.Fixed.{Fixed}
use Rattle.line.specs.Fixed.{is_variable, places_of, size_of, fills_all, block_refused}
use Rattle.line.proofs.FixedLaws.{product_lt}
use Rattle.line.proofs.fixed.block_refused.Goals as goal
use Rattle.line.proofs.fixed.block_refused.Goals.{Else-block-ge128, After-from-places}

-- the rule as far as the first tests have decided it
past_two : (p block flag : ℕ) → is_variable block ≡ false → leb 128 block ≡ false → block_refused p block flag ≡ (eqb (places_of p block) 0 || (eqb flag 1 && fills_all p block))
unfolding block_refused
past_two p block flag v a = ap₂ (λ (v a : Bool). not v && (a || (eqb (places_of p block) 0 || (eqb flag 1 && fills_all p block)))) v a

past_three : (p block flag : ℕ) → is_variable block ≡ false → leb 128 block ≡ false → eqb (places_of p block) 0 ≡ false → block_refused p block flag ≡ (eqb flag 1 && fills_all p block)
past_three p block flag v a z = past_two p block flag v a ∙ ap (λ (z : Bool). z || (eqb flag 1 && fills_all p block)) z

-- what the tests before the places found
module _ (c : Else-block-ge128) where
  fixed : is_variable c.args.block ≡ false
  fixed = sym c.is_variable.ensures ∙ c.if-is_variable.false

  small : leb 128 c.args.block ≡ false
  small = lt-leb _ _ c.if-block-ge128.false

module _ (c : After-from-places) where
  places : c.from-places.result ≡ places_of c.args.payload c.args.block
  unfolding places_of
  places =
      c.from-places.ensures ∙ c.places_in.ensures ∙ ap (λ (x : Fixed). pick (eqb c.args.payload 1440) x.at270 x.at360) c.requires

pub returns-then-is_variable : goal.returns-then-is_variable
unfolding block_refused
returns-then-is_variable c =
    let g = c.args in
    sym (ap (λ (v : Bool). not v && (leb 128 g.block || (eqb (places_of g.payload g.block) 0 || (eqb g.flag 1 && fills_all g.payload g.block)))) (sym c.is_variable.ensures ∙ c.if-is_variable.true))

pub returns-then-block-ge128 : goal.returns-then-block-ge128
unfolding block_refused
returns-then-block-ge128 c =
    let g = c.args in
    sym
    (ap₂ (λ (v a : Bool). not v && (a || (eqb (places_of g.payload g.block) 0 || (eqb g.flag 1 && fills_all g.payload g.block)))) (sym c.is_variable.ensures ∙ c.if-is_variable.false)
    (le-leb _ _ c.if-block-ge128.true))

pub returns-then-places-eq0 : goal.returns-then-places-eq0
returns-then-places-eq0 c =
    let g = c.args in
    sym (past_two g.payload g.block g.flag (fixed (goal.at.returns-then-places-eq0 c).Else-block-ge128) (small (goal.at.returns-then-places-eq0 c).Else-block-ge128) ∙ ap (λ (z : Bool). z || (eqb g.flag 1 && fills_all g.payload g.block)) (eq-eqb _ _ (sym (places (goal.at.returns-then-places-eq0 c).After-from-places) ∙ c.if-places-eq0.true)))

pub returns-then-flag-ne1 : goal.returns-then-flag-ne1
returns-then-flag-ne1 c =
    let g = c.args in
    sym (past_three g.payload g.block g.flag (fixed (goal.at.returns-then-flag-ne1 c).Else-block-ge128) (small (goal.at.returns-then-flag-ne1 c).Else-block-ge128) (ne_eqb _ _ (λ e. c.if-places-eq0.false (places (goal.at.returns-then-flag-ne1 c).After-from-places ∙ e))) ∙ ap (λ (f : Bool). f && fills_all g.payload g.block) (ne_eqb _ _ c.if-flag-ne1.true))

pub overflow_mul-result : goal.overflow_mul-result
overflow_mul-result c =
    let n : c.from-places.result < 2 ^ 16 = omega (arith, c.from-places.ensures) in
    let m : c.from.result < 2 ^ 16 = omega (arith, c.from.ensures) in
    record { fits = omega (arith, product_lt n m) }

pub returns : goal.returns
unfolding fills_all size_of
returns c =
    let g = c.args in
    sym
    (past_three g.payload g.block g.flag (fixed (goal.at.returns c).Else-block-ge128) (small (goal.at.returns c).Else-block-ge128) (ne_eqb _ _ (λ e. c.if-places-eq0.false (places (goal.at.returns c).After-from-places ∙ e)))
    ∙ ap (λ (f : Bool). f && fills_all g.payload g.block) (eq-eqb _ _ c.if-flag-ne1.false)
    ∙ ap (λ (m : ℕ). eqb (places_of g.payload g.block * m) g.payload) (sym (c.from.ensures ∙ ap (λ (x : Fixed). x.size) c.requires))
    ∙ ap (λ (n : ℕ). eqb (n * c.from.result) g.payload) (sym (places (goal.at.returns c).After-from-places)))
