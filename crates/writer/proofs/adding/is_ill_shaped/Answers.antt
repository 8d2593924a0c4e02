-- `writer::adding::is_ill_shaped` meets its contract. Assumes nothing.
use mathlib.Core.Path.{sym, ap, ap₂, ◌∙◌}
use Prim.Native.Nat.{ℕ, ◌+◌}
use mathlib.Core.Bool.{Bool, ◌&&◌, ◌||◌, not}
use lib.Dec.{eqb, ltb}
use borrow.Author.Tests.{lt-ltb, le-ltb}
use Rattle.line.specs.Fixed.{is_variable, size_of}
use Rattle.course.specs.Course.{is_at}
use Rattle.writer.specs.Adding.{ill_shaped}
use Rattle.writer.proofs.adding.is_ill_shaped.Goals as goal

pub returns-then-n-gt16384 : goal.returns-then-n-gt16384
unfolding ill_shaped
returns-then-n-gt16384 c =
    let a = c.args in
    let fixed = is_at a.place && not (is_variable a.block) in
    sym (ap (λ (b : Bool). b || (ltb 255 a.kind || (fixed && (not (eqb (a.n + 1) (size_of a.block)) || eqb a.kind 0)))) (lt-ltb 16384 a.n c.if-n-gt16384.true))

pub returns : goal.returns
unfolding ill_shaped
returns c =
    let a = c.args in
    let fixed = is_at a.place && not (is_variable a.block) in
    ap₂ (λ (f : Bool) (s : ℕ). ltb 255 a.kind || (f && (not (eqb (a.n + 1) s) || eqb a.kind 0)))
    (ap₂ (λ (x y : Bool). x && not y) c.is_at.ensures c.is_variable.ensures) (c.from.ensures ∙ c.requires)
    ∙ sym (ap (λ (b : Bool). b || (ltb 255 a.kind || (fixed && (not (eqb (a.n + 1) (size_of a.block)) || eqb a.kind 0)))) (le-ltb 16384 a.n c.if-n-gt16384.false))
