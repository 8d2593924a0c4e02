-- `linecheck::area::payload_fault` meets its contract. Assumes nothing.
use mathlib.Core.Path.{◌≡◌, ap, ap₂, ◌∙◌}
use mathlib.Core.Bool.{Bool}
use mathlib.Core.List.{List}
use Prim.Native.Nat.{ℕ, ◌+◌, ◌-◌}
use native.Mathlib.Omega.{arith}
use lib.ListN.{length, take, drop, length-drop}
use lib.Seq.{take_all}
use Rattle.lists.specs.Tests.{lowest_of}
use Rattle.line.specs.Fixed.{is_variable}
use Rattle.line.specs.Layout.{area_of, end_of}
use Rattle.line.specs.Check.{area_faults, payload_faults}
use Rattle.linecheck.proofs.area.payload_fault.Goals as goal

pub returns : goal.returns
unfolding payload_faults area_of end_of
returns c =
    let a = c.args in
    let line = a.line.now in
    let start = a.s.length - a.s.payload in
    let n = c.area_length.result in
    let long : start + n - start ≡ n = omega arith in
    let rest : take (length line - (start + n)) (drop (start + n) line) ≡ drop (start + n) line =
    take_all (length line - (start + n)) (drop (start + n) line) (simp length-drop (omega arith)) in
    let e = c.area_length.ensures.0 in
    c.area_fault.ensures
    ∙ ap (λ (b : Bool). lowest_of (area_faults a.mode b a.flag (take (start + n - start) (drop start line)) (take (length line - (start + n)) (drop (start + n) line)))) c.is_variable.ensures
    ∙ ap₂ (λ (x y : List ℕ). lowest_of (area_faults a.mode (is_variable a.block) a.flag x y)) (ap (λ (k : ℕ). take k (drop start line)) (long ∙ e)) (rest ∙ ap (λ (k : ℕ). drop (start + k) line) e)
