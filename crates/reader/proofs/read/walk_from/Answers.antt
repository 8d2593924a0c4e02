-- `reader::read::walk_from` meets its contract. Assumes nothing.
use mathlib.Core.Path.{◌≡◌, sym, ap, ap₂, ◌∙◌}
use mathlib.Core.Bool.{false}
use mathlib.Core.List.{List}
use Prim.Native.Nat.{ℕ, ◌-◌}
use native.Mathlib.Omega.{arith}
use lib.ListN.{length}
use Rattle.lists.proofs.Tests.{pick_true, pick_false}
use Rattle.line.specs.Fixed.{is_variable}
use Rattle.machine.specs.Walk.{walk_of}
use Rattle.machine.specs.Places.{walk_fixed}
use Rattle.reader.specs.Within.{walk_to}
use Rattle.reader.proofs.Ready.{ReadyIn, ready}
use Rattle.reader.proofs.ReadLaws.{payload_in, Span, span}
use Rattle.reader.proofs.read.walk_from.Goals as goal
use Rattle.reader.proofs.read.walk_from.Goals.{After-system_of-s, Else-is_variable}

-- neither 1 nor 2
is-ready : (x : After-system_of-s) → let g = x.args in ReadyIn (length g.room.now) g.st g.line.now g.room.now
is-ready x = let g = x.args in ready (length g.room.now) g.st g.line.now g.room.now x.requires.1

-- the part that is lent
spanned : (x : After-system_of-s) →
    let g = x.args in
    let s = x.system_of-s.result in
    Span g.st g.q g.line.now g.room.now x.requires.0 (is-ready x) s x.system_of-s.ensures (s.length - s.payload) g.end
spanned x =
    span _ _ _ _ _ (is-ready x) x.system_of-s.result x.system_of-s.ensures x.args.end x.requires.2 x.requires.3

fixed-line : (b : Else-is_variable) →
    let g = b.args in
    is_variable g.st.settings.block ≡ false
fixed-line b = sym b.is_variable.ensures ∙ b.if-is_variable.false

pub overflow_sub-a : goal.overflow_sub-a
overflow_sub-a c = payload_in _ _ _ _ c.requires.0 (is-ready (goal.at.overflow_sub-a c).After-system_of-s) _ c.system_of-s.ensures

pub overflow_add-e : goal.overflow_add-e
overflow_add-e c = let z = spanned (goal.at.overflow_add-e c).After-system_of-s in omega (arith, z.ends, z.small)

pub overflow_add-i : goal.overflow_add-i
overflow_add-i c = let z = spanned (goal.at.overflow_add-i c).After-system_of-s in omega (arith, z.ends, z.small, z.inside)

pub offset_bounds-line-i : goal.offset_bounds-line-i
offset_bounds-line-i c = let z = spanned (goal.at.offset_bounds-line-i c).After-system_of-s in omega (arith, z.ends, z.small, z.inside)

pub slice_bounds-walk-count : goal.slice_bounds-walk-count
slice_bounds-walk-count c = let z = spanned (goal.at.slice_bounds-walk-count c).After-system_of-s in omega (arith, z.inside)

pub slice_bounds-walk-start : goal.slice_bounds-walk-start
slice_bounds-walk-start c = let z = spanned (goal.at.slice_bounds-walk-start c).After-system_of-s in omega (arith, z.inside)

pub slice_bounds-walk-end : goal.slice_bounds-walk-end
slice_bounds-walk-end c = (spanned (goal.at.slice_bounds-walk-end c).After-system_of-s).ends

pub returns-then-is_variable : goal.returns-then-is_variable
unfolding walk_to
returns-then-is_variable c =
    let g = c.args in
    c.walk.ensures.0
    ∙ ap (λ (ws : List ℕ). walk_of g.st.mode g.st.phase ws g.room.now) (spanned (goal.at.returns-then-is_variable c).After-system_of-s).words
    ∙ sym (pick_true _ _ (sym c.is_variable.ensures ∙ c.if-is_variable.true))

pub offset_bounds-line-i-2 : goal.offset_bounds-line-i-2
offset_bounds-line-i-2 c = let z = spanned (goal.at.offset_bounds-line-i-2 c).After-system_of-s in omega (arith, z.ends, z.small, z.inside)

pub slice_bounds-walk_fixed-count : goal.slice_bounds-walk_fixed-count
slice_bounds-walk_fixed-count c = let z = spanned (goal.at.slice_bounds-walk_fixed-count c).After-system_of-s in omega (arith, z.inside)

pub slice_bounds-walk_fixed-start : goal.slice_bounds-walk_fixed-start
slice_bounds-walk_fixed-start c = let z = spanned (goal.at.slice_bounds-walk_fixed-start c).After-system_of-s in omega (arith, z.inside)

pub slice_bounds-walk_fixed-end : goal.slice_bounds-walk_fixed-end
slice_bounds-walk_fixed-end c = (spanned (goal.at.slice_bounds-walk_fixed-end c).After-system_of-s).ends

pub returns : goal.returns
unfolding walk_to
returns c =
    let g = c.args in
    let walks : ℕ → List ℕ → _ = λ size ws. walk_fixed g.st.mode g.st.phase size ws g.room.now in
    c.walk_fixed.ensures.0
    ∙ ap₂ walks (c.from.ensures ∙ c.requires.4) (spanned (goal.at.returns c).After-system_of-s).words
    ∙ sym (pick_false _ _ (fixed-line (goal.at.returns c).Else-is_variable))
