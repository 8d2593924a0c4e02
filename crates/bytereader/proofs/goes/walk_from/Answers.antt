-- `bytereader::goes::walk_from` meets its contract: the bytes that are lent spell the words that the reader lends. Assumes nothing.
use mathlib.Core.Path.{◌≡◌, sym, ap, ap₂, ◌∙◌}
use mathlib.Core.Bool.{false}
use mathlib.Core.List.{List}
use Prim.Native.Nat.{ℕ, ◌+◌, ◌-◌, ◌*◌, ◌≤◌}
use native.Mathlib.Omega.{arith}
use lib.ListN.{length, take, drop}
use Rattle.lists.proofs.Tests.{pick_true, pick_false}
use Rattle.octets.specs.Bytes.{words_of}
use Rattle.octets.proofs.BytesLaws.{length_words, words_part}
use Rattle.line.specs.Fixed.{is_variable}
use Rattle.machine.specs.Walk.{walk_of}
use Rattle.machine.specs.Places.{walk_fixed}
use Rattle.reader.specs.State.{capacity}
use Rattle.reader.specs.Reading.{words_from}
use Rattle.reader.specs.Within.{walk_to}
use Rattle.reader.proofs.Ready.{ReadyIn, ready}
use Rattle.reader.proofs.ReadLaws.{payload_in, Span, span}
use borrow.Author.Rules.{rules}
use Rattle.bytereader.proofs.goes.walk_from.Goals as goal
use Rattle.bytereader.proofs.goes.walk_from.Goals.{Start, After-system_of-s, Else-is_variable}

-- neither 1 nor 2
is-ready : (s : Start) → ReadyIn capacity s.args.st (words_of s.args.line.now) (words_of s.args.room.now)
is-ready s = ready capacity s.args.st (words_of s.args.line.now) (words_of s.args.room.now) s.requires.1

-- the part that is lent
spanned : (x : After-system_of-s) → (by_is_ready : ReadyIn capacity x.args.st (words_of x.args.line.now) (words_of x.args.room.now))
    → let g = x.args in
    let s = x.system_of-s.result in
    Span g.st g.q (words_of g.line.now) (words_of g.room.now) x.requires.0 (by_is_ready) s x.system_of-s.ensures (s.length - s.payload) g.end
spanned x by_is_ready =
    span _ _ _ _ _ (by_is_ready) x.system_of-s.result x.system_of-s.ensures x.args.end x.requires.2 x.requires.3

-- its bytes are there
ends : (x : After-system_of-s) → (by_is_ready : ReadyIn capacity x.args.st (words_of x.args.line.now) (words_of x.args.room.now))
    → let s = x.system_of-s.result in
    2 * (s.length - s.payload + x.args.end) ≤ length x.args.line.now
ends x by_is_ready = omega (arith, (spanned x by_is_ready).ends, length_words x.args.line.now)

lent : (x : After-system_of-s) → (by_is_ready : ReadyIn capacity x.args.st (words_of x.args.line.now) (words_of x.args.room.now))
    → let g = x.args in
    let a = x.system_of-s.result.length - x.system_of-s.result.payload in
    words_of (take (2 * (a + g.end) - 2 * (a + g.q)) (drop (2 * (a + g.q)) g.line.now)) ≡ take (g.end - g.q) (words_from g.st g.q (words_of g.line.now))
lent x by_is_ready =
    let g = x.args in
    let a = x.system_of-s.result.length - x.system_of-s.result.payload in
    words_part (a + g.q) (a + g.end) g.line.now ∙ (spanned x by_is_ready).words

fixed-line : (b : Else-is_variable) →
    let g = b.args in
    is_variable g.st.settings.block ≡ false
fixed-line b = sym b.is_variable.ensures ∙ b.if-is_variable.false

pub overflow_sub-a : goal.overflow_sub-a
overflow_sub-a c = payload_in _ _ _ _ c.requires.0 (is-ready (goal.at.overflow_sub-a c).Start) _ c.system_of-s.ensures

pub overflow_add-e : goal.overflow_add-e
overflow_add-e c = let z = ends (goal.at.overflow_add-e c).After-system_of-s (is-ready (goal.at.overflow_add-e c).Start) in search rules

pub overflow_mul-e : goal.overflow_mul-e
overflow_mul-e c = let z = ends (goal.at.overflow_mul-e c).After-system_of-s (is-ready (goal.at.overflow_mul-e c).Start) in search rules

pub overflow_add-i : goal.overflow_add-i
overflow_add-i c =
    let z = ends (goal.at.overflow_add-i c).After-system_of-s (is-ready (goal.at.overflow_add-i c).Start) in
    let y = (spanned (goal.at.overflow_add-i c).After-system_of-s (is-ready (goal.at.overflow_add-i c).Start)).inside in
    search rules

pub overflow_mul-i : goal.overflow_mul-i
overflow_mul-i c =
    let z = ends (goal.at.overflow_mul-i c).After-system_of-s (is-ready (goal.at.overflow_mul-i c).Start) in
    let y = (spanned (goal.at.overflow_mul-i c).After-system_of-s (is-ready (goal.at.overflow_mul-i c).Start)).inside in
    search rules

pub slice_bounds-walk-count : goal.slice_bounds-walk-count
slice_bounds-walk-count c = let z = spanned (goal.at.slice_bounds-walk-count c).After-system_of-s (is-ready (goal.at.slice_bounds-walk-count c).Start) in omega (arith, z.inside)

pub slice_bounds-walk-start : goal.slice_bounds-walk-start
slice_bounds-walk-start c = let z = spanned (goal.at.slice_bounds-walk-start c).After-system_of-s (is-ready (goal.at.slice_bounds-walk-start c).Start) in omega (arith, z.inside)

pub slice_bounds-walk-end : goal.slice_bounds-walk-end
slice_bounds-walk-end c = ends (goal.at.slice_bounds-walk-end c).After-system_of-s (is-ready (goal.at.slice_bounds-walk-end c).Start)

pub returns-then-is_variable : goal.returns-then-is_variable
unfolding walk_to
returns-then-is_variable c =
    let g = c.args in
    c.walk.ensures.0
    ∙ ap (λ (ws : List ℕ). walk_of g.st.mode g.st.phase ws (words_of g.room.now)) (lent (goal.at.returns-then-is_variable c).After-system_of-s (is-ready (goal.at.returns-then-is_variable c).Start))
    ∙ sym (pick_true _ _ (sym c.is_variable.ensures ∙ c.if-is_variable.true))

pub slice_bounds-walk_fixed-count : goal.slice_bounds-walk_fixed-count
slice_bounds-walk_fixed-count c = let z = spanned (goal.at.slice_bounds-walk_fixed-count c).After-system_of-s (is-ready (goal.at.slice_bounds-walk_fixed-count c).Start) in omega (arith, z.inside)

pub slice_bounds-walk_fixed-start : goal.slice_bounds-walk_fixed-start
slice_bounds-walk_fixed-start c = let z = spanned (goal.at.slice_bounds-walk_fixed-start c).After-system_of-s (is-ready (goal.at.slice_bounds-walk_fixed-start c).Start) in omega (arith, z.inside)

pub slice_bounds-walk_fixed-end : goal.slice_bounds-walk_fixed-end
slice_bounds-walk_fixed-end c = ends (goal.at.slice_bounds-walk_fixed-end c).After-system_of-s (is-ready (goal.at.slice_bounds-walk_fixed-end c).Start)

pub returns : goal.returns
unfolding walk_to
returns c =
    let g = c.args in
    let walks : ℕ → List ℕ → _ = λ size ws. walk_fixed g.st.mode g.st.phase size ws (words_of g.room.now) in
    c.walk_fixed.ensures.0 ∙ ap₂ walks (c.from.ensures ∙ c.requires.4) (lent (goal.at.returns c).After-system_of-s (is-ready (goal.at.returns c).Start)) ∙ sym (pick_false _ _ (fixed-line (goal.at.returns c).Else-is_variable))
