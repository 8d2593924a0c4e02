-- `packets::list::list_from` meets its contract. It calls itself for what lies behind a packet, so the gap's length is its measure. Assumes nothing.
use mathlib.Core.Path.{◌≡◌, sym, ap, ap₂, ◌∙◌}
use mathlib.Core.List.{List, ◌++◌}
use Prim.Native.Nat.{◌+◌, ◌≤◌}
use native.Mathlib.Omega.{arith}
use lib.ListN.{length, drop, length-drop}
use lib.Seq.{length-take-le, drop_at}
use borrow.Author.Rules.{rules}
use Rattle.packets.specs.declared.list.Listed.{Listed}
use Rattle.packets.specs.Gap.{Found, list_in}
use Rattle.packets.specs.Listing.{outcome, listed_of}
use Rattle.lists.proofs.Parts.{first_back, second_long, both_back, rest_of}
use Rattle.packets.proofs.PacketLaws.{good}
use Rattle.packets.proofs.PacketBack.{counted}
use Rattle.packets.proofs.ListLaws.{WholeAt, list_nothing, nothing_told, bad_told, whole_told, listed_small, listed_more}
use Prim.Native.Nat.{ℕ}
use Rattle.packets.proofs.list.+list_from.Goals as goal
use Rattle.packets.proofs.list.+list_from.Goals.{In-Whole, After-list_one, After-list_from-rest}

-- the packet that was seen
seen : (t : ℕ) (m : In-Whole t)
    → WholeAt m.args.gap.now m.in-Whole.count
seen t m = whole_told m.args.gap.now _ _ _ (sym m.look_at.ensures ∙ m.in-Whole.is)

-- there is room for it in out
room : (t : ℕ) (m : In-Whole t)
    → m.in-Whole.count + 3 ≤ length m.args.out.now
room t m = omega (arith, (seen t m).long, m.requires)

-- as it is listed it is that long
listed : (t : ℕ) (i : After-list_one t) → (by_seen : WholeAt i.args.gap.now i.in-Whole.count)
    → length i.list_one.new.out ≡ i.in-Whole.count + 3
listed t i by_seen =
    let w = by_seen in
    let g = i.args.gap.now in
    let k = counted g (good g w.fault) in
    ap length i.list_one.ensures ∙ omega (arith, w.count, k)

-- what is listed behind it, and it, are no more than the gap has
few : (t : ℕ) (q : After-list_from-rest t) → (by_seen : WholeAt q.args.gap.now q.in-Whole.count)
    → let n = q.in-Whole.count in
    let most = length q.args.gap.now in
    let r = q.list_from-rest.result in
    (r.packets + 1 ≤ most) × (r.words + (n + 3) ≤ most) × (r.gap + (n + 7) ≤ most)
few t q by_seen =
    let g = q.args.gap.now in
    let n = q.in-Whole.count in
    let l = ap length (rest_of (n + 7) g) ∙ length-drop (n + 7) g in
    let b = listed_small _ _ _ q.list_from-rest.result q.list_from-rest.ensures in
    let w = (by_seen).long in
    (omega arith, omega arith, omega arith)

pub slice_bounds-list_one-end : goal.slice_bounds-list_one-end
slice_bounds-list_one-end t c = room t c

pub slice_bounds-list_one-end-in-Whole : goal.slice_bounds-list_one-end-in-Whole
slice_bounds-list_one-end-in-Whole t c = sym (length-take-le _ c.args.out.now (room t (goal.at.slice_bounds-list_one-end-in-Whole t c).In-Whole))

pub list_one-requires : goal.list_one-requires
list_one-requires t c =
    let w = seen t (goal.at.list_one-requires t c).In-Whole in
    let l = length-take-le _ c.args.out.now (room t (goal.at.list_one-requires t c).In-Whole) in
    (omega (arith, w.long, w.count), omega (arith, l, w.count))

pub slice_bounds-list_from-count : goal.slice_bounds-list_from-count
slice_bounds-list_from-count t c = omega (arith, (seen t (goal.at.slice_bounds-list_from-count t c).In-Whole).long)

pub slice_bounds-list_from-start : goal.slice_bounds-list_from-start
slice_bounds-list_from-start t c = omega (arith, (seen t (goal.at.slice_bounds-list_from-start t c).In-Whole).long)

pub slice_bounds-list_from-count-in-Whole : goal.slice_bounds-list_from-count-in-Whole
slice_bounds-list_from-count-in-Whole t c =
    omega (arith, first_back c.args.out.now c.list_one.new.out _ (room t (goal.at.slice_bounds-list_from-count-in-Whole t c).In-Whole) (listed t (goal.at.slice_bounds-list_from-count-in-Whole t c).After-list_one (seen t (goal.at.slice_bounds-list_from-count-in-Whole t c).In-Whole)), room t (goal.at.slice_bounds-list_from-count-in-Whole t c).In-Whole)

pub slice_bounds-list_from-start-in-Whole : goal.slice_bounds-list_from-start-in-Whole
slice_bounds-list_from-start-in-Whole t c =
    omega (arith, first_back c.args.out.now c.list_one.new.out _ (room t (goal.at.slice_bounds-list_from-start-in-Whole t c).In-Whole) (listed t (goal.at.slice_bounds-list_from-start-in-Whole t c).After-list_one (seen t (goal.at.slice_bounds-list_from-start-in-Whole t c).In-Whole)), room t (goal.at.slice_bounds-list_from-start-in-Whole t c).In-Whole)

pub list_from-rest-requires : goal.list_from-rest-requires
list_from-rest-requires t c =
    let g = c.args.gap.now in
    let w = seen t (goal.at.list_from-rest-requires t c).In-Whole in
    let n = c.in-Whole.count in
    let l = ap length (rest_of (n + 7) g) ∙ length-drop (n + 7) g in
    let o = second_long c.args.out.now c.list_one.new.out (n + 3) (room t (goal.at.list_from-rest-requires t c).In-Whole) (listed t (goal.at.list_from-rest-requires t c).After-list_one (seen t (goal.at.list_from-rest-requires t c).In-Whole)) in
    (omega (arith, l, w.long, c.decreases), omega (arith, l, o, w.long, c.requires))

pub overflow_add-result : goal.overflow_add-result
overflow_add-result t c = let h = (few t (goal.at.overflow_add-result t c).After-list_from-rest (seen t (goal.at.overflow_add-result t c).In-Whole)).0 in search rules

pub overflow_add-result-in-Whole : goal.overflow_add-result-in-Whole
overflow_add-result-in-Whole t c = let h = (few t (goal.at.overflow_add-result-in-Whole t c).After-list_from-rest (seen t (goal.at.overflow_add-result-in-Whole t c).In-Whole)).1 in search rules

pub overflow_add-result-in-Whole-2 : goal.overflow_add-result-in-Whole-2
overflow_add-result-in-Whole-2 t c = let h = (few t (goal.at.overflow_add-result-in-Whole-2 t c).After-list_from-rest (seen t (goal.at.overflow_add-result-in-Whole-2 t c).In-Whole)).2 in search rules

pub returns-in-Nothing : goal.returns-in-Nothing
returns-in-Nothing t c =
    let g = c.args.gap.now in
    let none = list_nothing g (nothing_told g (sym c.look_at.ensures ∙ c.in-Nothing.is)) in
    ap (λ (a : Listed). outcome a c.args.out.now) c.none_listed.ensures ∙ sym (ap (λ (x : Found). listed_of x c.args.out.now) none)

pub returns-in-Bad : goal.returns-in-Bad
returns-in-Bad t c =
    let g = c.args.gap.now in
    let none = bad_told g _ (sym c.look_at.ensures ∙ c.in-Bad.is) in
    ap (λ (a : Listed). outcome a c.args.out.now) c.none_listed-in-Bad.ensures ∙ sym (ap (λ (x : Found). listed_of x c.args.out.now) none)

pub returns-in-Whole : goal.returns-in-Whole
returns-in-Whole t c =
    let g = c.args.gap.now in
    let out = c.args.out.now in
    let n = c.in-Whole.count in
    let xs = c.list_one.new.out in
    let ys = c.list_from-rest.new.out in
    let back = both_back out xs (n + 3) (room t (goal.at.returns-in-Whole t c).In-Whole) (listed t (goal.at.returns-in-Whole t c).After-list_one (seen t (goal.at.returns-in-Whole t c).In-Whole)) ys in
    let lent = rest_of (n + 3) (xs ++ drop (n + 3) out) ∙ drop_at xs (drop (n + 3) out) (n + 3) (listed t (goal.at.returns-in-Whole t c).After-list_one (seen t (goal.at.returns-in-Whole t c).In-Whole)) in
    let told = c.list_from-rest.ensures ∙ ap₂ (λ (x y : List ℕ). listed_of (list_in x) y) (rest_of (n + 7) g) lent in
    ap (λ (x : List ℕ). outcome (record { fault = 0; packets = c.list_from-rest.result.packets + 1; words = c.list_from-rest.result.words + (n + 3); gap = c.list_from-rest.result.gap + (n + 7); stop = c.list_from-rest.result.stop }) x) back
    ∙ listed_more g out xs ys c.list_from-rest.result n (seen t (goal.at.returns-in-Whole t c).In-Whole) c.list_one.ensures told
