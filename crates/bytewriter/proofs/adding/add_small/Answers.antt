-- `bytewriter::adding::add_small` meets its contract: what was laid in the place went back to the line. Assumes nothing.
use mathlib.Core.Path.{◌≡◌, refl, sym, ap, ◌∙◌}
use mathlib.Core.List.{List}
use Prim.Native.Nat.{ℕ, ◌+◌, ◌-◌, ◌/◌, ◌≤◌}
use native.Mathlib.Omega.{arith}
use lib.ListN.{length, take, replicate}
use lib.Seq.{paste, take_at, length-take-le}
use Rattle.octets.specs.Bytes.{words_of, bytes_of}
use Rattle.octets.proofs.BytesLaws.{length_words}
use Rattle.octets.proofs.PartLaws.{converted}
use Rattle.bytewriter.proofs.Placed.{front_in, small_in, small_given}
use Rattle.bytewriter.proofs.adding.add_small.Goals as goal
use Rattle.bytewriter.proofs.adding.add_small.Goals.{After-add_place-r}

-- the values as words, and the place lent for them
words : (x : After-add_place-r) →
    let a = x.args in
    take (length a.values.now / 2) x.words_of.new.out ≡ words_of a.values.now
words x =
    converted x.args.values.now (replicate 32 0) _ _ x.words_of.ensures refl (omega (arith, x.requires.3))

lent : (x : After-add_place-r) →
    let a = x.args in
    length (take (length a.values.now / 2 + 1) (replicate {A = ℕ} 33 0)) ≡ length a.values.now / 2 + 1
lent x = length-take-le (length x.args.values.now / 2 + 1) (replicate 33 0) (omega (arith, x.requires.3))

size : (x : After-add_place-r) →
    let a = x.args in
    length (take (length a.values.now / 2 + 1) (replicate {A = ℕ} 33 0)) ≡ length (take (length a.values.now / 2) x.words_of.new.out) + 1
size x =
    let a = x.args in
    omega (arith, lent x, ap length (words x), length_words a.values.now)

long : (x : After-add_place-r) →
    let a = x.args in
    length x.add_place-r.new.place ≡ length a.values.now / 2 + 1
long x = x.add_place-r.auto.place ∙ lent x

pub slice_bounds-add_place-end : goal.slice_bounds-add_place-end
slice_bounds-add_place-end c =
    let room : length c.args.values.now / 2 ≤ length c.words_of.new.out = omega (arith, c.words_of.auto.out, c.requires.3) in
    sym (length-take-le _ c.words_of.new.out room)

pub slice_bounds-add_place-end-2 : goal.slice_bounds-add_place-end-2
slice_bounds-add_place-end-2 c =
    sym (length-take-le (length c.args.values.now / 2 + 1) (replicate 33 0) (omega (arith, c.requires.3)))

pub slice_bounds-place-end-2 : goal.slice_bounds-place-end-2
slice_bounds-place-end-2 c =
    front_in _ c.add_place-r.new.place _ (long (goal.at.slice_bounds-place-end-2 c).After-add_place-r)

pub slice_bounds-give_place-end : goal.slice_bounds-give_place-end
slice_bounds-give_place-end c = sym (ap length (take_at c.add_place-r.new.place _ _ (long (goal.at.slice_bounds-give_place-end c).After-add_place-r)) ∙ long (goal.at.slice_bounds-give_place-end c).After-add_place-r)

pub give_place-requires : goal.give_place-requires
give_place-requires c =
    let a = c.args in (
      λ h.
          let there = small_in a.w (length a.line.now / 2) a.kind _ _ c.requires.2 (size (goal.at.give_place-requires c).After-add_place-r) _ _ _ c.add_place-r.ensures _ _ _ c.payload_at-start.ensures c.place_of.ensures c.place_of-2.ensures h in
          (omega (arith, there.0, length_words a.line.now), rw (take_at c.add_place-r.new.place _ _ (long (goal.at.give_place-requires c).After-add_place-r)) there.1),
      c.requires.0,
    )

pub returns : goal.returns
returns c =
    let a = c.args in
    small_given a.w (length a.line.now / 2) a.kind _ _ c.requires.2 (size (goal.at.returns c).After-add_place-r) _ _ _ c.add_place-r.ensures _ _ _ c.payload_at-start.ensures c.place_of.ensures c.place_of-2.ensures
    a.line.now a.values.now _ c.requires.0 c.requires.1 refl (words (goal.at.returns c).After-add_place-r)
    (c.give_place.ensures
    ∙ ap (λ (l : List ℕ). bytes_of (paste (words_of a.line.now) (c.payload_at-start.result + c.place_of.result) l (c.place_of-2.result - c.place_of.result)))
    (take_at c.add_place-r.new.place _ _ (long (goal.at.returns c).After-add_place-r)))
