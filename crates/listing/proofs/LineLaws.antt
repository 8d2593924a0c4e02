-- Laws of a line listed: one call more, no call behind the last event, and 1,442 calls are enough in system 0.
-- Assumes nothing.
use mathlib.Core.Path.{◌≡◌, refl, sym, ap, ◌∙◌}
use mathlib.Core.Bool.{Bool, true, false, ◌||◌}
use mathlib.Core.List.{List, []}
use Prim.Native.Nat.{ℕ, zero, suc, ◌+◌, ◌-◌, ◌≤◌}
use native.Mathlib.Omega.{arith}
use Rattle.lists.proofs.Tests.{true_false, pick_true, pick_false}
use Rattle.line.specs.Systems.{system_of}
use Rattle.line.specs.Layout.{area_length}
use Rattle.line.specs.Check.{settings_of}
use Rattle.line.proofs.AreaLaws.{area_most}
use Rattle.reader.specs.declared.state.Reader.{Reader}
use Rattle.reader.specs.Lending.{ends_within}
use Rattle.reader.proofs.AtCapacity.{line_ends}
use Rattle.listing.specs.Lines.{Listed, listed, called, called_by, most, listing, Between}

-- ---- calls one by one
pub one_more : (n : ℕ) (line : List ℕ) (s : Listed) → s.over ≡ false → called_by (suc n) line s ≡ called_by n line (called line s)
unfolding called_by
one_more n line s e = pick_false _ _ e

pub none_behind : (n : ℕ) (line : List ℕ) (s : Listed) → s.over ≡ true → called_by n line s ≡ s
unfolding called_by
none_behind zero line s e = refl
none_behind (suc n) line s e = pick_true _ _ e

-- ---- a line that ends within n calls is over after n, and after more
right_of : (a b : Bool) → a ≡ false → (a || b) ≡ true → b ≡ true
right_of true b e h = absurd (true_false e)
right_of false b e h = h

ends_over : (n : ℕ) (line : List ℕ) (s : Listed) → ends_within n s.state line s.room ≡ true → (called_by n line s).over ≡ true
ends_over zero line s e = absurd (true_false (sym e))
ends_over (suc n) line s e = go (ends_over n line (called line s)) s.over refl
  where
    step : (ends_within n (called line s).state line (called line s).room ≡ true → (called_by n line (called line s)).over ≡ true)
        → (b : Bool) → (called line s).over ≡ b → (called_by n line (called line s)).over ≡ true
    step later true o = ap (λ (x : Listed). x.over) (none_behind n line (called line s) o) ∙ o
    step later false o = later (right_of (called line s).over _ o e)

    go : (ends_within n (called line s).state line (called line s).room ≡ true → (called_by n line (called line s)).over ≡ true)
        → (b : Bool) → s.over ≡ b → (called_by (suc n) line s).over ≡ true
    go later true o = ap (λ (x : Listed). x.over) (none_behind (suc n) line s o) ∙ o
    go later false o = ap (λ (x : Listed). x.over) (one_more n line s o) ∙ step later (called line s).over refl

-- more calls change nothing
pub over_stays : (n k : ℕ) (line : List ℕ) (s : Listed) → (called_by n line s).over ≡ true → called_by (n + k) line s ≡ called_by n line s
unfolding called_by
over_stays zero k line s e = let plus : 0 + k ≡ k = omega arith in ap (λ (m : ℕ). called_by m line s) plus ∙ none_behind k line s e
over_stays (suc n) k line s e = go (over_stays n k line (called line s)) s.over refl
  where
    go : ((called_by n line (called line s)).over ≡ true → called_by (n + k) line (called line s) ≡ called_by n line (called line s))
        → (b : Bool) → s.over ≡ b → called_by (suc n + k) line s ≡ called_by (suc n) line s
    go later true o = none_behind (suc n + k) line s o ∙ sym (none_behind (suc n) line s o)
    go later false o =
        let more : suc n + k ≡ suc (n + k) = omega arith in
        ap (λ (m : ℕ). called_by m line s) more ∙ one_more (n + k) line s o
        ∙ later (sym (ap (λ (x : Listed). x.over) (one_more n line s o)) ∙ e) ∙ sym (one_more n line s o)

-- ---- 1,442 calls
within : (n : ℕ) (line : List ℕ) (s : Listed) → n ≤ most → ends_within n s.state line s.room ≡ true → (called_by most line s).over ≡ true
within n line s h e =
    let o = ends_over n line s e in
    let all : n + (most - n) ≡ most = omega arith in
    ap (λ (m : ℕ). (called_by m line s).over) (sym all) ∙ ap (λ (x : Listed). x.over) (over_stays n (most - n) line s o) ∙ o

pub enough_calls : (st : Reader) (line room : List ℕ) → Between st → (listing st line room).over ≡ true
unfolding listing
enough_calls st line room b =
    let flag = (settings_of line).flag in
    let p : (system_of st.system).payload ≡ 1440 = ap (λ (k : ℕ). (system_of k).payload) b.zeroth in
    within (area_length (system_of st.system).payload flag + 2) line (listed false st room [])
    (omega (arith, p, area_most (system_of st.system).payload flag)) (line_ends st line room b.shut)
