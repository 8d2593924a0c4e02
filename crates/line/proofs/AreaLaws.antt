-- How long an area is, and what a word is asked in an area, by mode and kind of line.
-- Assumes nothing.
use mathlib.Core.Path.{◌≡◌, refl, sym, ap, ap₂, ◌∙◌}
use mathlib.Core.List.{List, [], ◌∷◌}
use mathlib.Core.Bool.{Bool, true, false, ◌&&◌, ◌||◌}
use Prim.Native.Nat.{ℕ, ◌-◌, ◌≤◌}
use native.Mathlib.Omega.{arith}
use lib.Dec.{eqb}
use Rattle.lists.specs.Tests.{pick}
use Rattle.lists.specs.Lists.{each}
use Rattle.lists.proofs.Tests.{or_left}
use Rattle.lists.proofs.Lists.{each_by}
use Rattle.words.specs.Forms.{is_byte, is_data}
use Rattle.words.specs.Class.{class_of, is_code, separator, end_code, null_word}
use Rattle.words.proofs.ClassLaws.{code_class}
use Rattle.line.specs.Layout.{area_length}
use Rattle.line.specs.Check.{legal}

pub area_most : (p flag : ℕ) → area_length p flag ≤ p
unfolding area_length pick
area_most p flag = go (eqb flag 1)
  where
    go : (b : Bool) → pick b (p - 2) p ≤ p
    go true = omega arith
    go false = omega arith

or_none : (a : Bool) → (a || false) ≡ a
or_none true = refl
or_none false = refl

or_more : (a b : Bool) → ((a || false) || b) ≡ (a || b)
or_more a b = ap (λ (x : Bool). x || b) (or_none a)

-- ---- a fixed line: 8-bit byte form or 100h, else data form
pub eight_legal : (w : ℕ) → (is_byte w || eqb w null_word) ≡ legal 8 false w
unfolding legal pick
eight_legal w = sym (or_none (is_byte w || eqb w null_word))

pub nine_legal : (w : ℕ) → is_data w ≡ legal 9 false w
unfolding legal pick
nine_legal w = sym (or_none (is_data w))

-- ---- a variable line: the same, or one of the two codes
pub code_legal : (mode w : ℕ) (a b : Bool) → a ≡ legal mode false w → b ≡ is_code (class_of w) → (a || b) ≡ legal mode true w
unfolding legal pick
code_legal mode w a b e f =
    ap₂ ◌||◌ e (f ∙ sym (code_class w)) ∙ or_more (pick (eqb mode 8) (is_byte w || eqb w null_word) (is_data w)) (eqb w separator || eqb w end_code)

-- ---- of all words: every mode but 8 asks what 9 asks
pub not_eight : (mode : ℕ) (variable : Bool) (s : List ℕ) → eqb mode 8 ≡ false → each (legal 9 variable) s ≡ each (legal mode variable) s
unfolding legal
not_eight mode variable s e =
    ap (λ (b : Bool). each (λ w. pick b (is_byte w || eqb w null_word) (is_data w) || (variable && (eqb w separator || eqb w end_code))) s) (sym e)

pub all_nine : (s : List ℕ) → each is_data s ≡ each (legal 9 false) s
all_nine [] = refl
all_nine (w ∷ s) = ap₂ ◌&&◌ (nine_legal w) (all_nine s)

-- ---- a word in the mode's own form may stand in any area
formed_legal : (mode : ℕ) (variable : Bool) (w : ℕ) → pick (eqb mode 8) (is_byte w) (is_data w) ≡ true → legal mode variable w ≡ true
unfolding legal pick
formed_legal mode variable w e = or_left _ _ (go (eqb mode 8) e)
  where
    go : (b : Bool) → pick b (is_byte w) (is_data w) ≡ true → pick b (is_byte w || eqb w null_word) (is_data w) ≡ true
    go true f = or_left (is_byte w) _ f
    go false f = f

-- so that of words in that form nothing else has to be asked
pub all_formed : (mode : ℕ) (s : List ℕ) → each (λ w. pick (eqb mode 8) (is_byte w) (is_data w)) s ≡ true → (variable : Bool) → true ≡ each (legal mode variable) s
all_formed mode s e variable =
    let form : ℕ → Bool = λ w. pick (eqb mode 8) (is_byte w) (is_data w) in
    sym (each_by form (legal mode variable) form (λ x a b. formed_legal mode variable x b) s e e)
