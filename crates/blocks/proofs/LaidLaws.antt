-- Laws of words laid into a part: where they fill it, and where not.
-- Assumes nothing.
use mathlib.Core.Path.{◌≡◌, refl, sym, ap, ◌∙◌}
use mathlib.Core.List.{List, [], ◌∷◌, ◌++◌, append-nil}
use Prim.Native.Nat.{ℕ, ◌+◌, ◌-◌, ◌≤◌}
use native.Mathlib.Omega.{arith}
use lib.ListN.{length, take, drop, set, length-drop, drop_of_length-le}
use lib.Seq.{take_all}
use borrow.Rule.Slice.PartMut.{put_mid}
use borrow.Author.Tests.{eq-eqb, ne_eqb}
use Rattle.lists.proofs.Tests.{pick_true, pick_false}
use Rattle.lists.proofs.Parts.{both_back, behind}
use Rattle.words.specs.Crc.{crc_of}
use Rattle.blocks.specs.Block.{block_words}
use Rattle.blocks.specs.Laid.{laid_in, laid_on, crc_in}
use Rattle.blocks.proofs.Lengths.{block_long}

module _ (ws out : List ℕ) where
  pub laid_all : length ws ≡ length out → laid_in ws out ≡ ws
  unfolding laid_in
  laid_all e = pick_true _ _ (eq-eqb (length ws) (length out) e)

  pub laid_none : (length ws ≡ length out → ⊥) → laid_in ws out ≡ out
  unfolding laid_in
  laid_none e = pick_false _ _ (ne_eqb (length ws) (length out) e)

  crc_all : (c : ℕ) → length ws ≡ length out → crc_in c ws out ≡ crc_of c ws
  unfolding crc_in
  crc_all c e = pick_true _ _ (eq-eqb (length ws) (length out) e)

  crc_none : (c : ℕ) → (length ws ≡ length out → ⊥) → crc_in c ws out ≡ c
  unfolding crc_in
  crc_none c e = pick_false _ _ (ne_eqb (length ws) (length out) e)

  -- the part is filled: what is laid and taken on, as a function finds it, and as its caller does
  pub filled : (c r : ℕ) (ys : List ℕ) → length ws ≡ length out → ys ≡ ws → r ≡ crc_of c ys → (ys ≡ laid_in ws out) × (r ≡ crc_in c ws out)
  filled c r ys e is crc = (is ∙ sym (laid_all e), crc ∙ ap (crc_of c) is ∙ sym (crc_all c e))

  pub fills : (c r : ℕ) (ys : List ℕ) → length ws ≡ length out → (ys ≡ laid_in ws out) × (r ≡ crc_in c ws out) → (ys ≡ ws) × (r ≡ crc_of c ys)
  fills c r ys e k = let is = k.0 ∙ laid_all e in (is, k.1 ∙ crc_all c e ∙ ap (crc_of c) (sym is))

  -- it is left as it was
  pub unfilled : (c : ℕ) → (length ws ≡ length out → ⊥) → (out ≡ laid_in ws out) × (c ≡ crc_in c ws out)
  unfilled c e = (sym (laid_none e), sym (crc_none c e))

-- ---- words laid from the part's beginning on
-- a part of a variable block that is all filled
pub part_laid : (mode kind j : ℕ) (vs out : List ℕ) → j + length out ≤ length vs + 7
    → laid_on (drop j (block_words mode kind vs)) out ≡ take (length out) (drop j (block_words mode kind vs))
unfolding laid_on
part_laid mode kind j vs out h =
    let ws = drop j (block_words mode kind vs) in
    let long : length out ≤ length ws = rw (length-drop j (block_words mode kind vs)) (rw (block_long mode kind vs) (omega (arith, h))) in
    ap (λ (l : List ℕ). take (length out) ws ++ l) (drop_of_length-le out {i = length ws} long) ∙ append-nil (take (length out) ws)

-- no word, and one
pub none_on : (out : List ℕ) → out ≡ laid_on [] out
unfolding laid_on
none_on out = sym (ap (λ (l : List ℕ). l ++ out) (take_all (length out) [] (omega arith)))

pub one_on : (out : List ℕ) (w : ℕ) → (length out ≡ 0 → ⊥) → set out 0 w ≡ laid_on (w ∷ []) out
unfolding laid_on
one_on [] w h = absurd (h refl)
one_on (x ∷ out) w h = ap (λ (l : List ℕ). w ∷ (l ++ out)) (sym (take_all (length out) [] (omega arith)))

pub on_none : (ws out : List ℕ) → length out ≡ 0 → out ≡ laid_on ws out
unfolding laid_on
on_none ws [] h = sym (drop_of_length-le [] {i = length ws} (omega arith))
on_none ws (x ∷ out) h = absurd (omega (arith, h))

-- ---- one word written, and others behind it
pub first_long : (d : List ℕ) (w n : ℕ) → length d ≡ n + 1 → length (take (length (set d 0 w) - 1) (drop 1 (set d 0 w))) ≡ n
first_long [] w n h = absurd (omega (arith, h))
first_long (x ∷ d) w n h = behind (x ∷ d) (w ∷ []) 1 n h refl

pub first_set : (d ys : List ℕ) (w n : ℕ) → length d ≡ n + 1 → put_mid 1 (length (set d 0 w) - 1) (set d 0 w) ys ≡ w ∷ ys
first_set [] ys w n h = absurd (omega (arith, h))
first_set (x ∷ d) ys w n h = both_back (x ∷ d) (w ∷ []) 1 (omega arith) refl ys

pub first_same : (d ys zs : List ℕ) (w n : ℕ) → length d ≡ n + 1 → ys ≡ zs → length zs ≡ n → length (put_mid 1 (length (set d 0 w) - 1) (set d 0 w) ys) ≡ length d
first_same d ys zs w n h is e = ap length (first_set d ys w n h) ∙ omega (arith, h, ap length is, e)
