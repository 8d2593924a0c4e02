-- The number that a call from C answers before anything is written. Where lengths and image are in order, it is the library's own 1 or 2, and any other answer is the library's call. Where
-- the image is in order, it is 2 only if the library's is. Each is one law for all calls.
-- Assumes nothing.
use Prim.Native.Nat.{ℕ}
use mathlib.Core.Bool.{Bool, true, false, ◌||◌, not}
use mathlib.Core.Path.{◌≡◌, refl, sym, ap, ◌∙◌}
use native.Mathlib.Omega.{arith}
use lib.Dec.{eqb}
use borrow.Author.Tests.{eqb-true, eqb-false}
use Rattle.lists.specs.Tests.{pick}
use Rattle.lists.proofs.Tests.{true_false, or_false}
use Rattle.calls.specs.Answers.{refusal}
use Rattle.hosted.specs.Hosted.{is_early}

order_by : {A : Type 0} (a b : Bool) (n : ℕ) (x : A) (f : ℕ → A) → eqb n 1 ≡ a → eqb n 2 ≡ b
    → pick (eqb (pick a 1 (pick b 2 0)) 0) x (f (pick a 1 (pick b 2 0))) ≡ pick (a || b) (f n) x
unfolding pick
order_by true b n x f p q = ap f (sym (eqb-true n 1 p))
order_by false true n x f p q = ap f (sym (eqb-true n 2 q))
order_by false false n x f p q = refl

pub in_order : {A : Type 0} (s i : Bool) (n : ℕ) (x : A) (f : ℕ → A) → s ≡ true → i ≡ true
    → pick (eqb (refusal s i n) 0) x (f (refusal s i n)) ≡ pick (is_early n) (f n) x
unfolding refusal
in_order true true n x f p q = order_by (eqb n 1) (eqb n 2) n x f refl refl
in_order true false n x f p q = absurd (true_false (sym q))
in_order false i n x f p q = absurd (true_false (sym p))

-- ---- never 2
not_2 : {A : Type 0} (answer : A → ℕ) (a b : Bool) (n : ℕ) (x : A) (f : ℕ → A) → eqb n 2 ≡ b → answer x ≡ n → ((k : ℕ) → answer (f k) ≡ k) → (n ≡ 2 → ⊥)
    → answer (pick (eqb (pick a 1 (pick b 2 0)) 0) x (f (pick a 1 (pick b 2 0)))) ≡ 2 → ⊥
unfolding pick
not_2 answer true b n x f q e g h z = omega (arith, g 1)
not_2 answer false true n x f q e g h z = h (eqb-true n 2 q)
not_2 answer false false n x f q e g h z = eqb-false n 2 q (sym e ∙ z)

pub never_2_by : {A : Type 0} (answer : A → ℕ) (s i : Bool) (n : ℕ) (x : A) (f : ℕ → A) → i ≡ true → answer x ≡ n → ((k : ℕ) → answer (f k) ≡ k) → (n ≡ 2 → ⊥)
    → answer (pick (eqb (refusal s i n) 0) x (f (refusal s i n))) ≡ 2 → ⊥
unfolding refusal
never_2_by answer s true n x f q e g h z = not_2 answer _ (eqb n 2) n x f refl e g h z
never_2_by answer s false n x f q e g h z = true_false (sym q)

-- ---- an answer that is none of 1 and 2
pub late_2 : (n : ℕ) → is_early n ≡ false → n ≡ 2 → ⊥
late_2 n e = eqb-false n 2 (or_false (eqb n 1) (eqb n 2) e).1

pub none_early : is_early 0 ≡ true → ⊥
none_early e = true_false (sym e)

-- where 1 and 2 leave what they leave in either case, the choice is no choice
pub either_way : {A : Type 0} (b : Bool) (x y : A) → (b ≡ true → x ≡ y) → pick b x y ≡ y
unfolding pick
either_way true x y h = h refl
either_way false x y h = refl

-- where nothing is refused early, the lengths are in order
shaped_by : (s a : Bool) (x : ℕ) → pick (not s || a) 1 x ≡ 0 → s ≡ true
unfolding pick
shaped_by true a x e = refl
shaped_by false a x e = absurd (omega arith)

pub in_shape : (s i : Bool) (n : ℕ) → eqb (refusal s i n) 0 ≡ true → s ≡ true
unfolding refusal
in_shape s i n e = shaped_by s (eqb n 1) _ (eqb-true _ 0 e)
