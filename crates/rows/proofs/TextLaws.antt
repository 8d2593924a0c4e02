-- Laws of rows as text: numbers in decimal, and a row that is written part by part.
-- Assumes nothing.
use mathlib.Core.Path.{◌≡◌, refl, sym, ap, ap₂, ◌∙◌, subst}
use mathlib.Core.Logic.{⊎_elim}
use mathlib.Core.List.{List, [], ◌∷◌, ◌++◌, append-nil}
use Prim.Native.Nat.{ℕ, zero, suc, ◌+◌, ◌-◌, ◌*◌, ◌/◌, ◌%◌, ◌^◌, ◌<◌, ◌≤◌}
use native.Mathlib.Nat.{pow-suc}
use native.Mathlib.Omega.{arith}
use lib.ListN.{length, replicate, length-append}
use lib.Seq.{set-append_seam, append_snoc}
use borrow.Author.Tests.{lt-ltb, le-ltb}
use Rattle.lists.proofs.Tests.{pick_true, pick_false, lt_or_le}
use Rattle.rows.specs.declared.Row.{Row}
use Rattle.rows.specs.Text.{digit, digits_by, decimal}
use Rattle.rows.specs.Cuts.{none, put, added}

-- ---- decimal numbers
no_digits : (n : ℕ) → digits_by zero n ≡ []
unfolding digits_by
no_digits n = refl

one_digit : (k n : ℕ) → n < 10 → digits_by (suc k) n ≡ digit n ∷ []
unfolding digits_by
one_digit k n h = pick_true _ _ (lt-ltb n 10 h)

more_digits : (k n : ℕ) → 10 ≤ n → digits_by (suc k) n ≡ digits_by k (n / 10) ++ (digit (n % 10) ∷ [])
unfolding digits_by
more_digits k n h = pick_false _ _ (le-ltb n 10 h)

tenth : (j n : ℕ) → n < 10 ^ suc j → n / 10 < 10 ^ j
tenth j n h = by (10 ^ j) (subst (λ (p : ℕ). n < p) (pow-suc 10 j) h)
  where
    by : (p : ℕ) → n < p * 10 → n / 10 < p
    by p k = omega arith

length_digits : (k n : ℕ) → length (digits_by k n) ≤ k
length_digits zero n = rw (ap length (no_digits n)) (omega arith)
length_digits (suc k) n = ⊎_elim (λ l. rw (ap length (one_digit k n l)) (omega arith)) (longer (length_digits k (n / 10))) (lt_or_le n 10)
  where
    longer : length (digits_by k (n / 10)) ≤ k → 10 ≤ n → length (digits_by (suc k) n) ≤ suc k
    longer f l = rw (ap length (more_digits k n l) ∙ length-append (digits_by k (n / 10)) (digit (n % 10) ∷ [])) (omega arith)

-- places more than enough change nothing
enough : (k m n : ℕ) → k ≤ m → n < 10 ^ suc k → digits_by (suc k) n ≡ digits_by (suc m) n
enough zero m n g h = one_digit zero n h ∙ sym (one_digit m n h)
enough (suc k) zero n g h = absurd (omega arith)
enough (suc k) (suc m) n g h =
    ⊎_elim (λ l. one_digit (suc k) n l ∙ sym (one_digit (suc m) n l)) (longer (enough k m (n / 10) (omega arith) (tenth (suc k) n h))) (lt_or_le n 10)
  where
    longer : digits_by (suc k) (n / 10) ≡ digits_by (suc m) (n / 10) → 10 ≤ n → digits_by (suc (suc k)) n ≡ digits_by (suc (suc m)) n
    longer e l =
        more_digits (suc k) n l
        ∙ ap (λ (s : List ℕ). s ++ (digit (n % 10) ∷ [])) e
        ∙ sym (more_digits (suc m) n l)

pub length_decimal : (n : ℕ) → length (decimal n) ≤ 20
unfolding decimal
length_decimal n = length_digits 20 n

pub short_decimal : (k n : ℕ) → k ≤ 19 → n < 10 ^ suc k → length (decimal n) ≤ suc k
unfolding decimal
short_decimal k n g h = rw (sym (ap length (enough k 19 n g h))) (length_digits (suc k) n)

pub decimal_one : (n : ℕ) → n < 10 → decimal n ≡ digit n ∷ []
unfolding decimal
decimal_one n h = one_digit 19 n h

pub decimal_more : (n : ℕ) → 10 ≤ n → n < 10 ^ 20 → decimal n ≡ decimal (n / 10) ++ (digit (n % 10) ∷ [])
unfolding decimal
decimal_more n l h =
    more_digits 19 n l
    ∙ ap (λ (s : List ℕ). s ++ (digit (n % 10) ∷ [])) (enough 18 19 (n / 10) (omega arith) (tenth 19 n h))

-- ---- texts added one after another
pub added_append : (row : Row) (s t : List ℕ) → added row (s ++ t) ≡ added (added row s) t
added_append row [] t = refl
added_append row (b ∷ s) t = added_append (put row b) s t

-- a row of a text, k places being left
abbrev text : List ℕ → ℕ → Row
text t k = record { bytes = t ++ replicate k 0; length = length t }

put_text : (t : List ℕ) (k b : ℕ) → length t + suc k ≡ 48 → put (text t (suc k)) b ≡ text (t ++ (b ∷ [])) k
unfolding put
put_text t k b e =
    pick_true _ _ (lt-ltb (length t) 48 (omega arith))
    ∙ ap₂ (λ (s : List ℕ) (n : ℕ). record { bytes = s; length = n })
    (set-append_seam t 0 (replicate k 0) b ∙ sym (append_snoc t b (replicate k 0)))
    (sym (length-append t (b ∷ [])))

add_text : (t s : List ℕ) (k : ℕ) → length t + k ≡ 48 → length s ≤ k → added (text t k) s ≡ text (t ++ s) (k - length s)
add_text t [] k e h = let all : k ≡ k - 0 = omega arith in ap₂ text (sym (append-nil t)) all
add_text t (b ∷ s) zero e h = absurd (omega arith)
add_text t (b ∷ s) (suc k) e h =
    let rest : k - length s ≡ suc k - suc (length s) = omega arith in
    ap (λ (r : Row). added r s) (put_text t k b e)
    ∙ add_text (t ++ (b ∷ [])) s k (rw (length-append t (b ∷ [])) (omega arith)) (omega arith)
    ∙ ap₂ text (append_snoc t b s) rest

-- a text that fits, from no text on
pub written : (s : List ℕ) → length s ≤ 48 → added none s ≡ text s (48 - length s)
written s h = add_text [] s 48 refl h
