-- The table of classes: its entry for a word is the bit of the word's class, and the class that it gives is the word's.
-- Assumes nothing.
use mathlib.Core.Path.{◌≡◌, refl, sym, ap, ◌∙◌}
use mathlib.Core.List.{List}
use mathlib.Core.Logic.{⊎_elim}
use Prim.Native.Nat.{ℕ, zero, suc, ◌+◌, ◌≤◌, ◌<◌}
use native.Mathlib.Nat.{add-zero, zero-add, add-suc, suc-add, le_of_suc-le-suc, not-suc-le-zero}
use native.Mathlib.Omega.{arith}
use lib.Dec.{eqb}
use lib.ListN.{get_or}
use borrow.Author.Tests.{lt-ltb, le-ltb, ne_eqb}
use Rattle.lists.specs.Tests.{pick}
use Rattle.lists.proofs.Tests.{pick_true, pick_false, lt_or_le}
use Rattle.words.specs.Forms.{is_byte, is_data}
use Rattle.words.specs.Class.{class_of, class_number, separator, end_code, null_word, is_null}
use Rattle.words.specs.Table.{class_bit, tabulate, class_table, bit_in, class_of_bit, class_in, class_number_in}
use Rattle.words.specs.declared.class.Class.{Class}
use Rattle.words.specs.declared.class.Class.TheVariants.{Byte, Other, Separator, Ending, Illegal, Null}
use Rattle.words.proofs.ClassLaws.{number_by, class_illegal}

-- ---- a table as a rule makes it
get_d_tabulate : (i n : ℕ) (f : ℕ → ℕ) (k : ℕ) → k < n → get_or (tabulate i n f) k 0 ≡ f (i + k)
get_d_tabulate i zero f k h = absurd (not-suc-le-zero h)
get_d_tabulate i (suc n) f zero h = ap f (sym (add-zero i))
get_d_tabulate i (suc n) f (suc k) h = get_d_tabulate (suc i) n f k (le_of_suc-le-suc h) ∙ ap f (suc-add i k ∙ sym (add-suc i k))

at_table : (n : ℕ) (f : ℕ → ℕ) (k : ℕ) → k < n → get_or (tabulate 0 n f) k 0 ≡ f k
at_table n f k h = get_d_tabulate 0 n f k h ∙ ap f (zero-add k)

-- ---- 400h and above has no form and is no code
pub no_word : (w : ℕ) → 1024 ≤ w → class_of w ≡ Illegal
unfolding is_byte is_data
no_word w h =
    class_illegal w (simp (le-ltb w 1024 h)) (ne_eqb w null_word (λ e. omega (arith, e))) (simp (le-ltb w 1024 h)) (ne_eqb w separator (λ e. omega (arith, e))) (ne_eqb w end_code (λ e. omega (arith, e)))

-- ---- the entry of every number
pub table_rule : (w : ℕ) → bit_in class_table w ≡ class_bit (class_of w)
unfolding bit_in class_table
table_rule w =
    ⊎_elim
    (λ h. pick_true _ _ (lt-ltb w 1024 h) ∙ at_table 1024 (λ w. class_bit (class_of w)) w h)
    (λ h. pick_false _ _ (le-ltb w 1024 h) ∙ ap class_bit (sym (no_word w h)))
    (lt_or_le w 1024)

-- no two classes have one bit
bit_back : (k : Class) → class_of_bit (class_bit k) ≡ k
unfolding class_of_bit pick
bit_back Byte = refl
bit_back Other = refl
bit_back Separator = refl
bit_back Ending = refl
bit_back Illegal = refl
bit_back Null = refl

-- and the class of every number
pub table_class : (w : ℕ) → class_in class_table w ≡ class_of w
unfolding class_in
table_class w = ap class_of_bit (table_rule w) ∙ bit_back (class_of w)

-- 100h by its bit
bit_null : (k : Class) → eqb (class_bit k) 32 ≡ is_null k
bit_null Byte = refl
bit_null Other = refl
bit_null Separator = refl
bit_null Ending = refl
bit_null Illegal = refl
bit_null Null = refl

pub null_bit : (w : ℕ) → eqb (bit_in class_table w) 32 ≡ is_null (class_of w)
null_bit w = ap (λ (b : ℕ). eqb b 32) (table_rule w) ∙ bit_null (class_of w)

-- a bit that is none of the others is the illegal one's
pub rest_illegal : (b : ℕ) → (b ≡ 1 → ⊥) → (b ≡ 2 → ⊥) → (b ≡ 4 → ⊥) → (b ≡ 8 → ⊥) → (b ≡ 32 → ⊥) → class_of_bit b ≡ Illegal
unfolding class_of_bit pick
rest_illegal b h i j k l = simp (ne_eqb b 1 h, ne_eqb b 2 i, ne_eqb b 4 j, ne_eqb b 8 k, ne_eqb b 32 l)

-- a class by an entry, with its number
pub class_entered : (t : List ℕ) (w : ℕ) (k : Class) → k ≡ class_in t w → (k ≡ class_in t w) × (class_number k ≡ class_number_in t w)
unfolding class_in class_of_bit class_number_in
class_entered t w k e =
    let b = bit_in t w in (
      e,
      ap class_number e ∙ number_by (eqb b 1) (eqb b 32) (eqb b 2) (eqb b 4) (eqb b 8),
    )
