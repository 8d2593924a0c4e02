-- Laws of parts of a list, of lists that are equal, and of a test of each element.
-- Assumes nothing.
use mathlib.Core.Path.{◌≡◌, refl, sym, ap, ap₂, ◌∙◌, subst}
use mathlib.Core.Bool.{Bool, true, ◌&&◌}
use mathlib.Core.List.{List, [], ◌∷◌, ◌++◌, map}
use Prim.Native.Nat.{ℕ, zero, suc, ◌+◌, ◌-◌, ◌<◌, ◌≤◌}
use native.Mathlib.Nat.{sub-zero, zero-sub, suc-sub-suc}
use native.Mathlib.Omega.{arith}
use lib.Dec.{T, eqb}
use lib.ListN.{length, get_or, take, drop, replicate, length-take, length-drop}
use lib.Seq.{take-add, take-take, drop-drop, take_at, drop_at, drop-cons, get_or-take, get_or-drop}
use borrow.Author.Tests.{eqb-true, eq-eqb}
use Rattle.lists.specs.Lists.{part, same, each}
use Rattle.lists.proofs.Tests.{both_true}

-- ---- parts
pub part_add : (a n m : ℕ) (l : List ℕ) → part a (n + m) l ≡ part a n l ++ part (a + n) m l
part_add a n m l = take-add n m (drop a l) ∙ ap (λ (x : List ℕ). part a n l ++ take m x) (drop-drop n a l)

pub length_part : (a n : ℕ) (l : List ℕ) → a + n ≤ length l → length (part a n l) ≡ n
length_part a n l h = simp (length-take, length-drop) (omega arith)

pub get_d_part : (a n i : ℕ) (l : List ℕ) → i < n → get_or (part a n l) i 0 ≡ get_or l (a + i) 0
get_d_part a n i l h = get_or-take n (drop a l) i 0 h ∙ get_or-drop a l i 0

pub part_two : (a : ℕ) (l : List ℕ) → a + 2 ≤ length l → part a 2 l ≡ get_or l a 0 ∷ get_or l (suc a) 0 ∷ []
part_two a l h = ap (take 2) (drop-cons l a 0 (omega arith) ∙ ap (λ (x : List ℕ). get_or l a 0 ∷ x) (drop-cons l (suc a) 0 (omega arith)))

pub inside : (i k n : ℕ) (l : List ℕ) → i + k ≤ n → part i k (take n l) ≡ part i k l
inside zero k n l h = take-take k n l (omega arith)
inside (suc i) k zero l h = absurd (omega arith)
inside (suc i) k (suc n) [] h = refl
inside (suc i) k (suc n) (x ∷ l) h = inside i k n l (omega arith)

pub part_part : (a n i k : ℕ) (l : List ℕ) → i + k ≤ n → part i k (part a n l) ≡ part (a + i) k l
part_part a n i k l h = inside i k n (drop a l) h ∙ ap (take k) (drop-drop i a l)

-- what lies behind what stands in front
pub drop_behind : (xs ys : List ℕ) (a k : ℕ) → length xs ≡ a → drop (a + k) (xs ++ ys) ≡ drop k ys
drop_behind xs ys a k e = sym (drop-drop k a (xs ++ ys)) ∙ ap (drop k) (drop_at xs ys a e)

pub part_behind : (xs ys : List ℕ) (a k n : ℕ) → length xs ≡ a → part (a + k) n (xs ++ ys) ≡ part k n ys
part_behind xs ys a k n e = ap (take n) (drop_behind xs ys a k e)

-- what stands in front
pub part_front : (xs ys : List ℕ) (n : ℕ) → length xs ≡ n → part 0 n (xs ++ ys) ≡ xs
part_front xs ys n e = take_at xs ys n e

map_take : (f : ℕ → ℕ) (n : ℕ) (l : List ℕ) → map f (take n l) ≡ take n (map f l)
map_take f zero l = refl
map_take f (suc n) [] = refl
map_take f (suc n) (x ∷ l) = ap (λ (r : List ℕ). f x ∷ r) (map_take f n l)

map_drop : (f : ℕ → ℕ) (n : ℕ) (l : List ℕ) → map f (drop n l) ≡ drop n (map f l)
map_drop f zero l = refl
map_drop f (suc n) [] = refl
map_drop f (suc n) (x ∷ l) = map_drop f n l

pub map_part : (f : ℕ → ℕ) (a n : ℕ) (l : List ℕ) → map f (part a n l) ≡ part a n (map f l)
map_part f a n l = map_take f n (drop a l) ∙ ap (take n) (map_drop f a l)

pub get_d_map_in : (f : ℕ → ℕ) (l : List ℕ) (i : ℕ) → i < length l → get_or (map f l) i 0 ≡ f (get_or l i 0)
get_d_map_in f [] i h = absurd (omega arith)
get_d_map_in f (x ∷ l) zero h = refl
get_d_map_in f (x ∷ l) (suc i) h = get_d_map_in f l i (omega arith)

-- equal lists that fall into parts of equal lengths
pub append_inj : (xs ys zs ws : List ℕ) → length xs ≡ length ys → xs ++ zs ≡ ys ++ ws → (xs ≡ ys) × (zs ≡ ws)
append_inj xs ys zs ws l e = (
  sym (take_at xs zs (length ys) l) ∙ ap (take (length ys)) e ∙ take_at ys ws (length ys) refl,
  sym (drop_at xs zs (length ys) l) ∙ ap (drop (length ys)) e ∙ drop_at ys ws (length ys) refl,
)

-- ---- the test of equality
pub same_eq : (xs ys : List ℕ) → same xs ys ≡ true → xs ≡ ys
same_eq [] [] e = refl
same_eq [] (y ∷ ys) e = absurd (subst T (sym e) tt)
same_eq (x ∷ xs) [] e = absurd (subst T (sym e) tt)
same_eq (x ∷ xs) (y ∷ ys) e =
    let b = both_true (eqb x y) (same xs ys) e in
    ap₂ {B = List ℕ} (λ (z : ℕ) (zs : List ℕ). z ∷ zs) (eqb-true x y b.0) (same_eq xs ys b.1)

same_refl : (xs : List ℕ) → same xs xs ≡ true
same_refl [] = refl
same_refl (x ∷ xs) = ap₂ ◌&&◌ (eq-eqb x x refl) (same_refl xs)

pub eq_same : (xs ys : List ℕ) → xs ≡ ys → same xs ys ≡ true
eq_same xs ys e = ap (same xs) (sym e) ∙ same_refl xs

-- ---- a test of each
pub each_append : (f : ℕ → Bool) (xs ys : List ℕ) → each f xs ≡ true → each f ys ≡ true → each f (xs ++ ys) ≡ true
each_append f [] ys p q = q
each_append f (x ∷ xs) ys p q = let b = both_true (f x) (each f xs) p in ap₂ ◌&&◌ b.0 (each_append f xs ys b.1 q)

pub each_take : (f : ℕ → Bool) (n : ℕ) (l : List ℕ) → each f l ≡ true → each f (take n l) ≡ true
each_take f zero l e = refl
each_take f (suc n) [] e = refl
each_take f (suc n) (x ∷ l) e = let b = both_true (f x) (each f l) e in ap₂ ◌&&◌ b.0 (each_take f n l b.1)

pub each_drop : (f : ℕ → Bool) (n : ℕ) (l : List ℕ) → each f l ≡ true → each f (drop n l) ≡ true
each_drop f zero l e = e
each_drop f (suc n) [] e = refl
each_drop f (suc n) (x ∷ l) e = each_drop f n l (both_true (f x) (each f l) e).1

pub each_at : (f : ℕ → Bool) (xs : List ℕ) (i : ℕ) → i < length xs → each f xs ≡ true → f (get_or xs i 0) ≡ true
each_at f [] i h e = absurd (omega arith)
each_at f (x ∷ xs) zero h e = (both_true (f x) (each f xs) e).0
each_at f (x ∷ xs) (suc i) h e = each_at f xs i (omega arith) (both_true (f x) (each f xs) e).1

pub each_all : (f : ℕ → Bool) (xs : List ℕ) → ((i : ℕ) → i < length xs → f (get_or xs i 0) ≡ true) → each f xs ≡ true
each_all f [] p = refl
each_all f (x ∷ xs) p = ap₂ ◌&&◌ (p 0 (omega arith)) (each_all f xs (λ i h. p (suc i) (omega arith)))

-- two tests that agree wherever a third holds
pub each_by : (f g h : ℕ → Bool) → ((x : ℕ) → h x ≡ true → f x ≡ true → g x ≡ true) → (xs : List ℕ) → each h xs ≡ true → each f xs ≡ true → each g xs ≡ true
each_by f g h k [] p q = refl
each_by f g h k (x ∷ xs) p q =
    let a = both_true (h x) (each h xs) p in
    let b = both_true (f x) (each f xs) q in
    ap₂ ◌&&◌ (k x a.0 b.0) (each_by f g h k xs a.1 b.1)

-- a function undone by another at each element that passes a test
pub map_back : (f g : ℕ → ℕ) (h : ℕ → Bool) → ((x : ℕ) → h x ≡ true → f (g x) ≡ x) → (xs : List ℕ) → each h xs ≡ true → map f (map g xs) ≡ xs
map_back f g h k [] p = refl
map_back f g h k (x ∷ xs) p =
    let b = both_true (h x) (each h xs) p in
    ap₂ {B = List ℕ} (λ (z : ℕ) (zs : List ℕ). z ∷ zs) (k x b.0) (map_back f g h k xs b.1)

-- what a function makes of elements that pass one test passes another
pub each_map : (f : ℕ → ℕ) (g h : ℕ → Bool) → ((x : ℕ) → h x ≡ true → g (f x) ≡ true) → (xs : List ℕ) → each h xs ≡ true → each g (map f xs) ≡ true
each_map f g h k [] p = refl
each_map f g h k (x ∷ xs) p =
    let b = both_true (h x) (each h xs) p in ap₂ ◌&&◌ (k x b.0) (each_map f g h k xs b.1)

-- ---- one word many times
pub take_filler : (k m x : ℕ) → k ≤ m → take k (replicate m x) ≡ replicate k x
take_filler zero m x h = refl
take_filler (suc k) zero x h = absurd (omega arith)
take_filler (suc k) (suc m) x h = ap (λ (l : List ℕ). x ∷ l) (take_filler k m x (omega arith))

pub drop_filler : (k m x : ℕ) → drop k (replicate m x) ≡ replicate (m - k) x
drop_filler zero m x = ap (λ (n : ℕ). replicate n x) (sym (sub-zero m))
drop_filler (suc k) zero x = ap (λ (n : ℕ). replicate n x) (sym (zero-sub (suc k)))
drop_filler (suc k) (suc m) x = drop_filler k m x ∙ ap (λ (n : ℕ). replicate n x) (sym (suc-sub-suc m k))
