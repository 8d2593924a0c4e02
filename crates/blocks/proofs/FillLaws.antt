-- Laws of lent parts that are filled: the words of values, and parts filled by two writers one after the other.
-- Assumes nothing.
use mathlib.Core.Path.{◌≡◌, refl, sym, ap, ap₂, ◌∙◌}
use mathlib.Core.Logic.{⊎_elim}
use mathlib.Core.List.{List, [], ◌∷◌, ◌++◌, map, append_assoc}
use Prim.Native.Nat.{ℕ, zero, suc, ◌+◌, ◌-◌, ◌<◌, ◌≤◌, min}
use native.Mathlib.Nat.{zero-sub, sub-zero, suc-sub-suc}
use native.Mathlib.Omega.{arith}
use lib.ListN.{length, get_or, length-map, take, drop, set, length-append, length-drop, drop_of_length-le}
use lib.Seq.{length-take-le, take_all, drop_at, drop-drop}
use borrow.Rule.Slice.PartMut.{put_mid}
use borrow.Author.Tests.{eq-eqb, ne_eqb}
use Rattle.lists.proofs.Tests.{lt_or_le, pick_true, pick_false}
use Rattle.lists.proofs.Parts.{both_back, rest_of}
use Rattle.blocks.specs.Laid.{laid_on}
use Rattle.std.proofs.lemmas.List.{ext_get_or}
use Rattle.lists.proofs.Lists.{map_part, get_d_map_in}
use Rattle.words.specs.Forms.{byte_word, data_word}
use Rattle.words.specs.Modes.{word_of}

-- ---- the words of values, by the mode
map_same : (f g : ℕ → ℕ) → ((x : ℕ) → f x ≡ g x) → (l : List ℕ) → map f l ≡ map g l
map_same f g e [] = refl
map_same f g e (x ∷ l) = ap₂ {B = List ℕ} (λ (y : ℕ) (r : List ℕ). y ∷ r) (e x) (map_same f g e l)

pub values_8 : (mode : ℕ) (l : List ℕ) → mode ≡ 8 → map byte_word l ≡ map (word_of mode) l
unfolding word_of
values_8 mode l e = map_same byte_word (word_of mode) (λ x. sym (pick_true (byte_word x) (data_word x) (eq-eqb mode 8 e))) l

pub values_9 : (mode : ℕ) (l : List ℕ) → (mode ≡ 8 → ⊥) → map data_word l ≡ map (word_of mode) l
unfolding word_of
values_9 mode l e = map_same data_word (word_of mode) (λ x. sym (pick_false (byte_word x) (data_word x) (ne_eqb mode 8 e))) l

pub map_by_each : (f : ℕ → ℕ) (xs ys : List ℕ) → length ys ≡ length xs → ((k : ℕ) → k < length xs → get_or ys k 0 ≡ f (get_or xs k 0)) → ys ≡ map f xs
map_by_each f xs ys e h =
    ext_get_or 0 ys (map f xs) (e ∙ sym (length-map xs f)) (λ i k. let l : i < length xs = omega (arith, k, e) in h i l ∙ sym (get_d_map_in f xs i l))

-- ---- a part from j on, as long as m
pub part_of : (j m : ℕ) (l : List ℕ) → take (j + m - j) (drop j l) ≡ take m (drop j l)
part_of j m l = let e : j + m - j ≡ m = omega arith in ap (λ (k : ℕ). take k (drop j l)) e

pub part_whole : (d : List ℕ) (a k : ℕ) → a + k ≤ length d → length (take (a + k - a) (drop a d)) ≡ k
part_whole d a k h =
    let m : a + k - a ≡ k = omega arith in
    ap (λ (i : ℕ). length (take i (drop a d))) m ∙ length-take-le k (drop a d) (rw (length-drop a d) (omega arith))

pub part_map : (f : ℕ → ℕ) (b m : ℕ) (l : List ℕ) → map f (take (b + m - b) (drop b l)) ≡ take m (drop b (map f l))
part_map f b m l = ap (map f) (part_of b m l) ∙ map_part f b m l

-- ---- the part of a joined list, by the parts of its two lists
drop_append : (j : ℕ) (a b : List ℕ) → drop j (a ++ b) ≡ drop j a ++ drop (j - length a) b
drop_append zero a b = ap (λ (k : ℕ). a ++ drop k b) (sym (zero-sub (length a)))
drop_append (suc j) [] b = ap (λ (k : ℕ). drop k b) (sym (sub-zero (suc j)))
drop_append (suc j) (x ∷ a) b = drop_append j a b ∙ ap (λ (k : ℕ). drop j a ++ drop k b) (sym (suc-sub-suc j (length a)))

take_append : (k : ℕ) (a b : List ℕ) → take k (a ++ b) ≡ take k a ++ take (k - length a) b
take_append zero a b = ap (λ (k : ℕ). take k b) (sym (zero-sub (length a)))
take_append (suc k) [] b = ap (λ (i : ℕ). take i b) (sym (sub-zero (suc k)))
take_append (suc k) (x ∷ a) b =
    ap (λ (r : List ℕ). x ∷ r) (take_append k a b ∙ ap (λ (i : ℕ). take k a ++ take i b) (sym (suc-sub-suc k (length a))))

take_least : (k : ℕ) (l : List ℕ) → take k l ≡ take (min k (length l)) l
take_least k l =
    ⊎_elim (λ h. let e : k ≡ min k (length l) = omega arith in ap (λ (i : ℕ). take i l) e)
    (λ h. take_all k l h ∙ sym (take_all (min k (length l)) l (omega arith)))
    (lt_or_le k (length l))

drop_least : (j : ℕ) (l : List ℕ) → drop j l ≡ drop (min j (length l)) l
drop_least j l =
    ⊎_elim (λ h. let e : j ≡ min j (length l) = omega arith in ap (λ (i : ℕ). drop i l) e)
    (λ h. drop_of_length-le l {i = j} h ∙ sym (drop_of_length-le l {i = min j (length l)} (omega arith)))
    (lt_or_le j (length l))

-- k words from the j-th of a ++ b: what a gives of them, then what b gives
cut : (j k n : ℕ) (a b : List ℕ) → length a ≡ n
    → take k (drop j (a ++ b)) ≡ take (min k (n - j)) (drop (min j n) a) ++ take (k - min k (n - j)) (drop (j - n) b)
cut j k n a b e =
    ap (take k) (drop_append j a b)
    ∙ take_append k (drop j a) (drop (j - length a) b)
    ∙ ap₂ ◌++◌
    (take_least k (drop j a)
    ∙ ap₂ take (ap (min k) (length-drop j a ∙ ap (λ (i : ℕ). i - j) e)) (drop_least j a ∙ ap (λ (i : ℕ). drop (min j i) a) e))
    (let h : k - length (drop j a) ≡ k - min k (n - j) = rw (length-drop j a) (omega arith) in
    ap₂ (λ (x y : ℕ). take x (drop y b)) h (ap (λ (i : ℕ). j - i) e))

-- ---- two writers lay a ++ b from word j into d: the first fills [..m] from a, which has n words, and the second [m..] from b
pub front_long : (n j m : ℕ) (d : List ℕ) → m ≡ min (length d) (n - j) → length (take m d) ≡ m
front_long n j m d e = length-take-le m d (omega arith)

pub front_in : (j n b m : ℕ) (d : List ℕ) → m ≡ min (length d) (n - j) → b ≡ min j n → b + length (take m d) ≤ n
front_in j n b m d e h = rw (front_long n j m d e) (omega arith)

pub front_is : (j n b m : ℕ) (a d xs : List ℕ) → m ≡ min (length d) (n - j) → b ≡ min j n → xs ≡ take (length (take m d)) (drop b a) → xs ≡ take m (drop (min j n) a)
front_is j n b m a d xs e h is = is ∙ ap₂ (λ (x y : ℕ). take x (drop y a)) (front_long n j m d e) h

pub part_long : (j b m : ℕ) (d l : List ℕ) → m ≡ min (length d) (length l - j) → b ≡ min j (length l) → length (take m d) ≡ length (take (b + m - b) (drop b l))
part_long j b m d l e h =
    front_long (length l) j m d e ∙ sym (ap length (part_of b m l) ∙ length-take-le m (drop b l) (rw (length-drop b l) (omega arith)))

-- behind a and b, which have n and k words, from word j on
behind : (j n m k p q : ℕ) (d : List ℕ) → m ≡ min (length d) (n - j) → p ≡ k - (j - n) → q ≡ n + k - j → drop (m + p) d ≡ drop q d
behind j n m k p q d em ep eq =
    ⊎_elim (λ h. let e : m + p ≡ q = omega (arith, h, em, ep, eq) in ap (λ (i : ℕ). drop i d) e)
    (λ h. drop_of_length-le d {i = m + p} (omega (arith, h, em)) ∙ sym (drop_of_length-le d {i = q} (omega (arith, h, eq))))
    (lt_or_le (n - j) (length d))

module _ (j n m : ℕ) (a b d xs : List ℕ) (long : length a ≡ n) (some : m ≡ min (length d) (n - j)) (is : xs ≡ take m (drop (min j n) a)) where
  first_in : m ≤ length d
  first_in = omega arith

  first_long : length xs ≡ m
  first_long = ap length is ∙ length-take-le m (drop (min j n) a) (rw (length-drop (min j n) a) (rw long (omega arith)))

  -- what the second is lent
  second_is : take (length (xs ++ drop m d) - m) (drop m (xs ++ drop m d)) ≡ drop m d
  second_is = rest_of m (xs ++ drop m d) ∙ drop_at xs (drop m d) m first_long

  pub laid_by_two : (i : ℕ) (ys : List ℕ) → i ≡ j - n → ys ≡ laid_on (drop i b) (take (length (xs ++ drop m d) - m) (drop m (xs ++ drop m d)))
      → put_mid m (length (xs ++ drop m d) - m) (xs ++ drop m d) ys ≡ laid_on (drop j (a ++ b)) d
  unfolding laid_on
  laid_by_two i ys h e =
      let front = take (min (length d) (n - j)) (drop (min j n) a) in
      let more : length (drop m d) ≡ length d - min (length d) (n - j) = length-drop m d ∙ ap (λ (k : ℕ). length d - k) some in
      let words : take (length (drop m d)) (drop i b) ≡ take (length d - min (length d) (n - j)) (drop (j - n) b) = ap₂ (λ (x y : ℕ). take x (drop y b)) more h in
      let tail : drop (length (drop i b)) (drop m d) ≡ drop (length (drop j (a ++ b))) d =
      drop-drop (length (drop i b)) m d ∙ behind j n m (length b) (length (drop i b)) (length (drop j (a ++ b))) d some (length-drop i b ∙ ap (λ (x : ℕ). length b - x) h)
      (length-drop j (a ++ b) ∙ ap (λ (x : ℕ). x - j) (length-append a b ∙ ap (λ (x : ℕ). x + length b) long)) in
      both_back d xs m first_in first_long ys
      ∙ ap₂ ◌++◌ (is ∙ ap (λ (i : ℕ). take i (drop (min j n) a)) some)
      (e ∙ ap (λ (l : List ℕ). take (length l) (drop i b) ++ drop (length (drop i b)) l) second_is ∙ ap₂ ◌++◌ words tail)
      ∙ sym (append_assoc front _ _)
      ∙ ap (λ (l : List ℕ). l ++ drop (length (drop j (a ++ b))) d) (sym (cut j (length d) n a b long))

-- ---- six words written one by one
pub six_set : (d : List ℕ) (a b c e f g : ℕ) → length d ≡ 6 → set (set (set (set (set (set d 0 a) 1 b) 2 c) 3 e) 4 f) 5 g ≡ a ∷ b ∷ c ∷ e ∷ f ∷ g ∷ []
six_set [] a b c e f g h = absurd (omega arith)
six_set (s ∷ []) a b c e f g h = absurd (omega arith)
six_set (s ∷ t ∷ []) a b c e f g h = absurd (omega arith)
six_set (s ∷ t ∷ u ∷ []) a b c e f g h = absurd (omega arith)
six_set (s ∷ t ∷ u ∷ v ∷ []) a b c e f g h = absurd (omega arith)
six_set (s ∷ t ∷ u ∷ v ∷ x ∷ []) a b c e f g h = absurd (omega arith)
six_set (s ∷ t ∷ u ∷ v ∷ x ∷ y ∷ []) a b c e f g h = refl
six_set (s ∷ t ∷ u ∷ v ∷ x ∷ y ∷ z ∷ d) a b c e f g h = absurd (omega arith)
