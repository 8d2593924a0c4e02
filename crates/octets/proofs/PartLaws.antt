-- Laws of parts: a part of the words is a part of twice as many bytes, so that words pasted are bytes pasted.
-- Assumes nothing.
use mathlib.Core.Path.{◌≡◌, refl, sym, ap, ap₂, ◌∙◌}
use mathlib.Core.List.{List, [], ◌∷◌, ◌++◌, append-nil}
use Prim.Native.Nat.{ℕ, zero, suc, ◌+◌, ◌-◌, ◌*◌, ◌/◌, ◌%◌, ◌≤◌, min}
use native.Mathlib.Nat.{zero-add}
use native.Mathlib.Omega.{arith}
use lib.ListN.{length, take, drop, length-take, length-drop, drop_of_length-le}
use lib.Seq.{paste, take_all, take-paste}
use borrow.Rule.Slice.PartMut.{put_mid}
use Rattle.lists.proofs.Loops.{mid_paste}
use Rattle.octets.specs.Bytes.{words_of, bytes_of}
use Rattle.octets.proofs.BytesLaws.{length_words, length_bytes, words_take, words_drop}

twice : (n : ℕ) → 2 * suc n ≡ suc (suc (2 * n))
twice n = omega arith

-- ---- bytes of a part
pub bytes_append : (xs ys : List ℕ) → bytes_of (xs ++ ys) ≡ bytes_of xs ++ bytes_of ys
bytes_append [] ys = refl
bytes_append (x ∷ xs) ys = ap (λ (t : List ℕ). (x % 256) ∷ (x / 256) ∷ t) (bytes_append xs ys)

pub bytes_take : (k : ℕ) (ws : List ℕ) → bytes_of (take k ws) ≡ take (2 * k) (bytes_of ws)
bytes_take zero ws = refl
bytes_take (suc k) [] = sym (ap (λ (n : ℕ). take n (bytes_of [])) (twice k))
bytes_take (suc k) (w ∷ ws) =
    ap (λ (t : List ℕ). (w % 256) ∷ (w / 256) ∷ t) (bytes_take k ws) ∙ sym (ap (λ (n : ℕ). take n (bytes_of (w ∷ ws))) (twice k))

pub bytes_drop : (k : ℕ) (ws : List ℕ) → bytes_of (drop k ws) ≡ drop (2 * k) (bytes_of ws)
bytes_drop zero ws = refl
bytes_drop (suc k) [] = sym (ap (λ (n : ℕ). drop n (bytes_of [])) (twice k))
bytes_drop (suc k) (w ∷ ws) = bytes_drop k ws ∙ sym (ap (λ (n : ℕ). drop n (bytes_of (w ∷ ws))) (twice k))

-- words pasted are bytes pasted
pub bytes_paste : (s y : List ℕ) (a k : ℕ) → bytes_of (words_of s) ≡ s → bytes_of (paste (words_of s) a y k) ≡ paste s (2 * a) (bytes_of y) (2 * k)
bytes_paste s y a k back =
    let two : 2 * (a + k) ≡ 2 * a + 2 * k = omega arith in
    bytes_append (take a (words_of s) ++ take k y) (drop (a + k) (words_of s))
    ∙ ap₂ ◌++◌ (bytes_append (take a (words_of s)) (take k y) ∙ ap₂ ◌++◌ (bytes_take a (words_of s) ∙ ap (take (2 * a)) back) (bytes_take k y))
    (bytes_drop (a + k) (words_of s) ∙ ap₂ drop two back)

-- ---- a whole list pasted
pub paste_whole : (d s : List ℕ) (n : ℕ) → length d ≤ n → length s ≤ n → paste d 0 s n ≡ s
paste_whole d s n h k =
    ap₂ (λ (x y : List ℕ). x ++ y) (take_all n s k) (ap (λ (i : ℕ). drop i d) (zero-add n) ∙ drop_of_length-le d {i = n} h) ∙ append-nil s

-- the words of the bytes, in the front of a list that was long enough
pub converted : (b d xs : List ℕ) (n : ℕ) → xs ≡ paste d 0 (words_of b) (min (length (words_of b)) (length d)) → n ≡ length b / 2 → n ≤ length d → take n xs ≡ words_of b
converted b d xs n is e h =
    let ws = words_of b in
    let long = length_words b in
    let many : min (length ws) (length d) ≡ n = omega (arith, long) in
    ap (take n) is
    ∙ ap (λ (m : ℕ). take n (paste d 0 ws m)) many
    ∙ ap (λ (m : ℕ). take m (paste d 0 ws n)) (sym (zero-add n))
    ∙ take-paste d 0 ws n (omega arith) (omega (arith, long))
    ∙ take_all n ws (omega (arith, long))

-- k words of x from a on go back to a line of bytes
pub given_back : (s x xs ys : List ℕ) (a k m : ℕ) → bytes_of (words_of s) ≡ s → length s ≡ 2 * length x → a + k ≤ length x → m ≡ 2 * (a + k) - 2 * a → xs ≡ take k (drop a x)
    → ys ≡ paste (take m (drop (2 * a) s)) 0 (bytes_of xs) (2 * min (length xs) (length (take m (drop (2 * a) s)) / 2))
    → put_mid (2 * a) m s ys ≡ bytes_of (paste (words_of s) a (drop a x) k)
given_back s x xs ys a k m back long within em ex e =
    let t = take m (drop (2 * a) s) in
    let lt : length t ≡ 2 * k = length-take m (drop (2 * a) s) ∙ ap (min m) (length-drop (2 * a) s) ∙ omega (arith, em, long) in
    let lx : length xs ≡ k = ap length ex ∙ length-take k (drop a x) ∙ ap (min k) (length-drop a x) ∙ omega arith in
    let n : 2 * min (length xs) (length t / 2) ≡ 2 * k = omega (arith, lt, lx) in
    let lb = length_bytes xs in
    let is : ys ≡ take (2 * k) (bytes_of (drop a x)) =
    e ∙ ap (paste t 0 (bytes_of xs)) n ∙ paste_whole t (bytes_of xs) (2 * k) (omega (arith, lt)) (omega (arith, lb, lx)) ∙ ap bytes_of ex ∙ bytes_take k (drop a x) in
    let span : m ≡ 2 * a + 2 * k - 2 * a = omega (arith, em) in
    ap (λ (i : ℕ). put_mid (2 * a) i s ys) span ∙ mid_paste s (bytes_of (drop a x)) ys (2 * a) (2 * k) is ∙ sym (bytes_paste s (drop a x) a k back)

-- a part of the words, lent as bytes
pub words_part : (s : List ℕ) (a k n m : ℕ) → n ≡ 2 * a → m ≡ 2 * k → words_of (take m (drop n s)) ≡ take k (drop a (words_of s))
words_part s a k n m en em = ap₂ (λ (i j : ℕ). words_of (take j (drop i s))) en em ∙ words_take k (drop (2 * a) s) ∙ ap (take k) (words_drop a s)
