-- Laws of words from bytes and of bytes from words: how many there are, what one is made of, that the words and the bytes come back, and that parts of bytes
-- are parts of words.
-- Assumes nothing.
use mathlib.Core.Path.{◌≡◌, refl, sym, ap, ap₂, ◌∙◌}
use mathlib.Core.List.{List, [], ◌∷◌, ◌++◌}
use Prim.Native.Nat.{ℕ, zero, suc, ◌+◌, ◌-◌, ◌*◌, ◌/◌, ◌%◌, ◌<◌, ◌≤◌}
use native.Mathlib.Nat.{zero-add}
use native.Mathlib.Omega.{arith}
use lib.ListN.{length, set, get_or, take, drop, length-drop}
use lib.Seq.{paste, paste-suc, take_all, length-take-le}
use borrow.Rule.Slice.PartMut.{put_mid}
use Rattle.octets.specs.Bytes.{words_of, bytes_of}

halves : (n : ℕ) → suc (n / 2) ≡ suc (suc n) / 2
halves n = omega arith

pub length_words : (s : List ℕ) → length (words_of s) ≡ length s / 2
length_words [] = refl
length_words (a ∷ []) = refl
length_words (a ∷ b ∷ s) = ap suc (length_words s) ∙ halves (length s)

pub word_at : (s : List ℕ) (i : ℕ) → i < length (words_of s) → get_or (words_of s) i 0 ≡ get_or s (2 * i) 0 + get_or s (2 * i + 1) 0 * 256
word_at [] i h = absurd (omega arith)
word_at (a ∷ []) i h = absurd (omega arith)
word_at (a ∷ b ∷ s) zero h = refl
word_at (a ∷ b ∷ s) (suc i) h =
    let low : suc (suc (2 * i)) ≡ 2 * suc i = omega arith in
    let high : suc (suc (2 * i + 1)) ≡ 2 * suc i + 1 = omega arith in
    word_at s i (omega arith)
    ∙ ap₂ (λ (x y : ℕ). get_or (a ∷ b ∷ s) x 0 + get_or (a ∷ b ∷ s) y 0 * 256) low high

-- ---- bytes from words
doubled : (n : ℕ) → suc (suc (2 * n)) ≡ 2 * suc n
doubled n = omega arith

pub length_bytes : (s : List ℕ) → length (bytes_of s) ≡ 2 * length s
length_bytes [] = refl
length_bytes (w ∷ s) = ap (λ (n : ℕ). suc (suc n)) (length_bytes s) ∙ doubled (length s)

pub low_at : (s : List ℕ) (i : ℕ) → i < length s → get_or (bytes_of s) (2 * i) 0 ≡ get_or s i 0 % 256
low_at [] i h = absurd (omega arith)
low_at (w ∷ s) zero h = refl
low_at (w ∷ s) (suc i) h = ap (λ (x : ℕ). get_or (bytes_of (w ∷ s)) x 0) (sym (doubled i)) ∙ low_at s i (omega arith)

pub high_at : (s : List ℕ) (i : ℕ) → i < length s → get_or (bytes_of s) (2 * i + 1) 0 ≡ get_or s i 0 / 256
high_at [] i h = absurd (omega arith)
high_at (w ∷ s) zero h = refl
high_at (w ∷ s) (suc i) h =
    let place : 2 * suc i + 1 ≡ suc (suc (2 * i + 1)) = omega arith in
    ap (λ (x : ℕ). get_or (bytes_of (w ∷ s)) x 0) place ∙ high_at s i (omega arith)

-- one value more is pasted
more : (ws d : List ℕ) (k x : ℕ) → k < length ws → k < length d → x ≡ get_or ws k 0 → set (paste d 0 ws k) k x ≡ paste d 0 ws (suc k)
more ws d k x h r e =
    ap₂ (λ (j y : ℕ). set (paste d 0 ws k) j y) (sym (zero-add k)) e ∙ paste-suc d 0 ws k 0 (rw (zero-add k) r) h

-- one word more, where both its bytes have room
pub next_two : (s d : List ℕ) (i : ℕ) → i < length s → 2 * i + 1 < length d
    → set (set (paste d 0 (bytes_of s) (2 * i)) (2 * i) (get_or s i 0 % 256)) (2 * i + 1) (get_or s i 0 / 256) ≡ paste d 0 (bytes_of s) (2 * (i + 1))
next_two s d i h r =
    let bs = bytes_of s in
    let one : 2 * i + 1 ≡ suc (2 * i) = omega arith in
    let two : suc (2 * i + 1) ≡ 2 * (i + 1) = omega arith in
    let low : 2 * i < length bs = omega (arith, length_bytes s) in
    let high : 2 * i + 1 < length bs = omega (arith, length_bytes s) in
    ap (λ (t : List ℕ). set t (2 * i + 1) (get_or s i 0 / 256))
    (more bs d (2 * i) (get_or s i 0 % 256) low (omega arith) (sym (low_at s i h)) ∙ ap (paste d 0 bs) (sym one))
    ∙ more bs d (2 * i + 1) (get_or s i 0 / 256) high r (sym (high_at s i h))
    ∙ ap (paste d 0 bs) two

-- ---- there and back
joined : (w : ℕ) → w % 256 + w / 256 * 256 ≡ w
joined w = omega arith

-- whatever the words are; below 65536 the two parts of a word are bytes
pub words_back : (s : List ℕ) → words_of (bytes_of s) ≡ s
words_back [] = refl
words_back (w ∷ s) = ap₂ (λ (x : ℕ) (t : List ℕ). x ∷ t) (joined w) (words_back s)

-- the other way, of an even number of bytes
low_of : (a b : ℕ) → a < 256 → (a + b * 256) % 256 ≡ a
low_of a b h = omega arith

high_of : (a b : ℕ) → a < 256 → (a + b * 256) / 256 ≡ b
high_of a b h = omega arith

pub bytes_back : (s : List ℕ) → length s % 2 ≡ 0 → ((i : ℕ) → get_or s i 0 < 256) → bytes_of (words_of s) ≡ s
bytes_back [] e h = refl
bytes_back (a ∷ []) e h = absurd (omega arith)
bytes_back (a ∷ b ∷ s) e h =
    let rest = bytes_back s (omega arith) (λ i. h (suc (suc i))) in
    ap₂ (λ (x : ℕ) (t : List ℕ). x ∷ t) (low_of a b (h 0)) (ap₂ (λ (x : ℕ) (t : List ℕ). x ∷ t) (high_of a b (h 0)) rest)

-- ---- parts
pub words_drop : (i : ℕ) (s : List ℕ) → words_of (drop (2 * i) s) ≡ drop i (words_of s)
words_drop zero s = refl
words_drop (suc i) [] = ap (λ (n : ℕ). words_of (drop n [])) (sym (doubled i))
words_drop (suc i) (a ∷ []) = ap (λ (n : ℕ). words_of (drop n (a ∷ []))) (sym (doubled i))
words_drop (suc i) (a ∷ b ∷ s) = ap (λ (n : ℕ). words_of (drop n (a ∷ b ∷ s))) (sym (doubled i)) ∙ words_drop i s

pub words_take : (i : ℕ) (s : List ℕ) → words_of (take (2 * i) s) ≡ take i (words_of s)
words_take zero s = refl
words_take (suc i) [] = ap (λ (n : ℕ). words_of (take n [])) (sym (doubled i))
words_take (suc i) (a ∷ []) = ap (λ (n : ℕ). words_of (take n (a ∷ []))) (sym (doubled i))
words_take (suc i) (a ∷ b ∷ s) =
    ap (λ (n : ℕ). words_of (take n (a ∷ b ∷ s))) (sym (doubled i)) ∙ ap (λ (t : List ℕ). (a + b * 256) ∷ t) (words_take i s)

-- the words from a on, to before e, as their bytes are lent
pub words_part : (a e : ℕ) (s : List ℕ) → words_of (take (2 * e - 2 * a) (drop (2 * a) s)) ≡ take (e - a) (drop a (words_of s))
words_part a e s =
    let long : 2 * e - 2 * a ≡ 2 * (e - a) = omega arith in
    ap (λ (n : ℕ). words_of (take n (drop (2 * a) s))) long ∙ words_take (e - a) (drop (2 * a) s) ∙ ap (take (e - a)) (words_drop a s)

-- and to the last of them
pub words_rest : (a : ℕ) (s : List ℕ) → words_of (take (length s - 2 * a) (drop (2 * a) s)) ≡ drop a (words_of s)
words_rest a s =
    ap words_of (take_all (length s - 2 * a) (drop (2 * a) s) (rw (length-drop (2 * a) s) (omega arith))) ∙ words_drop a s

pub words_append : (k : ℕ) (s t : List ℕ) → length s ≡ 2 * k → words_of (s ++ t) ≡ words_of s ++ words_of t
words_append zero [] t e = refl
words_append zero (a ∷ s) t e = absurd (omega arith)
words_append (suc k) [] t e = absurd (omega arith)
words_append (suc k) (a ∷ []) t e = absurd (omega arith)
words_append (suc k) (a ∷ b ∷ s) t e = ap (λ (l : List ℕ). (a + b * 256) ∷ l) (words_append k s t (omega arith))

-- ---- bytes changed
-- both bytes of one word
pub words_set : (s : List ℕ) (i low high : ℕ) → i < length (words_of s) → words_of (set (set s (2 * i) low) (2 * i + 1) high) ≡ set (words_of s) i (low + high * 256)
words_set [] i low high h = absurd (omega arith)
words_set (a ∷ []) i low high h = absurd (omega arith)
words_set (a ∷ b ∷ s) zero low high h = refl
words_set (a ∷ b ∷ s) (suc i) low high h =
    let first : 2 * suc i ≡ suc (suc (2 * i)) = omega arith in
    let second : 2 * suc i + 1 ≡ suc (suc (2 * i + 1)) = omega arith in
    ap₂ (λ (x y : ℕ). words_of (set (set (a ∷ b ∷ s) x low) y high)) first second
    ∙ ap (λ (t : List ℕ). (a + b * 256) ∷ t) (words_set s i low high (omega arith))

-- the first k words
pub words_front : (k : ℕ) (s ys : List ℕ) → length ys ≡ 2 * k → words_of (ys ++ drop (2 * k) s) ≡ words_of ys ++ drop k (words_of s)
words_front k s ys e = words_append k ys (drop (2 * k) s) e ∙ ap (λ (t : List ℕ). words_of ys ++ t) (words_drop k s)

-- k words from m on
pub words_mid : (m k n : ℕ) (s ys : List ℕ) → m ≤ length (words_of s) → length ys ≡ 2 * k → n ≡ 2 * k → words_of (put_mid (2 * m) n s ys) ≡ put_mid m k (words_of s) (words_of ys)
words_mid m k n s ys fits long is =
    let first : length (take (2 * m) s) ≡ 2 * m = length-take-le (2 * m) s (omega (arith, length_words s)) in
    ap (λ (i : ℕ). words_of (take (2 * m) s ++ (ys ++ drop i (drop (2 * m) s)))) is
    ∙ words_append m (take (2 * m) s) (ys ++ drop (2 * k) (drop (2 * m) s)) first
    ∙ ap₂ (λ (x y : List ℕ). x ++ y) (words_take m s) (words_front k (drop (2 * m) s) ys long ∙ ap (λ (t : List ℕ). words_of ys ++ drop k t) (words_drop m s))
