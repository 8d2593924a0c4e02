-- Gathering: where each word is xored with those before it at the distances of a fold, the last few words hold the register of all (`held`). A word more moves
-- that window on by one, which is one step of the register.
-- Assumes nothing.
use mathlib.Core.Path.{◌≡◌, refl, sym, ap, ap₂, ◌∙◌}
use mathlib.Core.List.{List, [], ◌∷◌}
use Prim.Native.Nat.{ℕ, suc, ◌+◌, ◌-◌, ◌/◌, ◌%◌, ◌^◌, ◌<◌, ◌≤◌, suc-le-suc}
use native.Mathlib.Nat.{add_comm, add-zero}
use native.Mathlib.Numerals.{add-one}
use native.Mathlib.Omega.{arith}
use lib.Dec.{lit<}
use lib.Bits.{bit_xor, xor_lt, xor_zero_r, xor_zero_l}
use lib.ListN.{length, replicate, get_or, set, take, drop, length-drop, length-set, take-append-drop}
use lib.Seq.{take-suc, take-suc-set, take-add, take_all, take-length, length-take-le, take-set-le, drop-set-lt, drop-set-add, drop-drop, get_or-drop, get_or-set_same, get_or-set_other}
use Rattle.lists.specs.Lists.{part}
use Rattle.lists.proofs.Lists.{length_part, take_filler, drop_filler}
use Rattle.words.specs.Crc.{crc_of}
use Rattle.words.specs.Shifts.{quiet}
use Rattle.sums.specs.Folds.{still, Folds, Gathered, held, mixed}
use Rattle.words.proofs.Xor.{xor_assoc, xor_swap, xor_cross, xor_back}
use Rattle.words.proofs.CrcLaws.{crc_none, crc_append, crc_linear, crc_lt}
use Rattle.words.proofs.Shifts.{crc_packed}
use Rattle.words.specs.Shifts.{packed}
use Rattle.sums.proofs.Folds.{crc_from, still_linear, together}

-- ---- one word more, and four at once
pub one_more : (k : ℕ) (l : List ℕ) → k < length l → crc_of 0 (take (suc k) l) ≡ crc_of (crc_of 0 (take k l)) (get_or l k 0 ∷ [])
one_more k l h = ap (crc_of 0) (take-suc l k 0 h) ∙ crc_append 0 (take k l) (get_or l k 0 ∷ [])

pub two_at_once : (p q v w : ℕ) → bit_xor (crc_of p (v ∷ [])) (crc_of q (w ∷ [])) ≡ crc_of (bit_xor p q) (bit_xor v w ∷ [])
two_at_once p q v w = sym (crc_linear p q (v ∷ []) (w ∷ []) refl)

abbrev four : ℕ → ℕ → ℕ → ℕ → ℕ
four w x y z = bit_xor (bit_xor (bit_xor w x) y) z

four_at_once : (p q r t w x y z : ℕ) → four (crc_of p (w ∷ [])) (crc_of q (x ∷ [])) (crc_of r (y ∷ [])) (crc_of t (z ∷ [])) ≡ crc_of (four p q r t) (four w x y z ∷ [])
four_at_once p q r t w x y z =
    ap (λ (k : ℕ). bit_xor k (crc_of t (z ∷ [])))
    (ap (λ (k : ℕ). bit_xor k (crc_of r (y ∷ []))) (two_at_once p q w x) ∙ two_at_once (bit_xor p q) r (bit_xor w x) y)
    ∙ two_at_once (bit_xor (bit_xor p q) r) t (bit_xor (bit_xor w x) y) z

-- three words xored in twice are gone
four_back : (w x y z : ℕ) → four (four w x y z) x y z ≡ w
four_back w x y z =
    let one : (v : ℕ) → four v x y z ≡ bit_xor v (bit_xor x (bit_xor y z)) = λ v. xor_assoc (bit_xor v x) y z ∙ xor_assoc v x (bit_xor y z) in
    one (four w x y z) ∙ ap (λ (v : ℕ). bit_xor v (bit_xor x (bit_xor y z))) (one w) ∙ xor_back w (bit_xor x (bit_xor y z))

-- ---- the window moves on by a word
slide : (v k : ℕ) (l : List ℕ) → k ≤ length l → bit_xor (crc_of (crc_of 0 (take k (v ∷ l))) (get_or (v ∷ l) k 0 ∷ [])) (still k (crc_of 0 (v ∷ []))) ≡ crc_of 0 (take k l)
slide v k l h =
    let o = crc_of 0 (v ∷ []) in
    ap (λ (x : ℕ). bit_xor x (still k o))
    (sym (one_more k (v ∷ l) (suc-le-suc h)) ∙ crc_append 0 (v ∷ []) (take k l) ∙ crc_from o (take k l)
    ∙ ap (λ (n : ℕ). bit_xor (crc_of 0 (take k l)) (still n o)) (length-take-le k l h))
    ∙ xor_back (crc_of 0 (take k l)) (still k o)

module _ {z a b : ℕ} (folds : Folds z a b) where
  moved : (l : List ℕ) → z < length l → held z a b (drop 1 l) ≡ crc_of (held z a b l) (four (get_or l z 0) (get_or l a 0) (get_or l b 0) (get_or l 0 0) ∷ [])
  moved [] h = absurd (omega arith)
  moved (v ∷ l) h =
      let m = v ∷ l in
      let o = crc_of 0 (v ∷ []) in
      let fa = folds.first in
      let fb = folds.second in
      let on : ℕ → ℕ = λ k. crc_of (crc_of 0 (take k m)) (get_or m k 0 ∷ []) in
      sym (ap₂ bit_xor (ap₂ bit_xor (slide v z l (omega arith)) (slide v a l (omega arith))) (slide v b l (omega arith)))
      ∙ ap (λ (x : ℕ). bit_xor x (bit_xor (on b) (still b o))) (xor_cross (on z) (still z o) (on a) (still a o))
      ∙ xor_cross (bit_xor (on z) (on a)) (bit_xor (still z o) (still a o)) (on b) (still b o)
      ∙ ap (bit_xor (bit_xor (bit_xor (on z) (on a)) (on b))) (together folds o (crc_lt 0 (v ∷ [])))
      ∙ four_at_once (crc_of 0 (take z m)) (crc_of 0 (take a m)) (crc_of 0 (take b m)) 0 (get_or m z 0) (get_or m a 0) (get_or m b 0) v
      ∙ ap (λ (x : ℕ). crc_of x (four (get_or m z 0) (get_or m a 0) (get_or m b 0) v ∷ [])) (xor_zero_r (held z a b m))

  -- a word w is taken
  taken : (l : List ℕ) (w : ℕ) → z < length l
      → held z a b (drop 1 (set l z (four w (get_or l a 0) (get_or l b 0) (get_or l 0 0)))) ≡ crc_of (held z a b l) (w ∷ [])
  taken l w h =
      let x = four w (get_or l a 0) (get_or l b 0) (get_or l 0 0) in
      let m = set l z x in
      let fa = folds.first in
      let fb = folds.second in
      let n = length-set l z x in
      let same : (k : ℕ) → k < z → get_or m k 0 ≡ get_or l k 0 = λ k i. get_or-set_other l z k x 0 (λ e. omega arith) in
      let front : (k : ℕ) → k ≤ z → crc_of 0 (take k m) ≡ crc_of 0 (take k l) = λ k i. ap (crc_of 0) (take-set-le k l z x i) in
      moved m (omega arith)
      ∙ ap₂ (λ (r v : ℕ). crc_of r (v ∷ []))
      (ap₂ bit_xor (ap₂ bit_xor (front z (omega arith)) (front a (omega arith))) (front b (omega arith)))
      (ap₂ bit_xor (ap₂ bit_xor (ap₂ bit_xor (get_or-set_same l z x 0 h) (same a fa)) (same b fb)) (same 0 (omega arith))
      ∙ four_back w (get_or l a 0) (get_or l b 0) (get_or l 0 0))

-- ---- the loop that gathers
module _ {z a b : ℕ} (folds : Folds z a b) (s before : List ℕ) where
  pub gather_start : Gathered z a b s before before 0
  gather_start =
      let small = xor_lt 18 _ _ (xor_lt 18 _ _ (crc_lt 0 (take z before)) (crc_lt 0 (take a before))) (crc_lt 0 (take b before)) in
      record { long = refl; register = sym (crc_none (held z a b before) small); behind = refl }

  pub gather_turn : (f : List ℕ) (i : ℕ) → Gathered z a b s before f i → i < length s → length s + z ≤ length before
      → Gathered z a b s before (set f (i + z) (four (get_or s i 0) (get_or f (i + a) 0) (get_or f (i + b) 0) (get_or f i 0))) (i + 1)
  gather_turn f i g h fits =
      let w = get_or s i 0 in
      let x = four w (get_or f (i + a) 0) (get_or f (i + b) 0) (get_or f i 0) in
      let long = g.long in
      let n = length-drop i f in
      let seen : x ≡ four w (get_or (drop i f) a 0) (get_or (drop i f) b 0) (get_or (drop i f) 0 0) =
      sym (ap₂ bit_xor (ap₂ bit_xor (ap (bit_xor w) (get_or-drop i f a 0)) (get_or-drop i f b 0)) (get_or-drop i f 0 0 ∙ ap (λ (k : ℕ). get_or f k 0) (add-zero i))) in
      record {
        long = length-set f (i + z) x ∙ g.long;
        register =
            ap (held z a b) (sym (drop-drop 1 i (set f (i + z) x)) ∙ ap (drop 1) (drop-set-add i f z x ∙ ap (set (drop i f) z) seen))
            ∙ taken folds (drop i f) w (omega arith)
            ∙ ap (λ (r : ℕ). crc_of r (w ∷ [])) g.register
            ∙ sym (crc_append (held z a b before) (take i s) (w ∷ []))
            ∙ ap (crc_of (held z a b before)) (sym (ap (λ (k : ℕ). take k s) (add-one i) ∙ take-suc s i 0 h));
        behind = drop-set-lt (length s + z) f (i + z) x (omega arith) ∙ g.behind;
      }

-- ---- the loop that mixes: y has the first i words
pub record Mixing (a b : ℕ) (s f y : List ℕ) (i : ℕ) : Type 0 where
  pub long : length y ≡ length s
  pub sum : crc_of 0 (take i y) ≡ mixed a b i s f

module _ (a b : ℕ) (s f : List ℕ) where
  pub mix_start : (y : List ℕ) → length y ≡ length s → Mixing a b s f y 0
  unfolding crc_of
  mix_start y e = record { long = e; sum = refl }

  pub mix_turn : (y : List ℕ) (i : ℕ) → Mixing a b s f y i → i < length s → a + length s ≤ length f → b + length s ≤ length f
      → Mixing a b s f (set y i (four (get_or s i 0) (get_or f (a + i) 0) (get_or f (b + i) 0) (get_or f i 0))) (i + 1)
  mix_turn y i m h fa fb =
      let x = four (get_or s i 0) (get_or f (a + i) 0) (get_or f (b + i) 0) (get_or f i 0) in
      let long = m.long in
      let next : (l : List ℕ) → i < length l → crc_of 0 (take (i + 1) l) ≡ crc_of (crc_of 0 (take i l)) (get_or l i 0 ∷ []) =
      λ l e. ap (λ (j : ℕ). crc_of 0 (take j l)) (add-one i) ∙ one_more i l e in
      let later : (k : ℕ) → k + length s ≤ length f → crc_of 0 (part k (i + 1) f) ≡ crc_of (crc_of 0 (part k i f)) (get_or f (k + i) 0 ∷ []) =
      λ k e. next (drop k f) (let n = length-drop k f in omega arith) ∙ ap (λ (w : ℕ). crc_of (crc_of 0 (part k i f)) (w ∷ [])) (get_or-drop k f i 0) in
      record {
        long = length-set y i x ∙ m.long;
        sum =
            ap (crc_of 0) (ap (λ (k : ℕ). take k (set y i x)) (add-one i) ∙ take-suc-set y i x (omega arith))
            ∙ crc_append 0 (take i y) (x ∷ [])
            ∙ ap (λ (r : ℕ). crc_of r (x ∷ [])) m.sum
            ∙ sym (ap₂ bit_xor (ap₂ bit_xor (ap₂ bit_xor (next s h) (later a fa)) (later b fb)) (next f (omega arith))
            ∙ four_at_once (crc_of 0 (take i s)) (crc_of 0 (part a i f)) (crc_of 0 (part b i f)) (crc_of 0 (take i f))
            (get_or s i 0) (get_or f (a + i) 0) (get_or f (b + i) 0) (get_or f i 0));
      }

  pub mix_end : (y : List ℕ) (i : ℕ) → Mixing a b s f y i → i ≤ length s → length s ≤ i → crc_of 0 y ≡ mixed a b (length s) s f
  mix_end y i m l h =
      let all : i ≡ length s = omega arith in
      let long = m.long in
      sym (ap (crc_of 0) (take_all i y (omega arith))) ∙ m.sum ∙ ap (λ (k : ℕ). mixed a b k s f) all

-- ---- the words that are left: where f is 0 behind its window, they mixed with it are the words from the register that it holds
module _ {z a b : ℕ} (folds : Folds z a b) (f : List ℕ) where
  -- the first z + k words, cut in two ways
  ways : (k : ℕ) → z + k ≤ length f → part z k f ≡ replicate k 0 → crc_of 0 (part k z f) ≡ bit_xor (still k (crc_of 0 (take z f))) (still z (crc_of 0 (take k f)))
  ways k h e =
      let p = crc_of 0 (part k z f) in
      let q = still z (crc_of 0 (take k f)) in
      let cut : bit_xor p q ≡ still k (crc_of 0 (take z f)) =
      sym (crc_from (crc_of 0 (take k f)) (part k z f) ∙ ap (λ (n : ℕ). bit_xor p (still n (crc_of 0 (take k f)))) (length_part k z f (omega arith)))
      ∙ sym (crc_append 0 (take k f) (part k z f))
      ∙ ap (crc_of 0) (sym (take-add k z f) ∙ ap (λ (n : ℕ). take n f) (add_comm k z) ∙ take-add z k f)
      ∙ crc_append 0 (take z f) (part z k f) ∙ ap (crc_of (crc_of 0 (take z f))) e in
      sym (xor_back p q) ∙ ap (λ (x : ℕ). bit_xor x q) cut

  pub left_over : (s : List ℕ) → length s ≡ z → z + a ≤ length f → z + b ≤ length f → part z a f ≡ replicate a 0 → part z b f ≡ replicate b 0
      → mixed a b (length s) s f ≡ crc_of (held z a b f) s
  left_over s e la lb ea eb =
      let p = crc_of 0 (take z f) in
      let q = crc_of 0 (take a f) in
      let r = crc_of 0 (take b f) in
      let w = crc_of 0 s in
      ap (λ (n : ℕ). mixed a b n s f) e
      ∙ ap (λ (x : List ℕ). four (crc_of 0 x) (crc_of 0 (part a z f)) (crc_of 0 (part b z f)) p) (take_all z s (omega arith))
      ∙ ap₂ (λ (x y : ℕ). four w x y p) (ways a la ea) (ways b lb eb)
      ∙ ap (λ (x : ℕ). bit_xor x p) (xor_assoc w _ _ ∙ ap (bit_xor w) (xor_cross (still a p) (still z q) (still b p) (still z r)))
      ∙ xor_assoc w _ p
      ∙ ap (bit_xor w)
      (xor_swap (bit_xor (still a p) (still b p)) (bit_xor (still z q) (still z r)) p
      ∙ ap (λ (x : ℕ). bit_xor x (bit_xor (still z q) (still z r))) (sym (folds.holds p (crc_lt 0 (take z f))))
      ∙ sym (xor_assoc (still z p) (still z q) (still z r))
      ∙ sym ((still_linear z).splits (bit_xor p q) r ∙ ap (λ (x : ℕ). bit_xor x (still z r)) ((still_linear z).splits p q)))
      ∙ sym (crc_from (held z a b f) s ∙ ap (λ (n : ℕ). bit_xor w (still n (held z a b f))) e)

-- all but z of the words are gathered, where f, which was 0 behind its window, has become g; those z mixed with it have the CRC of all
pub folded : {z a b : ℕ} → Folds z a b → (s f g : List ℕ) → z ≤ length s → length s + z ≤ length f → drop z f ≡ replicate (length f - z) 0
    → let m = length s - z in Gathered z a b (take m s) f g (length (take m s))
    → (r : ℕ) → r ≡ mixed a b (length (part m (length s - m) s)) (part m (length s - m) s) (part m (length g - m) g) → r ≡ crc_of (held z a b f) s
folded {z} {a} {b} folds s f g short fits zeros now r e =
    let m = length s - z in
    let k : length (take m s) ≡ m = length-take-le m s (omega arith) in
    let long : length (drop m s) ≡ z = length-drop m s ∙ omega arith in
    let same = now.long in
    let n = length-drop m g in
    let fa = folds.first in
    let fb = folds.second in
    let none : (i : ℕ) → i < z → part z i (drop m g) ≡ replicate i 0 =
    λ i l.
    ap (take i)
    (drop-drop z m g ∙ ap (λ (j : ℕ). drop (j + z) g) (sym k) ∙ now.behind ∙ ap (λ (j : ℕ). drop (j + z) f) k
    ∙ ap (λ (j : ℕ). drop j f) (add_comm m z) ∙ sym (drop-drop m z f) ∙ ap (drop m) zeros ∙ drop_filler m (length f - z) 0)
    ∙ take_filler i (length f - z - m) 0 (omega arith) in
    e
    ∙ ap₂ (λ (x y : List ℕ). mixed a b (length x) x y) (take_all (length s - m) (drop m s) (omega arith)) (take_all (length g - m) (drop m g) (omega arith))
    ∙ left_over folds (drop m g) (drop m s) long (omega arith) (omega arith) (none a fa) (none b fb)
    ∙ ap (λ (r : ℕ). crc_of r (drop m s)) (ap (λ (j : ℕ). held z a b (drop j g)) (sym k) ∙ now.register ∙ ap (crc_of (held z a b f)) (take-length (take m s)))
    ∙ sym (crc_append (held z a b f) (take m s) (drop m s)) ∙ ap (crc_of (held z a b f)) (take-append-drop m s)

-- ---- the first words of f are those of the register c
two_words : (c : ℕ) → c < 2 ^ 18 → crc_of 0 (c % 1024 ∷ c / 1024 ∷ []) ≡ still 2 c
two_words c h =
    let whole : packed (c % 1024 ∷ c / 1024 ∷ []) ≡ c = omega arith in
    crc_packed 0 (c % 1024 ∷ c / 1024 ∷ []) (lit< tt) ∙ ap (quiet 20) (xor_zero_l (packed (c % 1024 ∷ c / 1024 ∷ [])) ∙ whole)
    ∙ sym (crc_packed c (0 ∷ 0 ∷ []) h ∙ ap (quiet 20) (xor_zero_r c))

pub entered : (z a b c n r : ℕ) (ws : List ℕ) → Folds (suc (suc z)) (suc (suc a)) (suc (suc b)) → c < 2 ^ 18 → z ≤ n
    → r ≡ crc_of (held (suc (suc z)) (suc (suc a)) (suc (suc b)) (c % 1024 ∷ c / 1024 ∷ replicate n 0)) ws → r ≡ crc_of c ws
entered z a b c n r ws folds h lz e =
    let fa = folds.first in
    let fb = folds.second in
    e
    ∙ ap (λ (x : ℕ). crc_of x ws)
    (ap₂ bit_xor (ap₂ bit_xor (front z lz) (front a (omega arith))) (front b (omega arith)) ∙ together folds c h)
  where
    front : (k : ℕ) → k ≤ n → crc_of 0 (c % 1024 ∷ c / 1024 ∷ take k (replicate n 0)) ≡ still (suc (suc k)) c
    front k l =
        ap (λ (r : List ℕ). crc_of 0 (c % 1024 ∷ c / 1024 ∷ r)) (take_filler k n 0 l)
        ∙ crc_append 0 (c % 1024 ∷ c / 1024 ∷ []) (replicate k 0) ∙ ap (λ (x : ℕ). crc_of x (replicate k 0)) (two_words c h)
        ∙ sym (crc_append c (0 ∷ 0 ∷ []) (replicate k 0))
