-- Moving: the first words are xored into those at the three distances of a fold, and the words behind them have the CRC of all. A word xored in at a place adds
-- its own CRC, taken on over what stands behind that place.
-- Assumes nothing.
use mathlib.Core.Path.{◌≡◌, refl, sym, ap, ap₂, ◌∙◌}
use mathlib.Core.List.{List, [], ◌∷◌, ◌++◌}
use Prim.Native.Nat.{ℕ, zero, suc, ◌+◌, ◌-◌, ◌<◌, ◌≤◌}
use native.Mathlib.Numerals.{add-one}
use native.Mathlib.Omega.{arith}
use lib.Bits.{bit_xor, xor_zero_r, xor_zero_l}
use lib.ListN.{length, get_or, set, take, drop, length-drop, length-set, take-append-drop}
use lib.Seq.{length-take-le, take_all, take-set-le, take-take, take_at, drop-append-le, get_or-take}
use borrow.Rule.Slice.PartMut.{post_of, put_mid}
use Rattle.lists.specs.Lists.{part}
use Rattle.lists.proofs.Lists.{drop_behind}
use Rattle.words.specs.Crc.{crc_of}
use Rattle.words.proofs.Xor.{xor_assoc, xor_cancel, linear_zero}
use Rattle.words.proofs.CrcLaws.{crc_append, crc_fillers, crc_lt}
use Rattle.sums.specs.Folds.{still, Folds, Xored}
use Rattle.sums.proofs.Folds.{crc_split, crc_from, still_linear}
use Rattle.sums.proofs.Gather.{one_more, two_at_once}

-- ---- one word v is xored in at place k, with d words behind it
xored_in : (c v : ℕ) (f : List ℕ) (k d : ℕ) → suc (k + d) ≡ length f
    → crc_of c (set f k (bit_xor (get_or f k 0) v)) ≡ bit_xor (crc_of c f) (still d (crc_of 0 (v ∷ [])))
xored_in c v [] k d e = absurd (omega arith)
xored_in c v (w ∷ ws) zero d e =
    let n : length ws ≡ d = omega arith in
    crc_append c (bit_xor w v ∷ []) ws
    ∙ ap (λ (x : ℕ). crc_of x ws) (ap (λ (x : ℕ). crc_of x (bit_xor w v ∷ [])) (sym (xor_zero_r c)) ∙ sym (two_at_once c 0 w v))
    ∙ crc_split (crc_of c (w ∷ [])) (crc_of 0 (v ∷ [])) ws
    ∙ ap₂ bit_xor (sym (crc_append c (w ∷ []) ws)) (ap (λ (m : ℕ). still m (crc_of 0 (v ∷ []))) n)
xored_in c v (w ∷ ws) (suc k) d e =
    crc_append c (w ∷ []) (set ws k (bit_xor (get_or ws k 0) v))
    ∙ xored_in (crc_of c (w ∷ [])) v ws k d (omega arith)
    ∙ ap (λ (x : ℕ). bit_xor x (still d (crc_of 0 (v ∷ [])))) (sym (crc_append c (w ∷ []) ws))

-- ---- the loop
module _ (a : ℕ) (before : List ℕ) where
  pub onto_start : Xored a before before 0
  unfolding crc_of
  onto_start =
      let m = length before - (a + 0) in
      record { long = refl; front = refl; sum = sym (ap (bit_xor (crc_of 0 before)) (linear_zero (still m) (still_linear m)) ∙ xor_zero_r (crc_of 0 before)) }

  pub onto_turn : (n : ℕ) (f : List ℕ) (i : ℕ) → Xored a before f i → i < n → n ≤ a → a + n ≤ length before
      → Xored a before (set f (i + a) (bit_xor (get_or f (i + a) 0) (get_or f i 0))) (i + 1)
  onto_turn n f i x h p q =
      let long = x.long in
      let d = length before - (a + (i + 1)) in
      let o = crc_of 0 (take i before) in
      let w = get_or before i 0 in
      let same : get_or f i 0 ≡ w = sym (get_or-take a f i 0 (omega arith)) ∙ ap (λ (l : List ℕ). get_or l i 0) x.front ∙ get_or-take a before i 0 (omega arith) in
      let one : length before - (a + i) ≡ 1 + d = omega arith in
      record {
        long = length-set f (i + a) _ ∙ x.long;
        front = take-set-le a f (i + a) _ (omega arith) ∙ x.front;
        sum =
            xored_in 0 (get_or f i 0) f (i + a) d (omega arith)
            ∙ ap₂ bit_xor x.sum (ap (λ (v : ℕ). still d (crc_of 0 (v ∷ []))) same)
            ∙ xor_assoc (crc_of 0 before) (still (length before - (a + i)) o) (still d (crc_of 0 (w ∷ [])))
            ∙ ap (bit_xor (crc_of 0 before))
            (ap (λ (y : ℕ). bit_xor y (still d (crc_of 0 (w ∷ [])))) (ap (λ (m : ℕ). still m o) one ∙ sym (crc_fillers o 1 d 0))
            ∙ sym ((still_linear d).splits (still 1 o) (crc_of 0 (w ∷ [])))
            ∙ ap (still d)
            (two_at_once o 0 0 w ∙ ap₂ (λ (r v : ℕ). crc_of r (v ∷ [])) (xor_zero_r o) (xor_zero_l w)
            ∙ sym (ap (λ (j : ℕ). crc_of 0 (take j before)) (add-one i) ∙ one_more i before (omega arith))));
      }

-- ---- all three distances
module _ {z a b n : ℕ} (folds : Folds z (z - a) (z - b)) (f : List ℕ) (na : n ≤ a) (nb : n ≤ b) (az : a ≤ z) (bz : b ≤ z) (fits : z + n ≤ length f) where
  abbrev own : ℕ
  own = crc_of 0 (take n f)

  -- what the words add, k places further on
  abbrev on : ℕ → ℕ
  on k = still (length f - (k + n)) own

  three : still (length f - n) own ≡ bit_xor (bit_xor (on a) (on b)) (on z)
  three =
      let m = length f - (z + n) in
      let whole : length f - n ≡ z + m = omega arith in
      let later : (k : ℕ) → k ≤ z → still m (still (z - k) own) ≡ on k =
      λ k h. crc_fillers own (z - k) m 0 ∙ ap (λ (j : ℕ). still j own) {x = z - k + m} {y = length f - (k + n)} (omega arith) in
      ap (λ (k : ℕ). still k own) whole ∙ sym (crc_fillers own z m 0) ∙ ap (still m) (folds.holds own (crc_lt 0 (take n f)))
      ∙ (still_linear m).splits (bit_xor (still (z - a) own) (still (z - b) own)) own
      ∙ ap (λ (x : ℕ). bit_xor x (on z)) ((still_linear m).splits (still (z - a) own) (still (z - b) own) ∙ ap₂ bit_xor (later a az) (later b bz))

  step : (k : ℕ) (g h : List ℕ) → n ≤ k → length g ≡ length f → take n g ≡ take n f → Xored k g h n
      → (length h ≡ length f) × ((take n h ≡ take n f) × (crc_of 0 h ≡ bit_xor (crc_of 0 g) (on k)))
  step k g h nk long same x = (
    x.long ∙ long,
    (
      sym (take-take n k h nk) ∙ ap (take n) x.front ∙ take-take n k g nk ∙ same,
      x.sum ∙ ap (bit_xor (crc_of 0 g)) (ap₂ (λ (m : ℕ) (l : List ℕ). still (m - (k + n)) (crc_of 0 l)) long same),
    ),
  )

  pub carried : (f1 f2 f3 : List ℕ) → Xored a f f1 n → Xored b f1 f2 n → Xored z f2 f3 n → crc_of 0 (drop n f3) ≡ crc_of 0 f
  carried f1 f2 f3 x y w =
      let s1 = step a f f1 na refl refl x in
      let s2 = step b f1 f2 nb s1.0 s1.1.0 y in
      let s3 = step z f2 f3 (omega arith) s2.0 s2.1.0 w in
      let d = drop n f3 in
      xor_cancel (crc_of 0 d) (crc_of 0 f) (bit_xor (bit_xor (on a) (on b)) (on z))
      (ap (bit_xor (crc_of 0 d)) (sym three ∙ ap (λ (k : ℕ). still k own) (sym (length-drop n f3 ∙ ap (λ (k : ℕ). k - n) s3.0)))
      ∙ sym (crc_from own d) ∙ ap (λ (l : List ℕ). crc_of (crc_of 0 l) d) (sym s3.1.0)
      ∙ sym (crc_append 0 (take n f3) d) ∙ ap (crc_of 0) (take-append-drop n f3)
      ∙ s3.1.1 ∙ ap (λ (x : ℕ). bit_xor x (on z)) (s2.1.1 ∙ ap (λ (x : ℕ). bit_xor x (on b)) s1.1.1)
      ∙ ap (λ (x : ℕ). bit_xor x (on z)) (xor_assoc (crc_of 0 f) (on a) (on b)) ∙ xor_assoc (crc_of 0 f) (bit_xor (on a) (on b)) (on z))

-- ---- twice: of what stands behind the first n words the first n go on too
pub part_rest : (n m : ℕ) (y : List ℕ) → length y ≤ n + m → part n m y ≡ drop n y
part_rest n m y h = take_all m (drop n y) (omega (arith, length-drop n y))

pub behind_both : (n m k : ℕ) (y g : List ℕ) → n ≤ length y → length g ≡ n + m → part (n + n) m (put_mid n k y g) ≡ drop n g
behind_both n m k y g short long =
    let e = length-drop n g in
    ap (take m) (drop_behind (take n y) (g ++ post_of n k y) n n (length-take-le n y short) ∙ drop-append-le n g (post_of n k y) (omega arith))
    ∙ take_at (drop n g) (post_of n k y) m (omega arith)
