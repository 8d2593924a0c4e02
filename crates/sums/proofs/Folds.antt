-- Folding. x^380 + x^190 + x^160 + 1 is a multiple of G, so that a word counts as much as it would 19, 22 and 38 places later, all three; squared,
-- the distances double. It is linear, so that it is right where it is right at each single bit of the register.
-- Assumes nothing.
use mathlib.Core.Path.{◌≡◌, refl, sym, ap, ap₂, ◌∙◌}
use mathlib.Core.List.{List, [], ◌∷◌}
use Prim.Native.Nat.{ℕ, ◌+◌, ◌*◌, ◌^◌, ◌<◌, ◌≤◌}
use native.Mathlib.Nat.{add_comm, lt_of_lt_of_le}
use native.Mathlib.Omega.{arith}
use lib.Dec.{T, eqb, lit<}
use lib.Pow.{pow_mono, shl_lt}
use lib.Bits.{bit_xor, xor_lt, xor_comm, xor_zero_r, xor_zero_l}
use lib.ListN.{length, replicate, drop, length-replicate, length-drop}
use lib.Seq.{take_all}
use Rattle.lists.specs.Lists.{part}
use Rattle.lists.proofs.Tests.{all}
use Rattle.words.specs.Crc.{crc_of}
use Rattle.words.specs.Shifts.{quiet}
use Rattle.sums.specs.Folds.{still, Folds}
use Rattle.words.proofs.Xor.{xor_assoc, xor_back, Linear, linear_self, linear_shl, linear_xor, agree_below}
use Rattle.words.proofs.CrcLaws.{crc_fillers, crc_linear, crc_lt, crc_turn, xor_words}
use Rattle.words.proofs.Shifts.{quiet_linear}

-- ---- words that are 0
xor_zeros : (ws : List ℕ) → xor_words ws (replicate (length ws) 0) ≡ ws
xor_zeros [] = refl
xor_zeros (w ∷ ws) = ap₂ {B = List ℕ} (λ (x : ℕ) (l : List ℕ). x ∷ l) (xor_zero_r w) (xor_zeros ws)

-- a register beside the words
pub crc_split : (c d : ℕ) (ws : List ℕ) → crc_of (bit_xor c d) ws ≡ bit_xor (crc_of c ws) (still (length ws) d)
crc_split c d ws =
    ap (crc_of (bit_xor c d)) (sym (xor_zeros ws)) ∙ crc_linear c d ws (replicate (length ws) 0) (sym (length-replicate (length ws) 0))

pub crc_from : (c : ℕ) (ws : List ℕ) → crc_of c ws ≡ bit_xor (crc_of 0 ws) (still (length ws) c)
crc_from c ws = ap (λ (x : ℕ). crc_of x ws) (sym (xor_zero_l c)) ∙ crc_split 0 c ws

pub still_linear : (n : ℕ) → Linear (still n)
still_linear n = record { splits = λ a b. crc_split a b (replicate n 0) ∙ ap (λ (k : ℕ). bit_xor (still n a) (still k b)) (length-replicate n 0) }

-- ---- the relation
folds_38 : Folds 38 19 16
unfolding crc_of
folds_38 = record {
  first = lit< tt;
  second = lit< tt;
  holds =
      agree_below (still 38) (λ c. bit_xor (bit_xor (still 19 c) (still 16 c)) c) (still_linear 38)
      (linear_xor (linear_xor (still_linear 19) (still_linear 16)) linear_self) 18 tt;
}

-- what stands in both is gone
xor_mid : (x y z : ℕ) → bit_xor (bit_xor x y) (bit_xor y z) ≡ bit_xor x z
xor_mid x y z = sym (xor_assoc (bit_xor x y) y z) ∙ ap (λ (w : ℕ). bit_xor w z) (xor_back x y)

module _ {z a b : ℕ} (folds : Folds z a b) where
  abbrev both : ℕ → ℕ
  both c = bit_xor (still a c) (still b c)

  -- all three do nothing together
  pub together : (c : ℕ) → c < 2 ^ 18 → bit_xor (bit_xor (still z c) (still a c)) (still b c) ≡ c
  together c h =
      xor_assoc (still z c) (still a c) (still b c) ∙ ap (λ (x : ℕ). bit_xor x (both c)) (folds.holds c h ∙ xor_comm (both c) c) ∙ xor_back c (both c)

  -- squared
  both_twice : (c : ℕ) → both (both c) ≡ bit_xor (still (a + a) c) (still (b + b) c)
  both_twice c =
      ap₂ bit_xor
      ((still_linear a).splits (still a c) (still b c) ∙ ap₂ bit_xor (crc_fillers c a a 0) (crc_fillers c b a 0 ∙ ap (λ (n : ℕ). still n c) (add_comm b a)))
      ((still_linear b).splits (still a c) (still b c) ∙ ap₂ bit_xor (crc_fillers c a b 0) (crc_fillers c b b 0))
      ∙ xor_mid (still (a + a) c) (still (a + b) c) (still (b + b) c)

  folds_twice : Folds (z + z) (a + a) (b + b)
  folds_twice = record {
    first = omega (arith, folds.first);
    second = omega (arith, folds.second);
    holds = λ c h.
        sym (crc_fillers c z z 0) ∙ folds.holds (still z c) (crc_lt c (replicate z 0)) ∙ ap (λ (d : ℕ). bit_xor (both d) d) (folds.holds c h)
        ∙ ap (λ (d : ℕ). bit_xor d (bit_xor (both c) c)) ((linear_xor (still_linear a) (still_linear b)).splits (both c) c)
        ∙ xor_mid (both (both c)) (both c) c ∙ ap (λ (d : ℕ). bit_xor d c) (both_twice c);
  }

pub folds_152 : Folds 152 76 64
folds_152 = folds_twice (folds_twice folds_38)

pub folds_304 : Folds 304 152 128
folds_304 = folds_twice folds_152

-- ---- many bits that are 0 at one step: what they do is what three parts of sixty do together, where it is so at each bit of the register
module _ (i j k : ℕ) where
  abbrev pub far : ℕ → ℕ
  far c = bit_xor (bit_xor (c * 2 ^ i) (c * 2 ^ j)) (c * 2 ^ k)

  far_linear : Linear far
  far_linear = linear_xor (linear_xor (linear_shl i linear_self) (linear_shl j linear_self)) (linear_shl k linear_self)

  far_is : (n : ℕ) → T (all 18 (λ b. eqb (quiet 60 (far (2 ^ b))) (still n (2 ^ b)))) → (c : ℕ) → c < 2 ^ 18 → quiet 60 (far c) ≡ still n c
  far_is n =
      agree_below (λ c. quiet 60 (far c)) (still n)
      (record { splits = λ a b. ap (quiet 60) (far_linear.splits a b) ∙ (quiet_linear 60).splits (far a) (far b) }) (still_linear n) 18

  pub far_fits : (c : ℕ) → c < 2 ^ 18 → i ≤ 42 → j ≤ 42 → k ≤ 42 → far c < 2 ^ 60
  far_fits c h hi hj hk =
      let one : (m : ℕ) → m ≤ 42 → c * 2 ^ m < 2 ^ 60 = λ m hm. lt_of_lt_of_le (shl_lt 18 m h) (pow_mono {i = 18 + m} {j = 60} (omega arith)) in
      xor_lt 60 _ _ (xor_lt 60 _ _ (one i hi) (one j hj)) (one k hk)

-- 156 words of filler: what they do to a register, and what they are
pub far_fillers : (c : ℕ) → c < 2 ^ 18 → bit_xor (quiet 60 (far 35 12 3 c)) 0x314c3 ≡ crc_of c (replicate 156 0x200)
unfolding crc_of quiet
far_fillers c h = ap (λ (x : ℕ). bit_xor x 0x314c3) (far_is 35 12 3 156 tt c h) ∙ xor_comm (still 156 c) 0x314c3 ∙ sym (crc_from c (replicate 156 0x200))

-- eighteen words, by three times six from 0
pub eighteen_is : (c : ℕ) → c < 2 ^ 18 → quiet 60 (far 23 18 12 c) ≡ still 18 c
unfolding crc_of quiet
eighteen_is = far_is 23 18 12 18 tt

pub eighteen : (c a b own x : ℕ) (s : List ℕ) → c < 2 ^ 18 → length s ≡ 18 → a ≡ crc_of 0 (part 0 6 s) → b ≡ crc_of a (part 6 6 s) → own ≡ crc_of b (part 12 6 s)
    → x ≡ quiet 60 (far 23 18 12 c) → bit_xor own x ≡ crc_of c s
eighteen c a b own x s below long ea eb eo ex =
    let first = (crc_turn (crc_of 0 s) 0 a 0 6 s ea refl).1 in
    let second = (crc_turn (crc_of 0 s) a b 6 6 s eb first).1 in
    let n = length-drop 12 s in
    ap₂ bit_xor (eo ∙ ap (crc_of b) (take_all 6 (drop 12 s) (omega arith)) ∙ second) (ex ∙ eighteen_is c below ∙ ap (λ (k : ℕ). still k c) (sym long))
    ∙ sym (crc_from c s)
