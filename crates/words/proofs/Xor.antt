-- Laws of exclusive or: it is associative, and two linear functions that agree at the powers of two agree.
-- Assumes nothing.
use mathlib.Core.Path.{◌≡◌, refl, sym, ap, ap₂, ◌∙◌}
use mathlib.Core.Logic.{⊎_elim}
use Prim.Native.Nat.{ℕ, zero, suc, ◌+◌, ◌-◌, ◌*◌, ◌/◌, ◌%◌, ◌^◌, ◌<◌, ◌≤◌}
use native.Mathlib.Nat.{le_of_suc-le-suc, not-suc-le-zero, mod-lt, add-zero, zero-mul, one-mul, pow-suc}
use native.Mathlib.Omega.{arith}
use lib.Dec.{T, eqb, eqb→eq, lit<}
use lib.Arith.{bin_ind, lt-one}
use lib.Pow.{pow_pos}
use lib.Bits.{bit_xor, differ, xor_step, xor_shr, xor_mod, xor_comm, xor_self, xor_zero_r, xor_block, xor_shifted}
use Rattle.lists.proofs.Tests.{all, below, lt_or_le}

-- a binary digit is 0 or 1
pub below2 : (P : ℕ → Type 0) → P 0 → P 1 → (x : ℕ) → x < 2 → P x
below2 P p q zero h = p
below2 P p q (suc zero) h = q
below2 P p q (suc (suc x)) h = absurd (not-suc-le-zero (le_of_suc-le-suc (le_of_suc-le-suc h)))

pub odd_lt : (n : ℕ) → n % 2 < 2
odd_lt n = mod-lt n (lit< tt)

pub xor_half : (a b : ℕ) → bit_xor a b / 2 ≡ bit_xor (a / 2) (b / 2)
xor_half a b = xor_shr a b 1

pub xor_odd : (a b : ℕ) → bit_xor a b % 2 ≡ bit_xor (a % 2) (b % 2)
xor_odd a b = xor_mod a b 1

-- ---- associative: digit by digit
abbrev Assoc : ℕ → ℕ → ℕ → Type 0
Assoc x y z = differ (bit_xor x y) z ≡ differ x (bit_xor y z)

assoc_bits : (x y z : ℕ) → x < 2 → y < 2 → z < 2 → Assoc x y z
assoc_bits x y z hx hy hz =
    below2 (λ x. Assoc x y z)
    (below2 (λ y. Assoc 0 y z) refl (below2 (Assoc 0 1) refl refl z hz) y hy)
    (below2 (λ y. Assoc 1 y z) (below2 (Assoc 1 0) refl refl z hz) (below2 (Assoc 1 1) refl refl z hz) y hy)
    x hx

pub xor_assoc : (a b c : ℕ) → bit_xor (bit_xor a b) c ≡ bit_xor a (bit_xor b c)
xor_assoc a =
    bin_ind (λ (n : ℕ). (b c : ℕ) → bit_xor (bit_xor n b) c ≡ bit_xor n (bit_xor b c)) (λ b c. refl)
    (λ n ih b c.
    xor_step (bit_xor n b) c
    ∙ ap₂ (λ (x y : ℕ). bit_xor x (c / 2) * 2 + differ y (c % 2)) (xor_half n b) (xor_odd n b)
    ∙ ap₂ (λ (x y : ℕ). x * 2 + y) (ih (b / 2) (c / 2)) (assoc_bits (n % 2) (b % 2) (c % 2) (odd_lt n) (odd_lt b) (odd_lt c))
    ∙ sym (ap₂ (λ (x y : ℕ). bit_xor (n / 2) x * 2 + differ (n % 2) y) (xor_half b c) (xor_odd b c))
    ∙ sym (xor_step n (bit_xor b c)))
    a

-- the last two change places
pub xor_swap : (a b c : ℕ) → bit_xor (bit_xor a b) c ≡ bit_xor (bit_xor a c) b
xor_swap a b c = xor_assoc a b c ∙ ap (bit_xor a) (xor_comm b c) ∙ sym (xor_assoc a c b)

-- two pairs
pub xor_cross : (a b c d : ℕ) → bit_xor (bit_xor a b) (bit_xor c d) ≡ bit_xor (bit_xor a c) (bit_xor b d)
xor_cross a b c d = sym (xor_assoc (bit_xor a b) c d) ∙ ap (λ (x : ℕ). bit_xor x d) (xor_swap a b c) ∙ xor_assoc (bit_xor a c) b d

-- what is xored twice is gone
pub xor_back : (a c : ℕ) → bit_xor (bit_xor a c) c ≡ a
xor_back a c = xor_assoc a c c ∙ ap (bit_xor a) (xor_self c) ∙ xor_zero_r a

pub xor_cancel : (a b c : ℕ) → bit_xor a c ≡ bit_xor b c → a ≡ b
xor_cancel a b c e = sym (xor_back a c) ∙ ap (λ (x : ℕ). bit_xor x c) e ∙ xor_back b c

-- a digit times a number
pub xor_times : (k x y : ℕ) → x < 2 → y < 2 → bit_xor x y * k ≡ bit_xor (x * k) (y * k)
xor_times k x y hx hy =
    below2 (λ x. bit_xor x y * k ≡ bit_xor (x * k) (y * k))
    (sym (ap (λ (z : ℕ). bit_xor z (y * k)) (zero-mul k)))
    (below2 (λ y. bit_xor 1 y * k ≡ bit_xor (1 * k) (y * k))
    (sym (ap (bit_xor (1 * k)) (zero-mul k) ∙ xor_zero_r (1 * k)))
    (zero-mul k ∙ sym (xor_self (1 * k)))
    y hy)
    x hx

-- ---- linear functions
pub record Linear (f : ℕ → ℕ) : Type 0 where
  pub splits : (a b : ℕ) → f (bit_xor a b) ≡ bit_xor (f a) (f b)

pub linear_self : Linear (λ x. x)
linear_self = record { splits = λ a b. refl }

pub linear_shl : (k : ℕ) {f : ℕ → ℕ} → Linear f → Linear (λ x. f x * 2 ^ k)
linear_shl k {f} l = record {
  splits = λ a b.
      ap (λ (x : ℕ). x * 2 ^ k) (l.splits a b)
      ∙ sym (add-zero (bit_xor (f a) (f b) * 2 ^ k))
      ∙ sym (xor_block k (f a) (f b) 0 0 (pow_pos k) (pow_pos k))
      ∙ ap₂ bit_xor (add-zero (f a * 2 ^ k)) (add-zero (f b * 2 ^ k));
}

pub linear_shr : (k : ℕ) {f : ℕ → ℕ} → Linear f → Linear (λ x. f x / 2 ^ k)
linear_shr k {f} l = record { splits = λ a b. ap (λ (x : ℕ). x / 2 ^ k) (l.splits a b) ∙ xor_shr (f a) (f b) k }

pub linear_mod : (k : ℕ) {f : ℕ → ℕ} → Linear f → Linear (λ x. f x % 2 ^ k)
linear_mod k {f} l = record { splits = λ a b. ap (λ (x : ℕ). x % 2 ^ k) (l.splits a b) ∙ xor_mod (f a) (f b) k }

pub linear_xor : {f g : ℕ → ℕ} → Linear f → Linear g → Linear (λ x. bit_xor (f x) (g x))
linear_xor {f} {g} l m = record { splits = λ a b. ap₂ bit_xor (l.splits a b) (m.splits a b) ∙ xor_cross (f a) (f b) (g a) (g b) }

pub linear_zero : (f : ℕ → ℕ) → Linear f → f 0 ≡ 0
linear_zero f l = xor_cancel (f 0) 0 (f 0) (sym (l.splits 0 0))

-- the top digit and the rest
top : (n x : ℕ) → 2 ^ n ≤ x → x < 2 ^ suc n → bit_xor (2 ^ n) (x - 2 ^ n) ≡ x
top n x le lt =
    let two = pow-suc 2 n in
    ap (λ (p : ℕ). bit_xor p (x - 2 ^ n)) (sym (one-mul (2 ^ n))) ∙ xor_shifted 1 n (x - 2 ^ n) (omega arith) ∙ omega arith

-- two that agree at 1, 2, 4, .. agree
digits : (f g : ℕ → ℕ) → Linear f → Linear g → (n : ℕ) → ((i : ℕ) → i < n → f (2 ^ i) ≡ g (2 ^ i)) → (x : ℕ) → x < 2 ^ n → f x ≡ g x
digits f g l m zero at x h = ap f (lt-one h) ∙ linear_zero f l ∙ sym (ap g (lt-one h) ∙ linear_zero g m)
digits f g l m (suc n) at x h =
    ⊎_elim (λ lt. digits f g l m n (λ i k. at i (omega arith)) x lt)
    (λ le.
    let two = pow-suc 2 n in
    ap f (sym (top n x le h)) ∙ l.splits (2 ^ n) (x - 2 ^ n)
    ∙ ap₂ bit_xor (at n (omega arith)) (digits f g l m n (λ i k. at i (omega arith)) (x - 2 ^ n) (omega arith))
    ∙ sym (m.splits (2 ^ n) (x - 2 ^ n)) ∙ ap g (top n x le h))
    (lt_or_le x (2 ^ n))

-- by a test at each digit, which antt computes
pub agree_below : (f g : ℕ → ℕ) → Linear f → Linear g → (n : ℕ) → T (all n (λ i. eqb (f (2 ^ i)) (g (2 ^ i)))) → (x : ℕ) → x < 2 ^ n → f x ≡ g x
agree_below f g l m n t = digits f g l m n (λ i k. eqb→eq (f (2 ^ i)) (g (2 ^ i)) (below n (λ i. eqb (f (2 ^ i)) (g (2 ^ i))) t i k))
