-- Laws of plain words: no run ends at one, and many are plain where no bit of what they are above the first plain one is too high.
-- Assumes nothing.
use mathlib.Core.Path.{◌≡◌, refl, sym, ap, ◌∙◌, subst}
use mathlib.Core.Bool.{Bool, true, false, ◌&&◌, ◌||◌}
use mathlib.Core.List.{List, [], ◌∷◌, ◌++◌, append-nil}
use mathlib.Core.Logic.{⊎_elim}
use Prim.Native.Nat.{ℕ, ◌+◌, ◌-◌, ◌%◌, ◌<◌, ◌≤◌}
use native.Mathlib.Omega.{arith}
use lib.Bits.{bit_or, or_lt, or_add_and, and_le_l, and_le_r}
use lib.Dec.{eqb, leb, ltb}
use lib.ListN.{length, get_or, take, drop, length-drop, take-append-drop}
use lib.Seq.{length-take-le, drop-drop}
use borrow.Author.Tests.{ltb-true, ltb-false, leb-true, le-leb, lt-leb, lt-ltb, le-ltb, eq-eqb, ne_eqb}
use Rattle.lists.specs.Tests.{pick}
use Rattle.lists.specs.Lists.{each}
use Rattle.lists.proofs.Lists.{each_drop}
use Rattle.lists.proofs.Tests.{both_true, and_true, false_or, and_none, lt_or_le, pick_true, pick_false}
use Rattle.lists.proofs.Loops.{Testing, test_turn}
use Rattle.words.specs.Class.{class_of, separator, end_code, null_word, is_code, is_null}
use Rattle.words.proofs.ClassLaws.{code_class, null_class}
use Rattle.machine.specs.Runs.{stops_by, is_from, plain_by, run_of}
use Rattle.machine.proofs.RunLaws.{run_word, run_long}

-- ---- by the mode
pub plain_eight : (mode : ℕ) (ws : List ℕ) → mode ≡ 8 → each (is_from 0x101) ws ≡ each (plain_by mode) ws
plain_eight mode ws e = ap (λ (n : ℕ). each (is_from n) ws) (sym (pick_true 0x101 0x100 (eq-eqb mode 8 e)))

pub plain_nine : (mode : ℕ) (ws : List ℕ) → (mode ≡ 8 → ⊥) → each (is_from 0x100) ws ≡ each (plain_by mode) ws
plain_nine mode ws e = ap (λ (n : ℕ). each (is_from n) ws) (sym (pick_false 0x101 0x100 (ne_eqb mode 8 e)))

-- ---- no run ends at a plain word
low_no_code : (w : ℕ) → w < 0x309 → is_code (class_of w) ≡ false
low_no_code w h = sym (code_class w) ∙ false_or (ne_eqb w separator (λ e. omega (arith, e))) (ne_eqb w end_code (λ e. omega (arith, e)))

goes_by : (b : Bool) (w : ℕ) → is_from (pick b 0x101 0x100) w ≡ true → (is_code (class_of w) || (b && is_null (class_of w))) ≡ false
unfolding pick
goes_by true w e =
    let b = both_true (leb 0x101 w) (ltb w 0x301) e in
    let h = leb-true 0x101 w b.0 in
    false_or (low_no_code w (omega (arith, ltb-true w 0x301 b.1))) (sym (null_class w) ∙ ne_eqb w null_word (λ i. omega (arith, h, i)))
goes_by false w e = let b = both_true (leb 0x100 w) (ltb w 0x300) e in false_or (low_no_code w (omega (arith, ltb-true w 0x300 b.1))) refl

plain_goes : (mode w : ℕ) → plain_by mode w ≡ true → stops_by mode w ≡ false
plain_goes mode w e = goes_by (eqb mode 8) w e

-- so a run goes on through a chunk of them
plain_through : (mode : ℕ) (xs ys : List ℕ) → each (plain_by mode) xs ≡ true → run_of mode (xs ++ ys) ≡ length xs + run_of mode ys
plain_through mode [] ys e = omega arith
plain_through mode (x ∷ xs) ys e =
    let b = both_true (plain_by mode x) (each (plain_by mode) xs) e in
    omega (arith, run_word mode x (xs ++ ys) (plain_goes mode x b.0), plain_through mode xs ys b.1)

pub plain_chunk : (mode : ℕ) (ws : List ℕ) (i n : ℕ) → i + n ≤ length ws → each (plain_by mode) (take (i + n - i) (drop i ws)) ≡ true
    → i + n + run_of mode (drop (i + n) ws) ≡ i + run_of mode (drop i ws)
plain_chunk mode ws i n h e =
    let k : i + n - i ≡ n = omega arith in
    let all = rw k at e in
    let long : length (take n (drop i ws)) ≡ n = length-take-le n (drop i ws) (rw (length-drop i ws) (omega arith)) in
    let r = ap (run_of mode) (sym (take-append-drop n (drop i ws))) ∙ plain_through mode (take n (drop i ws)) (drop n (drop i ws)) all in
    let d = ap (run_of mode) (drop-drop n i ws) in
    omega (arith, r, d, long)

-- and to the end, where the words from j on are plain and the run is known before i, which is behind them
pub plain_end : (mode : ℕ) (ws : List ℕ) (i j : ℕ) → j ≤ i → i ≤ length ws → each (plain_by mode) (drop j ws) ≡ true → i + run_of mode (drop i ws) ≡ length ws
plain_end mode ws i j h l e =
    let back : j + (i - j) ≡ i = omega arith in
    let same : drop (i - j) (drop j ws) ≡ drop i ws = drop-drop (i - j) j ws ∙ ap (λ (k : ℕ). drop k ws) back in
    let all = ap (each (plain_by mode)) (sym same) ∙ each_drop (plain_by mode) (i - j) (drop j ws) e in
    let r = ap (run_of mode) (sym (append-nil (drop i ws))) ∙ plain_through mode (drop i ws) [] all in
    omega (arith, r, run_long mode [], length-drop i ws)

-- ---- the bits of many numbers
or_below : (a b : ℕ) → (ltb a 0x200 && ltb b 0x200) ≡ ltb (bit_or a b) 0x200
or_below a b = go (ltb a 0x200) (ltb b 0x200) refl refl
  where
    go : (s t : Bool) → ltb a 0x200 ≡ s → ltb b 0x200 ≡ t → (ltb a 0x200 && ltb b 0x200) ≡ ltb (bit_or a b) 0x200
    go true true p q = and_true p q ∙ sym (lt-ltb (bit_or a b) 0x200 (or_lt 9 a b (ltb-true a 0x200 p) (ltb-true b 0x200 q)))
    go true false p q =
        and_none (ltb a 0x200) (ltb b 0x200) q ∙ sym (le-ltb (bit_or a b) 0x200 (omega (arith, ltb-false b 0x200 q, or_add_and a b, and_le_l a b)))
    go false t p q =
        ap (λ (x : Bool). x && ltb b 0x200) p ∙ sym (le-ltb (bit_or a b) 0x200 (omega (arith, ltb-false a 0x200 p, or_add_and a b, and_le_r a b)))

-- what a word is above low, which wraps, says whether it is one of those
above_from : (low w d : ℕ) → low ≤ 0x101 → (d + low) % 65536 ≡ w → d < 65536 → ltb d 0x200 ≡ is_from low w
above_from low w d small e h = go (ltb d 0x200) refl
  where
    go : (s : Bool) → ltb d 0x200 ≡ s → ltb d 0x200 ≡ is_from low w
    go true p =
        let b = ltb-true d 0x200 p in
        p ∙ sym (and_true (le-leb low w (omega (arith, b, e, small))) (lt-ltb w (low + 0x200) (omega (arith, b, e, small))))
    go false p =
        let b = ltb-false d 0x200 p in
        p ∙ sym (⊎_elim (λ k. ap (λ (x : Bool). x && ltb w (low + 0x200)) (lt-leb low w k))
        (λ k. and_none (leb low w) (ltb w (low + 0x200)) (le-ltb w (low + 0x200) (omega (arith, b, e, small, h, k)))) (lt_or_le w low))

-- ---- the loop that gathers them: the test of the bits of the first i
abbrev pub Gathered : ℕ → List ℕ → ℕ → ℕ → Type 0
Gathered low ws bits i = Testing (is_from low) ws (ltb bits 0x200) i

pub gather_turn : (low : ℕ) (ws : List ℕ) (bits w d i : ℕ) → low ≤ 0x101 → Gathered low ws bits i → i < length ws → w ≡ get_or ws i 0
    → (d + low) % 65536 ≡ w → d < 65536 → Gathered low ws (bit_or bits d) (i + 1)
gather_turn low ws bits w d i f t h is e small =
    subst (λ (x : Bool). Testing (is_from low) ws x (i + 1)) (or_below bits d)
    (test_turn (is_from low) ws (ltb bits 0x200) (ltb d 0x200) i t h (above_from low w d f e small ∙ ap (is_from low) is))
