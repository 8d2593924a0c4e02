-- Laws of loops over lent parts: the next turn, and the end.
-- Assumes nothing.
use mathlib.Core.Path.{◌≡◌, refl, sym, ap, ap₂, ◌∙◌}
use mathlib.Core.Bool.{Bool, true, false, ◌&&◌}
use mathlib.Core.List.{List, [], ◌∷◌, ◌++◌, map, append_assoc, append-nil}
use Prim.Native.Nat.{ℕ, suc, ◌+◌, ◌-◌, ◌<◌, ◌≤◌}
use native.Mathlib.Nat.{add-zero, add_assoc}
use native.Mathlib.Numerals.{add-one}
use native.Mathlib.Omega.{arith}
use lib.Dec.{eqb}
use lib.ListN.{length, get_or, take, drop, set, length-set, length-map, drop_of_length-le, take-append-drop}
use lib.Seq.{drop-cons, drop-drop, take-suc, take-suc-set, take_all, paste}
use borrow.Author.Tests.{eq-eqb}
use borrow.Rule.Slice.PartMut.{put_mid}
use Rattle.lists.specs.Tests.{pick}
use Rattle.lists.specs.Lists.{part, same, each}
use Rattle.lists.proofs.Lists.{get_d_map_in}
use Rattle.lists.proofs.Tests.{pick_true}

pub next_drop : (s : List ℕ) (i : ℕ) → i < length s → drop i s ≡ get_or s i 0 ∷ drop (i + 1) s
next_drop s i h = drop-cons s i 0 h ∙ ap (λ (k : ℕ). get_or s i 0 ∷ drop k s) (sym (add-one i))

and_next : (a b c : Bool) → ((a && b) && c) ≡ (a && (b && c))
and_next true b c = refl
and_next false b c = refl

and_end : (a : Bool) → (a && true) ≡ a
and_end true = refl
and_end false = refl

pub each_next : (f : ℕ → Bool) (ok : Bool) (i : ℕ) (s : List ℕ) → i < length s → ((ok && f (get_or s i 0)) && each f (drop (i + 1) s)) ≡ (ok && each f (drop i s))
each_next f ok i s h = and_next ok (f (get_or s i 0)) (each f (drop (i + 1) s)) ∙ ap (λ (l : List ℕ). ok && each f l) (sym (next_drop s i h))

pub each_end : (f : ℕ → Bool) (ok : Bool) (i : ℕ) (s : List ℕ) → length s ≤ i → ok ≡ (ok && each f (drop i s))
each_end f ok i s h = sym (ap (λ (l : List ℕ). ok && each f l) (drop_of_length-le s h) ∙ and_end ok)

-- a loop that tests each: ok says it of the first i
pub record Testing (f : ℕ → Bool) (s : List ℕ) (ok : Bool) (i : ℕ) : Type 0 where
  pub within : i ≤ length s
  pub is : (ok && each f (drop i s)) ≡ each f s

pub test_start : (f : ℕ → Bool) (s : List ℕ) → Testing f s true 0
test_start f s = record { within = omega arith; is = refl }

pub test_turn : (f : ℕ → Bool) (s : List ℕ) (ok b : Bool) (i : ℕ) → Testing f s ok i → i < length s → b ≡ f (get_or s i 0) → Testing f s (ok && b) (i + 1)
test_turn f s ok b i t h e =
    record { within = omega arith; is = ap (λ (x : Bool). (ok && x) && each f (drop (i + 1) s)) e ∙ each_next f ok i s h ∙ t.is }

-- n at once: b says it of them
each_join : (f : ℕ → Bool) (xs ys : List ℕ) → each f (xs ++ ys) ≡ (each f xs && each f ys)
each_join f [] ys = refl
each_join f (x ∷ xs) ys = ap (λ (b : Bool). f x && b) (each_join f xs ys) ∙ sym (and_next (f x) (each f xs) (each f ys))

pub test_chunk : (f : ℕ → Bool) (s : List ℕ) (ok b : Bool) (i n : ℕ) → Testing f s ok i → i + n ≤ length s → b ≡ each f (part i (i + n - i) s) → Testing f s (ok && b) (i + n)
test_chunk f s ok b i n t h e =
    let long : i + n - i ≡ n = omega arith in
    let rest = drop n (drop i s) in
    record {
      within = h;
      is =
          ap₂ (λ (x : Bool) (l : List ℕ). (ok && x) && each f l) (e ∙ ap (λ (k : ℕ). each f (part i k s)) long) (sym (drop-drop n i s))
          ∙ and_next ok (each f (part i n s)) (each f rest)
          ∙ ap (λ (x : Bool). ok && x) (sym (each_join f (part i n s) rest) ∙ ap (each f) (take-append-drop n (drop i s)))
          ∙ t.is;
    }

pub test_end : (f : ℕ → Bool) (s : List ℕ) (ok : Bool) (i : ℕ) → Testing f s ok i → length s ≤ i → ok ≡ each f s
test_end f s ok i t h = each_end f ok i s h ∙ t.is

pub same_lengths : (s t : List ℕ) → (length s ≡ length t → ⊥) → same s t ≡ false
same_lengths [] [] h = absurd (h refl)
same_lengths [] (y ∷ t) h = refl
same_lengths (x ∷ s) [] h = refl
same_lengths (x ∷ s) (y ∷ t) h = ap (λ (b : Bool). eqb x y && b) (same_lengths s t (λ e. h (ap suc e))) ∙ never (eqb x y)
  where
    never : (b : Bool) → (b && false) ≡ false
    never true = refl
    never false = refl

-- ---- words stored one after another
take_next : (ys : List ℕ) (i : ℕ) → i < length ys → take (i + 1) ys ≡ take i ys ++ (get_or ys i 0 ∷ [])
take_next ys i h = ap (λ (k : ℕ). take k ys) (add-one i) ∙ take-suc ys i 0 h

store_next : (out : List ℕ) (i v : ℕ) → i < length out → take (i + 1) (set out i v) ≡ take i out ++ (v ∷ [])
store_next out i v h = ap (λ (k : ℕ). take k (set out i v)) (add-one i) ∙ take-suc-set out i v h

pub copy_next : (i v : ℕ) (out ys : List ℕ) → i < length out → i < length ys → v ≡ get_or ys i 0
    → take i out ≡ take i ys → take (i + 1) (set out i v) ≡ take (i + 1) ys
copy_next i v out ys h k e t = store_next out i v h ∙ ap₂ (λ (l : List ℕ) (x : ℕ). l ++ (x ∷ [])) t e ∙ sym (take_next ys i k)

pub copy_end : (i : ℕ) (out ys : List ℕ) → length out ≤ i → length ys ≤ i → take i out ≡ take i ys → out ≡ ys
copy_end i out ys h k t = sym (take_all i out h) ∙ t ∙ take_all i ys k

-- a loop that fills: out, which was d, has the first i of the words ws
pub record Filling (ws d out : List ℕ) (i : ℕ) : Type 0 where
  pub is : take i out ≡ take i ws
  pub same : length out ≡ length d
  pub long : length d ≡ length ws

pub fill_start : (ws d : List ℕ) → length d ≡ length ws → Filling ws d d 0
fill_start ws d e = record { is = refl; same = refl; long = e }

pub fill_turn : (ws d out : List ℕ) (i x : ℕ) → Filling ws d out i → i < length ws → x ≡ get_or ws i 0 → Filling ws d (set out i x) (i + 1)
fill_turn ws d out i x f h e =
    record {
      is = copy_next i x out ws (omega (arith, f.same, f.long)) h e f.is;
      same = length-set out i x ∙ f.same;
      long = f.long;
    }

pub fill_end : (ws d out : List ℕ) (i : ℕ) → Filling ws d out i → length ws ≤ i → out ≡ ws
fill_end ws d out i f h = copy_end i out ws (omega (arith, f.same, f.long)) h f.is

-- what is copied only into a part that is as long: it is
pub copied : (s out x : List ℕ) → length out ≡ length s → x ≡ pick (eqb (length out) (length s)) s out → x ≡ s
copied s out x h e = e ∙ pick_true _ _ (eq-eqb _ _ h)

-- with what a function makes of the words of src
pub map_start : (g : ℕ → ℕ) (src d : List ℕ) → length d ≡ length src → Filling (map g src) d d 0
map_start g src d e = fill_start (map g src) d (e ∙ sym (length-map src g))

pub map_turn : (g : ℕ → ℕ) (src d out : List ℕ) (i x : ℕ) → Filling (map g src) d out i → i < length src → x ≡ g (get_or src i 0)
    → Filling (map g src) d (set out i x) (i + 1)
map_turn g src d out i x f h e = fill_turn (map g src) d out i x f (omega (arith, length-map src g)) (e ∙ sym (get_d_map_in g src i h))

pub map_end : (g : ℕ → ℕ) (src d out : List ℕ) (i : ℕ) → Filling (map g src) d out i → length src ≤ i → out ≡ map g src
map_end g src d out i f h = fill_end (map g src) d out i f (omega (arith, length-map src g))

pub lay_next : (at i v : ℕ) (out before ys : List ℕ) → at + i < length out → i < length ys → v ≡ get_or ys i 0
    → take (at + i) out ≡ take at before ++ take i ys → take (at + (i + 1)) (set out (at + i) v) ≡ take at before ++ take (i + 1) ys
lay_next at i v out before ys h k e t =
    ap (λ (n : ℕ). take n (set out (at + i) v)) (sym (add_assoc at i 1))
    ∙ store_next out (at + i) v h
    ∙ ap₂ (λ (l : List ℕ) (x : ℕ). l ++ (x ∷ [])) t e
    ∙ append_assoc (take at before) (take i ys) (get_or ys i 0 ∷ [])
    ∙ ap (λ (l : List ℕ). take at before ++ l) (sym (take_next ys i k))

pub lay_none : (at : ℕ) (out : List ℕ) → take (at + 0) out ≡ take at out ++ []
lay_none at out = ap (λ (n : ℕ). take n out) (add-zero at) ∙ sym (append-nil (take at out))

pub lay_end : (at i : ℕ) (out before ys : List ℕ) → i ≡ length ys → take (at + i) out ≡ take at before ++ take i ys → take (at + length ys) out ≡ take at before ++ ys
lay_end at i out before ys e t =
    ap (λ (n : ℕ). take (at + n) out) (sym e) ∙ t ∙ ap (λ (l : List ℕ). take at before ++ l) (take_all i ys (omega arith))

-- ---- a part lent from a on, k elements long, back with the first k of s
pub mid_paste : (d s ys : List ℕ) (a k : ℕ) → ys ≡ take k s → put_mid a (a + k - a) d ys ≡ paste d a s k
mid_paste d s ys a k e =
    let m : a + k - a ≡ k = omega arith in
    ap₂ (λ (x y : List ℕ). take a d ++ (x ++ y)) e (ap (λ (i : ℕ). drop i (drop a d)) m ∙ drop-drop k a d)
    ∙ sym (append_assoc (take a d) (take k s) (drop (a + k) d))
