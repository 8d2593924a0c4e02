-- The table of fixed blocks: what is not listed, which kinds fill all P words, and that the places of a kind fit into the payload.
-- Assumes nothing.
use mathlib.Core.Path.{◌≡◌, refl, sym, ap, ap₂, ◌∙◌, subst}
use mathlib.Core.Bool.{Bool, true, false, ◌&&◌, ◌||◌, not}
use mathlib.Core.List.{List, [], ◌∷◌}
use mathlib.Core.Logic.{⊎_elim}
use Prim.Native.Nat.{ℕ, ◌+◌, ◌-◌, ◌*◌, ◌%◌, ◌/◌, ◌^◌, ◌<◌, ◌≤◌}
use native.Mathlib.Nat.{mod-lt, mod-mod, lt_of_le_of_lt, le_of_lt, mul-le-mul_left, mul-lt-mul_of_pos_right}
use lib.Dec.{T, eqb, leb, lit<}
use borrow.Author.Tests.{eqb-true, ne_eqb, leb-true}
use Rattle.lists.specs.Tests.{pick}
use Rattle.lists.proofs.Tests.{all, below, agree, agree→eq, pick_false}
use Rattle.line.specs.declared.fixed.Fixed.{Fixed}
use Rattle.line.specs.Systems.{system_of, is_system}
use Rattle.line.proofs.SystemLaws.{sound}
use Rattle.line.specs.Layout.{area_length}
use Rattle.line.specs.Fixed.{Row, table, find, fixed, fixed_of, places_of, size_of, fills_all, is_variable, block_refused}

-- ---- what is not listed
-- k is in none of the rows; the first row stands innermost, as the last arm of a match has it
abbrev pub Missed : List Row → Type 0 → ℕ → Type 0
Missed [] A k = A
Missed (r ∷ rs) A k = Missed rs (A × (k ≡ r.bits → ⊥)) k

find_missed : (rs : List Row) (A : Type 0) (k : ℕ) → Missed rs A k → A × (find k rs ≡ fixed 0 0 0)
find_missed [] A k m = (m, refl)
find_missed (r ∷ rs) A k m =
    let rest = find_missed rs (A × (k ≡ r.bits → ⊥)) k m in
    (rest.0.0, pick_false r.means (find k rs) (ne_eqb k r.bits rest.0.1) ∙ rest.1)

pub unlisted : (k : ℕ) → Missed table (Unit {0}) k → find k table ≡ fixed 0 0 0
unlisted k m = (find_missed table (Unit {0}) k m).1

-- ---- a row as one number
abbrev pub packed : Fixed → ℕ
packed x = x.size + x.at270 * 65536 + x.at360 * 4294967296

abbrev pub unpacked : ℕ → Fixed
unpacked n = fixed (n % 65536) (n / 65536 % 65536) (n / 4294967296 % 65536)

abbrev same : Fixed → Fixed → Bool
same x y = eqb x.size y.size && (eqb x.at270 y.at270 && eqb x.at360 y.at360)

same_eq : (x y : Fixed) → T (same x y) → x ≡ y
same_eq x y t = go _ _ _ refl refl refl t
  where
    go : (a b c : Bool) → eqb x.size y.size ≡ a → eqb x.at270 y.at270 ≡ b → eqb x.at360 y.at360 ≡ c → T (a && (b && c)) → x ≡ y
    go false b c e f g t = absurd t
    go true false c e f g t = absurd t
    go true true false e f g t = absurd t
    go true true true e f g t =
        ap (λ (s : ℕ). fixed s x.at270 x.at360) (eqb-true _ _ e)
        ∙ ap₂ (λ (a b : ℕ). fixed y.size a b) (eqb-true _ _ f) (eqb-true _ _ g)

-- each row is found again in its number
pub unpacks : (block : ℕ) → unpacked (packed (find (block % 64) table)) ≡ find (block % 64) table
unfolding table pick
unpacks block =
    same_eq _ _ (below 64 (λ k. same (unpacked (packed (find k table))) (find k table)) tt (block % 64) (mod-lt block (lit< tt)))

-- two numbers of 16 bits have a product of 32
pub product_lt : {a b : ℕ} → a < 2 ^ 16 → b < 2 ^ 16 → a * b < 2 ^ 32
product_lt {a} {b} ha hb = lt_of_le_of_lt (mul-le-mul_left a (le_of_lt hb)) (mul-lt-mul_of_pos_right ha (lit< tt))

-- ---- the kinds are 64, so that a rule of all of them is one computed test
fixed_bits : (block : ℕ) → fixed_of block ≡ fixed_of (block % 64)
unfolding fixed_of
fixed_bits block = ap (λ (k : ℕ). find k table) (sym (mod-mod block 64))

-- a rule of sizes and places that holds of each kind holds of each block type, whatever B7 and B6 are
by_kind : (f : ℕ → ℕ → Bool) (p : ℕ) → T (all 64 (λ k. f (places_of p k) (size_of k))) → (block : ℕ) → T (f (places_of p block) (size_of block))
unfolding places_of size_of
by_kind f p t block =
    subst (λ (x : Fixed). T (f (pick (eqb p 1440) x.at270 x.at360) x.size)) (sym (fixed_bits block))
    (below 64 (λ k. f (places_of p k) (size_of k)) t (block % 64) (mod-lt block (lit< tt)))

-- the places fit into the payload, and leave two words where they do not fill it
abbrev fitting : ℕ → ℕ → ℕ → Bool
fitting p places size = leb (places * size) p && (eqb (places * size) p || leb (places * size) (p - 2))

fits_270 : (block : ℕ) → T (fitting 1440 (places_of 1440 block) (size_of block))
unfolding places_of size_of fixed_of table pick
fits_270 block = by_kind (fitting 1440) 1440 tt block

fits_360 : (block : ℕ) → T (fitting 1920 (places_of 1920 block) (size_of block))
unfolding places_of size_of fixed_of table pick
fits_360 block = by_kind (fitting 1920) 1920 tt block

-- the payload of a system is one of the two
payloads : (system : ℕ) → is_system system ≡ true → (P : ℕ → Type 0) → P 1440 → P 1920 → P (system_of system).payload
payloads system e P a b = ⊎_elim (λ z. subst P (sym z) a) (λ z. subst P (sym z) b) (sound system e).rates

-- 01's list: 37h at 270 and 38h at both rates fill all P words, whatever B6 is, and no other of the 128 block types does
abbrev pub listed : ℕ → ℕ → Bool
listed p block = (eqb (block % 64) 0x37 && eqb p 1440) || eqb (block % 64) 0x38

both : (a b : Bool) → T (a && b) → T a × T b
both true b t = (tt, t)
both false b t = absurd t

both_rates : (block : ℕ) → block < 128 → T (agree (fills_all 1440 block) (listed 1440 block) && agree (fills_all 1920 block) (listed 1920 block))
unfolding fills_all places_of size_of fixed_of table pick
both_rates block h = below 128 (λ k. agree (fills_all 1440 k) (listed 1440 k) && agree (fills_all 1920 k) (listed 1920 k)) tt block h

pub fills_listed : (system : ℕ) → is_system system ≡ true → (block : ℕ) → block < 128 → fills_all (system_of system).payload block ≡ listed (system_of system).payload block
fills_listed system known block h =
    let t = both (agree (fills_all 1440 block) (listed 1440 block)) (agree (fills_all 1920 block) (listed 1920 block)) (both_rates block h) in
    payloads system known (λ p. fills_all p block ≡ listed p block) (agree→eq _ _ t.0) (agree→eq _ _ t.1)

area_by : (p q : ℕ) (f e l m : Bool) → leb q p ≡ l → leb q (p - 2) ≡ m → T (l && (e || m)) → (f && e) ≡ false → q ≤ pick f (p - 2) p
unfolding pick
area_by p q f e false m x y z r = absurd z
area_by p q false e true m x y z r = leb-true q p x
area_by p q true true true m x y z r = absurd (subst T r tt)
area_by p q true false true false x y z r = absurd z
area_by p q true false true true x y z r = leb-true q (p - 2) y

refused_not : (v a b r : Bool) → v ≡ false → (not v && (a || (b || r))) ≡ false → r ≡ false
refused_not true a b r e x = absurd (subst T e tt)
refused_not false true b r e x = absurd (subst T x tt)
refused_not false false true r e x = absurd (subst T x tt)
refused_not false false false r e x = x

-- the places of a block type that 12 lets pass lie in the area, whatever the flag
pub places_in_area : (system : ℕ) → is_system system ≡ true → (block flag : ℕ) → is_variable block ≡ false → block_refused (system_of system).payload block flag ≡ false
    → places_of (system_of system).payload block * size_of block ≤ area_length (system_of system).payload flag
unfolding area_length block_refused fills_all
places_in_area system known block flag fixed pass =
    let p = (system_of system).payload in
    let q = places_of p block * size_of block in
    let fit : T (fitting p (places_of p block) (size_of block)) = payloads system known (λ p. T (fitting p (places_of p block) (size_of block))) (fits_270 block) (fits_360 block) in
    area_by p q (eqb flag 1) (eqb q p) (leb q p) (leb q (p - 2)) refl refl fit
    (refused_not (is_variable block) (leb 128 block) (eqb (places_of p block) 0) (eqb flag 1 && eqb q p) fixed pass)

-- a kind that has places has a size
abbrev sized : Fixed → Bool
sized x = not (eqb x.size 0) || (eqb x.at270 0 && eqb x.at360 0)

all_sized : (block : ℕ) → T (sized (fixed_of block))
unfolding fixed_of table pick
all_sized block = below 64 (λ k. sized (find k table)) tt (block % 64) (mod-lt block (lit< tt))

sized_by : (p z a b : Bool) → T (not z || (a && b)) → pick p a b ≡ false → z ≡ false
unfolding pick
sized_by p false a b t e = refl
sized_by true true true b t e = absurd (subst T e tt)
sized_by true true false b t e = absurd t
sized_by false true true true t e = absurd (subst T e tt)
sized_by false true true false t e = absurd t
sized_by false true false b t e = absurd t

pick_eqb : (c : Bool) (a b : ℕ) → eqb (pick c a b) 0 ≡ pick c (eqb a 0) (eqb b 0)
unfolding pick
pick_eqb true a b = refl
pick_eqb false a b = refl

pub size_some : (p block : ℕ) → eqb (places_of p block) 0 ≡ false → eqb (size_of block) 0 ≡ false
unfolding places_of size_of
size_some p block e = sized_by (eqb p 1440) _ _ _ (all_sized block) (sym (pick_eqb (eqb p 1440) (fixed_of block).at270 (fixed_of block).at360) ∙ e)
