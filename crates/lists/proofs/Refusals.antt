-- Laws of refusals: what the answer says, one refusal after another, and of lists joined. Of numbers that rise, the answer is the lowest
-- whose condition holds, and 0 exactly if none does.
-- Assumes nothing.
use mathlib.Core.Path.{◌≡◌, refl, sym, ap, ap₂, ◌∙◌}
use mathlib.Core.Bool.{Bool, true, false, ◌&&◌, ◌||◌}
use mathlib.Core.Logic.{◌⊎◌, inl, inr, ⊎_elim}
use mathlib.Core.List.{List, [], ◌∷◌, ◌++◌}
use Prim.Native.Nat.{ℕ, zero, suc, ◌<◌, ◌≤◌}
use native.Mathlib.Omega.{arith}
use lib.Dec.{eqb, ltb}
use borrow.Author.Tests.{ltb-true, eq-eqb, ne_eqb}
use Rattle.lists.specs.Tests.{pick, or_next, Refusal, when, lowest_of, rising_from, rising, holds_at}
use Rattle.lists.proofs.Tests.{true_false, both_true, or_right, lt_or_le, pick_true, pick_false}

-- ---- one refusal after another
-- x is the answer
pub record LowestOf (rs : List Refusal) (x : ℕ) : Type 0 where
  pub is : x ≡ lowest_of rs

pub low_none : LowestOf [] 0
low_none = record { is = refl }

-- the first condition holds; or it doesn't, and x is the answer of those behind it
pub low_hit : (n : ℕ) {b : Bool} {rs : List Refusal} → b ≡ true → LowestOf (when n b ∷ rs) n
low_hit n {b} {rs} e = record { is = sym (pick_true n (lowest_of rs) e) }

pub low_miss : (n : ℕ) {b : Bool} {rs : List Refusal} {x : ℕ} → b ≡ false → LowestOf rs x → LowestOf (when n b ∷ rs) x
low_miss n {b} {rs} e g = record { is = g.is ∙ sym (pick_false n (lowest_of rs) e) }

-- its number where it holds, else the number that the later ones gave
pub low_step : (n : ℕ) {b d : Bool} {rs : List Refusal} {x r : ℕ} → x ≡ pick d n r → d ≡ b → LowestOf rs r → LowestOf (when n b ∷ rs) x
low_step n e f g = record { is = e ∙ ap₂ (λ (c : Bool) (y : ℕ). pick c n y) f g.is }

-- ---- nothing is refused
abbrev pub Clear : List Refusal → Type 0
Clear [] = Unit {0}
Clear (r ∷ rs) = (r.holds ≡ false) × Clear rs

pub clear_lowest : (rs : List Refusal) → Clear rs → lowest_of rs ≡ 0
clear_lowest [] k = refl
clear_lowest (r ∷ rs) k = pick_false r.number (lowest_of rs) k.0 ∙ clear_lowest rs k.1

passed : (n : ℕ) (b : Bool) (x : ℕ) → 0 < n → pick b n x ≡ 0 → (b ≡ false) × (x ≡ 0)
unfolding pick
passed n true x h e = absurd (omega arith)
passed n false x h e = (refl, e)

-- what the numbers have: the first is above n, and the others rise from it
rises : (n : ℕ) (r : Refusal) (rs : List Refusal) → rising_from n (r ∷ rs) ≡ true → (n < r.number) × (rising_from r.number rs ≡ true)
rises n r rs up = let b = both_true (ltb n r.number) _ up in (ltb-true n r.number b.0, b.1)

clear_from : (n : ℕ) (rs : List Refusal) → rising_from n rs ≡ true → lowest_of rs ≡ 0 → Clear rs
clear_from n [] up e = tt
clear_from n (r ∷ rs) up e =
    let u = rises n r rs up in
    let p = passed r.number r.holds (lowest_of rs) (omega (arith, u.0)) e in
    (p.0, clear_from r.number rs u.1 p.1)

pub lowest_clear : (rs : List Refusal) → rising rs ≡ true → lowest_of rs ≡ 0 → Clear rs
lowest_clear rs up e = clear_from 0 rs up e

-- ---- two lists, one behind the other
pub clear_append : (rs ss : List Refusal) → Clear rs → Clear ss → Clear (rs ++ ss)
clear_append [] ss p q = q
clear_append (r ∷ rs) ss p q = (p.0, clear_append rs ss p.1 q)

pub clear_split : (rs ss : List Refusal) → Clear (rs ++ ss) → Clear rs × Clear ss
clear_split [] ss k = (tt, k)
clear_split (r ∷ rs) ss k = let x = clear_split rs ss k.1 in ((k.0, x.0), x.1)

pub found_first : (n next : ℕ) → (n ≡ 0 → ⊥) → or_next n next ≡ n
found_first zero next h = absurd (h refl)
found_first (suc n) next h = refl

next_by : (b : Bool) (n x y : ℕ) → 0 < n → pick b n (or_next x y) ≡ or_next (pick b n x) y
unfolding pick
next_by true n x y h = sym (found_first n y (λ e. omega arith))
next_by false n x y h = refl

append_from : (n : ℕ) (rs ss : List Refusal) → rising_from n rs ≡ true → lowest_of (rs ++ ss) ≡ or_next (lowest_of rs) (lowest_of ss)
append_from n [] ss up = refl
append_from n (r ∷ rs) ss up =
    let u = rises n r rs up in
    ap (λ (x : ℕ). pick r.holds r.number x) (append_from r.number rs ss u.1) ∙ next_by r.holds r.number (lowest_of rs) (lowest_of ss) (omega (arith, u.0))

-- the second list counts only where the first gives nothing
pub lowest_append : (rs ss : List Refusal) → rising rs ≡ true → lowest_of (rs ++ ss) ≡ or_next (lowest_of rs) (lowest_of ss)
lowest_append rs ss up = append_from 0 rs ss up

pub low_append : (rs ss : List Refusal) {x y z : ℕ} → rising rs ≡ true → x ≡ or_next y z → y ≡ lowest_of rs → LowestOf ss z → LowestOf (rs ++ ss) x
low_append rs ss up e f g = record { is = e ∙ ap₂ or_next f g.is ∙ sym (lowest_append rs ss up) }

-- ---- which number is given
given_by : (n m : ℕ) (b : Bool) (x : ℕ) (c : Bool) → pick b m x ≡ n → (x ≡ n → c ≡ true) → ((eqb n m && b) || c) ≡ true
unfolding pick
given_by n m true x c e h = ap (λ (t : Bool). (t && true) || c) (eq-eqb n m (sym e))
given_by n m false x c e h = or_right (eqb n m && false) c (h e)

-- a number that is given is one whose condition holds
pub given_holds : (n : ℕ) (rs : List Refusal) → lowest_of rs ≡ n → (n ≡ 0 → ⊥) → holds_at n rs ≡ true
given_holds n [] e h = absurd (h (sym e))
given_holds n (r ∷ rs) e h = given_by n r.number r.holds (lowest_of rs) (holds_at n rs) e (λ x. given_holds n rs x h)

-- no number at or below where the numbers start
none_from : (n m : ℕ) (rs : List Refusal) → rising_from n rs ≡ true → m ≤ n → holds_at m rs ≡ false
none_from n m [] up h = refl
none_from n m (r ∷ rs) up h =
    let u = rises n r rs up in
    let other : eqb m r.number ≡ false = ne_eqb m r.number (λ e. omega (arith, u.0, e)) in
    ap₂ (λ (a b : Bool). (a && r.holds) || b) other (none_from r.number m rs u.1 (omega (arith, u.0)))

-- the answer is 0 or above where the numbers start
pub lowest_or : (n : ℕ) (rs : List Refusal) → rising_from n rs ≡ true → (lowest_of rs ≡ 0) ⊎ (n < lowest_of rs)
lowest_or n [] up = inl refl
lowest_or n (r ∷ rs) up =
    let u = rises n r rs up in
    go r.holds refl (lowest_or r.number rs u.1) u.0
  where
    go : (b : Bool) → r.holds ≡ b → (lowest_of rs ≡ 0) ⊎ (r.number < lowest_of rs) → n < r.number → (lowest_of (r ∷ rs) ≡ 0) ⊎ (n < lowest_of (r ∷ rs))
    go true e x h = inr (omega (arith, h, pick_true r.number (lowest_of rs) e))
    go false e x h = let is = pick_false r.number (lowest_of rs) e in ⊎_elim (λ z. inl (is ∙ z)) (λ l. inr (omega (arith, h, l, is))) x

-- no number below the one that is given holds
under_by : (a b c : Bool) → (b ≡ true → a ≡ false) → c ≡ false → ((a && b) || c) ≡ false
under_by true true c h k = absurd (true_false (h refl))
under_by true false c h k = k
under_by false b c h k = k

under_from : (n m : ℕ) (rs : List Refusal) → rising_from n rs ≡ true → m < lowest_of rs → holds_at m rs ≡ false
under_from n m [] up h = refl
under_from n m (r ∷ rs) up h = let u = rises n r rs up in go r.holds refl u.1 (λ k. under_from r.number m rs u.1 k)
  where
    go : (b : Bool) → r.holds ≡ b → rising_from r.number rs ≡ true → (m < lowest_of rs → holds_at m rs ≡ false) → holds_at m (r ∷ rs) ≡ false
    go true e v next =
        let low = pick_true r.number (lowest_of rs) e in
        under_by (eqb m r.number) r.holds _ (λ z. ne_eqb m r.number (λ x. omega (arith, h, low, x))) (none_from r.number m rs v (omega (arith, h, low)))
    go false e v next =
        under_by (eqb m r.number) r.holds _ (λ z. absurd (true_false (sym z ∙ e))) (next (omega (arith, h, pick_false r.number (lowest_of rs) e)))

-- where none is given, no condition holds
none_holds : (m : ℕ) (rs : List Refusal) → Clear rs → holds_at m rs ≡ false
none_holds m [] k = refl
none_holds m (r ∷ rs) k = under_by (eqb m r.number) r.holds _ (λ z. absurd (true_false (sym z ∙ k.0))) (none_holds m rs k.1)

-- ---- the law: the answer is the lowest number whose condition holds, and 0 exactly if none does
pub record Answers (rs : List Refusal) (n : ℕ) : Type 0 where
  pub holds : (n ≡ 0 → ⊥) → holds_at n rs ≡ true
  pub lowest : (m : ℕ) → m < n → holds_at m rs ≡ false
  pub none : n ≡ 0 → (m : ℕ) → holds_at m rs ≡ false

pub answers : (rs : List Refusal) → rising rs ≡ true → Answers rs (lowest_of rs)
answers rs up = record {
  holds = given_holds (lowest_of rs) rs refl;
  lowest = λ m h. under_from 0 m rs up h;
  none = λ e m. none_holds m rs (lowest_clear rs up e);
}

-- and no other number is
not_under : (rs : List Refusal) (n m : ℕ) → Answers rs n → Answers rs m → m < n → ⊥
not_under rs n zero a b h = true_false (sym (a.holds (λ z. omega arith)) ∙ b.none refl n)
not_under rs n (suc m) a b h = true_false (sym (b.holds (λ z. omega arith)) ∙ a.lowest (suc m) h)

pub answers_only : (rs : List Refusal) → rising rs ≡ true → (n : ℕ) → Answers rs n → lowest_of rs ≡ n
answers_only rs up n a =
    let b = answers rs up in
    ⊎_elim (λ l. absurd (not_under rs n (lowest_of rs) a b l)) (λ l. ⊎_elim (λ k. absurd (not_under rs (lowest_of rs) n b a k)) (λ k. omega arith) (lt_or_le n (lowest_of rs)))
    (lt_or_le (lowest_of rs) n)
