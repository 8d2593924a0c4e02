-- A walk that is cut: it met nothing exactly where it took all that it was lent, and what is left is walked from where it stopped.
-- Assumes nothing.
use mathlib.Core.Path.{◌≡◌, refl, sym, ap, ap₂, ◌∙◌, subst}
use mathlib.Core.Bool.{true}
use mathlib.Core.List.{List, [], ◌∷◌, ◌++◌, map}
use Prim.Native.Nat.{ℕ, zero, suc, ◌+◌, ◌-◌, ◌*◌, ◌≤◌}
use native.Mathlib.Nat.{zero-mul, suc-mul}
use native.Mathlib.Omega.{arith}
use lib.Dec.{T}
use lib.ListN.{length, take, drop, length-drop}
use lib.Seq.{length-take-le, take-take, drop-drop}
use Rattle.words.specs.Modes.{value_of}
use Rattle.machine.specs.declared.phase.Phase.{Phase}
use Rattle.machine.specs.declared.step.Met.{Met}
use Rattle.machine.specs.declared.step.Met.TheVariants.{Nothing, Whole, Lost}
use Rattle.machine.specs.Machine.{step_of}
use Rattle.machine.specs.Walk.{Walk, walked_to, past, unless, is_nothing, collected_of, stored, walk_of}
use Rattle.machine.specs.Places.{places_in, met_at, place_room, walk_places}
use Rattle.machine.proofs.WalkLaws.{past_zero, on_by, join_by}

-- ---- nothing met: all was taken
-- neither by the first, so the walk went on, nor behind it
on_none : (met : Met) (p : Phase) (n : ℕ) (room : List ℕ) (on : Walk) → is_nothing (unless met (walked_to p met n room) (past n on)).answer.met ≡ true
    → (unless met (walked_to p met n room) (past n on) ≡ past n on) × (is_nothing on.answer.met ≡ true)
on_none Nothing p n room on e = (refl, e)
on_none (Whole k m) p n room on e = absurd (subst T (sym e) tt)
on_none (Lost m) p n room on e = absurd (subst T (sym e) tt)

pub walk_all : (mode : ℕ) (p : Phase) (ws room : List ℕ) → is_nothing (walk_of mode p ws room).answer.met ≡ true → (walk_of mode p ws room).answer.taken ≡ length ws
unfolding walk_of
walk_all mode p [] room e = refl
walk_all mode p (w ∷ ws) room e =
    let s = step_of mode (length room) p w in
    let r = stored s.keeps (collected_of p) (value_of mode w) room in
    let n = on_none s.met s.phase 1 r (walk_of mode s.phase ws r) e in
    ap (λ (x : Walk). x.answer.taken) n.0 ∙ (let h = walk_all mode s.phase ws r n.1 in omega arith)

-- what the place in front does to the walk: all that is asked of a place's report here
record Front (mode : ℕ) (p : Phase) (x room : List ℕ) : Type 0 where
  met : Met
  left : List ℕ
  is : (xs : List (List ℕ)) → walk_places mode p (x ∷ xs) room ≡ unless met (walked_to p met (length x) left) (past (length x) (walk_places mode p xs room))

front : (mode : ℕ) (p : Phase) (x room : List ℕ) → Front mode p x room
unfolding walk_places
front mode p x room =
    let met = met_at mode x in
    record { met = met; left = place_room met (map (value_of mode) (drop 1 x)) room; is = λ xs. refl }

pub places_all : (mode : ℕ) (p : Phase) (size n : ℕ) (ws room : List ℕ) → n * size ≤ length ws → is_nothing (walk_places mode p (places_in size n ws) room).answer.met ≡ true
    → (walk_places mode p (places_in size n ws) room).answer.taken ≡ n * size
unfolding walk_places
places_all mode p size zero ws room h e = sym (zero-mul size)
places_all mode p size (suc n) ws room h e =
    let next = suc-mul n size in
    let x = take size ws in
    let long : length x ≡ size = length-take-le size ws (omega arith) in
    let rest : n * size ≤ length (drop size ws) = rw (length-drop size ws) (omega arith) in
    let o = walk_places mode p (places_in size n (drop size ws)) room in
    let f = front mode p x room in
    let is = f.is (places_in size n (drop size ws)) in
    let k = on_none f.met p (length x) f.left o (ap (λ (y : Walk). is_nothing y.answer.met) (sym is) ∙ e) in
    let i = places_all mode p size n (drop size ws) room rest k.1 in
    ap (λ (y : Walk). y.answer.taken) (is ∙ k.0) ∙ omega (arith, i)

-- ---- walking places and then others is walking both joined
pub places_append : (mode : ℕ) (p : Phase) (xs ys : List (List ℕ)) (room : List ℕ)
    → walk_places mode p (xs ++ ys) room ≡ on_by (λ q l. walk_places mode q ys l) (walk_places mode p xs room)
unfolding walk_places
places_append mode p [] ys room = sym (past_zero (walk_places mode p ys room))
places_append mode p (x ∷ xs) ys room =
    let f = front mode p x room in
    let on : Phase → List ℕ → Walk = λ q l. walk_places mode q ys l in
    f.is (xs ++ ys)
    ∙ join_by on (length x) p f.met f.left (walk_places mode p xs room) _ (places_append mode p xs ys room)
    ∙ ap (on_by on) (sym (f.is xs))

-- ---- places in front, and those behind them
pub take_places : (size k n : ℕ) (ws : List ℕ) → k ≤ n → take k (places_in size n ws) ≡ places_in size k ws
take_places size zero n ws h = refl
take_places size (suc k) zero ws h = absurd (omega arith)
take_places size (suc k) (suc n) ws h = ap (λ (l : List (List ℕ)). take size ws ∷ l) (take_places size k n (drop size ws) (omega arith))

pub take_all_places : (size a n : ℕ) (ws : List ℕ) → n ≤ a → take a (places_in size n ws) ≡ places_in size n ws
take_all_places size zero zero ws h = refl
take_all_places size (suc a) zero ws h = refl
take_all_places size zero (suc n) ws h = absurd (omega arith)
take_all_places size (suc a) (suc n) ws h = ap (λ (l : List (List ℕ)). take size ws ∷ l) (take_all_places size a n (drop size ws) (omega arith))

pub drop_places : (size k n : ℕ) (ws : List ℕ) → drop k (places_in size n ws) ≡ places_in size (n - k) (drop (k * size) ws)
drop_places size zero n ws =
    let e : n ≡ n - 0 = omega arith in
    ap₂ (λ (i j : ℕ). places_in size i (drop j ws)) e (sym (zero-mul size))
drop_places size (suc k) zero ws =
    let e : 0 ≡ 0 - suc k = omega arith in
    ap (λ (i : ℕ). places_in size i (drop (suc k * size) ws)) e
drop_places size (suc k) (suc n) ws =
    let e : n - k ≡ suc n - suc k = omega arith in
    let m : size + k * size ≡ suc k * size = omega (arith, suc-mul k size) in
    drop_places size k n (drop size ws)
    ∙ ap (places_in size (n - k)) (drop-drop (k * size) size ws)
    ∙ ap₂ (λ (i j : ℕ). places_in size i (drop j ws)) e m

-- places that stand in front of the words are the same in any words that begin so
pub drop_take : (k n : ℕ) (l : List ℕ) → drop k (take n l) ≡ take (n - k) (drop k l)
drop_take zero n l = let e : n ≡ n - 0 = omega arith in ap (λ (j : ℕ). take j l) e
drop_take (suc k) zero l = let e : 0 ≡ 0 - suc k = omega arith in ap (λ (j : ℕ). take j (drop (suc k) l)) e
drop_take (suc k) (suc n) [] = none (suc n - suc k)
  where
    none : (j : ℕ) → [] ≡ take {A = ℕ} j []
    none zero = refl
    none (suc j) = refl
drop_take (suc k) (suc n) (x ∷ l) = drop_take k n l ∙ (let e : n - k ≡ suc n - suc k = omega arith in ap (λ (j : ℕ). take j (drop k l)) e)

pub front_places : (size n k : ℕ) (ws : List ℕ) → n * size ≤ k → places_in size n (take k ws) ≡ places_in size n ws
front_places size zero k ws h = refl
front_places size (suc n) k ws h =
    let e = suc-mul n size in
    ap₂ {C = List (List ℕ)} (λ (x l : List ℕ). x ∷ places_in size n l) (take-take size k ws (omega arith)) (drop_take size k ws)
    ∙ ap {B = List (List ℕ)} (λ (xs : List (List ℕ)). take size ws ∷ xs) (front_places size n (k - size) (drop size ws) (omega arith))
