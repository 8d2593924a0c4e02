-- What a word, a walk and a walk over places keep: a possible phase, the room's length; and how many words they take.
-- Assumes nothing.
use mathlib.Core.Path.{◌≡◌, refl, sym, ap, ◌∙◌, subst}
use mathlib.Core.Bool.{Bool, true, false, ◌&&◌, ◌||◌, not}
use mathlib.Core.List.{List, [], ◌∷◌, map}
use Prim.Native.Nat.{ℕ, zero, suc, ◌+◌, ◌-◌, ◌*◌, ◌≤◌, ◌<◌}
use native.Mathlib.Nat.{zero-mul, one-mul, suc-mul, mul-le-mul_right}
use native.Mathlib.Omega.{arith}
use lib.Dec.{T, eqb, leb, ltb}
use lib.ListN.{length, take, drop, length-append, length-drop, length-map, length-set}
use lib.Seq.{length-take-le}
use borrow.Author.Tests.{le-ltb, leb-false, ltb-true, ltb-false}
use Rattle.lists.specs.Tests.{pick}
use Rattle.lists.proofs.Tests.{true_false, or_false, false_or, and_none}
use Rattle.words.specs.Modes.{value_of}
use Rattle.words.specs.Class.{class_of}
use Rattle.words.specs.declared.class.Class.{Class}
use Rattle.words.specs.declared.class.Class.TheVariants.{Byte, Other, Separator, Ending, Illegal, Null}
use Rattle.machine.specs.declared.phase.Mark.{Mark}
use Rattle.machine.specs.declared.phase.Mark.TheVariants.{Typed, Nulled}
use Rattle.machine.specs.declared.phase.Phase.{Phase}
use Rattle.machine.specs.declared.phase.Phase.TheVariants.{Idle, Kind, First, Second, Third, Fourth, Data}
use Rattle.machine.specs.declared.step.Met.{Met}
use Rattle.machine.specs.declared.step.Met.TheVariants.{Nothing, Whole, Lost}
use Rattle.machine.specs.declared.step.Step.{Step}
use Rattle.machine.specs.Phases.{misphased}
use Rattle.machine.specs.Machine.{on, dropped, idle_step, kind_step, count_step, counted, ended, end_step, value_step, data_step, step_by, step_of}
use Rattle.machine.specs.Walk.{Walk, walked_to, past, unless, is_nothing, collected_of, stored, walk_of}
use Rattle.machine.specs.Places.{places_in, met_at, place_room, walk_places}

-- ---- one word
-- what a word's step keeps: a possible phase; and a value that is kept has its place in the room
pub record Steady (room : ℕ) (p : Phase) (s : Step) : Type 0 where
  pub phased : misphased room p ≡ false → misphased room s.phase ≡ false
  pub inside : s.keeps ≡ true → collected_of p < room

-- a word that is not kept
passes : (room : ℕ) (p q : Phase) (met : Met) → misphased room q ≡ false → Steady room p (record { phase = q; met = met; keeps = false })
passes room p q met e = record { phased = λ h. e; inside = λ h. absurd (true_false (sym h)) }

idle_steady : (room : ℕ) (c : Class) → Steady room Idle (idle_step c)
idle_steady room Byte = passes room Idle _ _ refl
idle_steady room Other = passes room Idle _ _ refl
idle_steady room Separator = passes room Idle _ _ refl
idle_steady room Ending = passes room Idle _ _ refl
idle_steady room Illegal = passes room Idle _ _ refl
idle_steady room Null = passes room Idle _ _ refl

kind_steady : (room : ℕ) (c : Class) (b : ℕ) → Steady room Kind (kind_step c b)
kind_steady room Byte b = passes room Kind _ _ refl
kind_steady room Other b = passes room Kind _ _ refl
kind_steady room Separator b = passes room Kind _ _ refl
kind_steady room Ending b = passes room Kind _ _ refl
kind_steady room Illegal b = passes room Kind _ _ refl
kind_steady room Null b = passes room Kind _ _ refl

count_steady : (room : ℕ) (p : Phase) (c : Class) (next : Step) → Steady room p next → Steady room p (count_step c next)
count_steady room p Byte next e = e
count_steady room p Other next e = passes room p _ _ refl
count_steady room p Separator next e = passes room p _ _ refl
count_steady room p Ending next e = passes room p _ _ refl
count_steady room p Illegal next e = passes room p _ _ refl
count_steady room p Null next e = passes room p _ _ refl

-- a count that the room has space for, and nothing collected
counted_by : (room : ℕ) (p : Phase) (k : Mark) (n : ℕ) (b : Bool) → ltb room n ≡ b → Steady room p (pick b (dropped 3) (on (Data k n 0)))
unfolding pick
counted_by room p k n true e = passes room p _ _ refl
counted_by room p k n false e =
    passes room p _ _ (false_or e (false_or (le-ltb room 0 (omega arith)) (and_none (not (eqb n 0)) (ltb n 0) (le-ltb n 0 (omega arith)))))

end_by : (room : ℕ) (p : Phase) (k : Mark) (m : ℕ) (b : Bool) → Steady room p (pick b (ended k m) (dropped 4))
unfolding pick
end_by room p (Typed k) m true = passes room p _ _ refl
end_by room p Nulled m true = passes room p _ _ refl
end_by room p k m false = passes room p _ _ refl

-- one value more: it was no value past a met count, nor past the room with no count
more_by : (n m : ℕ) (z : Bool) → (not z && leb n m) ≡ false → (not z && ltb n (m + 1)) ≡ false
more_by n m true e = refl
more_by n m false e = let h = leb-false n m e in le-ltb n (m + 1) (omega arith)

value_inside : (room n m : ℕ) (z : Bool) → (not z && leb n m) ≡ false → (z && leb room m) ≡ false → ltb room n ≡ false → m < room
value_inside room n m true x y e = leb-false room m y
value_inside room n m false x y e = omega (arith, leb-false n m x, ltb-false room n e)

value_by : (room : ℕ) (k : Mark) (n m : ℕ) (a b v : Bool) → (not (eqb n 0) && leb n m) ≡ a → (eqb n 0 && leb room m) ≡ b
    → Steady room (Data k n m) (pick a (dropped 5) (pick b (dropped 6) (pick v (dropped 7) (record { phase = Data k n (m + 1); met = Nothing; keeps = ltb m room }))))
unfolding pick
value_by room k n m true b v x y = passes room (Data k n m) _ _ refl
value_by room k n m false true v x y = passes room (Data k n m) _ _ refl
value_by room k n m false false true x y = passes room (Data k n m) _ _ refl
value_by room k n m false false false x y =
    record {
      phased = λ e.
          let free = (or_false (ltb room n) (ltb room m || (not (eqb n 0) && ltb n m)) e).0 in
          let h = value_inside room n m (eqb n 0) x y free in
          false_or free (false_or (le-ltb room (m + 1) (omega arith)) (more_by n m (eqb n 0) x));
      inside = ltb-true m room;
    }

data_steady : (mode room : ℕ) (k : Mark) (n m : ℕ) (c : Class) → Steady room (Data k n m) (data_step mode room k n m c)
unfolding end_step value_step
data_steady mode room k n m Separator = passes room (Data k n m) _ _ refl
data_steady mode room k n m Ending = end_by room (Data k n m) k m _
data_steady mode room k n m Byte = value_by room k n m _ _ false refl refl
data_steady mode room k n m Other = value_by room k n m _ _ false refl refl
data_steady mode room k n m Illegal = value_by room k n m _ _ false refl refl
data_steady mode room k n m Null = value_by room k n m _ _ (eqb mode 8) refl refl

by_class : (mode room : ℕ) (p : Phase) (c : Class) (b : ℕ) → Steady room p (step_by mode room p c b)
unfolding counted
by_class mode room Idle c b = idle_steady room c
by_class mode room Kind c b = kind_steady room c b
by_class mode room (First k) c b = count_steady room (First k) c _ (passes room (First k) _ _ refl)
by_class mode room (Second k x) c b = count_steady room (Second k x) c _ (passes room (Second k x) _ _ refl)
by_class mode room (Third k x y) c b = count_steady room (Third k x y) c _ (passes room (Third k x y) _ _ refl)
by_class mode room (Fourth k x y z) c b = count_steady room (Fourth k x y z) c _ (counted_by room (Fourth k x y z) k _ _ refl)
by_class mode room (Data k n m) c b = data_steady mode room k n m c

pub step_steady : (mode room : ℕ) (p : Phase) (w : ℕ) → Steady room p (step_of mode room p w)
unfolding step_of
step_steady mode room p w = by_class mode room p (class_of w) _

-- ---- a walk
-- what holds where it stops and where it goes on holds of it
either : (met : Met) (stop on : Walk) (P : Walk → Type 0) → P stop → P on → P (unless met stop on)
either Nothing stop on P a b = b
either (Whole k n) stop on P a b = a
either (Lost n) stop on P a b = a

pub stored_long : (keeps : Bool) (m v : ℕ) (room : List ℕ) → length (stored keeps m v room) ≡ length room
unfolding stored pick
stored_long true m v room = length-set room m v
stored_long false m v room = refl

pub record Kept (p : Phase) (room : List ℕ) (long : ℕ) (x : Walk) : Type 0 where
  pub room_long : length x.room ≡ length room
  pub at_most : x.answer.taken ≤ long
  pub at_least : is_nothing x.answer.met ≡ false → 1 ≤ x.answer.taken
  pub phased : misphased (length room) p ≡ false → misphased (length room) x.answer.phase ≡ false

pub walk_kept : (mode : ℕ) (p : Phase) (ws room : List ℕ) → Kept p room (length ws) (walk_of mode p ws room)
unfolding walk_of
walk_kept mode p [] room = record { room_long = refl; at_most = omega arith; at_least = λ e. absurd (subst T e tt); phased = λ e. e }
walk_kept mode p (w ∷ ws) room =
    let s = step_of mode (length room) p w in
    let r = stored s.keeps (collected_of p) (value_of mode w) room in
    let same : length r ≡ length room = stored_long s.keeps (collected_of p) (value_of mode w) room in
    let x = walk_of mode s.phase ws r in
    let h = walk_kept mode s.phase ws r in
    either s.met (walked_to s.phase s.met 1 r) (past 1 x) (Kept p room (suc (length ws)))
    (record { room_long = same; at_most = omega arith; at_least = λ e. omega arith; phased = (step_steady mode (length room) p w).phased })
    (record {
      room_long = h.room_long ∙ same;
      at_most = omega (arith, h.at_most);
      at_least = λ e. omega arith;
      phased = λ e. subst (λ (k : ℕ). misphased k x.answer.phase ≡ false) same
          (h.phased (subst (λ (k : ℕ). misphased k s.phase ≡ false) (sym same) ((step_steady mode (length room) p w).phased e)));
    })

-- ---- a walk over places
pub laid_long : (met : Met) (vs room : List ℕ) → length vs ≤ length room → length (place_room met vs room) ≡ length room
laid_long Nothing vs room h = refl
laid_long (Lost n) vs room h = refl
laid_long (Whole k n) vs room h = let e = length-append vs (drop (length vs) room) in let d = length-drop (length vs) room in omega arith

-- so many whole places were taken, and the phase is as it was
pub record Along (p : Phase) (size n : ℕ) (room : List ℕ) (x : Walk) : Type 0 where
  pub count : ℕ
  pub at_most : count ≤ n
  pub at_least : is_nothing x.answer.met ≡ false → 1 ≤ count
  pub whole : x.answer.taken ≡ count * size
  pub phase : x.answer.phase ≡ p
  pub room_long : size - 1 ≤ length room → length x.room ≡ length room

pub places_along : (mode : ℕ) (p : Phase) (size n : ℕ) (ws room : List ℕ) → n * size ≤ length ws → Along p size n room (walk_places mode p (places_in size n ws) room)
unfolding walk_places
places_along mode p size zero ws room h =
    record { count = 0; at_most = omega arith; at_least = λ e. absurd (subst T e tt); whole = sym (zero-mul size); phase = refl; room_long = λ f. refl }
places_along mode p size (suc n) ws room h =
    let next = suc-mul n size in
    let x = take size ws in
    let long : length x ≡ size = length-take-le size ws (omega arith) in
    let met = met_at mode x in
    let vs = map (value_of mode) (drop 1 x) in
    let l : length vs ≡ size - 1 = length-map (drop 1 x) (value_of mode) ∙ length-drop 1 x ∙ ap (λ (k : ℕ). k - 1) long in
    let o = walk_places mode p (places_in size n (drop size ws)) room in
    let rest : n * size ≤ length (drop size ws) = rw (length-drop size ws) (omega arith) in
    let on = places_along mode p size n (drop size ws) room rest in
    either met (walked_to p met (length x) (place_room met vs room)) (past (length x) o) (Along p size (suc n) room)
    (record {
      count = 1;
      at_most = omega arith;
      at_least = λ e. omega arith;
      whole = long ∙ sym (one-mul size);
      phase = refl;
      room_long = λ f. laid_long met vs room (omega (arith, l, f));
    })
    (record {
      count = suc on.count;
      at_most = omega (arith, on.at_most);
      at_least = λ e. omega arith;
      whole = omega (arith, long, on.whole, suc-mul on.count size);
      phase = on.phase;
      room_long = on.room_long;
    })

pub places_some : (mode : ℕ) (p : Phase) (size n : ℕ) (ws room : List ℕ) → n * size ≤ length ws → 1 ≤ size
    → is_nothing (walk_places mode p (places_in size n ws) room).answer.met ≡ false → 1 ≤ (walk_places mode p (places_in size n ws) room).answer.taken
places_some mode p size n ws room fits one e =
    let a = places_along mode p size n ws room fits in
    let m : 1 * size ≤ a.count * size = mul-le-mul_right size (a.at_least e) in
    omega (arith, a.whole, m, one-mul size)
