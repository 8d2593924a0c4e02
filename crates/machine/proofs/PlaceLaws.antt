-- Laws of the places of a fixed line: what a place reports, and the walk from one place to the next.
-- Assumes nothing.
use mathlib.Core.Path.{◌≡◌, refl, sym, ap, ap₂, ◌∙◌, subst}
use mathlib.Core.Bool.{Bool, true, false, ◌&&◌, ◌||◌}
use mathlib.Core.List.{List, [], ◌∷◌, ◌++◌, map}
use Prim.Native.Nat.{ℕ, zero, suc, ◌+◌, ◌-◌, ◌/◌, ◌%◌, ◌≤◌, ◌<◌}
use native.Mathlib.Nat.{add-zero, div-eq-sub-div, div-eq_of_lt}
use native.Mathlib.Numerals.{add-one}
use native.Mathlib.Omega.{arith}
use lib.Dec.{T, eqb, ltb}
use lib.ListN.{length, get_or, take, drop, length-take, length-drop, length-map, drop_of_length-le}
use lib.Seq.{length-take-le, drop-drop}
use borrow.Author.Tests.{ne_eqb, eqb-false, le-ltb, ltb-false}
use Rattle.lists.specs.Tests.{pick}
use Rattle.lists.proofs.Loops.{next_drop}
use Rattle.lists.proofs.Tests.{pick_true, pick_false, or_false, false_or}
use Rattle.words.specs.Modes.{value_of}
use Rattle.words.specs.Forms.{is_byte, is_data}
use Rattle.words.specs.Class.{class_of, separator, end_code, null_word, is_null}
use Rattle.words.specs.declared.class.Class.{Class}
use Rattle.words.specs.declared.class.Class.TheVariants.{Byte, Other, Separator, Ending, Illegal, Null}
use Rattle.words.proofs.ClassLaws.{class_byte}
use Rattle.machine.specs.declared.phase.Phase.{Phase}
use Rattle.machine.specs.declared.step.Met.{Met}
use Rattle.machine.specs.declared.step.Met.TheVariants.{Nothing, Whole, Lost}
use Rattle.machine.specs.Walk.{Walk, walked_to, past, unless, is_nothing}
use Rattle.machine.specs.Places.{places_in, has_null, place_met, met_at, place_room, walk_places, walk_fixed}
use Rattle.machine.proofs.WalkLaws.{past_past, goes, stops}

-- ---- what a place reports
-- the type word is 100h
null_met : (void : Bool) (c : Class) (k n : ℕ) → is_null c ≡ true → place_met void c k n ≡ Nothing
null_met void Null k n e = refl
null_met void Byte k n e = absurd (subst T (sym e) tt)
null_met void Other k n e = absurd (subst T (sym e) tt)
null_met void Separator k n e = absurd (subst T (sym e) tt)
null_met void Ending k n e = absurd (subst T (sym e) tt)
null_met void Illegal k n e = absurd (subst T (sym e) tt)

-- another type not in byte form, whatever else it is
lost_by : (void z d s e : Bool) (k n : ℕ) → is_null (pick z Null (pick d Other (pick s Separator (pick e Ending Illegal)))) ≡ false
    → place_met void (pick z Null (pick d Other (pick s Separator (pick e Ending Illegal)))) k n ≡ Lost 2
unfolding pick
lost_by void true d s e k n h = absurd (subst T h tt)
lost_by void false true s e k n h = refl
lost_by void false false true e k n h = refl
lost_by void false false false true k n h = refl
lost_by void false false false false k n h = refl

-- a type that is not 00h, with data that are values or not
typed_met : (void : Bool) (k n : ℕ) → (k ≡ 0 → ⊥) → place_met void Byte k n ≡ pick void (Lost 7) (Whole k n)
typed_met void zero n h = absurd (h refl)
typed_met void (suc k) n h = refl

module _ (mode : ℕ) (x : List ℕ) where
  abbrev pub is_void : Bool
  is_void = eqb mode 8 && has_null (drop 1 x)

  pub met_null : is_null (class_of (get_or x 0 0)) ≡ true → met_at mode x ≡ Nothing
  unfolding met_at
  met_null e = null_met is_void (class_of (get_or x 0 0)) (get_or x 0 0 % 256) (length (drop 1 x)) e

  module _ (some : is_null (class_of (get_or x 0 0)) ≡ false) where
    pub met_formless : is_byte (get_or x 0 0) ≡ false → met_at mode x ≡ Lost 2
    unfolding met_at class_of
    met_formless b =
        let w = get_or x 0 0 in
        let is = pick_false Byte (pick (eqb w null_word) Null (pick (is_data w) Other (pick (eqb w separator) Separator (pick (eqb w end_code) Ending Illegal)))) b in
        ap (λ (c : Class). place_met is_void c (w % 256) (length (drop 1 x))) is
        ∙ lost_by is_void (eqb w null_word) (is_data w) (eqb w separator) (eqb w end_code) (w % 256) (length (drop 1 x)) (sym (ap is_null is) ∙ some)

  module _ (byte : is_byte (get_or x 0 0) ≡ true) where
    met_byte : met_at mode x ≡ place_met is_void Byte (get_or x 0 0 % 256) (length (drop 1 x))
    unfolding met_at
    met_byte = ap (λ (c : Class). place_met is_void c (get_or x 0 0 % 256) (length (drop 1 x))) (class_byte (get_or x 0 0) byte)

    pub met_empty : get_or x 0 0 % 256 ≡ 0 → met_at mode x ≡ Nothing
    met_empty e = met_byte ∙ ap (λ (k : ℕ). place_met is_void Byte k (length (drop 1 x))) e

    module _ (kind : get_or x 0 0 % 256 ≡ 0 → ⊥) where
      pub met_void : is_void ≡ true → met_at mode x ≡ Lost 7
      met_void e = met_byte ∙ typed_met is_void (get_or x 0 0 % 256) (length (drop 1 x)) kind ∙ pick_true _ _ e

      pub met_whole : is_void ≡ false → met_at mode x ≡ Whole (get_or x 0 0 % 256) (length x - 1)
      met_whole e =
          met_byte ∙ typed_met is_void (get_or x 0 0 % 256) (length (drop 1 x)) kind ∙ pick_false _ _ e ∙ ap (Whole (get_or x 0 0 % 256)) (length-drop 1 x)

-- ---- 100h among words, found word by word
pub null_next : (b : Bool) (ws : List ℕ) (i : ℕ) → i < length ws
    → ((b || is_null (class_of (get_or ws i 0))) || has_null (drop (i + 1) ws)) ≡ (b || has_null (drop i ws))
unfolding has_null
null_next b ws i h = or_or b _ _ ∙ sym (ap (λ (l : List ℕ). b || has_null l) (next_drop ws i h))
  where
    or_or : (a b c : Bool) → ((a || b) || c) ≡ (a || (b || c))
    or_or true b c = refl
    or_or false b c = refl

pub null_out : (b : Bool) (ws : List ℕ) (i : ℕ) → length ws ≤ i → b ≡ (b || has_null (drop i ws))
unfolding has_null
null_out b ws i h = or_none b ∙ sym (ap (λ (l : List ℕ). b || has_null l) (drop_of_length-le ws h))
  where
    or_none : (a : Bool) → a ≡ (a || false)
    or_none true = refl
    or_none false = refl

-- four words at once
null_step : (ws : List ℕ) (i j : ℕ) → j ≡ i + 1 → i < length ws → has_null (drop i ws) ≡ (is_null (class_of (get_or ws i 0)) || has_null (drop j ws))
unfolding has_null
null_step ws i j e h = ap has_null (next_drop ws i h) ∙ ap (λ (k : ℕ). is_null (class_of (get_or ws i 0)) || has_null (drop k ws)) (sym e)

pub null_front : (ws : List ℕ) (i : ℕ) → i + 4 ≤ length ws
    → has_null (drop i ws) ≡ (has_null (get_or ws i 0 ∷ get_or ws (i + 1) 0 ∷ get_or ws (i + 2) 0 ∷ get_or ws (i + 3) 0 ∷ []) || has_null (drop (i + 4) ws))
unfolding has_null
null_front ws i h =
    let at : ℕ → Bool = λ k. is_null (class_of (get_or ws k 0)) in
    null_step ws i (i + 1) refl (omega (arith, h))
    ∙ ap (λ (x : Bool). at i || x) (null_step ws (i + 1) (i + 2) (omega arith) (omega (arith, h))
    ∙ ap (λ (x : Bool). at (i + 1) || x) (null_step ws (i + 2) (i + 3) (omega arith) (omega (arith, h))
    ∙ ap (λ (x : Bool). at (i + 2) || x) (null_step ws (i + 3) (i + 4) (omega arith) (omega (arith, h)))))
    ∙ grouped (at i) (at (i + 1)) (at (i + 2)) (at (i + 3)) (has_null (drop (i + 4) ws))
  where
    grouped : (a b c d x : Bool) → (a || (b || (c || (d || x)))) ≡ ((a || (b || (c || (d || false)))) || x)
    grouped true b c d x = refl
    grouped false true c d x = refl
    grouped false false true d x = refl
    grouped false false false true x = refl
    grouped false false false false x = refl

pub null_four : (p q r s : Bool) (a b c d : ℕ) → p ≡ is_null (class_of a) → q ≡ is_null (class_of b) → r ≡ is_null (class_of c) → s ≡ is_null (class_of d)
    → ((p || q) || (r || s)) ≡ has_null (a ∷ b ∷ c ∷ d ∷ [])
unfolding has_null
null_four p q r s a b c d ep eq er es = rw (ep, eq, er, es) (paired (is_null (class_of a)) (is_null (class_of b)) (is_null (class_of c)) (is_null (class_of d)))
  where
    paired : (a b c d : Bool) → ((a || b) || (c || d)) ≡ (a || (b || (c || (d || false))))
    paired true b c d = refl
    paired false true c d = refl
    paired false false true d = refl
    paired false false false true = refl
    paired false false false false = refl

-- the values of a block, laid into the first n words of the room
pub room_whole : (met : Met) (k n : ℕ) (f : ℕ → ℕ) (ws room xs : List ℕ) → met ≡ Whole k n → xs ≡ map f ws → xs ++ drop (length ws) room ≡ place_room met (map f ws) room
room_whole met k n f ws room xs is e =
    ap₂ (λ (l : List ℕ) (j : ℕ). l ++ drop j room) e (sym (length-map ws f)) ∙ sym (ap (λ (m : Met). place_room m (map f ws) room) is)

-- ---- one place: its type word stands first, its values behind
drop_take_one : (n : ℕ) (l : List ℕ) → 1 ≤ n → drop 1 (take n l) ≡ take (n - 1) (drop 1 l)
drop_take_one zero l h = absurd (omega arith)
drop_take_one (suc n) l h = step l ∙ (let e : n ≡ suc n - 1 = omega arith in ap (λ (k : ℕ). take k (drop 1 l)) e)
  where
    none : (k : ℕ) → [] ≡ take {A = ℕ} k []
    none zero = refl
    none (suc k) = refl

    step : (l : List ℕ) → drop 1 (take (suc n) l) ≡ take n (drop 1 l)
    step [] = none n
    step (x ∷ l) = refl

module _ (mode : ℕ) (p : Phase) (size : ℕ) (one : 1 ≤ size) where
  -- what a place of that report, length and values does to a walk that would go on
  abbrev at_place : List ℕ → Walk → Met → ℕ → List ℕ → Walk
  at_place room on met n vs = unless met (walked_to p met n (place_room met (map (value_of mode) vs) room)) (past n on)

  first_place : (m : ℕ) (ws room : List ℕ) → size ≤ length ws
      → walk_places mode p (places_in size (suc m) ws) room
      ≡ at_place room (walk_places mode p (places_in size m (drop size ws)) room) (met_at mode (take size ws)) size (take (size - 1) (drop 1 ws))
  unfolding walk_places
  first_place m ws room h =
      let on = walk_places mode p (places_in size m (drop size ws)) room in
      let x = take size ws in
      let long : length x ≡ size = length-take-le size ws h in
      ap₂ (at_place room on (met_at mode x)) long (drop_take_one size ws one)

  -- the place in front reports something
  pub front_stops : (ws room r : List ℕ) (met : Met) → size ≤ length ws → met ≡ met_at mode (take size ws) → is_nothing met ≡ false
      → r ≡ place_room met (map (value_of mode) (take (size - 1) (drop 1 ws))) room → walked_to p met size r ≡ walk_places mode p (places_in size (length ws / size) ws) room
  front_stops ws room r met h is e laid =
      let n = (length ws - size) / size in
      let on = walk_places mode p (places_in size n (drop size ws)) room in
      let count : length ws / size ≡ suc n = div-eq-sub-div one h ∙ add-one n in
      ap (walked_to p met size) laid
      ∙ sym
      (ap (λ (k : ℕ). walk_places mode p (places_in size k ws) room) count
      ∙ first_place n ws room h
      ∙ ap (λ (x : Met). at_place room on x size (take (size - 1) (drop 1 ws))) (sym is)
      ∙ stops met _ _ e)

  -- the place at i, which reports met; m places are left with it, and n after it
  module _ (m n i : ℕ) (ws room : List ℕ) (met : Met) (left : m ≡ suc n) (fits : i + size ≤ length ws) (is : met ≡ met_at mode (take (i + size - i) (drop i ws))) (whole : Walk)
      (inv : past i (walk_places mode p (places_in size m (drop i ws)) room) ≡ whole) where
    at_turn : walk_places mode p (places_in size m (drop i ws)) room
        ≡ at_place room (walk_places mode p (places_in size n (drop (i + size) ws)) room) met size (take (i + size - (i + 1)) (drop (i + 1) ws))
    at_turn =
        let long : size ≤ length (drop i ws) = rw (length-drop i ws) (omega arith) in
        let short : size - 1 ≡ i + size - (i + 1) = omega arith in
        let part : size ≡ i + size - i = omega arith in
        let on : List ℕ → Walk = λ l. walk_places mode p (places_in size n l) room in
        ap (λ (k : ℕ). walk_places mode p (places_in size k (drop i ws)) room) left
        ∙ first_place n (drop i ws) room long
        ∙ ap₂ (λ (l : List ℕ) (x : Met). at_place room (on l) x size (take (size - 1) (drop 1 (drop i ws)))) (drop-drop size i ws)
        (ap (λ (k : ℕ). met_at mode (take k (drop i ws))) part ∙ sym is)
        ∙ ap₂ (λ (k : ℕ) (l : List ℕ). at_place room (on (drop (i + size) ws)) met size (take k l)) short (drop-drop 1 i ws)

    pub turn_stops : (r : List ℕ) → is_nothing met ≡ false → r ≡ place_room met (map (value_of mode) (take (i + size - (i + 1)) (drop (i + 1) ws))) room → walked_to p met (i + size) r ≡ whole
    turn_stops r e laid = ap (walked_to p met (i + size)) laid ∙ ap (past i) (sym (at_turn ∙ stops met _ _ e)) ∙ inv

    pub turn_goes : is_nothing met ≡ true → past (i + size) (walk_places mode p (places_in size n (drop (i + size) ws)) room) ≡ whole
    turn_goes e = sym (past_past i size _) ∙ ap (past i) (sym (at_turn ∙ goes met _ _ e)) ∙ inv

  -- no place is left
  pub turns_end : (m i : ℕ) (ws room r : List ℕ) (whole : Walk) → m ≡ 0 → r ≡ room
      → past i (walk_places mode p (places_in size m (drop i ws)) room) ≡ whole → walked_to p Nothing i r ≡ whole
  unfolding walk_places
  turns_end m i ws room r whole none e inv =
      ap₂ (walked_to p Nothing) (sym (add-zero i)) e ∙ ap (λ (n : ℕ). past i (walk_places mode p (places_in size n (drop i ws)) room)) (sym none) ∙ inv

-- what is met and how many words are taken, by other names
pub walked_as : (p : Phase) (m n : Met) (j k : ℕ) (room : List ℕ) → m ≡ n → j ≡ k → walked_to p m j room ≡ walked_to p n k room
walked_as p m n j k room e f = ap₂ (λ (x : Met) (i : ℕ). walked_to p x i room) e f

-- the walk over whole places is the one that the tests let through
pub fixed_none : (mode : ℕ) (p : Phase) (size : ℕ) (ws room : List ℕ) → (eqb size 0 || ltb (length room) (size - 1)) ≡ true → walked_to p Nothing 0 room ≡ walk_fixed mode p size ws room
unfolding walk_fixed
fixed_none mode p size ws room e = sym (pick_true _ _ e)

pub fixed_walk : (mode : ℕ) (p : Phase) (size : ℕ) (ws room : List ℕ) → 1 ≤ size → size - 1 ≤ length room
    → walk_fixed mode p size ws room ≡ walk_places mode p (places_in size (length ws / size) ws) room
unfolding walk_fixed
fixed_walk mode p size ws room one fits = pick_false _ _ (false_or (ne_eqb size 0 (λ e. omega arith)) (le-ltb (length room) (size - 1) fits))

-- fewer words than one place
pub fixed_few : (mode : ℕ) (p : Phase) (size : ℕ) (ws room : List ℕ) → 1 ≤ size → size - 1 ≤ length room → length ws < size → walked_to p Nothing 0 room ≡ walk_fixed mode p size ws room
unfolding walk_places
fixed_few mode p size ws room one fits few =
    sym (fixed_walk mode p size ws room one fits ∙ ap (λ (n : ℕ). walk_places mode p (places_in size n ws) room) (div-eq_of_lt few))

pub fixed_fits : (size long : ℕ) → (eqb size 0 || ltb long (size - 1)) ≡ false → (1 ≤ size) × (size - 1 ≤ long)
fixed_fits size long e =
    let b = or_false (eqb size 0) (ltb long (size - 1)) e in
    let h = eqb-false size 0 b.0 in
    (omega arith, ltb-false long (size - 1) b.1)

-- ---- where places stand
pub place_fits : (size i long : ℕ) → i ≤ long → size ≤ long - i → i + size ≤ long
place_fits size i long h fits = omega arith

-- of the words from i on, one place more than of those behind the place at i
pub one_left : (size i long : ℕ) → 1 ≤ size → i + size ≤ long → (long - i) / size ≡ suc ((long - (i + size)) / size)
one_left size i long one fits =
    let h : size ≤ long - i = omega arith in
    let e : long - i - size ≡ long - (i + size) = omega arith in
    div-eq-sub-div one h ∙ add-one _ ∙ ap (λ (n : ℕ). suc (n / size)) e

pub none_left : (size i long : ℕ) → long - i < size → (long - i) / size ≡ 0
none_left size i long h = div-eq_of_lt h

pub front_fit : (size long : ℕ) (ws : List ℕ) → size - 1 ≤ long → length (take (size - 1) (drop 1 ws)) ≤ long
front_fit size long ws h = rw (length-take (size - 1) (drop 1 ws)) (omega arith)

pub values_fit : (size i long : ℕ) (ws : List ℕ) → size - 1 ≤ long → length (take (i + size - (i + 1)) (drop (i + 1) ws)) ≤ long
values_fit size i long ws h = rw (length-take (i + size - (i + 1)) (drop (i + 1) ws)) (omega arith)

-- a place that is lent has its type word
pub place_some : (size i : ℕ) (ws : List ℕ) → 1 ≤ size → i + size ≤ length ws → 1 ≤ length (take (i + size - i) (drop i ws))
place_some size i ws one fits = simp (length-take, length-drop) (omega arith)
