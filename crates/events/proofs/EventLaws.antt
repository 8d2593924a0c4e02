-- The event image: what was reported and how much was consumed come back from it, so that two different reports never look alike.
-- Assumes nothing.
use Rattle.std.specs.Prelude.{Option, Some, None}
use mathlib.Core.Path.{◌≡◌, refl, sym, ap, ap₂, ◌∙◌}
use mathlib.Core.Bool.{Bool, true, false, ◌&&◌}
use mathlib.Core.List.{List, [], ◌∷◌, ◌++◌, append_assoc}
use Prim.Native.Nat.{ℕ, zero, suc, ◌+◌, ◌^◌, ◌<◌}
use native.Mathlib.Omega.{arith}
use lib.Dec.{ltb}
use lib.IntN.{ℤ, pos, negsuc}
use lib.ListN.{length, get_or, take, drop, length-append}
use lib.Seq.{take_at, drop_at, drop-drop, take_all}
use borrow.Author.Tests.{ltb-true}
use Rattle.lists.specs.Lists.{part}
use Rattle.lists.proofs.Tests.{both_true}
use Rattle.line.specs.Settings.{small}
use Rattle.reader.specs.declared.state.Event.TheVariants.{Refused, Begun, Block, Drop, End}
use Rattle.reader.specs.declared.within.Report.{Report}
use Rattle.reader.specs.declared.within.Report.TheVariants.{Paused, Told}
use Rattle.reader.specs.Within.{report_numbers}
use Rattle.fields.specs.Fields.{bytes_for, number_from}
use Rattle.events.specs.EventImage.{flag_byte, is_known, is_behind, size_of_jump, event_fields, event_image}
use Rattle.fields.specs.Widths.{two, eight}
use Rattle.fields.proofs.NumberLaws.{length_bytes, number_bytes}

-- ---- the other way
abbrev pub flag_from : ℕ → Bool
flag_from zero = false
flag_from (suc n) = true

abbrev pub jump_from : ℕ → ℕ → ℕ → Option ℤ
jump_from zero behind size = None
jump_from (suc n) zero size = Some (pos size)
jump_from (suc n) (suc m) zero = Some (pos 0)
jump_from (suc n) (suc m) (suc d) = Some (negsuc d)

abbrev pub report_by : ℕ → Bool → Option ℤ → ℕ → ℕ → ℕ → Report
report_by zero dropped jump number type size = Told (Refused number dropped)
report_by (suc zero) dropped jump number type size = Told (Begun number jump dropped)
report_by (suc (suc zero)) dropped jump number type size = Told (Block type size)
report_by (suc (suc (suc zero))) dropped jump number type size = Told (Drop number)
report_by (suc (suc (suc (suc zero)))) dropped jump number type size = Told End
report_by (suc (suc (suc (suc (suc n))))) dropped jump number type size = Paused

unfoldable pub report_from : List ℕ → Report
report_from b =
    report_by (get_or b 0 0) (flag_from (get_or b 1 0)) (jump_from (get_or b 2 0) (get_or b 3 0) (number_from (part 8 4 b))) (number_from (part 4 4 b)) (number_from (part 12 4 b))
    (number_from (part 16 8 b))

unfoldable pub consumed_from : List ℕ → ℕ
consumed_from b = number_from (part 24 8 b)

-- ---- what every report of the type holds
abbrev pub held_jump : Option ℤ → Bool
held_jump None = true
held_jump (Some (pos d)) = ltb d (2 ^ 31)
held_jump (Some (negsuc d)) = ltb d (2 ^ 31)

abbrev pub held_report : Report → Bool
held_report Paused = true
held_report (Told (Refused n dropped)) = small n
held_report (Told (Begun n jump dropped)) = two n && held_jump jump
held_report (Told (Block k n)) = small k && eight n
held_report (Told (Drop n)) = small n
held_report (Told End) = true

-- ---- the fields
length_fields : (k d : ℕ) (j : Option ℤ) (n t s c : ℕ) → length (event_fields k d j n t s c) ≡ 32
length_fields k d j n t s c =
    simp length-append (omega (arith, length_bytes 4 n, length_bytes 4 (size_of_jump j), length_bytes 4 t, length_bytes 8 s, length_bytes 8 c))

pub event_length_lem : (r : Report) (c : ℕ) → length (event_image r c) ≡ 32
event_length_lem Paused c = length_fields 5 0 None 0 0 0 c
event_length_lem (Told (Refused n dropped)) c = length_fields 0 (flag_byte dropped) None n 0 0 c
event_length_lem (Told (Begun n jump dropped)) c = length_fields 1 (flag_byte dropped) jump n 0 0 c
event_length_lem (Told (Block k n)) c = length_fields 2 0 None 0 k n c
event_length_lem (Told (Drop n)) c = length_fields 3 0 None n 0 0 c
event_length_lem (Told End) c = length_fields 4 0 None 0 0 0 c

record FieldsBack (j : Option ℤ) (n t s c : ℕ) (b : List ℕ) : Type 0 where
  number_is : number_from (part 4 4 b) ≡ n
  size_is : number_from (part 8 4 b) ≡ size_of_jump j
  type_is : number_from (part 12 4 b) ≡ t
  length_is : number_from (part 16 8 b) ≡ s
  consumed_is : number_from (part 24 8 b) ≡ c

-- a number of k bytes in front
front_back : (k n : ℕ) (l t : List ℕ) → n < 256 ^ k → l ≡ bytes_for k n ++ t → number_from (take k l) ≡ n
front_back k n l t h e = ap (λ (s : List ℕ). number_from (take k s)) e ∙ ap number_from (take_at (bytes_for k n) t k (length_bytes k n)) ∙ number_bytes k n h

-- and what stands behind it
behind : (k n a : ℕ) (b t : List ℕ) → drop a b ≡ bytes_for k n ++ t → drop (a + k) b ≡ t
behind k n a b t e = sym (drop-drop k a b) ∙ ap (drop k) e ∙ drop_at (bytes_for k n) t k (length_bytes k n)

last_back : (k n : ℕ) (l : List ℕ) → n < 256 ^ k → l ≡ bytes_for k n → number_from (take k l) ≡ n
last_back k n l h e = ap (λ (s : List ℕ). number_from (take k s)) e ∙ ap number_from (take_all k (bytes_for k n) (omega (arith, length_bytes k n))) ∙ number_bytes k n h

fields_back : (k d : ℕ) (j : Option ℤ) (n t s c : ℕ) → n < 2 ^ 32 → size_of_jump j < 2 ^ 32 → t < 2 ^ 32 → s < 2 ^ 64 → c < 2 ^ 64 → FieldsBack j n t s c (event_fields k d j n t s c)
fields_back k d j n t s c hn hj ht hs hc =
    let b = event_fields k d j n t s c in
    let z = size_of_jump j in
    let at_size : drop 8 b ≡ bytes_for 4 z ++ (bytes_for 4 t ++ (bytes_for 8 s ++ bytes_for 8 c)) = behind 4 n 4 b _ refl in
    let at_type : drop 12 b ≡ bytes_for 4 t ++ (bytes_for 8 s ++ bytes_for 8 c) = behind 4 z 8 b _ at_size in
    let at_length : drop 16 b ≡ bytes_for 8 s ++ bytes_for 8 c = behind 4 t 12 b _ at_type in
    let at_consumed : drop 24 b ≡ bytes_for 8 c = behind 8 s 16 b _ at_length in
    record {
      number_is = front_back 4 n (drop 4 b) (bytes_for 4 z ++ (bytes_for 4 t ++ (bytes_for 8 s ++ bytes_for 8 c))) hn refl;
      size_is = front_back 4 z (drop 8 b) _ hj at_size;
      type_is = front_back 4 t (drop 12 b) _ ht at_type;
      length_is = front_back 8 s (drop 16 b) _ hs at_length;
      consumed_is = last_back 8 c (drop 24 b) hc at_consumed;
    }

-- ---- report and number consumed come back
flag_back : (f : Bool) → flag_from (flag_byte f) ≡ f
flag_back true = refl
flag_back false = refl

jump_back : (j : Option ℤ) → jump_from (is_known j) (is_behind j) (size_of_jump j) ≡ j
jump_back None = refl
jump_back (Some (pos d)) = refl
jump_back (Some (negsuc d)) = refl

jump_size : (j : Option ℤ) → held_jump j ≡ true → size_of_jump j < 2 ^ 32
jump_size None h = omega arith
jump_size (Some (pos d)) h = omega (arith, ltb-true d (2 ^ 31) h)
jump_size (Some (negsuc d)) h = omega (arith, ltb-true d (2 ^ 31) h)

pub record Comes (r : Report) (c : ℕ) : Type 0 where
  pub report_back : report_from (event_image r c) ≡ r
  pub consumed_back : consumed_from (event_image r c) ≡ c

pub comes : (r : Report) (c : ℕ) → held_report r ≡ true → eight c ≡ true → Comes r c
unfolding report_from consumed_from
comes Paused c h e =
    let f = fields_back 5 0 None 0 0 0 c (omega arith) (omega arith) (omega arith) (omega arith) (ltb-true _ _ e) in
    record { report_back = refl; consumed_back = f.consumed_is }
comes (Told (Refused n dropped)) c h e =
    let f = fields_back 0 (flag_byte dropped) None n 0 0 c (omega (arith, ltb-true n 256 h)) (omega arith) (omega arith) (omega arith) (ltb-true _ _ e) in
    record { report_back = ap₂ (λ (x : ℕ) (y : Bool). Told (Refused x y)) f.number_is (flag_back dropped); consumed_back = f.consumed_is }
comes (Told (Begun n jump dropped)) c h e =
    let (number, far) = both_true (two n) (held_jump jump) h in
    let f = fields_back 1 (flag_byte dropped) jump n 0 0 c (omega (arith, ltb-true n (2 ^ 16) number)) (jump_size jump far) (omega arith) (omega arith) (ltb-true _ _ e) in
    let b = event_fields 1 (flag_byte dropped) jump n 0 0 c in
    let read = jump_from (is_known jump) (is_behind jump) (number_from (part 8 4 b)) in
    let to : read ≡ jump = ap (jump_from (is_known jump) (is_behind jump)) f.size_is ∙ jump_back jump in
    record {
      report_back =
          ap₂ (λ (x : ℕ) (y : Bool). Told (Begun x read y)) f.number_is (flag_back dropped) ∙ ap (λ (x : Option ℤ). Told (Begun n x dropped)) to;
      consumed_back = f.consumed_is;
    }
comes (Told (Block k n)) c h e =
    let (type, long) = both_true (small k) (eight n) h in
    let f = fields_back 2 0 None 0 k n c (omega arith) (omega arith) (omega (arith, ltb-true k 256 type)) (ltb-true _ _ long) (ltb-true _ _ e) in
    record { report_back = ap₂ (λ (x y : ℕ). Told (Block x y)) f.type_is f.length_is; consumed_back = f.consumed_is }
comes (Told (Drop n)) c h e =
    let f = fields_back 3 0 None n 0 0 c (omega (arith, ltb-true n 256 h)) (omega arith) (omega arith) (omega arith) (ltb-true _ _ e) in
    record { report_back = ap (λ (x : ℕ). Told (Drop x)) f.number_is; consumed_back = f.consumed_is }
comes (Told End) c h e =
    let f = fields_back 4 0 None 0 0 0 c (omega arith) (omega arith) (omega arith) (omega arith) (ltb-true _ _ e) in
    record { report_back = refl; consumed_back = f.consumed_is }

-- I4: the images of two reports are equal only where both are
pub report_back : (r : Report) (c : ℕ) → held_report r ≡ true → eight c ≡ true → report_from (event_image r c) ≡ r
report_back r c h e = (comes r c h e).report_back

pub consumed_back : (r : Report) (c : ℕ) → held_report r ≡ true → eight c ≡ true → consumed_from (event_image r c) ≡ c
consumed_back r c h e = (comes r c h e).consumed_back

pub event_injective : (r s : Report) (c d : ℕ) → held_report r ≡ true → held_report s ≡ true → eight c ≡ true → eight d ≡ true → event_image r c ≡ event_image s d → (r ≡ s) × (c ≡ d)
event_injective r s c d hr hs hc hd e = (
  sym (report_back r c hr hc) ∙ ap report_from e ∙ report_back s d hs hd,
  sym (consumed_back r c hr hc) ∙ ap consumed_from e ∙ consumed_back s d hs hd,
)

-- ---- nothing consumed
no_count : (k d : ℕ) (j : Option ℤ) (n t s c : ℕ) → take 24 (event_fields k d j n t s c) ++ bytes_for 8 0 ≡ event_fields k d j n t s 0
no_count k d j n t s c =
    let z = size_of_jump j in
    let front = bytes_for 4 n ++ (bytes_for 4 z ++ (bytes_for 4 t ++ bytes_for 8 s)) in
    let joined : (x : ℕ) → bytes_for 4 n ++ (bytes_for 4 z ++ (bytes_for 4 t ++ (bytes_for 8 s ++ bytes_for 8 x))) ≡ front ++ bytes_for 8 x =
    λ x.
    ap (λ (l : List ℕ). bytes_for 4 n ++ (bytes_for 4 z ++ l)) (sym (append_assoc (bytes_for 4 t) (bytes_for 8 s) (bytes_for 8 x)))
    ∙ ap (λ (l : List ℕ). bytes_for 4 n ++ l) (sym (append_assoc (bytes_for 4 z) (bytes_for 4 t ++ bytes_for 8 s) (bytes_for 8 x)))
    ∙ sym (append_assoc (bytes_for 4 n) (bytes_for 4 z ++ (bytes_for 4 t ++ bytes_for 8 s)) (bytes_for 8 x))
    in
    let long : length front ≡ 20 = simp length-append (omega (arith, length_bytes 4 n, length_bytes 4 z, length_bytes 4 t, length_bytes 8 s)) in
    ap (λ (l : List ℕ). k ∷ d ∷ is_known j ∷ is_behind j ∷ (take 20 l ++ bytes_for 8 0)) (joined c)
    ∙ ap (λ (l : List ℕ). k ∷ d ∷ is_known j ∷ is_behind j ∷ (l ++ bytes_for 8 0)) (take_at front (bytes_for 8 c) 20 long)
    ∙ ap (λ (l : List ℕ). k ∷ d ∷ is_known j ∷ is_behind j ∷ l) (sym (joined 0))

pub uncounted : (r : Report) (c : ℕ) → take 24 (event_image r c) ++ bytes_for 8 0 ≡ event_image r 0
uncounted Paused c = no_count 5 0 None 0 0 0 c
uncounted (Told (Refused n dropped)) c = no_count 0 (flag_byte dropped) None n 0 0 c
uncounted (Told (Begun n jump dropped)) c = no_count 1 (flag_byte dropped) jump n 0 0 c
uncounted (Told (Block k n)) c = no_count 2 0 None 0 k n c
uncounted (Told (Drop n)) c = no_count 3 0 None n 0 0 c
uncounted (Told End) c = no_count 4 0 None 0 0 0 c

-- ---- the first byte is the report's first number
abbrev pub first_of : List ℤ → ℤ
first_of [] = pos 0
first_of (z ∷ zs) = z

pub event_kind : (r : Report) (c : ℕ) → pos (get_or (event_image r c) 0 0) ≡ first_of (report_numbers r)
event_kind Paused c = refl
event_kind (Told (Refused n dropped)) c = refl
event_kind (Told (Begun n jump dropped)) c = refl
event_kind (Told (Block k n)) c = refl
event_kind (Told (Drop n)) c = refl
event_kind (Told End) c = refl
