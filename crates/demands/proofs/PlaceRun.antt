-- The places of a fixed line: a place that an addition laid is handed out, an empty one is skipped, and a line falls into the places laid on it.
-- Assumes nothing.
use Prim.Native.Nat.{ℕ, zero, suc, ◌+◌, ◌-◌, ◌*◌, ◌≤◌}
use mathlib.Core.Bool.{Bool, true, false, ◌&&◌, ◌||◌}
use mathlib.Core.List.{List, [], ◌∷◌, ◌++◌, map, append_assoc}
use mathlib.Core.Path.{◌≡◌, refl, sym, ap, ap₂, ◌∙◌}
use native.Mathlib.Nat.{suc-mul}
use native.Mathlib.Omega.{arith}
use lib.Dec.{eqb, ltb}
use lib.ListN.{length, take, drop, replicate, length-drop, length-map}
use lib.Seq.{take_at, drop_at}
use borrow.Author.Tests.{ltb-true}
use Rattle.lists.specs.Tests.{pick}
use Rattle.lists.proofs.Tests.{and_none, false_or}
use Rattle.lists.proofs.Lists.{map_back, take_filler, drop_filler}
use Rattle.words.specs.Forms.{is_byte, is_data, byte_word}
use Rattle.words.specs.Modes.{values, word_of, value_of}
use Rattle.words.specs.Class.{class_of}
use Rattle.words.proofs.FormLaws.{byte_low, value_back}
use Rattle.machine.specs.declared.step.Met.{Met}
use Rattle.machine.specs.declared.step.Met.TheVariants.{Nothing, Whole}
use Rattle.machine.specs.Places.{places_in, has_null, met_at, place_room}
use Rattle.machine.proofs.Kept.{laid_long}
use Rattle.machine.proofs.PlaceLaws.{met_whole}
use Rattle.writer.specs.Block.{fixed_words}
use Rattle.writer.specs.Adding.{valued}
use Rattle.writer.specs.Filling.{joined}
use Rattle.writer.proofs.Legal.{byte_any, value_some}
use Rattle.demands.specs.Hearing.{Heard, is_block}
use Rattle.demands.proofs.Run.{met_heard, place_to, place_out, places_to, places_out}
use Rattle.demands.proofs.DeskOk.{AllLong}

-- ---- a place that an addition laid
-- 100h is not among its values' words in 8-bit mode
no_null : (mode : ℕ) (vs : List ℕ) → (eqb mode 8 && has_null (map (word_of mode) vs)) ≡ false
unfolding has_null
no_null mode [] = and_none (eqb mode 8) false refl
no_null mode (v ∷ vs) = none_more (eqb mode 8) _ _ (value_some mode v) (no_null mode vs)
  where
    none_more : (b x y : Bool) → (b && x) ≡ false → (b && y) ≡ false → (b && (x || y)) ≡ false
    none_more true x y e f = false_or e f
    none_more false x y e f = refl

met_given : (mode kind : ℕ) (vs : List ℕ) → kind ≤ 255 → 1 ≤ kind
    → met_at mode (byte_word kind ∷ map (word_of mode) vs) ≡ Whole kind (length (map (word_of mode) vs))
met_given mode kind vs h one =
    let ws = map (word_of mode) vs in
    let low = byte_low kind (omega arith) in
    met_whole mode (byte_word kind ∷ ws) (byte_any kind) (λ e. omega (arith, low, e)) (no_null mode vs)
    ∙ ap₂ Whole low (sym (length-drop 1 (byte_word kind ∷ ws)))

values_again : (mode : ℕ) (vs : List ℕ) → valued mode vs ≡ true → map (value_of mode) (map (word_of mode) vs) ≡ vs
unfolding valued
values_again mode vs e = map_back (value_of mode) (word_of mode) (λ v. ltb v (values mode)) (λ v h. value_back mode v (ltb-true v (values mode) h)) vs e

-- a block of n values, by what the place reports and by its values
given_by : (met : Met) (kind n : ℕ) (xs vs room : List ℕ) → met ≡ Whole kind n → xs ≡ vs → length vs ≡ n
    → met_heard met (place_room met xs room) ≡ is_block (record { kind = kind; values = vs }) ∷ []
given_by met kind n xs vs room is e long =
    ap₂ {C = List Heard} (λ (m : Met) (l : List ℕ). met_heard m (place_room m l room)) is e
    ∙ ap {B = List Heard} (λ (l : List ℕ). is_block (record { kind = kind; values = l }) ∷ []) (take_at vs (drop (length vs) room) n long)

pub place_given : (mode kind : ℕ) (vs room : List ℕ) → kind ≤ 255 → 1 ≤ kind → valued mode vs ≡ true
    → place_out mode (fixed_words mode kind vs) room ≡ is_block (record { kind = kind; values = vs }) ∷ []
unfolding place_out place_to fixed_words
place_given mode kind vs room h one e =
    let ws = map (word_of mode) vs in
    given_by (met_at mode (byte_word kind ∷ ws)) kind (length ws) (map (value_of mode) ws) vs room
    (met_given mode kind vs h one) (values_again mode vs e) (sym (length-map vs (word_of mode)))

-- ---- the room keeps its length
pub place_room_lem : (mode : ℕ) (x room : List ℕ) → length x ≤ suc (length room) → length (place_to mode x room) ≡ length room
unfolding place_to
place_room_lem mode x room h =
    let e = length-map (drop 1 x) (value_of mode) in
    let d = length-drop 1 x in
    laid_long (met_at mode x) (map (value_of mode) (drop 1 x)) room (omega (arith, e, d))

-- ---- an empty place
filler_met : (mode : ℕ) (ws : List ℕ) → met_at mode (0x200 ∷ ws) ≡ Nothing
unfolding met_at class_of is_byte is_data pick
filler_met mode ws = refl

pub place_stays : (mode size : ℕ) (room : List ℕ) → 1 ≤ size → place_to mode (replicate size 0x200) room ≡ room
unfolding place_to
place_stays mode zero room h = absurd (omega arith)
place_stays mode (suc n) room h =
    ap (λ (m : Met). place_room m (map (value_of mode) (replicate n 0x200)) room) (filler_met mode (replicate n 0x200))

pub place_empty : (mode size : ℕ) (room : List ℕ) → 1 ≤ size → place_out mode (replicate size 0x200) room ≡ []
unfolding place_out
place_empty mode zero room h = absurd (omega arith)
place_empty mode (suc n) room h =
    ap (λ (m : Met). met_heard m (place_to mode (replicate (suc n) 0x200) room)) (filler_met mode (replicate n 0x200))

-- ---- places in two parts
pub places_to_append : (mode : ℕ) (room : List ℕ) (xs ys : List (List ℕ)) → places_to mode room (xs ++ ys) ≡ places_to mode (places_to mode room xs) ys
places_to_append mode room [] ys = refl
places_to_append mode room (x ∷ xs) ys = places_to_append mode (place_to mode x room) xs ys

pub places_out_append : (mode : ℕ) (room : List ℕ) (xs ys : List (List ℕ))
    → places_out mode room (xs ++ ys) ≡ places_out mode room xs ++ places_out mode (places_to mode room xs) ys
places_out_append mode room [] ys = refl
places_out_append mode room (x ∷ xs) ys =
    let next = place_to mode x room in
    ap (λ (hs : List Heard). place_out mode x room ++ hs) (places_out_append mode next xs ys)
    ∙ sym (append_assoc (place_out mode x room) (places_out mode next xs) (places_out mode (places_to mode next xs) ys))

-- ---- empty places
abbrev pub empties : ℕ → ℕ → List (List ℕ)
empties size n = replicate n (replicate size 0x200)

pub places_stay : (mode size n : ℕ) (room : List ℕ) → 1 ≤ size → places_to mode room (replicate n (replicate size 0x200)) ≡ room
places_stay mode size zero room h = refl
places_stay mode size (suc n) room h =
    ap (λ (r : List ℕ). places_to mode r (empties size n)) (place_stays mode size room h) ∙ places_stay mode size n room h

pub places_empty : (mode size n : ℕ) (room : List ℕ) → 1 ≤ size → places_out mode room (replicate n (replicate size 0x200)) ≡ []
places_empty mode size zero room h = refl
places_empty mode size (suc n) room h =
    ap₂ (λ (hs : List Heard) (r : List ℕ). hs ++ places_out mode r (empties size n)) (place_empty mode size room h) (place_stays mode size room h)
    ∙ places_empty mode size n room h

-- ---- a line falls into the places laid on it, and empty ones behind them
places_of_filler : (size n filler : ℕ) → n * size ≤ filler → places_in size n (replicate filler 0x200) ≡ empties size n
places_of_filler size zero filler h = refl
places_of_filler size (suc n) filler h =
    let e : suc n * size ≡ n * size + size = suc-mul n size in
    let first : take {A = ℕ} size (replicate filler 0x200) ≡ replicate size 0x200 = take_filler size filler 0x200 (omega arith) in
    let rest : drop {A = ℕ} size (replicate filler 0x200) ≡ replicate (filler - size) 0x200 = drop_filler size filler 0x200 in
    ap₂ {C = List (List ℕ)} (λ (x l : List ℕ). x ∷ places_in size n l) first rest
    ∙ ap {B = List (List ℕ)} (λ (xs : List (List ℕ)). replicate size 0x200 ∷ xs) (places_of_filler size n (filler - size) (omega arith))

pub places_of_lem : (size n m : ℕ) (xs : List (List ℕ)) → AllLong size xs → length xs + n ≡ m → (filler : ℕ) → n * size ≤ filler
    → places_in size m (joined xs ++ replicate filler 0x200) ≡ xs ++ empties size n
places_of_lem size n m [] a e filler h =
    let at : m ≡ n = omega arith in
    ap (λ (k : ℕ). places_in size k (replicate filler 0x200)) at ∙ places_of_filler size n filler h
places_of_lem size n zero (x ∷ xs) a e filler h = absurd (omega arith)
places_of_lem size n (suc m) (x ∷ xs) a e filler h =
    let rest = joined xs ++ replicate filler 0x200 in
    let both : (x ++ joined xs) ++ replicate filler 0x200 ≡ x ++ rest = append_assoc x (joined xs) (replicate filler 0x200) in
    ap (places_in size (suc m)) both
    ∙ ap₂ {C = List (List ℕ)} (λ (y l : List ℕ). y ∷ places_in size m l) (take_at x rest size a.0) (drop_at x rest size a.0)
    ∙ ap {B = List (List ℕ)} (λ (ys : List (List ℕ)). x ∷ ys) (places_of_lem size n m xs a.1 (omega arith) filler h)
