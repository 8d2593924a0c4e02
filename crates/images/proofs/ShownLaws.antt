-- An image is judged by its fields: bytes are what a state gives where each field is what that state's field gives. Of settings nothing is asked, because any 41 bytes are settings.
-- Assumes nothing.
use Rattle.std.specs.Prelude.{Option}
use mathlib.Core.Path.{◌≡◌, refl, sym, ap, ap₂, ◌∙◌}
use mathlib.Core.Bool.{Bool, true, false, ◌&&◌}
use mathlib.Core.List.{List, [], ◌∷◌, ◌++◌}
use Prim.Native.Nat.{ℕ, ◌<◌, ◌^◌}
use native.Mathlib.Omega.{arith}
use lib.Dec.{eqb}
use lib.ListN.{length, get_or}
use lib.Seq.{take_all}
use borrow.Author.Tests.{eq-eqb}
use Rattle.lists.specs.Lists.{part, same}
use Rattle.lists.proofs.Lists.{part_add, length_part, eq_same}
use Rattle.course.specs.Course.{place_of}
use Rattle.fields.specs.Fields.{bytes_for, number_from, settings_bytes, settings_from}
use Rattle.fields.specs.Frame.{last_bytes, place_byte, framed, held_in, shows_frame}
use Rattle.images.specs.ReaderImage.{count_bytes}
use Rattle.fields.proofs.NumberLaws.{length_bytes, same_number}
use Rattle.fields.proofs.FrameLaws.{length_last}
use Rattle.fields.proofs.PartLaws.{part_upto, same_append}

-- ---- the frame
-- 80 bytes as fields
pub apart : (b : List ℕ) → length b ≡ 80
    → b ≡ get_or b 0 0 ∷ get_or b 1 0 ∷ get_or b 2 0 ∷ (part 3 3 b ++ (get_or b 6 0 ∷ get_or b 7 0 ∷ (part 8 8 b ++ (held_in b ++ (part 37 41 b ++ part 78 2 b)))))
unfolding held_in
apart b l =
    let whole : b ≡ part 0 80 b = sym (take_all 80 b (omega (arith, l))) in
    let first : part 0 3 b ≡ get_or b 0 0 ∷ get_or b 1 0 ∷ get_or b 2 0 ∷ [] = part_upto b 0 3 (omega (arith, l)) in
    let next : part 6 2 b ≡ get_or b 6 0 ∷ get_or b 7 0 ∷ [] = part_upto b 6 2 (omega (arith, l)) in
    let back : part 37 43 b ≡ part 37 41 b ++ part 78 2 b = part_add 37 41 2 b in
    let held : part 16 64 b ≡ part 16 21 b ++ part 37 43 b = part_add 16 21 43 b in
    let place : part 8 72 b ≡ part 8 8 b ++ part 16 64 b = part_add 8 8 64 b in
    let begun : part 6 74 b ≡ part 6 2 b ++ part 8 72 b = part_add 6 2 72 b in
    let last : part 3 77 b ≡ part 3 3 b ++ part 6 74 b = part_add 3 3 74 b in
    let tag : part 0 80 b ≡ part 0 3 b ++ part 3 77 b = part_add 0 3 77 b in
    whole ∙ tag
    ∙ ap₂ (λ (p q : List ℕ). p ++ q) first
    (last ∙ ap (λ (q : List ℕ). part 3 3 b ++ q)
    (begun ∙ ap₂ (λ (p q : List ℕ). p ++ q) next (place ∙ ap (λ (q : List ℕ). part 8 8 b ++ q) (held ∙ ap (λ (q : List ℕ). part 16 21 b ++ q) back))))

-- any 41 bytes are settings
settings_same : (s : List ℕ) → length s ≡ 41 → settings_bytes (settings_from s) ≡ s
unfolding settings_bytes settings_from
settings_same s l =
    let whole : part 0 41 s ≡ s = take_all 41 s (omega (arith, l)) in
    let first : part 0 2 s ≡ get_or s 0 0 ∷ get_or s 1 0 ∷ [] = part_upto s 0 2 (omega (arith, l)) in
    let next : part 34 2 s ≡ get_or s 34 0 ∷ get_or s 35 0 ∷ [] = part_upto s 34 2 (omega (arith, l)) in
    let back : part 34 7 s ≡ part 34 2 s ++ part 36 5 s = part_add 34 2 5 s in
    let source : part 18 23 s ≡ part 18 16 s ++ part 34 7 s = part_add 18 16 7 s in
    let destination : part 2 39 s ≡ part 2 16 s ++ part 18 23 s = part_add 2 16 23 s in
    let all : part 0 41 s ≡ part 0 2 s ++ part 2 39 s = part_add 0 2 39 s in
    sym (sym whole ∙ all
    ∙ ap₂ (λ (p q : List ℕ). p ++ q) first
    (destination ∙ ap (λ (q : List ℕ). part 2 16 s ++ q) (source ∙ ap (λ (q : List ℕ). part 18 16 s ++ q) (back ∙ ap (λ (p : List ℕ). p ++ part 36 5 s) next))))

ones : (a x y z : Bool) → x ≡ true → y ≡ true → (a && (x && (y && z))) ≡ (a && (true && (true && z)))
ones a x y z e f = ap₂ (λ (u v : Bool). a && (u && (v && z))) e f

-- the tests in the order in which they are asked
shuffle : (a l p k q h e f : Bool) → (a && (true && (true && (l && (p && (k && (q && (h && (true && (e && (f && true)))))))))))
    ≡ (((a && l) && ((p && q) && (e && f))) && (k && h))
shuffle false l p k q h e f = refl
shuffle true false p k q h e f = refl
shuffle true true false k q h e f = refl
shuffle true true true false false h e f = refl
shuffle true true true false true h false f = refl
shuffle true true true false true h true false = refl
shuffle true true true false true h true true = refl
shuffle true true true true false h e f = refl
shuffle true true true true true false false f = refl
shuffle true true true true true false true false = refl
shuffle true true true true true false true true = refl
shuffle true true true true true true false f = refl
shuffle true true true true true true true false = refl
shuffle true true true true true true true true = refl

pub frame_shown : (tag : ℕ) (l : Option ℕ) (p : Option ℕ) (kind : ℕ) (held b : List ℕ) → length b ≡ 80 → length held ≡ 21
    → (shows_frame tag l p b && (eqb (get_or b 7 0) kind && same (held_in b) held)) ≡ same b (framed tag (get_or b 1 0) (get_or b 2 0) l p kind held (settings_from (part 37 41 b)))
unfolding shows_frame framed held_in
frame_shown tag l p kind held b long h =
    let zeros : List ℕ = 0 ∷ 0 ∷ [] in
    let s = part 37 41 b in
    let q = bytes_for 8 (place_of p) in
    let ends : part 78 2 b ≡ get_or b 78 0 ∷ get_or b 79 0 ∷ [] = part_upto b 78 2 (omega (arith, long)) in
    let in_settings : same (s ++ part 78 2 b) (settings_bytes (settings_from s) ++ zeros) ≡ (true && (eqb (get_or b 78 0) 0 && (eqb (get_or b 79 0) 0 && true))) =
    same_append s (settings_bytes (settings_from s)) (part 78 2 b) zeros (ap length (sym (settings_same s (length_part 37 41 b (omega (arith, long))))))
    ∙ ap₂ ◌&&◌ (eq_same s (settings_bytes (settings_from s)) (sym (settings_same s (length_part 37 41 b (omega (arith, long)))))) (ap (λ (x : List ℕ). same x zeros) ends)
    in
    let in_held = same_append (held_in b) held (s ++ part 78 2 b) (settings_bytes (settings_from s) ++ zeros) (held_long ∙ sym h) ∙ ap (λ (x : Bool). same (held_in b) held && x) in_settings in
    let in_place =
    same_append (part 8 8 b) q (held_in b ++ (s ++ part 78 2 b)) (held ++ (settings_bytes (settings_from s) ++ zeros)) (length_part 8 8 b (omega (arith, long)) ∙ sym (length_bytes 8 (place_of p)))
    ∙ ap (λ (x : Bool). same (part 8 8 b) q && x) in_held
    in
    let in_last =
    same_append (part 3 3 b) (last_bytes l) (get_or b 6 0 ∷ get_or b 7 0 ∷ (part 8 8 b ++ (held_in b ++ (s ++ part 78 2 b))))
    (place_byte p ∷ kind ∷ (q ++ (held ++ (settings_bytes (settings_from s) ++ zeros)))) (length_part 3 3 b (omega (arith, long)) ∙ sym (length_last l))
    ∙ ap (λ (x : Bool). same (part 3 3 b) (last_bytes l) && (eqb (get_or b 6 0) (place_byte p) && (eqb (get_or b 7 0) kind && x))) in_place
    in
    let all : same b (framed tag (get_or b 1 0) (get_or b 2 0) l p kind held (settings_from s)) ≡ _ =
    ap (λ (x : List ℕ). same x (framed tag (get_or b 1 0) (get_or b 2 0) l p kind held (settings_from s))) (apart b long)
    ∙ ap (λ (x : Bool). eqb (get_or b 0 0) tag && (eqb (get_or b 1 0) (get_or b 1 0) && (eqb (get_or b 2 0) (get_or b 2 0) && x))) in_last
    ∙ ones (eqb (get_or b 0 0) tag) (eqb (get_or b 1 0) (get_or b 1 0)) (eqb (get_or b 2 0) (get_or b 2 0)) _ (eq-eqb (get_or b 1 0) (get_or b 1 0) refl) (eq-eqb (get_or b 2 0) (get_or b 2 0) refl)
    in
    sym (all ∙ shuffle (eqb (get_or b 0 0) tag) (same (part 3 3 b) (last_bytes l)) (eqb (get_or b 6 0) (place_byte p)) (eqb (get_or b 7 0) kind) (same (part 8 8 b) q) (same (held_in b) held) (eqb (get_or b 78 0) 0) (eqb (get_or b 79 0) 0))
  where
    held_long : length (held_in b) ≡ 21
    held_long = length_part 16 21 b (omega (arith, long))

-- ---- what is held of a reader's block
pub held_shown : (b m : List ℕ) (x y z n j : ℕ) → length b ≡ 80 → length m ≡ 2 → get_or m 0 0 ∷ get_or m 1 0 ∷ count_bytes x y z n j ≡ m ++ count_bytes x y z n j
    → bytes_for 8 (number_from (part 21 8 b)) ≡ part 21 8 b → bytes_for 8 (number_from (part 29 8 b)) ≡ part 29 8 b → n < 256 ^ 8 → j < 256 ^ 8
    → (eqb (get_or b 16 0) (get_or m 0 0) && (eqb (get_or b 17 0) (get_or m 1 0) && (eqb (get_or b 18 0) x && (eqb (get_or b 19 0) y && (eqb (get_or b 20 0) z && (eqb (number_from (part 21 8 b)) n && eqb (number_from (part 29 8 b)) j))))))
    ≡ same (held_in b) (m ++ count_bytes x y z n j)
unfolding held_in
held_shown b m x y z n j long h e p q ln lj =
    let numbers : same (part 21 8 b ++ part 29 8 b) (bytes_for 8 n ++ bytes_for 8 j) ≡ (eqb (number_from (part 21 8 b)) n && eqb (number_from (part 29 8 b)) j) =
    same_append (part 21 8 b) (bytes_for 8 n) (part 29 8 b) (bytes_for 8 j) (length_part 21 8 b (omega (arith, long)) ∙ sym (length_bytes 8 n))
    ∙ sym (ap₂ ◌&&◌ (same_number 8 n (part 21 8 b) p ln) (same_number 8 j (part 29 8 b) q lj))
    in
    let five : part 16 5 b ≡ get_or b 16 0 ∷ get_or b 17 0 ∷ get_or b 18 0 ∷ get_or b 19 0 ∷ get_or b 20 0 ∷ [] = part_upto b 16 5 (omega (arith, long)) in
    let two : part 21 16 b ≡ part 21 8 b ++ part 29 8 b = part_add 21 8 8 b in
    let held : part 16 21 b ≡ get_or b 16 0 ∷ get_or b 17 0 ∷ get_or b 18 0 ∷ get_or b 19 0 ∷ get_or b 20 0 ∷ (part 21 8 b ++ part 29 8 b) =
    part_add 16 5 16 b ∙ ap₂ (λ (l r : List ℕ). l ++ r) five two
    in
    sym (ap₂ same held (sym e)
    ∙ ap (λ (w : Bool). eqb (get_or b 16 0) (get_or m 0 0) && (eqb (get_or b 17 0) (get_or m 1 0) && (eqb (get_or b 18 0) x && (eqb (get_or b 19 0) y && (eqb (get_or b 20 0) z && w))))) numbers)
