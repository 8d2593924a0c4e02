-- What is held of a writer's block and line is judged by its fields.
-- Assumes nothing.
use mathlib.Core.Path.{◌≡◌, sym, ap, ap₂, ◌∙◌}
use mathlib.Core.Bool.{Bool, true, ◌&&◌}
use mathlib.Core.List.{List, ◌++◌}
use Prim.Native.Nat.{ℕ}
use native.Mathlib.Omega.{arith}
use lib.Dec.{eqb}
use lib.ListN.{length, get_or, replicate}
use Rattle.lists.specs.Lists.{part, same}
use Rattle.lists.proofs.Lists.{part_add, length_part, eq_same}
use Rattle.fields.specs.Fields.{bytes_for, number_from}
use Rattle.fields.specs.Frame.{held_in}
use Rattle.fields.proofs.PartLaws.{same_append}

-- ---- what is held of a writer's block and line
pub kept_shown : (b r : List ℕ) → length b ≡ 80 → length r ≡ 7 → bytes_for 4 (number_from (part 23 4 b)) ≡ part 23 4 b → bytes_for 2 (number_from (part 27 2 b)) ≡ part 27 2 b
    → (same (part 16 7 b) r && same (part 29 8 b) (bytes_for 8 0)) ≡ same (held_in b) (r ++ (bytes_for 4 (number_from (part 23 4 b)) ++ (bytes_for 2 (number_from (part 27 2 b)) ++ replicate 8 0)))
unfolding held_in bytes_for
kept_shown b r long h p q =
    let crc = bytes_for 4 (number_from (part 23 4 b)) in
    let used = bytes_for 2 (number_from (part 27 2 b)) in
    let zeros : List ℕ = replicate 8 0 in
    let held : part 16 21 b ≡ part 16 7 b ++ (part 23 4 b ++ (part 27 2 b ++ part 29 8 b)) =
    part_add 16 7 14 b ∙ ap (λ (x : List ℕ). part 16 7 b ++ x) (part_add 23 4 10 b ∙ ap (λ (x : List ℕ). part 23 4 b ++ x) (part_add 27 2 8 b))
    in
    let in_used : same (part 27 2 b ++ part 29 8 b) (used ++ zeros) ≡ (true && same (part 29 8 b) zeros) =
    same_append (part 27 2 b) used (part 29 8 b) zeros (ap length (sym q)) ∙ ap (λ (x : Bool). x && same (part 29 8 b) zeros) (eq_same (part 27 2 b) used (sym q))
    in
    let in_crc : same (part 23 4 b ++ (part 27 2 b ++ part 29 8 b)) (crc ++ (used ++ zeros)) ≡ (true && (true && same (part 29 8 b) zeros)) =
    same_append (part 23 4 b) crc (part 27 2 b ++ part 29 8 b) (used ++ zeros) (ap length (sym p)) ∙ ap₂ ◌&&◌ (eq_same (part 23 4 b) crc (sym p)) in_used
    in
    sym (ap (λ (x : List ℕ). same x (r ++ (crc ++ (used ++ zeros)))) held
    ∙ same_append (part 16 7 b) r (part 23 4 b ++ (part 27 2 b ++ part 29 8 b)) (crc ++ (used ++ zeros)) (length_part 16 7 b (omega (arith, long)) ∙ sym h)
    ∙ ap (λ (x : Bool). same (part 16 7 b) r && x) in_crc)
