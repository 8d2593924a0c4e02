-- Laws of an event's row: its text fits, so that what was added part by part is the row.
-- Assumes nothing.
use Rattle.std.specs.Prelude.{Option, Some, None, ℤ}
use mathlib.Core.Path.{◌≡◌, sym, ap, ◌∙◌}
use mathlib.Core.Bool.{Bool, true, false}
use mathlib.Core.List.{List, ◌++◌, append_assoc}
use Prim.Native.Nat.{ℕ, suc, ◌+◌, ◌<◌, ◌≤◌}
use native.Mathlib.Omega.{arith}
use lib.IntN.{pos, negsuc}
use lib.ListN.{length, length-append}
use Rattle.reader.specs.declared.state.Event.{Event}
use Rattle.reader.specs.declared.state.Event.TheVariants.{Refused, Begun, Block, Drop, End}
use Rattle.rows.specs.Text.{decimal, begun_text, refused_text, block_text, drop_text, end_text, dropped_text, space, newline}
use Rattle.rows.specs.Rows.{jump_text, row_text, row_of}
use Rattle.rows.specs.Cuts.{none, put, added}
use Rattle.rows.proofs.TextLaws.{length_decimal, short_decimal, added_append, written}

-- ---- lengths of parts
two : (s t : List ℕ) (a b : ℕ) → length s ≤ a → length t ≤ b → length (s ++ t) ≤ a + b
two s t a b h k = rw (length-append s t) (omega arith)

length_dropped : (b : Bool) → length (dropped_text b ++ newline) ≤ 9
length_dropped true = omega arith
length_dropped false = omega arith

length_jump : (j : Option ℤ) → length (jump_text j) ≤ 21
length_jump None = omega arith
length_jump (Some (pos n)) = omega (arith, length_decimal n)
length_jump (Some (negsuc n)) = omega (arith, length_decimal (suc n))

-- ---- texts of at most 48 bytes
row : (e : Event) → length (row_text e) ≤ 48 → added none (row_text e) ≡ row_of e
unfolding row_of
row e h = written (row_text e) h

-- a text in two parts and an end
ended : (s t u : List ℕ) → added (added none (s ++ t)) u ≡ added none (s ++ (t ++ u))
ended s t u = sym (added_append none (s ++ t) u) ∙ ap (added none) (append_assoc s t u)

pub refused_row : (n : ℕ) (b : Bool) → added (added none (refused_text ++ decimal n)) (dropped_text b ++ newline) ≡ row_of (Refused n b)
refused_row n b =
    ended refused_text (decimal n) (dropped_text b ++ newline)
    ∙ row (Refused n b) (omega (arith, two (decimal n) (dropped_text b ++ newline) 20 9 (length_decimal n) (length_dropped b)))

pub begun_row : (n : ℕ) (j : Option ℤ) (b : Bool) → n < 65536
    → added (added (added none (begun_text ++ decimal n)) (space ++ jump_text j)) (dropped_text b ++ newline) ≡ row_of (Begun n j b)
begun_row n j b h =
    let end = dropped_text b ++ newline in
    let rest = space ++ (jump_text j ++ end) in
    let fits : length rest ≤ 31 = omega (arith, two (jump_text j) end 21 9 (length_jump j) (length_dropped b)) in
    sym (added_append (added none (begun_text ++ decimal n)) (space ++ jump_text j) end)
    ∙ ended begun_text (decimal n) rest
    ∙ row (Begun n j b) (omega (arith, two (decimal n) rest 5 31 (short_decimal 4 n (omega arith) (omega arith)) fits))

pub block_row : (k n : ℕ) → added (added (put (added none (block_text ++ decimal k)) 32) (decimal n)) newline ≡ row_of (Block k n)
block_row k n =
    let rest = space ++ (decimal n ++ newline) in
    let fits : length rest ≤ 22 = omega (arith, two (decimal n) newline 20 1 (length_decimal n) (omega arith)) in
    sym (added_append (added none (block_text ++ decimal k)) (space ++ decimal n) newline)
    ∙ ended block_text (decimal k) rest
    ∙ row (Block k n) (omega (arith, two (decimal k) rest 20 22 (length_decimal k) fits))

pub drop_row : (n : ℕ) → added (added none (drop_text ++ decimal n)) newline ≡ row_of (Drop n)
drop_row n =
    ended drop_text (decimal n) newline ∙ row (Drop n) (omega (arith, two (decimal n) newline 20 1 (length_decimal n) (omega arith)))

pub end_row : added (added none end_text) newline ≡ row_of End
end_row = sym (added_append none end_text newline) ∙ row End (omega arith)
