-- What a reading call reports, as 32 bytes: 0 the number of its kind (refused 0, begun 1, block 2, drop 3, end 4, paused 5); 1 an open block was dropped, 0 or 1;
-- 2 the jump is known, 0 or 1; 3 it is behind, 0 or 1; 4-7 the number of the refusal, the line or the drop; 8-11 the jump's size; 12-15 the block's type;
-- 16-23 its length; 24-31 how many words (fixed: places) were consumed. What is not used is 0.
-- Assumes nothing.
use Rattle.std.specs.Prelude.{ℕ, suc, Bool, true, false, List, ◌∷◌, ◌++◌, pos, negsuc, Option, Some, None, ℤ}
use Rattle.reader.specs.declared.state.Event.TheVariants.{Refused, Begun, Block, Drop, End}
use Rattle.reader.specs.declared.within.Report.{Report}
use Rattle.reader.specs.declared.within.Report.TheVariants.{Paused, Told}
use Rattle.fields.specs.Fields.{bytes_for}

abbrev pub event_length : ℕ
event_length = 32

abbrev pub flag_byte : Bool → ℕ
flag_byte true = 1
flag_byte false = 0

-- the jump: known, behind, size
abbrev pub is_known : Option ℤ → ℕ
is_known None = 0
is_known (Some z) = 1

abbrev pub is_behind : Option ℤ → ℕ
is_behind None = 0
is_behind (Some (pos d)) = 0
is_behind (Some (negsuc d)) = 1

abbrev pub size_of_jump : Option ℤ → ℕ
size_of_jump None = 0
size_of_jump (Some (pos d)) = d
size_of_jump (Some (negsuc d)) = suc d

abbrev pub event_fields : ℕ → ℕ → Option ℤ → ℕ → ℕ → ℕ → ℕ → List ℕ
event_fields kind dropped jump number type size consumed =
    kind ∷ dropped ∷ is_known jump ∷ is_behind jump ∷ bytes_for 4 number ++ (bytes_for 4 (size_of_jump jump) ++ (bytes_for 4 type ++ (bytes_for 8 size ++ bytes_for 8 consumed)))

abbrev pub event_image : Report → ℕ → List ℕ
event_image Paused c = event_fields 5 0 None 0 0 0 c
event_image (Told (Refused n dropped)) c = event_fields 0 (flag_byte dropped) None n 0 0 c
event_image (Told (Begun n jump dropped)) c = event_fields 1 (flag_byte dropped) jump n 0 0 c
event_image (Told (Block k n)) c = event_fields 2 0 None 0 k n c
event_image (Told (Drop n)) c = event_fields 3 0 None n 0 0 c
event_image (Told End) c = event_fields 4 0 None 0 0 0 c
