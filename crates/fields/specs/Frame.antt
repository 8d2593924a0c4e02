-- What the image of a reader's and of a writer's state share. An image has 80 bytes, numbers lowest byte first, and what is not used is 0:
-- 0 whose image it is; 1 system; 2 mode; 3 a last number is there, 0 or 1; 4-5 the last number; 6 a line is begun (open), 0 or 1; 7 where a block stands;
-- 8-15 the place; 16-36 what is held of the block; 37-77 the settings; 78-79 nothing.
-- Assumes nothing.
use Rattle.std.specs.Prelude.{ℕ, zero, suc, Bool, ◌&&◌, List, [], ◌∷◌, ◌++◌, eqb, get_or, Option, Some, None}
use Rattle.lists.specs.Lists.{part, same}
use Rattle.line.specs.declared.settings.Settings.{Settings}
use Rattle.course.specs.Course.{place_of}
use Rattle.fields.specs.Fields.{bytes_for, number_from, settings_bytes}

abbrev pub image_length : ℕ
image_length = 80

-- whether a last number is there, and the number
abbrev pub last_bytes : Option ℕ → List ℕ
last_bytes None = 0 ∷ 0 ∷ 0 ∷ []
last_bytes (Some x) = 1 ∷ bytes_for 2 x

abbrev pub last_by : ℕ → ℕ → Option ℕ
last_by zero x = None
last_by (suc n) x = Some x

-- whether a line is begun (open)
abbrev pub place_byte : Option ℕ → ℕ
place_byte None = 0
place_byte (Some q) = 1

abbrev pub place_by : ℕ → ℕ → Option ℕ
place_by zero q = None
place_by (suc n) q = Some q

-- where a block stands, `kind`, and the 21 bytes of what is held of it differ between reader and writer
unfoldable pub framed : ℕ → ℕ → ℕ → Option ℕ → Option ℕ → ℕ → List ℕ → Settings → List ℕ
framed tag system mode last place kind held t =
    tag ∷ system ∷ mode ∷ last_bytes last ++ (place_byte place ∷ kind ∷ bytes_for 8 (place_of place) ++ (held ++ (settings_bytes t ++ (0 ∷ 0 ∷ []))))

-- the fields of an image
unfoldable pub last_in : List ℕ → Option ℕ
last_in b = last_by (get_or b 3 0) (number_from (part 4 2 b))

unfoldable pub place_in : List ℕ → Option ℕ
place_in b = place_by (get_or b 6 0) (number_from (part 8 8 b))

unfoldable pub held_in : List ℕ → List ℕ
held_in b = part 16 21 b

-- ---- what is asked of 80 bytes: only `frame::shows_frame` cites this, and the laws that make it part of `is_image`
-- the bytes of a frame stand there, but for where a block stands, what is held of it and the settings
unfoldable pub shows_frame : ℕ → Option ℕ → Option ℕ → List ℕ → Bool
shows_frame tag last place b =
    (eqb (get_or b 0 0) tag && same (part 3 3 b) (last_bytes last))
    && ((eqb (get_or b 6 0) (place_byte place) && same (part 8 8 b) (bytes_for 8 (place_of place))) && (eqb (get_or b 78 0) 0 && eqb (get_or b 79 0) 0))
