-- The writer's state as 80 bytes, and back. In 7 stands whether a block is unfinished, 0 or 1. Of the block and the line are held: 17 the type; 18-19 n;
-- 21-22 the words laid; 23-26 the CRC of the words laid in this line; 27-28 the words of the gap used.
-- Assumes nothing.
use Rattle.std.specs.Prelude.{ℕ, zero, suc, Bool, List, [], ◌∷◌, ◌++◌, get_or, replicate, Option, Some, None}
use Rattle.lists.specs.Lists.{part, same}
use Rattle.writer.specs.declared.state.Writer.{Writer}
use Rattle.fields.specs.Fields.{bytes_for, number_from, settings_from}
use Rattle.fields.specs.Frame.{framed, last_in, place_in, held_in}
use Rattle.writer.specs.declared.state.Part.{Part}
use Rattle.writer.specs.State.{unfinished}

abbrev pub writer_tag : ℕ
writer_tag = 0x57

abbrev pub rest_byte : Option Part → ℕ
rest_byte None = 0
rest_byte (Some p) = 1

-- type, n and words laid
abbrev pub rest_bytes : Option Part → List ℕ
rest_bytes None = 0 ∷ 0 ∷ 0 ∷ 0 ∷ 0 ∷ 0 ∷ 0 ∷ []
rest_bytes (Some p) = 0 ∷ p.kind ∷ bytes_for 2 p.count ++ (0 ∷ bytes_for 2 p.laid)

abbrev pub rest_by : ℕ → List ℕ → Option Part
rest_by zero h = None
rest_by (suc n) h = unfinished (get_or h 1 0) (number_from (part 2 2 h)) (number_from (part 5 2 h))

unfoldable pub image_of : Writer → List ℕ
image_of w =
    framed writer_tag w.system w.mode w.last w.place (rest_byte w.rest)
    (rest_bytes w.rest ++ (bytes_for 4 w.crc ++ (bytes_for 2 w.used ++ replicate 8 0)))
    w.settings

-- the state that bytes spell, whatever they are
unfoldable pub state_of : List ℕ → Writer
state_of b =
    record {
      system = get_or b 1 0;
      mode = get_or b 2 0;
      last = last_in b;
      settings = settings_from (part 37 41 b);
      place = place_in b;
      rest = rest_by (get_or b 7 0) (held_in b);
      crc = number_from (part 7 4 (held_in b));
      used = number_from (part 11 2 (held_in b));
    }

-- an image is what a state gives: the state that it spells gives it again
unfoldable pub is_image : List ℕ → Bool
is_image b = same b (image_of (state_of b))
