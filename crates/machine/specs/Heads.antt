-- A whole head of a block: 309h, the type word and the four count words. No promise of a walk cites this; those of what the walks share do.
-- Assumes nothing.
use Rattle.std.specs.Prelude.{ℕ, ◌+◌, ◌*◌, ◌%◌, Bool, not, ◌&&◌, List, eqb, leb, length, get_or, take, drop}
use Rattle.lists.specs.Tests.{pick}
use Rattle.lists.specs.Lists.{each}
use Rattle.words.specs.Forms.{is_byte}
use Rattle.words.specs.Class.{separator}
use Rattle.machine.specs.declared.phase.Mark.TheVariants.{Typed}
use Rattle.machine.specs.declared.phase.Phase.{Phase}
use Rattle.machine.specs.declared.phase.Phase.TheVariants.{Data}
use Rattle.machine.specs.Phases.{is_busy}

-- the number that the count words of a head spell, lowest byte first
abbrev pub count_at : List ℕ → ℕ
count_at ws = get_or ws 2 0 % 256 + get_or ws 3 0 % 256 * 256 + get_or ws 4 0 % 256 * 65536 + get_or ws 5 0 % 256 * 16777216

-- a whole head stands in front: 309h, five words in byte form, and a count of at most the room's length
unfoldable pub head_stands : ℕ → List ℕ → Bool
head_stands room ws = leb 6 (length ws) && (eqb (get_or ws 0 0) separator && (each is_byte (take 5 (drop 1 ws)) && leb (count_at ws) room))

-- idle takes such a head at once, and goes on with data
unfoldable pub head_of : ℕ → Phase → List ℕ → Bool
head_of room p ws = not (is_busy p) && head_stands room ws

abbrev pub head_taken : ℕ → Phase → List ℕ → ℕ
head_taken room p ws = pick (head_of room p ws) 6 0

abbrev pub head_phase : ℕ → Phase → List ℕ → Phase
head_phase room p ws = pick (head_of room p ws) (Data (Typed (get_or ws 1 0 % 256)) (count_at ws) 0) p
