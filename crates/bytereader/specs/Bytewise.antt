-- The reading calls on words that are lent as bytes, low byte first (02, Item 1). 1 also for an odd buffer; else each is the reader's call on the words that the bytes spell, and
-- the room's bytes are those of its words.
-- Assumes nothing.
use Rattle.std.specs.Prelude.{ℕ, ◌/◌, ◌%◌, false, ◌&&◌, List, eqb}
use Rattle.lists.specs.Tests.{pick}
use Rattle.octets.specs.Bytes.{words_of, bytes_of, is_even}
use Rattle.reader.specs.declared.state.Reader.{Reader}
use Rattle.reader.specs.declared.state.Event.TheVariants.{Refused}
use Rattle.reader.specs.declared.state.Told.{Told}
use Rattle.reader.specs.Reading.{Reply, reply, read_fault, reading}
use Rattle.reader.specs.Within.{Sliced, sliced, tells, within}

-- 1 leaves everything
abbrev pub refused_odd : Reader → Told
refused_odd st = record { event = Refused 1 false; state = st }

unfoldable pub read_bytes : Reader → List ℕ → List ℕ → Reply
read_bytes st line room =
    let x = reading st (words_of line) (words_of room) in
    pick (is_even line && is_even room) (reply x.told (bytes_of x.room)) (reply (refused_odd st) room)

unfoldable pub within_bytes : ℕ → Reader → List ℕ → List ℕ → Sliced
within_bytes a st line room =
    let x = within a st (words_of line) (words_of room) in
    pick (is_even line && is_even room) (sliced x.answer (bytes_of x.room)) (sliced (tells 0 (refused_odd st)) room)

-- 1 and 2 of either call, by the numbers of bytes
unfoldable pub bytes_fault : Reader → ℕ → ℕ → ℕ
bytes_fault st line room = pick (eqb (line % 2) 0 && eqb (room % 2) 0) (read_fault st (line / 2) (room / 2)) 1
