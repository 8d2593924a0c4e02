-- A line's area to its end: what the machine, or the walk over places, says of it.
-- Assumes nothing.
use Prim.Native.Nat.{ℕ}
use mathlib.Core.List.{List}
use Rattle.lists.specs.Tests.{pick}
use Rattle.lists.specs.Lists.{part}
use Rattle.line.specs.declared.settings.Settings.{Settings}
use Rattle.line.specs.Systems.{system_of}
use Rattle.line.specs.Fixed.{is_variable, places_of, size_of}
use Rattle.line.specs.Layout.{payload_at}
use Rattle.course.specs.Course.{blocks_end}
use Rattle.machine.specs.Places.{places_in}
use Rattle.demands.specs.Hearing.{Heard}
use Rattle.demands.proofs.Run.{Now, now, run_to, run_out, places_to, places_out}

-- the words of a line in which blocks stand
abbrev pub block_part : ℕ → Settings → List ℕ → List ℕ
block_part system t line = part (payload_at (system_of system)) (blocks_end (system_of system).payload t.block t.flag) line

-- words of an area to its end, in a fixed line n places: by words in a variable line, by places in a fixed one
unfoldable pub left_out : ℕ → ℕ → ℕ → Now → List ℕ → List Heard
left_out mode block n q ws = pick (is_variable block) (run_out mode q ws) (places_out mode q.room (places_in (size_of block) n ws))

unfoldable pub left_to : ℕ → ℕ → ℕ → Now → List ℕ → Now
left_to mode block n q ws = pick (is_variable block) (run_to mode q ws) (now q.phase (places_to mode q.room (places_in (size_of block) n ws)))

-- the whole area
abbrev pub area_out : ℕ → ℕ → Settings → Now → List ℕ → List Heard
area_out payload mode t q ws = left_out mode t.block (places_of payload t.block) q ws

abbrev pub area_to : ℕ → ℕ → Settings → Now → List ℕ → Now
area_to payload mode t q ws = left_to mode t.block (places_of payload t.block) q ws
