-- The writer's state, and which states are impossible.
-- Assumes nothing.
use Rattle.std.specs.Prelude.{ℕ, ◌+◌, ◌^◌, Bool, true, false, ◌||◌, leb, ltb, Option, Some, None}
use Rattle.words.specs.Crc.{crc_start}
use Rattle.packets.specs.Listing.{gap_length}
use Rattle.line.specs.declared.settings.Settings.{Settings}
use Rattle.line.specs.Settings.{no_settings}
use Rattle.line.specs.Systems.{system_of}
use Rattle.course.specs.Course.{impossible_after, blocks_end}
use Rattle.writer.specs.declared.state.Writer.{Writer}
use Rattle.writer.specs.declared.state.Part.{Part}

-- n is at most 16,384
abbrev pub most : ℕ
most = 16384

-- an unfinished block of that type, with n values, j of its words laid
abbrev pub unfinished : ℕ → ℕ → ℕ → Option Part
unfinished k n j = Some (record { kind = k; count = n; laid = j })

-- a block is unfinished, and the words of it that are laid
abbrev pub is_part : Option Part → Bool
is_part None = false
is_part (Some p) = true

abbrev pub laid_of : Option Part → ℕ
laid_of None = 0
laid_of (Some p) = p.laid

-- Fresh: no number, line or block, settings zero, the CRC of no words, and no word of a gap used.
abbrev pub fresh : ℕ → ℕ → Writer
fresh system mode = record { system = system; mode = mode; last = None; settings = no_settings; place = None; rest = None; crc = crc_start; used = 0 }

-- an unfinished block has n at most 16,384, and 1 to n+6 words laid
abbrev pub misshapen : Option Part → Bool
misshapen None = false
misshapen (Some p) = ltb most p.count || (ltb p.laid 1 || ltb (p.count + 6) p.laid)

-- a CRC is a register of 18 bits; every number of them is taken, right or wrong
abbrev pub overlong : ℕ → Bool
overlong c = leb (2 ^ 18) c

-- a gap has no more words used than it has, with a line open or none
abbrev pub overfull : ℕ → ℕ → Bool
overfull system used = ltb (gap_length (system_of system)) used

-- the impossible rule, of lines, of the unfinished block, of the CRC and of the gap
unfoldable pub impossible : Writer → Bool
impossible w =
    impossible_after w.system w.last w.settings w.place (is_part w.rest) || (misshapen w.rest || (overlong w.crc || overfull w.system w.used))

-- how many words of the open line's area blocks may stand in
abbrev pub end_in : Writer → ℕ
end_in w = blocks_end (system_of w.system).payload w.settings.block w.settings.flag

-- the state of an opened line, at its first word, none laid and none of the gap used; an unfinished block stays
abbrev pub open_state : Writer → ℕ → Settings → Writer
open_state w n t = record { system = w.system; mode = w.mode; last = Some n; settings = t; place = Some 0; rest = w.rest; crc = crc_start; used = 0 }

-- the state with another place, rest and CRC
abbrev pub moved : Writer → Option ℕ → Option Part → ℕ → Writer
moved w p r c = record { system = w.system; mode = w.mode; last = w.last; settings = w.settings; place = p; rest = r; crc = c; used = w.used }

-- the state with more words of the gap used
abbrev pub used_to : Writer → ℕ → Writer
used_to w n = record { system = w.system; mode = w.mode; last = w.last; settings = w.settings; place = w.place; rest = w.rest; crc = w.crc; used = n }
