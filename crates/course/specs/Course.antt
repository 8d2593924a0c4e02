-- What a writer and a reader hold of a course of lines, and which of it is impossible.
-- Assumes nothing.
use Rattle.std.specs.Prelude.{ℕ, suc, ◌*◌, ◌%◌, Bool, true, false, ◌&&◌, ◌||◌, not, eqb, leb, ltb, Option, Some, None}
use Rattle.lists.specs.Tests.{pick}
use Rattle.line.specs.declared.settings.Settings.{Settings}
use Rattle.line.specs.Systems.{system_of}
use Rattle.line.specs.Fixed.{is_variable, places_of, size_of}
use Rattle.line.specs.Settings.{settings_fault}
use Rattle.line.specs.Layout.{area_length}

-- the number after N is 1
unfoldable pub next_number : ℕ → ℕ → ℕ
next_number lines x = pick (ltb x lines) (suc x) 1

-- a line is begun (open), and the place in its area
abbrev pub is_at : Option ℕ → Bool
is_at None = false
is_at (Some p) = true

abbrev pub place_of : Option ℕ → ℕ
place_of None = 0
place_of (Some p) = p

-- the words of an area in which blocks stand: a variable line's whole area; of a fixed line its places
unfoldable pub blocks_end : ℕ → ℕ → ℕ → ℕ
blocks_end p block flag = pick (is_variable block) (area_length p flag) (places_of p block * size_of block)

-- not where a place of that block type starts or the last ends
unfoldable pub off_grid : ℕ → ℕ → Bool
off_grid block q = eqb (size_of block) 0 || not (eqb (q % size_of block) 0)

-- a place beyond the area, or in a fixed line not where a place starts or the last ends
abbrev pub misplaced : ℕ → ℕ → ℕ → Option ℕ → Bool
misplaced p block flag None = false
misplaced p block flag (Some q) = ltb (blocks_end p block flag) q || (not (is_variable block) && off_grid block q)

-- Impossible, exactly: a last number not 1..N, or none with an open phase or begun line; with one, settings that 10-13 refuse
-- (02, Item 5: 14 is no longer given, so any reserved bytes are possible);
-- a place beyond the area, or in a fixed line not where a place starts or the last ends; an open phase with fixed settings.
-- The rest of the rule is of the phase alone, and of the unfinished block alone. `busy`: an open phase, or an unfinished block.
abbrev pub impossible_after : ℕ → Option ℕ → Settings → Option ℕ → Bool → Bool
impossible_after system None t place busy = busy || is_at place
impossible_after system (Some x) t place busy =
    not (leb 1 x && leb x (system_of system).lines)
    || (not (eqb (settings_fault system t) 0)
    || (misplaced (system_of system).payload t.block t.flag place
    || (busy && not (is_variable t.block))))
