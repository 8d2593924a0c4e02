-- A burst: at least one bit of a line is changed, and all changed bits lie within so many consecutive ones, B0 first, of the words that the
-- payload CRC covers, over the borders of words. Nothing else is changed.
-- Assumes nothing.
use Rattle.std.specs.Prelude.{ℕ, ◌+◌, true, List, ◌≡◌, ltb, length, take, drop}
use Rattle.lists.specs.Lists.{each}
use Rattle.words.specs.Crc.{bits_of}
use Rattle.line.specs.declared.systems.System.{System}
use Rattle.line.specs.Systems.{system_of}
use Rattle.line.specs.Layout.{payload_at, area_of, end_of}
use Rattle.line.specs.Check.{settings_of, line_fault}

-- the bits that the payload CRC covers: with flag 01h those of the area, its words one after another, B0 of each first
abbrev pub covered : System → List ℕ → List ℕ
covered s line = bits_of (area_of s 1 line)

pub record Burst (s : System) (width : ℕ) (line line' : List ℕ) : Type 0 where
  -- at least one bit is changed
  pub some : covered s line' ≡ covered s line → ⊥
  -- all changed bits are among the `width` bits from `start` on
  pub start : ℕ
  pub same_before : take start (covered s line') ≡ take start (covered s line)
  pub same_behind : drop (start + width) (covered s line') ≡ drop (start + width) (covered s line)
  -- nothing else: not the length; not EAV, header, gap and SAV; not the two CRC words; and a word of the area has ten bits still
  pub long : length line' ≡ length line
  pub before : take (payload_at s) line' ≡ take (payload_at s) line
  pub behind : end_of s 1 line' ≡ end_of s 1 line
  pub ten : each (λ (w : ℕ). ltb w 0x400) (area_of s 1 line') ≡ true

-- a burst in an accepted line with flag 01h
pub record Hit (system mode width : ℕ) (line line' : List ℕ) : Type 0 where
  pub accepted : line_fault system mode line ≡ 0
  pub guarded : (settings_of line).flag ≡ 1
  pub burst : Burst (system_of system) width line line'
