-- What every value of a writer's state holds, possible or not: numbers of their widths, arrays of their lengths.
-- Assumes nothing.
use Rattle.std.specs.Prelude.{◌≡◌, Bool, true, ◌&&◌, Option, Some, None}
use Rattle.line.specs.Settings.{Held, small}
use Rattle.writer.specs.declared.state.Writer.{Writer}
use Rattle.fields.specs.Widths.{two, four, held_last, held_place}
use Rattle.writer.specs.declared.state.Part.{Part}

abbrev pub held_rest : Option Part → Bool
held_rest None = true
held_rest (Some p) = small p.kind && (two p.count && two p.laid)

-- a writer's state
pub record HeldWriter (w : Writer) : Type 0 where
  pub system_byte : small w.system ≡ true
  pub mode_byte : small w.mode ≡ true
  pub last_held : held_last w.last ≡ true
  pub place_held : held_place w.place ≡ true
  pub rest_held : held_rest w.rest ≡ true
  pub crc_held : four w.crc ≡ true
  pub used_held : two w.used ≡ true
  pub code_byte : small w.settings.code ≡ true
  pub aai_byte : small w.settings.aai ≡ true
  pub settings_held : Held w.settings
