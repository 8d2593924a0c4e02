-- What every value of a reader's state holds, possible or not: numbers of their widths, arrays of their lengths.
-- Assumes nothing.
use Rattle.std.specs.Prelude.{◌≡◌, Bool, true, ◌&&◌}
use Rattle.line.specs.Settings.{Held, small}
use Rattle.machine.specs.declared.phase.Mark.{Mark}
use Rattle.machine.specs.declared.phase.Mark.TheVariants.{Typed, Nulled}
use Rattle.machine.specs.declared.phase.Phase.{Phase}
use Rattle.machine.specs.declared.phase.Phase.TheVariants.{Idle, Kind, First, Second, Third, Fourth, Data}
use Rattle.reader.specs.declared.state.Reader.{Reader}
use Rattle.fields.specs.Widths.{eight, held_last, held_place}

abbrev pub held_mark : Mark → Bool
held_mark (Typed k) = small k
held_mark Nulled = true

abbrev pub held_phase : Phase → Bool
held_phase Idle = true
held_phase Kind = true
held_phase (First m) = held_mark m
held_phase (Second m a) = held_mark m && small a
held_phase (Third m a b) = held_mark m && (small a && small b)
held_phase (Fourth m a b c) = held_mark m && (small a && (small b && small c))
held_phase (Data m n j) = held_mark m && (eight n && eight j)

-- a reader's state
pub record HeldReader (st : Reader) : Type 0 where
  pub system_byte : small st.system ≡ true
  pub mode_byte : small st.mode ≡ true
  pub last_held : held_last st.last ≡ true
  pub place_held : held_place st.place ≡ true
  pub phase_held : held_phase st.phase ≡ true
  pub code_byte : small st.settings.code ≡ true
  pub aai_byte : small st.settings.aai ≡ true
  pub settings_held : Held st.settings
