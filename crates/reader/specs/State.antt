-- The reader's state, and which states are impossible.
-- Assumes nothing.
use Rattle.std.specs.Prelude.{ℕ, Bool, ◌||◌, None}
use Rattle.line.specs.Settings.{no_settings}
use Rattle.course.specs.Course.{impossible_after}
use Rattle.machine.specs.declared.phase.Phase.TheVariants.{Idle}
use Rattle.reader.specs.declared.state.Reader.{Reader}
use Rattle.machine.specs.Phases.{is_busy, misphased}

-- the words of the room of a reading call
abbrev pub capacity : ℕ
capacity = 16384

-- Fresh: no number, line or block, settings zero.
abbrev pub fresh : ℕ → ℕ → Reader
fresh system mode = record { system = system; mode = mode; last = None; settings = no_settings; place = None; phase = Idle }

-- the impossible rule, of lines and of the phase; c is the capacity, the words of the room
unfoldable pub impossible_in : ℕ → Reader → Bool
impossible_in c st = impossible_after st.system st.last st.settings st.place (is_busy st.phase) || misphased c st.phase

abbrev pub impossible : Reader → Bool
impossible st = impossible_in capacity st
