-- What a reading call asks before it reads: the lower of 1 and 2 that holds, or 0; and then where blocks end in the line, and the size of a fixed block.
-- Assumes nothing.
use Rattle.std.specs.Prelude.{ℕ, eqb}
use Rattle.lists.specs.Tests.{pick}
use Rattle.line.specs.Systems.{system_of}
use Rattle.line.specs.Fixed.{size_of}
use Rattle.course.specs.Course.{blocks_end}
use Rattle.reader.specs.declared.state.Reader.{Reader}
use Rattle.reader.specs.declared.read.Asked.{Asked}
use Rattle.reader.specs.Reading.{read_fault_in}

-- a call that 1 or 2 refuses reads nothing
abbrev pub barred : ℕ → Asked
barred n = record { fault = n; end = 0; size = 0 }

abbrev pub cleared : Reader → Asked
cleared st = record { fault = 0; end = blocks_end (system_of st.system).payload st.settings.block st.settings.flag; size = size_of st.settings.block }

unfoldable pub asked : ℕ → Reader → ℕ → ℕ → Asked
asked c st long room =
    let fault = read_fault_in c st long room in
    pick (eqb fault 0) (cleared st) (barred fault)
