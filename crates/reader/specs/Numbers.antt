-- The numbers of a jump and of what a reading call reports, by the state, the line and the room alone.
-- Assumes nothing.
use Rattle.std.specs.Prelude.{ℕ, Bool, ◌&&◌, not, List, [], ◌∷◌, map, eqb, ℤ, pos, length, get_or, Option, Some, None}
use Rattle.std.proofs.Math.IntN.{sub_ℕ}
use Rattle.lists.specs.Tests.{pick}
use Rattle.line.specs.Systems.{system_of}
use Rattle.line.specs.Check.{number_of, settings_of, line_fault}
use Rattle.course.specs.Course.{next_number}
use Rattle.machine.specs.declared.phase.Phase.{Phase}
use Rattle.machine.specs.Phases.{phase_numbers, met_numbers}
use Rattle.reader.specs.declared.state.Reader.{Reader}
use Rattle.reader.specs.Jump.{folded}
use Rattle.reader.specs.Events.{yes_no}
use Rattle.reader.specs.Reading.{goes_on, walk_from, read_fault}

-- with no last number none; else line number less expected number, folded by N
abbrev pub jump_by : ℕ → Option ℕ → ℕ → List ℤ
jump_by lines None n = []
jump_by lines (Some x) n = folded lines (sub_ℕ n (next_number lines x)) ∷ []

-- a block is open: the phase's number is not that of idle, 0
abbrev pub is_open : Phase → Bool
is_open p = not (eqb (get_or (phase_numbers p) 0 0) 0)

-- refused, 0, with the answer's number; begun, 1, with the line number, and the jump last; both with whether an open block was dropped
abbrev pub refused_by : ℕ → Bool → List ℤ
refused_by n dropped = pos 0 ∷ pos n ∷ yes_no dropped ∷ []

abbrev pub begun_by : ℕ → Bool → List ℤ → List ℤ
begun_by n dropped jump = pos 1 ∷ pos n ∷ yes_no dropped ∷ jump

-- no line begun: by the fault that the line check finds
unfoldable pub start_by : Reader → List ℕ → List ℤ
start_by st line =
    let fault = line_fault st.system st.mode line in
    let n = number_of line in
    pick (eqb fault 0) (begun_by n (is_open st.phase && not (goes_on st n (settings_of line))) (jump_by (system_of st.system).lines st.last n)) (refused_by fault (is_open st.phase))

-- a line begun: the numbers of what the walk met; where that is nothing, 0, the line's end, 4
unfoldable pub later_by : List ℕ → List ℤ
later_by met = pick (eqb (get_or met 0 0) 0) (pos 4 ∷ []) (map pos met)

abbrev pub place_by : Option ℕ → Reader → List ℕ → List ℕ → List ℤ
place_by None st line room = start_by st line
place_by (Some q) st line room = later_by (met_numbers (walk_from st q line room).answer.met)

-- 1 and 2 before all else; they drop nothing
unfoldable pub read_by : Reader → List ℕ → List ℕ → List ℤ
read_by st line room =
    let fault = read_fault st (length line) (length room) in
    pick (eqb fault 0) (place_by st.place st line room) (pos 0 ∷ pos fault ∷ pos 0 ∷ [])
