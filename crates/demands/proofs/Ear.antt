-- An ear: what a line does to a listener between two lines, apart from the calls that do it. A line is the listener's own, or another's, or it is
-- refused.
-- Assumes nothing.
use Rattle.std.specs.Prelude.{Option, Some, None}
use Prim.Native.Nat.{ℕ, zero, suc}
use mathlib.Core.Bool.{Bool, true, false, ◌&&◌, not}
use mathlib.Core.List.{List, [], ◌∷◌, ◌++◌, map}
use Rattle.lists.specs.Tests.{pick}
use Rattle.line.specs.declared.settings.Settings.{Settings}
use Rattle.line.specs.Systems.{system_of}
use Rattle.line.specs.Check.{number_of, settings_of, fits, line_fault}
use Rattle.machine.specs.declared.phase.Phase.{Phase}
use Rattle.machine.specs.declared.phase.Phase.TheVariants.{Idle}
use Rattle.reader.specs.declared.state.Reader.{Reader}
use Rattle.machine.specs.Phases.{is_busy}
use Rattle.reader.specs.Jump.{jump_from, is_zero}
use Rattle.reader.specs.Reading.{goes_on}
use Rattle.demands.specs.Hearing.{Heard, is_refused, is_begun, is_end}
use Rattle.demands.proofs.Run.{Now, now}
use Rattle.demands.proofs.LineRun.{block_part, area_out, area_to}

-- a listener between two lines
pub record Ear : Type 0 where
  pub last : Option ℕ
  pub settings : Settings
  pub phase : Phase
  pub room : List ℕ

-- a line, as it comes to a listener: its own, by number, settings and the words in which blocks stand; another's, by number; refused, by the fault;
-- or none of the system's, which leaves everything
pub data Input : Type 0 where
  own : (n : ℕ) (t : Settings) (ws : List ℕ) → Input
  other : (n : ℕ) → Input
  refusal : (k : ℕ) → Input
  unfit : Input

-- ---- an open block stays open: on an own line by the reader's rule, on another's where the jump is 0
abbrev pub as_reader : ℕ → ℕ → Ear → Reader
as_reader system mode e = record { system = system; mode = mode; last = e.last; settings = e.settings; place = None; phase = e.phase }

abbrev pub goes_on_in : ℕ → ℕ → Ear → ℕ → Settings → Bool
goes_on_in system mode e n t = goes_on (as_reader system mode e) n t

abbrev pub stays_open : ℕ → ℕ → Ear → Input → Bool
stays_open system mode e (own n t ws) = goes_on_in system mode e n t
stays_open system mode e (other n) = is_zero (jump_from (system_of system).lines e.last n)
stays_open system mode e (refusal k) = false
stays_open system mode e unfit = true

-- an open block is dropped
abbrev pub loses : ℕ → ℕ → Ear → Input → Bool
loses system mode e i = is_busy e.phase && not (stays_open system mode e i)

-- as it starts on the area of an own line
abbrev pub start_now : ℕ → ℕ → Ear → ℕ → Settings → Now
start_now system mode e n t = now (pick (goes_on_in system mode e n t) e.phase Idle) e.room

-- ---- what is heard of a line, and the listener behind it
abbrev pub heard_of_input : ℕ → ℕ → Ear → Input → List Heard
heard_of_input system mode e (own n t ws) =
    is_begun n (jump_from (system_of system).lines e.last n) (loses system mode e (own n t ws)) t
    ∷ (area_out (system_of system).payload mode t (start_now system mode e n t) ws ++ (is_end ∷ []))
heard_of_input system mode e (other n) = []
heard_of_input system mode e (refusal k) = is_refused k (is_busy e.phase) ∷ []
heard_of_input system mode e unfit = is_refused 1 false ∷ []

abbrev pub ear_after : ℕ → ℕ → Ear → Input → Ear
ear_after system mode e (own n t ws) =
    let x = area_to (system_of system).payload mode t (start_now system mode e n t) ws in
    record { last = Some n; settings = t; phase = x.phase; room = x.room }
ear_after system mode e (other n) =
    record { last = Some n; settings = e.settings; phase = pick (stays_open system mode e (other n)) e.phase Idle; room = e.room }
ear_after system mode e (refusal k) = record { last = None; settings = e.settings; phase = Idle; room = e.room }
ear_after system mode e unfit = e

-- ---- lines one after another
abbrev pub heard_along : ℕ → ℕ → Ear → List Input → List Heard
heard_along system mode e [] = []
heard_along system mode e (i ∷ is) = heard_of_input system mode e i ++ heard_along system mode (ear_after system mode e i) is

abbrev pub ear_along : ℕ → ℕ → Ear → List Input → Ear
ear_along system mode e [] = e
ear_along system mode e (i ∷ is) = ear_along system mode (ear_after system mode e i) is

-- ---- a line, to a listener that every line is for
abbrev pub input_by : ℕ → ℕ → List ℕ → Input
input_by system zero line = own (number_of line) (settings_of line) (block_part system (settings_of line) line)
input_by system (suc k) line = refusal (suc k)

unfoldable pub input_of : ℕ → ℕ → List ℕ → Input
input_of system mode line = pick (fits system mode line) (input_by system (line_fault system mode line) line) unfit

abbrev pub inputs_of : ℕ → ℕ → List (List ℕ) → List Input
inputs_of system mode lines = map (input_of system mode) lines
