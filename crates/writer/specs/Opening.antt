-- Opening a line: answers 1, 2, 9-13, 20, and what stands in the line and the state afterwards.
-- Assumes nothing.
use Rattle.std.specs.Prelude.{ℕ, Bool, false, ◌&&◌, ◌||◌, not, List, [], ◌∷◌, ◌++◌, eqb, leb, length, replicate, Option, Some, None}
use Rattle.lists.specs.Tests.{pick, Refusal, when, lowest_of}
use Rattle.line.specs.declared.settings.Settings.{Settings}
use Rattle.line.specs.Systems.{system_of}
use Rattle.line.specs.Settings.{settings_faults, same_settings}
use Rattle.line.specs.Layout.{framed}
use Rattle.line.specs.Check.{fits_length}
use Rattle.course.specs.Course.{is_at, next_number}
use Rattle.writer.specs.declared.state.Writer.{Writer}
use Rattle.writer.specs.declared.state.Answer.TheVariants.{Refused, Done}
use Rattle.writer.specs.State.{is_part, impossible, open_state}
use Rattle.writer.specs.Answers.{Left, left}

-- the number comes next; with no last number none does
abbrev pub is_next : ℕ → Option ℕ → ℕ → Bool
is_next lines None n = false
is_next lines (Some x) n = eqb n (next_number lines x)

-- 20: line open already, or unfinished block and a changed setting or a number that isn't next
unfoldable pub open_blocked : Writer → ℕ → Settings → Bool
open_blocked w n t =
    is_at w.place || (is_part w.rest && (not (same_settings t w.settings) || not (is_next (system_of w.system).lines w.last n)))

-- 1; 2; 9: line number not 1..N; 10 to 13; 20
abbrev pub open_faults : Writer → ℕ → Settings → ℕ → List Refusal
open_faults w n t long =
    when 1 (not (fits_length w.system w.mode long))
    ∷ when 2 (impossible w)
    ∷ when 9 (not (leb 1 n && leb n (system_of w.system).lines))
    ∷ settings_faults (system_of w.system) t ++ (when 20 (open_blocked w n t) ∷ [])

unfoldable pub open_fault : Writer → ℕ → Settings → ℕ → ℕ
open_fault w n t long = lowest_of (open_faults w n t long)

-- Opening writes L words, the payload all 200h.
unfoldable pub open_words : ℕ → Bool → Bool → ℕ → Settings → List ℕ
open_words system f v n t = framed (system_of system) f v n t [] (replicate (system_of system).payload 0x200)

-- a refusal leaves line and state
unfoldable pub opening : Writer → Bool → Bool → ℕ → Settings → List ℕ → Left
opening w f v n t line =
    let fault = open_fault w n t (length line) in
    pick (eqb fault 0) (left Done (open_state w n t) (open_words w.system f v n t)) (left (Refused fault) w line)
