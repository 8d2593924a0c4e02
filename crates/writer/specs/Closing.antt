-- Closing a line: answers 1, 2, 20, and what stands in the line and the state afterwards.
-- Assumes nothing.
use Rattle.std.specs.Prelude.{ℕ, ◌+◌, ◌-◌, ◌&&◌, ◌||◌, not, List, [], ◌∷◌, ◌++◌, eqb, length, take, replicate, None}
use Rattle.lists.specs.Tests.{pick, Refusal, when, lowest_of}
use Rattle.words.specs.Crc.{crc_start, crc_of, register_words}
use Rattle.line.specs.declared.systems.System.{System}
use Rattle.line.specs.Systems.{system_of}
use Rattle.line.specs.Layout.{payload_at, area_length}
use Rattle.line.specs.Check.{fits_length}
use Rattle.course.specs.Course.{is_at, place_of}
use Rattle.writer.specs.declared.state.Writer.{Writer}
use Rattle.writer.specs.declared.state.Answer.TheVariants.{Refused, Done}
use Rattle.writer.specs.State.{is_part, impossible, end_in, moved}
use Rattle.writer.specs.Answers.{Left, left}
use Rattle.writer.specs.Adding.{is_full}

-- 1; 2; 20: none open, or unfinished block and a word left in the area
abbrev pub close_faults : Writer → ℕ → List Refusal
close_faults w long =
    when 1 (not (fits_length w.system w.mode long))
    ∷ when 2 (impossible w)
    ∷ when 20 (not (is_at w.place) || (is_part w.rest && not (is_full (end_in w) w.place)))
    ∷ []

unfoldable pub close_fault : Writer → ℕ → ℕ
close_fault w long = lowest_of (close_faults w long)

-- flag 01h: the two words of a register stand behind the area; 00h: nothing does
abbrev pub end_by : ℕ → ℕ → List ℕ
end_by flag c = pick (eqb flag 1) (register_words c) []

-- Closing takes the stored CRC on over the filler that is left of the area behind the place, and writes it behind the area. What the words
-- of the area are is not asked.
unfoldable pub sealed : System → ℕ → ℕ → ℕ → List ℕ → List ℕ
sealed s flag place c line =
    let area = area_length s.payload flag in
    take (payload_at s + area) line ++ end_by flag (crc_of c (replicate (area - place) 0x200))

-- no line is then open, and so no word laid; a refusal leaves line and state
unfoldable pub closing : Writer → List ℕ → Left
closing w line =
    let fault = close_fault w (length line) in
    pick (eqb fault 0)
    (left Done (moved w None w.rest crc_start) (sealed (system_of w.system) w.settings.flag (place_of w.place) w.crc line))
    (left (Refused fault) w line)
