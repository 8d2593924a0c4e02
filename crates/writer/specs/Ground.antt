-- What an addition looks at, where neither 1 nor 2 holds. Only the promises of functions that the crate keeps to itself cite this; no public
-- function's does.
-- Assumes nothing.
use Rattle.std.specs.Prelude.{ℕ, ◌+◌, ◌-◌, true, false, ◌&&◌, ◌||◌, not, List, [], ◌∷◌, ◌≡◌, leb, length, get_or, Some, None}
use Rattle.lists.specs.Tests.{pick, Refusal, when}
use Rattle.line.specs.Systems.{system_of}
use Rattle.line.specs.Fixed.{size_of}
use Rattle.line.specs.Layout.{payload_at}
use Rattle.line.specs.Check.{fits_length}
use Rattle.course.specs.Course.{is_at}
use Rattle.writer.specs.declared.state.Writer.{Writer}
use Rattle.writer.specs.declared.state.Laid.TheVariants.{Finished}
use Rattle.writer.specs.declared.adding.Ground.{Ground}
use Rattle.writer.specs.declared.adding.Held.{Held}
use Rattle.writer.specs.declared.adding.Step.{Step}
use Rattle.writer.specs.declared.batch.Run.{Run}
use Rattle.writer.specs.declared.batch.Stop.{Stop}
use Rattle.writer.specs.State.{impossible, end_in, moved}
use Rattle.writer.specs.Answers.{added}
use Rattle.writer.specs.Adding.{valued, ill_shaped, is_full, is_other, adding}
use Rattle.writer.specs.Batch.{entries_of, batched, lay_all}

-- the state with what an addition moves
abbrev pub held_by : Writer → Held → Writer
held_by w h = moved w h.place h.rest h.crc

-- what an addition asks of the line of this writer
pub record Grounds (w : Writer) (g : Ground) : Type 0 where
  pub mode : g.mode ≡ w.mode
  pub block : g.block ≡ w.settings.block
  pub size : g.size ≡ size_of w.settings.block
  pub end : g.end ≡ end_in w
  pub start : g.start ≡ payload_at (system_of w.system)

-- and neither 1 nor 2 holds of it
pub record Stands (w : Writer) (g : Ground) (h : Held) (long : ℕ) : Type 0 where
  pub grounds : Grounds w g
  pub fits : fits_length w.system w.mode long ≡ true
  pub possible : impossible (held_by w h) ≡ false

-- of some writer
pub record Standing (g : Ground) (h : Held) (long : ℕ) : Type 0 where
  pub w : Writer
  pub stands : Stands w g h long

-- 17; 18; 19; 20
abbrev pub block_faults : Ground → Held → ℕ → List ℕ → List Refusal
block_faults g h kind vs =
    when 17 (not (valued g.mode vs))
    ∷ when 18 (ill_shaped h.place g.block kind (length vs))
    ∷ when 19 (is_full g.end h.place)
    ∷ when 20 (not (is_at h.place) || is_other h.rest kind (length vs))
    ∷ []

-- what was answered and is held then, and the line, are what `adding` leaves: of every writer of which that was asked
abbrev pub IsStep : Ground → Held → List ℕ → ℕ → List ℕ → Step → List ℕ → Type 0
IsStep g h line kind vs s line' =
    (w : Writer) → Stands w g h (length line) → added s.answer (held_by w s.held) line' ≡ adding (held_by w h) line kind vs

-- a place of a fixed line is filled
abbrev pub filled : ℕ → ℕ → Step
filled next c = record { answer = Finished; held = record { place = Some next; rest = None; crc = c } }

-- how many were finished, why it stopped, and what is held then
abbrev pub ran : ℕ → Stop → Held → Run
ran n stop h = record { finished = n; stop = stop; held = h }

-- and of a whole list
abbrev pub IsRun : Ground → Held → List ℕ → List ℕ → Run → List ℕ → Type 0
IsRun g h line blocks r line' =
    (w : Writer) → Stands w g h (length line)
    → batched r.finished r.stop (held_by w r.held) line' ≡ lay_all (held_by w h) line 0 (entries_of blocks)

-- where the entry that starts at a place of the list ends; 0 where it is broken off
unfoldable pub entry_end : ℕ → List ℕ → ℕ
entry_end at ws =
    pick (leb 2 (length ws - at) && leb (get_or ws (at + 1) 0) (length ws - at - 2)) (at + 2 + get_or ws (at + 1) 0) 0
