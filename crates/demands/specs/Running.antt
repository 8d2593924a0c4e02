-- THE RUNNING CRC. The writer's state has the CRC of the area words laid so far in this line. Over any calls on a fresh writer whose line and state
-- nobody else touches it is 01's CRC of them, and what closing writes is then 01's CRC of the whole area: demand 2, `lines` and `any_line`.
-- Assumes nothing.
use Rattle.std.specs.Prelude.{ℕ, Bool, List, [], ◌∷◌, ◌≡◌}
use Rattle.lists.specs.Lists.{part}
use Rattle.words.specs.Crc.{crc_start, crc_of}
use Rattle.line.specs.declared.settings.Settings.{Settings}
use Rattle.line.specs.Systems.{system_of}
use Rattle.line.specs.Settings.{Held}
use Rattle.line.specs.Layout.{payload_at}
use Rattle.packets.specs.Packet.{Packet}
use Rattle.course.specs.Course.{place_of}
use Rattle.writer.specs.declared.state.Writer.{Writer}
use Rattle.writer.specs.declared.state.Answer.TheVariants.{Done}
use Rattle.writer.specs.Opening.{opening}
use Rattle.writer.specs.Filling.{Filling}
use Rattle.demands.specs.Sending.{Call, Desk, start, after}

-- the desk behind calls, accepted or refused
unfoldable pub desk_after : Desk → List Call → Desk
desk_after d [] = d
desk_after d (c ∷ cs) = desk_after (after d c) cs

-- the area words that stand laid in the line: those before the place. With no line open there are none.
abbrev pub laid_in : ℕ → Writer → List ℕ → List ℕ
laid_in system w line = part (payload_at (system_of system)) (place_of w.place) line

pub record Running : Type 0 where
  -- any system and mode, any calls, at every moment: with a line open, and with none
  pub kept : (system mode : ℕ) (cs : List Call) → let d = desk_after (start system mode) cs in d.writer.crc ≡ crc_of crc_start (laid_in system d.writer d.now.words)
  -- and the same of a writer in any state, whatever number it had: from an accepted opening on, by any calls that leave the line open
  pub any_line : (w : Writer) (f v : Bool) (n : ℕ) (t : Settings) (lent : List ℕ) (w' : Writer) (line : List ℕ) (ps : List (List ℕ)) (qs : List Packet) → Held t
      → (opening w f v n t lent).answer ≡ Done → Filling (opening w f v n t lent).state (opening w f v n t lent).line w' line ps qs
      → w'.crc ≡ crc_of crc_start (laid_in w.system w' line)
