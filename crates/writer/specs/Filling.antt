-- What an addition and a packet call lay, and a line opened, filled and closed.
-- Assumes nothing.
use Rattle.std.specs.Prelude.{◌≡◌, ℕ, ◌+◌, ◌-◌, Bool, List, [], ◌∷◌, ◌++◌, length, take, drop, replicate}
use Rattle.line.specs.declared.settings.Settings.{Settings}
use Rattle.line.specs.Systems.{system_of}
use Rattle.line.specs.Layout.{payload_at, area_length}
use Rattle.packets.specs.Packet.{Packet}
use Rattle.course.specs.Course.{place_of}
use Rattle.writer.specs.declared.state.Writer.{Writer}
use Rattle.writer.specs.declared.state.Answer.{Answer}
use Rattle.writer.specs.declared.state.Answer.TheVariants.{Refused, Done}
use Rattle.writer.specs.Opening.{opening}
use Rattle.writer.specs.Adding.{adding}
use Rattle.writer.specs.Packing.{packing}
use Rattle.writer.specs.Closing.{closing}

-- what an addition laid: the words from the place before it to the place after it, as the line then has them; a refused one laid none
unfoldable pub piece_of : Writer → List ℕ → ℕ → List ℕ → List ℕ
piece_of w line kind vs =
    let x = adding w line kind vs in
    take (place_of x.state.place - place_of w.place) (drop (payload_at (system_of w.system) + place_of w.place) x.line)

abbrev pub joined : List (List ℕ) → List ℕ
joined [] = []
joined (p ∷ ps) = p ++ joined ps

-- what a packet call laid: the packet, or none where it was refused
abbrev pub packed_by : Answer → ℕ → ℕ → List ℕ → List Packet
packed_by (Refused k) did second vs = []
packed_by Done did second vs = record { did = did; second = second; values = vs } ∷ []

abbrev pub packet_of : Writer → List ℕ → ℕ → ℕ → List ℕ → List Packet
packet_of w line did second vs = packed_by (packing w line did second vs).answer did second vs

-- calls on an open line, one after another: additions and packet calls, accepted or refused, and refused openings and closings;
-- from a state and a line to a state and a line, with the pieces and the packets laid
pub data Filling : Writer → List ℕ → Writer → List ℕ → List (List ℕ) → List Packet → Type 0 where
  filled : {w : Writer} {line : List ℕ} → Filling w line w line [] []
  adds : {w w' : Writer} {line line' : List ℕ} {ps : List (List ℕ)} {qs : List Packet} (kind : ℕ) (vs : List ℕ)
      → Filling (adding w line kind vs).state (adding w line kind vs).line w' line' ps qs
      → Filling w line w' line' (piece_of w line kind vs ∷ ps) qs
  packs : {w w' : Writer} {line line' : List ℕ} {ps : List (List ℕ)} {qs : List Packet} (did second : ℕ) (vs : List ℕ)
      → Filling (packing w line did second vs).state (packing w line did second vs).line w' line' ps qs
      → Filling w line w' line' ps (packet_of w line did second vs ++ qs)
  tries_opening : {w w' : Writer} {line line' : List ℕ} {ps : List (List ℕ)} {qs : List Packet} (f v : Bool) (n : ℕ) (t : Settings) (k : ℕ)
      → (opening w f v n t line).answer ≡ Refused k
      → Filling (opening w f v n t line).state (opening w f v n t line).line w' line' ps qs → Filling w line w' line' ps qs
  tries_closing : {w w' : Writer} {line line' : List ℕ} {ps : List (List ℕ)} {qs : List Packet} (k : ℕ)
      → (closing w line).answer ≡ Refused k → Filling (closing w line).state (closing w line).line w' line' ps qs → Filling w line w' line' ps qs

-- a line opened, filled and closed
pub record Written (w : Writer) (f v : Bool) (n : ℕ) (t : Settings) (lent : List ℕ) (w' : Writer) (line : List ℕ) (ps : List (List ℕ)) (qs : List Packet) : Type 0 where
  pub open_done : (opening w f v n t lent).answer ≡ Done
  pub last : Writer
  pub full : List ℕ
  pub calls : Filling (opening w f v n t lent).state (opening w f v n t lent).line last full ps qs
  pub close_done : (closing last full).answer ≡ Done
  pub state_is : w' ≡ (closing last full).state
  pub line_is : line ≡ (closing last full).line

-- the pieces joined, then filler, to the area's end
unfoldable pub area_from : ℕ → ℕ → List (List ℕ) → List ℕ
area_from p flag ps = joined ps ++ replicate (area_length p flag - length (joined ps)) 0x200

-- j words laid of a block of the values vs, the others of the values us: word 6 + i is that of value i
abbrev pub as_laid : ℕ → List ℕ → List ℕ → List ℕ
as_laid j vs us = take (j - 6) vs ++ drop (j - 6) us
