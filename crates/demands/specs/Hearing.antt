-- A course of calls on a reader: lines lent once each and in order, and what is heard of them.
-- Assumes nothing.
use Rattle.std.specs.Prelude.{ℕ, Bool, true, false, List, [], ◌∷◌, ◌++◌, ◌≡◌, take, Option, ℤ}
use Rattle.line.specs.declared.settings.Settings.{Settings}
use Rattle.reader.specs.declared.state.Reader.{Reader}
use Rattle.reader.specs.declared.state.Event.{Event}
use Rattle.reader.specs.declared.state.Event.TheVariants.{Refused, Begun, Block as HandedOut, Drop, End}
use Rattle.reader.specs.Reading.{reading}
use Rattle.reader.specs.Lending.{is_last}
use Rattle.demands.specs.Sending.{Block}

-- What a call tells. The settings of a begun line stand in the state that comes back; a block's values are the room's first n words at that moment.
pub data Heard : Type 0 where
  is_refused : ℕ → Bool → Heard
  is_begun : ℕ → Option ℤ → Bool → Settings → Heard
  is_block : Block → Heard
  is_drop : ℕ → Heard
  is_end : Heard

abbrev pub heard_of : Event → Settings → List ℕ → Heard
heard_of (Refused n dropped) t room = is_refused n dropped
heard_of (Begun n jump dropped) t room = is_begun n jump dropped t
heard_of (HandedOut k n) t room = is_block (record { kind = k; values = take n room })
heard_of (Drop n) t room = is_drop n
heard_of End t room = is_end

abbrev pub hear : Reader → List ℕ → List ℕ → Heard
hear st line room = let x = reading st line room in heard_of x.told.event x.told.state.settings x.room

-- A line is lent, unchanged, until its end or refusal is reported: what is heard, from a state and a room to a state and a room.
pub data Lends (line : List ℕ) : Reader → List ℕ → List Heard → Reader → List ℕ → Type 0 where
  last : {st : Reader} {room : List ℕ} → is_last (reading st line room).told.event ≡ true
      → Lends line st room (hear st line room ∷ []) (reading st line room).told.state (reading st line room).room
  more : {st st' : Reader} {room room' : List ℕ} {hs : List Heard} → is_last (reading st line room).told.event ≡ false
      → Lends line (reading st line room).told.state (reading st line room).room hs st' room'
      → Lends line st room (hear st line room ∷ hs) st' room'

-- Lines lent once each and in order, from a state and a room to a state and a room, which are touched by nobody else.
pub data ReadsTo : Reader → List ℕ → List (List ℕ) → List Heard → Reader → List ℕ → Type 0 where
  done : {st : Reader} {room : List ℕ} → ReadsTo st room [] [] st room
  next : {st st' st'' : Reader} {room room' room'' : List ℕ} {line : List ℕ} {lines : List (List ℕ)} {hs ks : List Heard}
      → Lends line st room hs st' room' → ReadsTo st' room' lines ks st'' room'' → ReadsTo st room (line ∷ lines) (hs ++ ks) st'' room''

-- and whatever state and room are behind the last line
pub record Reads (st : Reader) (room : List ℕ) (lines : List (List ℕ)) (hs : List Heard) : Type 0 where
  pub st' : Reader
  pub room' : List ℕ
  pub reads_to : ReadsTo st room lines hs st' room'

-- such a course of calls exists
pub record Readable (st : Reader) (room : List ℕ) (lines : List (List ℕ)) : Type 0 where
  pub heard : List Heard
  pub reads : Reads st room lines heard

-- the blocks handed out
abbrev pub handed_out : List Heard → List Block
handed_out [] = []
handed_out (is_refused n dropped ∷ hs) = handed_out hs
handed_out (is_begun n jump dropped t ∷ hs) = handed_out hs
handed_out (is_block b ∷ hs) = b ∷ handed_out hs
handed_out (is_drop n ∷ hs) = handed_out hs
handed_out (is_end ∷ hs) = handed_out hs
