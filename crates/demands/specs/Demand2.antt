-- DEMAND 2. Every line opened, filled and closed is the line that BT.1381-2 and document 01 define, word by word. A line is accepted exactly
-- if 01's checks find no fault. A fresh reader lent a fresh writer's lines gives back the headers and the finished blocks. An accepted header
-- written again gives the same 53 words. By 02, Item 3, the gap has the packets laid in it first, and they are listed again.
-- Assumes nothing.
use Rattle.std.specs.Prelude.{ℕ, zero, suc, ◌+◌, ◌-◌, ◌≤◌, Bool, true, false, List, [], ◌∷◌, ◌++◌, map, ◌≡◌, eqb, length, take, drop, Option, Some, None}
use Rattle.lists.specs.Lists.{part}
use Rattle.words.specs.Modes.{is_mode}
use Rattle.line.specs.declared.settings.Settings.{Settings}
use Rattle.line.specs.Systems.{system_of, is_system}
use Rattle.line.specs.Settings.{Held, settings_fault}
use Rattle.line.specs.Header.{header_words}
use Rattle.line.specs.Layout.{area_length, line_words, area_of}
use Rattle.line.specs.Check.{number_of, settings_of, fits_length, line_fault}
use Rattle.packets.specs.Packet.{Packet, packed}
use Rattle.packets.specs.Listing.{gap_length, gap_of, listed_of, listing}
use Rattle.course.specs.Course.{is_at, place_of}
use Rattle.writer.specs.declared.state.Writer.{Writer}
use Rattle.writer.specs.State.{laid_of, impossible, end_in}
use Rattle.writer.specs.Block.{words_in}
use Rattle.writer.specs.Adding.{add_fault}
use Rattle.writer.specs.Filling.{Written, area_from, piece_of}
use Rattle.reader.specs.declared.state.Reader.{Reader}
use Rattle.reader.specs.State.{capacity, fresh}
use Rattle.reader.specs.Jump.{jump_from}
use Rattle.reader.specs.Reading.{reply, refused, begun, read_fault, reading}
use Rattle.reader.specs.Lending.{is_begun_event}
use Rattle.demands.specs.All.{All}
use Rattle.demands.specs.Sending.{Call, Block, Piece, Complete, Sent, sent_fresh, blocks_of, joined_pieces}
use Rattle.demands.specs.Writable.{Passes, Writes, TypeHeld, Closable}
use Rattle.demands.specs.Hearing.{Heard, is_begun, is_block, is_end, Reads, Readable}

-- The line is 01's: EAV, header, the gap with the packets laid in it first and 01's filler after, SAV, then the area, which is what was laid and filler behind it, and the CRC words.
abbrev pub IsLine : ℕ → Sent → Type 0
IsLine system s =
    s.words ≡ line_words (system_of system) s.f s.v s.number s.settings (packed s.packets) (area_from (system_of system).payload s.settings.flag s.pieces)

-- a piece has one word or more
abbrev pub HasWord : Piece → Type 0
HasWord p = 1 ≤ length p.words

-- The pieces in which a block was laid, joined, are its words, by the block type of the line on which it was finished; and none of them is empty.
abbrev pub IsBlock : ℕ → ℕ → Complete → Type 0
IsBlock block mode b = (joined_pieces b.pieces ≡ words_in block mode b.block.kind b.block.values) × All HasWord b.pieces

-- each block finished on a line
abbrev pub HasBlocks : ℕ → Sent → Type 0
HasBlocks mode s = All (IsBlock s.settings.block mode) s.blocks

-- the words stand in the area of the line one after another, from a place of it on
pub record StandsIn (system : ℕ) (ws : List ℕ) (s : Sent) : Type 0 where
  pub place : ℕ
  pub within : place + length ws ≤ area_length (system_of system).payload s.settings.flag
  pub there : part place (length ws) (area_of (system_of system) s.settings.flag s.words) ≡ ws

-- line i is among these lines, the first being 0, and the words stand in it
abbrev pub StandsOn : ℕ → List ℕ → List Sent → ℕ → Type 0
StandsOn system ws [] i = ⊥
StandsOn system ws (s ∷ ss) zero = StandsIn system ws s
StandsOn system ws (s ∷ ss) (suc i) = StandsOn system ws ss i

-- each piece of a block stands in the line that it names
abbrev pub IsPlaced : ℕ → List Sent → Complete → Type 0
IsPlaced system ss b = All (λ (p : Piece). StandsOn system p.words ss p.line) b.pieces

-- What is heard of lines in order: each is begun with its number, the jump from the number before it, nothing dropped, and its settings;
-- then the blocks finished on it; then its end. No drop and no refusal.
unfoldable pub given_back : ℕ → Option ℕ → List Sent → List Heard
given_back lines before [] = []
given_back lines before (s ∷ ss) =
    is_begun s.number (jump_from lines before s.number) false s.settings
    ∷ (map (λ (b : Complete). is_block b.block) s.blocks ++ (is_end ∷ given_back lines (Some s.number) ss))

-- the packets laid on a line, listed: from any words that are lent for the list
abbrev pub IsListed : ℕ → ℕ → Sent → Type 0
IsListed system mode s =
    (out : List ℕ) → length out ≡ gap_length (system_of system) → listing system mode s.words out ≡ listed_of (record { packets = s.packets; stop = 0 }) out

-- what is listed of a line, and that it is so many of the gap's first words
pub record Relists (system mode : ℕ) (line out : List ℕ) : Type 0 where
  pub packets : List Packet
  pub stop : ℕ
  pub listed : listing system mode line out ≡ listed_of (record { packets = packets; stop = stop }) out
  pub again : packed packets ≡ take (length (packed packets)) (gap_of (system_of system) line)

pub record Demand2 : Type 0 where
  pub lines : (system mode : ℕ) (cs : List Call) → All (IsLine system) (sent_fresh system mode cs)
  -- and the same of a writer in any state, fresh or not: a line opened, filled by any calls and closed
  pub any_line : (w : Writer) (f v : Bool) (n : ℕ) (t : Settings) (lent : List ℕ) (w' : Writer) (line : List ℕ) (ps : List (List ℕ)) (qs : List Packet) → Held t
      → Written w f v n t lent w' line ps qs → line ≡ line_words (system_of w.system) f v n t (packed qs) (area_from (system_of w.system).payload t.flag ps)
  -- and such lines can be had: from any known system and mode, any F and V, ..
  pub writable : (system mode : ℕ) (f v : Bool) (n : ℕ) (t : Settings) (bs : List Block) → is_system system ≡ true → is_mode mode ≡ true
      -- .. any number 1..N, any settings that 10-13 let pass, ..
      → 1 ≤ n → n ≤ (system_of system).lines → Held t → settings_fault system t ≡ 0
      -- .. and any blocks that 17 and 18 let pass: calls on a fresh writer whose finished blocks are exactly these
      → All (Passes mode t) bs → Writes system mode f v n t bs
  -- a line that is open can be closed, from any possible state, and so after every accepted opening
  pub closable : (w : Writer) (line : List ℕ) → fits_length w.system w.mode (length line) ≡ true → impossible w ≡ false → TypeHeld w.rest
      → is_at w.place ≡ true → Closable w line
  pub blocks : (system mode : ℕ) (cs : List Call) → All (HasBlocks mode) (sent_fresh system mode cs)
  -- where a block's words are: each piece of a finished block stands in the line whose number, from 0 on, is the piece's
  pub placed : (system mode : ℕ) (cs : List Call) → let ss = sent_fresh system mode cs in All (IsPlaced system ss) (blocks_of ss)
  -- an accepted addition, from any state: it lays the next words of the block, as many as fit in the open line
  pub laid : (w : Writer) (line : List ℕ) (kind : ℕ) (vs : List ℕ) → add_fault w (length line) kind vs ≡ 0
      → piece_of w line kind vs ≡ take (end_in w - place_of w.place) (drop (laid_of w.rest) (words_in w.settings.block w.mode kind vs))
  -- with no line begun, and neither 1 nor 2: begun exactly if none of the conditions 3 to 16 holds
  pub accepted : (st : Reader) (line room : List ℕ) → read_fault st (length line) (length room) ≡ 0 → st.place ≡ None
      → is_begun_event (reading st line room).told.event ≡ eqb (line_fault st.system st.mode line) 0
  -- and then the call's whole answer: begun with the number and the settings that stand in the line, which written again are its 53 words
  pub told : (st : Reader) (line room : List ℕ) → read_fault st (length line) (length room) ≡ 0 → st.place ≡ None → line_fault st.system st.mode line ≡ 0
      → (reading st line room ≡ reply (begun st (number_of line) (settings_of line)) room) × (part 4 53 line ≡ header_words (number_of line) (settings_of line))
  -- else refused with the number of the fault; and what that leaves
  pub not_told : (st : Reader) (line room : List ℕ) → read_fault st (length line) (length room) ≡ 0 → st.place ≡ None
      → (n : ℕ) → line_fault st.system st.mode line ≡ n → (n ≡ 0 → ⊥) → reading st line room ≡ reply (refused st n) room
  -- any system and mode, any calls, a room of 16,384 words with any content
  pub heard : (system mode : ℕ) (cs : List Call) (room : List ℕ) → length room ≡ capacity → (hs : List Heard)
      → Reads (fresh system mode) room (map (λ (s : Sent). s.words) (sent_fresh system mode cs)) hs
      → hs ≡ given_back (system_of system).lines None (sent_fresh system mode cs)
  -- and such a course of reading calls exists
  pub readable : (system mode : ℕ) (cs : List Call) (room : List ℕ) → Readable (fresh system mode) room (map (λ (s : Sent). s.words) (sent_fresh system mode cs))
  -- the listing of each sent line gives exactly the packets that were laid in its gap, and no bad packet ends it
  pub listed_back : (system mode : ℕ) (cs : List Call) → All (IsListed system mode) (sent_fresh system mode cs)
  -- of every accepted line, whatever ended the list: the words of the listed packets are the first words of its gap
  pub relisted : (system mode : ℕ) (line out : List ℕ) → line_fault system mode line ≡ 0 → length out ≡ gap_length (system_of system) → Relists system mode line out
  pub rewritten : (system mode : ℕ) (line : List ℕ) → line_fault system mode line ≡ 0 → part 4 53 line ≡ header_words (number_of line) (settings_of line)
