-- A course of calls on a writer: the lines that it closes, and the blocks that it finishes.
-- Assumes nothing.
use Rattle.std.specs.Prelude.{ℕ, suc, ◌<◌, Bool, false, List, [], ◌∷◌, ◌++◌}
use Rattle.line.specs.declared.settings.Settings.{Settings}
use Rattle.line.specs.Settings.{Held, no_settings}
use Rattle.packets.specs.Packet.{Packet}
use Rattle.writer.specs.declared.state.Writer.{Writer}
use Rattle.writer.specs.declared.state.Answer.{Answer}
use Rattle.writer.specs.declared.state.Answer.TheVariants.{Refused, Done}
use Rattle.writer.specs.declared.state.Laid.{Laid}
use Rattle.writer.specs.declared.state.Laid.TheVariants.{Refused as NotLaid, Finished, Unfinished}
use Rattle.writer.specs.State.{laid_of, fresh}
use Rattle.writer.specs.Answers.{Left, Added}
use Rattle.writer.specs.Opening.{opening}
use Rattle.writer.specs.Adding.{adding}
use Rattle.writer.specs.Packing.{packing}
use Rattle.writer.specs.Closing.{closing}
use Rattle.writer.specs.Filling.{piece_of, as_laid}

-- A call on the writer, accepted or refused. Opening is lent a line with any words in it; adding, packing and closing are lent the line
-- that was opened last, as the call before left it. Settings are any value of their type, and so are a packet's DID and second word.
pub data Call : Type 0 where
  opens : (f v : Bool) (n : ℕ) (t : Settings) → Held t → (lent : List ℕ) → Call
  adds : (kind : ℕ) (values : List ℕ) → Call
  packs : (did second : ℕ) → did < 256 → second < 256 → (values : List ℕ) → Call
  closes : Call

-- a block: its type and its values
pub record Block : Type 0 where
  pub kind : ℕ
  pub values : List ℕ

-- what one addition laid of a block, and on which line: the first line that is closed is 0
pub record Piece : Type 0 where
  pub line : ℕ
  pub words : List ℕ

-- a finished block, its values those laid, and the pieces in which it was laid
pub record Complete : Type 0 where
  pub block : Block
  pub pieces : List Piece

-- a line: what it was opened with, what was laid on it by one addition after another, the packets laid in its gap, the blocks finished on it, and its words
pub record Sent : Type 0 where
  pub f : Bool
  pub v : Bool
  pub number : ℕ
  pub settings : Settings
  pub pieces : List (List ℕ)
  pub packets : List Packet
  pub blocks : List Complete
  pub words : List ℕ

-- between two calls: the state; the line opened last; how many lines were closed; and of an unfinished block the values and the pieces laid so far
pub record Desk : Type 0 where
  pub writer : Writer
  pub now : Sent
  pub closed : ℕ
  pub values : List ℕ
  pub pieces : List Piece

-- a fresh writer, and no line yet
abbrev pub start : ℕ → ℕ → Desk
start system mode =
    record {
      writer = fresh system mode;
      now = record { f = false; v = false; number = 0; settings = no_settings; pieces = []; packets = []; blocks = []; words = [] };
      closed = 0;
      values = [];
      pieces = [];
    }

-- ---- opening: a refusal leaves the state, and the line opened last
abbrev pub opened_by : Answer → Left → Desk → Bool → Bool → ℕ → Settings → Desk
opened_by (Refused k) x d f v n t = record { writer = x.state; now = d.now; closed = d.closed; values = d.values; pieces = d.pieces }
opened_by Done x d f v n t =
    record {
      writer = x.state;
      now = record { f = f; v = v; number = n; settings = t; pieces = []; packets = []; blocks = []; words = x.line };
      closed = d.closed;
      values = d.values;
      pieces = d.pieces;
    }

-- ---- adding
-- the line opened last, with these pieces, blocks and words
abbrev pub with : Sent → List (List ℕ) → List Complete → List ℕ → Sent
with s ps bs ws = record { f = s.f; v = s.v; number = s.number; settings = s.settings; pieces = ps; packets = s.packets; blocks = bs; words = ws }

-- the values of the block as laid: of words that earlier calls laid, those that they lent; of all others, those lent now
abbrev pub values_now : Desk → List ℕ → List ℕ
values_now d vs = as_laid (laid_of d.writer.rest) d.values vs

abbrev pub piece_now : Desk → ℕ → List ℕ → Piece
piece_now d kind vs = record { line = d.closed; words = piece_of d.writer d.now.words kind vs }

-- the block, if this addition finishes it
abbrev pub complete_now : Desk → ℕ → List ℕ → Complete
complete_now d kind vs = record { block = record { kind = kind; values = values_now d vs }; pieces = d.pieces ++ (piece_now d kind vs ∷ []) }

abbrev pub added_by : Laid → Added → Desk → ℕ → List ℕ → Desk
added_by (NotLaid k) x d kind vs =
    record { writer = x.state; now = with d.now d.now.pieces d.now.blocks x.line; closed = d.closed; values = d.values; pieces = d.pieces }
added_by Finished x d kind vs =
    record {
      writer = x.state;
      now = with d.now (d.now.pieces ++ ((piece_now d kind vs).words ∷ [])) (d.now.blocks ++ (complete_now d kind vs ∷ [])) x.line;
      closed = d.closed;
      values = [];
      pieces = [];
    }
added_by Unfinished x d kind vs =
    record {
      writer = x.state;
      now = with d.now (d.now.pieces ++ ((piece_now d kind vs).words ∷ [])) d.now.blocks x.line;
      closed = d.closed;
      values = values_now d vs;
      pieces = d.pieces ++ (piece_now d kind vs ∷ []);
    }

-- ---- packing
-- the line opened last, with these packets and words
abbrev pub with_packets : Sent → List Packet → List ℕ → Sent
with_packets s qs ws = record { f = s.f; v = s.v; number = s.number; settings = s.settings; pieces = s.pieces; packets = qs; blocks = s.blocks; words = ws }

abbrev pub packs_by : Answer → Left → Desk → Packet → Desk
packs_by (Refused k) x d p =
    record { writer = x.state; now = with_packets d.now d.now.packets x.line; closed = d.closed; values = d.values; pieces = d.pieces }
packs_by Done x d p =
    record { writer = x.state; now = with_packets d.now (d.now.packets ++ (p ∷ [])) x.line; closed = d.closed; values = d.values; pieces = d.pieces }

-- ---- closing
abbrev pub closed_by : Answer → Left → Desk → Desk
closed_by (Refused k) x d =
    record { writer = x.state; now = with d.now d.now.pieces d.now.blocks x.line; closed = d.closed; values = d.values; pieces = d.pieces }
closed_by Done x d =
    record { writer = x.state; now = with d.now d.now.pieces d.now.blocks x.line; closed = suc d.closed; values = d.values; pieces = d.pieces }

abbrev pub sends_by : Answer → Left → Desk → List Sent
sends_by (Refused k) x d = []
sends_by Done x d = with d.now d.now.pieces d.now.blocks x.line ∷ []

-- ---- a call, and a course of calls
unfoldable pub after : Desk → Call → Desk
after d (opens f v n t held lent) = let x = opening d.writer f v n t lent in opened_by x.answer x d f v n t
after d (adds kind vs) = let x = adding d.writer d.now.words kind vs in added_by x.answer x d kind vs
after d (packs did second p q vs) = let x = packing d.writer d.now.words did second vs in packs_by x.answer x d (record { did = did; second = second; values = vs })
after d closes = let x = closing d.writer d.now.words in closed_by x.answer x d

unfoldable pub sends : Desk → Call → List Sent
sends d (opens f v n t held lent) = []
sends d (adds kind vs) = []
sends d (packs did second p q vs) = []
sends d closes = let x = closing d.writer d.now.words in sends_by x.answer x d

-- the lines closed, in order
unfoldable pub sent_by : Desk → List Call → List Sent
sent_by d [] = []
sent_by d (c ∷ cs) = sends d c ++ sent_by (after d c) cs

-- the lines closed by calls on a fresh writer
abbrev pub sent_fresh : ℕ → ℕ → List Call → List Sent
sent_fresh system mode cs = sent_by (start system mode) cs

-- the finished blocks of lines, in order
abbrev pub blocks_of : List Sent → List Complete
blocks_of [] = []
blocks_of (s ∷ ss) = s.blocks ++ blocks_of ss

-- the words of pieces, joined
abbrev pub joined_pieces : List Piece → List ℕ
joined_pieces [] = []
joined_pieces (p ∷ ps) = p.words ++ joined_pieces ps
