-- MANY BLOCKS IN ONE CALL (02, Item 9). A call with a list of blocks leaves the line and the state that the same blocks leave, added one by one. So a
-- course with such calls is a course of single calls, and demands 2 and 3 hold of it unchanged.
-- Assumes nothing.
use Rattle.std.specs.Prelude.{ℕ, ◌+◌, ◌<◌, List, [], ◌∷◌, ◌++◌, map, ◌≡◌, eqb, length, None}
use Rattle.lists.specs.Tests.{pick}
use Rattle.line.specs.Systems.{system_of}
use Rattle.writer.specs.declared.state.Writer.{Writer}
use Rattle.writer.specs.declared.state.Answer.{Answer}
use Rattle.writer.specs.declared.state.Answer.TheVariants.{Refused, Done}
use Rattle.writer.specs.declared.state.Laid.{Laid}
use Rattle.writer.specs.declared.state.Laid.TheVariants.{Refused as NotLaid, Finished, Unfinished}
use Rattle.writer.specs.State.{fresh}
use Rattle.writer.specs.Opening.{opening}
use Rattle.writer.specs.Adding.{adding}
use Rattle.writer.specs.Packing.{packing}
use Rattle.writer.specs.Closing.{closing}
use Rattle.writer.specs.Batch.{Entry, whole, broken, entries_of, Batched, batch_fault, batching}
use Rattle.reader.specs.State as reader
use Rattle.demands.specs.All.{All}
use Rattle.demands.specs.Sending.{Call, opens, adds, packs, closes, Block, Sent, Desk, after, sent_fresh, blocks_of}
use Rattle.demands.specs.Hearing.{Heard, Reads, handed_out}
use Rattle.demands.specs.Damage.{Fate, kept, removed, replaced, kept_at, survivors}
use Rattle.demands.specs.Running.{desk_after}
use Rattle.demands.specs.Demand2.{IsLine, given_back}
use Rattle.demands.specs.Demand3.{Transmission}

-- ---- a list of blocks
-- type, length and values of each block
abbrev pub list_words : List Block → List ℕ
list_words [] = []
list_words (b ∷ bs) = b.kind ∷ length b.values ∷ (b.values ++ list_words bs)

abbrev pub entry_of : Block → Entry
entry_of b = whole b.kind b.values

-- words that are no whole entry: one word, or fewer values than the length says
pub data Stump : List ℕ → Type 0 where
  one_word : (kind : ℕ) → Stump (kind ∷ [])
  short_of : (kind n : ℕ) (ws : List ℕ) → length ws < n → Stump (kind ∷ n ∷ ws)

-- ---- the single calls that a list makes
-- on behind a finished one alone
abbrev pub onward : Laid → List Call → List Call
onward (NotLaid k) cs = []
onward Unfinished cs = []
onward Finished cs = cs

-- an addition for each entry that is reached, to the first that is refused or unfinished; a broken_off entry is none
unfoldable pub singly : Writer → List ℕ → List Entry → List Call
singly w line [] = []
singly w line (broken ∷ es) = []
singly w line (whole kind vs ∷ es) = let x = adding w line kind vs in adds kind vs ∷ onward x.answer (singly x.state x.line es)

-- none where 1 or 2 holds
unfoldable pub batch_calls : Writer → List ℕ → List ℕ → List Call
unfolding singly
batch_calls w line blocks = pick (eqb (batch_fault w (length line)) 0) (singly w line (entries_of blocks)) []

-- how many of the calls are additions that finish a block
abbrev pub one_if : Laid → ℕ
one_if (NotLaid k) = 0
one_if Unfinished = 0
one_if Finished = 1

unfoldable pub finished_on : Desk → List Call → ℕ
finished_on d [] = 0
finished_on d (opens f v n t held lent ∷ cs) = finished_on (after d (opens f v n t held lent)) cs
finished_on d (adds kind vs ∷ cs) = one_if (adding d.writer d.now.words kind vs).answer + finished_on (after d (adds kind vs)) cs
finished_on d (packs did second p q vs ∷ cs) = finished_on (after d (packs did second p q vs)) cs
finished_on d (closes ∷ cs) = finished_on (after d closes) cs

-- what calls left of a desk, and how many blocks they finished on it, is what a call with a list leaves
pub record Leaves (d : Desk) (finished : ℕ) (x : Batched) : Type 0 where
  pub state : d.writer ≡ x.state
  pub line : d.now.words ≡ x.line
  pub count : finished ≡ x.finished

-- ---- a course in which single calls and lists stand in any order
pub data Mixed : Type 0 where
  single : Call → Mixed
  many : (blocks : List ℕ) → Mixed

-- between two calls: the state, and the words of the line opened last
pub record Now : Type 0 where
  pub writer : Writer
  pub line : List ℕ

abbrev pub now : Writer → List ℕ → Now
now w line = record { writer = w; line = line }

-- a refused opening leaves the line opened last
abbrev pub line_by : Answer → List ℕ → List ℕ → List ℕ
line_by (Refused k) lent before = before
line_by Done lent before = lent

unfoldable pub done_by : Now → Mixed → Now
done_by m (single (opens f v n t held lent)) = let x = opening m.writer f v n t lent in now x.state (line_by x.answer x.line m.line)
done_by m (single (adds kind vs)) = let x = adding m.writer m.line kind vs in now x.state x.line
done_by m (single (packs did second p q vs)) = let x = packing m.writer m.line did second vs in now x.state x.line
done_by m (single closes) = let x = closing m.writer m.line in now x.state x.line
done_by m (many blocks) = let x = batching m.writer m.line blocks in now x.state x.line

-- the words of the lines closed, in order
abbrev pub closed_by : Answer → List ℕ → List (List ℕ)
closed_by (Refused k) line = []
closed_by Done line = line ∷ []

unfoldable pub closes_by : Now → Mixed → List (List ℕ)
closes_by m (single (opens f v n t held lent)) = []
closes_by m (single (adds kind vs)) = []
closes_by m (single (packs did second p q vs)) = []
closes_by m (single closes) = let x = closing m.writer m.line in closed_by x.answer x.line
closes_by m (many blocks) = []

unfoldable pub lines_by : Now → List Mixed → List (List ℕ)
lines_by m [] = []
lines_by m (c ∷ cs) = closes_by m c ++ lines_by (done_by m c) cs

-- the same course in single calls alone
abbrev pub spelled_by : Now → Mixed → List Call
spelled_by m (single c) = c ∷ []
spelled_by m (many blocks) = batch_calls m.writer m.line blocks

unfoldable pub spelled : Now → List Mixed → List Call
spelled m [] = []
spelled m (c ∷ cs) = spelled_by m c ++ spelled (done_by m c) cs

-- on a fresh writer, and no line yet
abbrev pub lines_fresh : ℕ → ℕ → List Mixed → List (List ℕ)
lines_fresh system mode cs = lines_by (now (fresh system mode) []) cs

abbrev pub spelled_fresh : ℕ → ℕ → List Mixed → List Call
spelled_fresh system mode cs = spelled (now (fresh system mode) []) cs

-- what becomes of them on their way
abbrev pub remaining : List Fate → List (List ℕ) → List (List ℕ)
remaining [] ls = []
remaining (f ∷ fs) [] = []
remaining (kept ∷ fs) (l ∷ ls) = l ∷ remaining fs ls
remaining (removed ∷ fs) (l ∷ ls) = remaining fs ls
remaining (replaced ws ∷ fs) (l ∷ ls) = ws ∷ remaining fs ls

pub record Batches : Type 0 where
  -- the entries of a list are the blocks that were put into it; behind them, what is no whole entry is one broken_off entry
  pub listed : (bs : List Block) → entries_of (list_words bs) ≡ map entry_of bs
  pub broken_off : (bs : List Block) (ws : List ℕ) → Stump ws → entries_of (list_words bs ++ ws) ≡ map entry_of bs ++ (broken ∷ [])
  -- line and state equal the same blocks added one by one, and so many were finished: from any state, any words of the line, any words of the list
  pub as_single : (d : Desk) (blocks : List ℕ) →
      let cs = batch_calls d.writer d.now.words blocks in
      Leaves (desk_after d cs) (finished_on d cs) (batching d.writer d.now.words blocks)
  -- so the lines that a course with such calls closes are those of the course in single calls
  pub lines : (system mode : ℕ) (cs : List Mixed) → lines_fresh system mode cs ≡ map (λ (s : Sent). s.words) (sent_fresh system mode (spelled_fresh system mode cs))
  -- demand 2 holds of it: each is 01's line, and a fresh reader gives back the headers and the finished blocks
  pub exact : (system mode : ℕ) (cs : List Mixed) → All (IsLine system) (sent_fresh system mode (spelled_fresh system mode cs))
  pub heard : (system mode : ℕ) (cs : List Mixed) (room : List ℕ) → length room ≡ reader.capacity → (hs : List Heard)
      → Reads (reader.fresh system mode) room (lines_fresh system mode cs) hs
      → hs ≡ given_back (system_of system).lines None (sent_fresh system mode (spelled_fresh system mode cs))
  -- and demand 3
  pub handed : (system mode : ℕ) (cs : List Mixed) (fs : List Fate) → Transmission system mode (system_of system).lines (spelled_fresh system mode cs) fs
      → (room : List ℕ) → length room ≡ reader.capacity → (hs : List Heard) → Reads (reader.fresh system mode) room (remaining fs (lines_fresh system mode cs)) hs
      → handed_out hs ≡ survivors (kept_at fs) (blocks_of (sent_fresh system mode (spelled_fresh system mode cs)))
