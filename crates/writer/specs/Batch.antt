-- 02, Item 9: many blocks in one call. The list is one lent sequence of words: type, length and values of each block.
-- Assumes nothing.
use Rattle.std.specs.Prelude.{ℕ, zero, suc, Bool, true, false, not, List, [], ◌∷◌, eqb, leb, length, take, drop}
use Rattle.lists.specs.Tests.{pick, Refusal, when, lowest_of}
use Rattle.line.specs.Check.{fits_length}
use Rattle.writer.specs.declared.state.Writer.{Writer}
use Rattle.writer.specs.declared.state.Laid.{Laid}
use Rattle.writer.specs.declared.state.Laid.TheVariants.{Refused as NotLaid, Finished, Unfinished as PartLaid}
use Rattle.writer.specs.declared.batch.Stop.{Stop}
use Rattle.writer.specs.declared.batch.Stop.TheVariants.{All, Unfinished, Refused}
use Rattle.writer.specs.State.{impossible}
use Rattle.writer.specs.Answers.{Added}
use Rattle.writer.specs.Adding.{add_fault, adding}
use Rattle.writer.specs.Numbers.{all_fits}

-- an entry: a block's type and values; or broken off
pub data Entry : Type 0 where
  whole : (kind : ℕ) (values : List ℕ) → Entry
  broken : Entry

-- An entry is a type, a length n as it stands, and n values. One word left, or fewer values than it says, is broken off, and nothing behind
-- it is an entry. Each entry takes two words or more, so that as many steps as there are words are enough.
unfoldable pub entries_in : ℕ → List ℕ → List Entry
entries_in zero ws = []
entries_in (suc steps) [] = []
entries_in (suc steps) (kind ∷ []) = broken ∷ []
entries_in (suc steps) (kind ∷ n ∷ ws) = pick (leb n (length ws)) (whole kind (take n ws) ∷ entries_in steps (drop n ws)) (broken ∷ [])

unfoldable pub entries_of : List ℕ → List Entry
unfolding entries_in
entries_of ws = entries_in (length ws) ws

-- why it stopped: refused with the number; all were finished, 1; or one is unfinished, 0
abbrev pub stop_numbers : Stop → List ℕ
stop_numbers (Refused n) = n ∷ []
stop_numbers All = 0 ∷ 1 ∷ []
stop_numbers Unfinished = 0 ∷ 0 ∷ []

-- what a call leaves: how many blocks were finished, why it stopped, the state and the lent line
pub record Batched : Type 0 where
  pub finished : ℕ
  pub stop : Stop
  pub state : Writer
  pub line : List ℕ

abbrev pub batched : ℕ → Stop → Writer → List ℕ → Batched
batched n s w l = record { finished = n; stop = s; state = w; line = l }

-- behind an addition: a refused or an unfinished one stops, and is not counted
abbrev pub behind : Laid → Added → ℕ → Batched → Batched
behind (NotLaid k) x done later = batched done (Refused k) x.state x.line
behind PartLaid x done later = batched done Unfinished x.state x.line
behind Finished x done later = later

-- Each entry is added as by a single call to what the entries before it left. 28: a broken_off entry, judged only when it is reached, before
-- 17; nothing of it is laid.
unfoldable pub lay_all : Writer → List ℕ → ℕ → List Entry → Batched
lay_all w line done [] = batched done All w line
lay_all w line done (broken ∷ es) = batched done (Refused 28) w line
lay_all w line done (whole kind vs ∷ es) = let x = adding w line kind vs in behind x.answer x done (lay_all x.state x.line (suc done) es)

-- 1; 2: also for an empty list
abbrev pub batch_faults : Writer → ℕ → List Refusal
batch_faults w long = when 1 (not (fits_length w.system w.mode long)) ∷ when 2 (impossible w) ∷ []

unfoldable pub batch_fault : Writer → ℕ → ℕ
batch_fault w long = lowest_of (batch_faults w long)

unfoldable pub batching : Writer → List ℕ → List ℕ → Batched
batching w line blocks =
    let fault = batch_fault w (length line) in
    pick (eqb fault 0) (lay_all w line 0 (entries_of blocks)) (batched 0 (Refused fault) w line)

-- ---- the numbers of why it stopped, by the faults and the blocks alone
-- by the fault of an entry, whether what is left of the block fits, and what is said behind it
abbrev pub stop_by : ℕ → Bool → List ℕ → List ℕ
stop_by (suc n) fits later = suc n ∷ []
stop_by zero true later = later
stop_by zero false later = 0 ∷ 0 ∷ []

unfoldable pub stops_at : Writer → List ℕ → List Entry → List ℕ
stops_at w line [] = 0 ∷ 1 ∷ []
stops_at w line (broken ∷ es) = 28 ∷ []
stops_at w line (whole kind vs ∷ es) =
    let x = adding w line kind vs in stop_by (add_fault w (length line) kind vs) (all_fits w kind vs) (stops_at x.state x.line es)

-- 1 or 2, or what the entries say
abbrev pub batch_by : ℕ → List ℕ → List ℕ
batch_by zero later = later
batch_by (suc n) later = suc n ∷ []
