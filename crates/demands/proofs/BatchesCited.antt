-- Each field of what is said of lists of blocks, cited at an instance that a weaker field would not give. The types are written out, as in
-- DemandCited.antt; `heard` is cited in DemandSamples.antt.
-- Assumes nothing.
use Prim.Native.Nat.{ℕ}
use mathlib.Core.List.{List, [], ◌∷◌, map}
use mathlib.Core.Path.{◌≡◌}
use native.Mathlib.Omega.{arith}
use lib.ListN.{length}
use Rattle.writer.specs.Batch.{whole, broken, entries_of, batching}
use Rattle.reader.specs.State.{fresh}
use Rattle.demands.specs.All.{All}
use Rattle.demands.specs.Sending.{Sent, Desk, sent_fresh, blocks_of}
use Rattle.demands.specs.Hearing.{Heard, Reads, handed_out}
use Rattle.demands.specs.Damage.{kept, removed, kept_at, survivors}
use Rattle.demands.specs.Running.{desk_after}
use Rattle.demands.specs.Demand2.{IsLine}
use Rattle.demands.specs.Demand3.{Transmission}
use Rattle.demands.specs.Batches.{one_word, short_of, batch_calls, finished_on, Mixed, lines_fresh, spelled_fresh, remaining}
use Rattle.demands.proofs.BatchesHold.{batches}

-- a block of no values between two others
pub three_listed : entries_of (7 ∷ 2 ∷ 10 ∷ 11 ∷ 8 ∷ 0 ∷ 9 ∷ 1 ∷ 12 ∷ []) ≡ whole 7 (10 ∷ 11 ∷ []) ∷ whole 8 [] ∷ whole 9 (12 ∷ []) ∷ []
three_listed =
    batches.listed (record { kind = 7; values = 10 ∷ 11 ∷ [] } ∷ record { kind = 8; values = [] } ∷ record { kind = 9; values = 12 ∷ [] } ∷ [])

-- a type alone, and a length of 3 with two values behind it
pub type_alone : entries_of (7 ∷ 1 ∷ 10 ∷ 8 ∷ []) ≡ whole 7 (10 ∷ []) ∷ broken ∷ []
type_alone = batches.broken_off (record { kind = 7; values = 10 ∷ [] } ∷ []) (8 ∷ []) (one_word 8)

pub two_of_three : entries_of (7 ∷ 1 ∷ 10 ∷ 8 ∷ 3 ∷ 11 ∷ 12 ∷ []) ≡ whole 7 (10 ∷ []) ∷ broken ∷ []
two_of_three = batches.broken_off (record { kind = 7; values = 10 ∷ [] } ∷ []) (8 ∷ 3 ∷ 11 ∷ 12 ∷ []) (short_of 8 3 (11 ∷ 12 ∷ []) (omega arith))

-- from any desk
pub as_single_any : (d : Desk) (blocks : List ℕ)
    → ((desk_after d (batch_calls d.writer d.now.words blocks)).writer ≡ (batching d.writer d.now.words blocks).state)
    × (((desk_after d (batch_calls d.writer d.now.words blocks)).now.words ≡ (batching d.writer d.now.words blocks).line)
    × (finished_on d (batch_calls d.writer d.now.words blocks) ≡ (batching d.writer d.now.words blocks).finished))
as_single_any d blocks = let x = batches.as_single d blocks in (x.state, (x.line, x.count))

-- the lines of system 3 in 8-bit mode, each of them 01's
pub lines_3_8 : (cs : List Mixed)
    → (lines_fresh 3 8 cs ≡ map (λ (s : Sent). s.words) (sent_fresh 3 8 (spelled_fresh 3 8 cs))) × All (IsLine 3) (sent_fresh 3 8 (spelled_fresh 3 8 cs))
lines_3_8 cs = (batches.lines 3 8 cs, batches.exact 3 8 cs)

-- and with a line lost between two
pub one_lost_3_8 : (cs : List Mixed) → Transmission 3 8 625 (spelled_fresh 3 8 cs) (kept ∷ removed ∷ kept ∷ []) → (room : List ℕ) → length room ≡ 16384 → (hs : List Heard)
    → Reads (fresh 3 8) room (remaining (kept ∷ removed ∷ kept ∷ []) (lines_fresh 3 8 cs)) hs
    → handed_out hs ≡ survivors (kept_at (kept ∷ removed ∷ kept ∷ [])) (blocks_of (sent_fresh 3 8 (spelled_fresh 3 8 cs)))
one_lost_3_8 cs x room long hs r = batches.handed 3 8 cs (kept ∷ removed ∷ kept ∷ []) x room long hs r
