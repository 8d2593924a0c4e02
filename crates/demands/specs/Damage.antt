-- What becomes of lines on their way, and which blocks survive it.
-- Assumes nothing.
use Rattle.std.specs.Prelude.{ℕ, zero, suc, max, Bool, true, false, ◌&&◌, List, [], ◌∷◌, ◌≡◌, length}
use Rattle.lists.specs.Tests.{pick}
use Rattle.line.specs.Systems.{system_of}
use Rattle.line.specs.Check.{line_fault}
use Rattle.demands.specs.Sending.{Block, Piece, Complete, Sent}

-- A line is kept, removed, or replaced by other words.
pub data Fate : Type 0 where
  kept : Fate
  removed : Fate
  replaced : List ℕ → Fate

abbrev pub is_kept : Fate → Bool
is_kept kept = true
is_kept removed = false
is_kept (replaced ws) = false

-- the lines that remain
abbrev pub remain : List Fate → List Sent → List (List ℕ)
remain [] ss = []
remain (f ∷ fs) [] = []
remain (kept ∷ fs) (s ∷ ss) = s.words ∷ remain fs ss
remain (removed ∷ fs) (s ∷ ss) = remain fs ss
remain (replaced ws ∷ fs) (s ∷ ss) = ws ∷ remain fs ss

-- a line that is replaced: by words of the same length that the line check of that system and mode refuses
abbrev pub RefusedIfReplaced : ℕ → ℕ → Fate → Type 0
RefusedIfReplaced system mode kept = Unit {0}
RefusedIfReplaced system mode removed = Unit {0}
RefusedIfReplaced system mode (replaced ws) = (length ws ≡ (system_of system).length) × (line_fault system mode ws ≡ 0 → ⊥)

-- how many lines the longest run of removed lines has; r lines just before these were removed
abbrev pub run_from : ℕ → List Fate → ℕ
run_from r [] = r
run_from r (kept ∷ fs) = max r (run_from 0 fs)
run_from r (removed ∷ fs) = run_from (suc r) fs
run_from r (replaced ws ∷ fs) = max r (run_from 0 fs)

abbrev pub longest_run : List Fate → ℕ
longest_run fs = run_from 0 fs

-- line i is kept
abbrev pub kept_at : List Fate → ℕ → Bool
kept_at [] i = false
kept_at (f ∷ fs) zero = is_kept f
kept_at (f ∷ fs) (suc i) = kept_at fs i

-- each piece lies on a line that `keeps` tells of
abbrev pub all_on : (ℕ → Bool) → List Piece → Bool
all_on keeps [] = true
all_on keeps (p ∷ ps) = keeps p.line && all_on keeps ps

-- the blocks none of whose words lay on another line, in order
abbrev pub survivors : (ℕ → Bool) → List Complete → List Block
survivors keeps [] = []
survivors keeps (b ∷ bs) = pick (all_on keeps b.pieces) (b.block ∷ survivors keeps bs) (survivors keeps bs)
