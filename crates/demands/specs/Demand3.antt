-- DEMAND 3. Finished variable-size blocks, each lent unchanged until finished, written by a fresh writer on lines with consecutive numbers, one mode
-- and one set of settings; any separate runs of lines removed, each shorter than one frame, and any other lines replaced by words of the same length
-- that the line check refuses: a fresh reader of that system and mode, lent the rest once each and in order, hands out exactly the blocks none of
-- whose words lay on a removed or replaced line, in order, with types and values as written.
-- Assumes nothing.
use Rattle.std.specs.Prelude.{ℕ, ◌+◌, ◌≤◌, ◌<◌, ◌⊎◌, List, [], ◌∷◌, ◌≡◌, length, None}
use Rattle.line.specs.declared.settings.Settings.{Settings}
use Rattle.line.specs.Systems.{system_of}
use Rattle.line.specs.Layout.{area_length}
use Rattle.line.specs.Check.{settings_of}
use Rattle.course.specs.Course.{next_number}
use Rattle.reader.specs.declared.state.Reader.{Reader}
use Rattle.reader.specs.State.{capacity, fresh}
use Rattle.demands.specs.All.{All}
use Rattle.demands.specs.Sending.{Call, Sent, Desk, start, values_now, sent_fresh, blocks_of}
use Rattle.demands.specs.Lent.{Unchanged, lent_fresh}
use Rattle.demands.specs.Hearing.{Heard, is_refused, is_begun, is_block, is_drop, is_end, Lends, Reads, Readable, handed_out}
use Rattle.demands.specs.Damage.{Fate, remain, RefusedIfReplaced, longest_run, kept_at, survivors}

-- each number comes after the number before it; the number after N is 1
abbrev pub Follows : ℕ → ℕ → List Sent → Type 0
Follows lines x [] = Unit {0}
Follows lines x (s ∷ ss) = (s.number ≡ next_number lines x) × Follows lines s.number ss

abbrev pub Consecutive : ℕ → List Sent → Type 0
Consecutive lines [] = Unit {0}
Consecutive lines (s ∷ ss) = Follows lines s.number ss

-- A transmission: lines written by calls on a fresh writer, and their fates; each run of removed lines is shorter than `bound`.
-- The demand is of variable blocks and one set of settings. More is shown: fixed lines may stand between, and settings may change where the
-- writer lets them, between two blocks.
pub record Transmission (system mode bound : ℕ) (cs : List Call) (fs : List Fate) : Type 0 where
  pub numbers : Consecutive (system_of system).lines (sent_fresh system mode cs)
  pub each_line : length fs ≡ length (sent_fresh system mode cs)
  pub runs : longest_run fs < bound
  pub refusing : All (RefusedIfReplaced system mode) fs

-- a refusal has none of the answers 1 and 2
abbrev pub IsFrom3 : Heard → Type 0
IsFrom3 (is_refused n dropped) = 3 ≤ n
IsFrom3 (is_begun n jump dropped t) = Unit {0}
IsFrom3 (is_block b) = Unit {0}
IsFrom3 (is_drop n) = Unit {0}
IsFrom3 is_end = Unit {0}

-- Every fresh reader of that system and mode, lent what remains once each and in order, hands out exactly the surviving blocks.
abbrev pub HandsOut : ℕ → ℕ → ℕ → Type 0
HandsOut system mode bound =
    (cs : List Call) (fs : List Fate) → Transmission system mode bound cs fs → (room : List ℕ) → length room ≡ capacity
    → (hs : List Heard) → Reads (fresh system mode) room (remain fs (sent_fresh system mode cs)) hs
    → handed_out hs ≡ survivors (kept_at fs) (blocks_of (sent_fresh system mode cs))

-- A transmission in the demand's own words.
pub record Demanded (system mode : ℕ) (t : Settings) (cs : List Call) (fs : List Fate) : Type 0 where
  -- variable-size blocks
  pub variable : t.block ≡ 0xC1
  -- one set of settings
  pub one_set : All (λ (s : Sent). s.settings ≡ t) (sent_fresh system mode cs)
  -- each lent unchanged until finished
  pub unchanged : Unchanged (start system mode) cs
  -- lines with consecutive numbers; runs shorter than one frame removed, others replaced by words that the line check refuses
  pub transmission : Transmission system mode (system_of system).lines cs fs

pub record Demand3 : Type 0 where
  pub handed : (system mode : ℕ) → HandsOut system mode (system_of system).lines
  -- the bound is needed: with runs of one frame it is false, of system 0 in 8-bit mode
  pub needed : HandsOut 0 8 ((system_of 0).lines + 1) → ⊥
  -- the values are those laid: of a new block those lent, and of a block lent again unchanged the same
  pub lent : (d : Desk) (vs : List ℕ) → (d.writer.rest ≡ None) ⊎ (d.values ≡ vs) → values_now d vs ≡ vs
  -- so, in the demand's own words: of the blocks as lent those that survive, with types and values as lent
  pub as_demanded : (system mode : ℕ) (t : Settings) (cs : List Call) (fs : List Fate) → Demanded system mode t cs fs
      → (room : List ℕ) → length room ≡ capacity → (hs : List Heard) → Reads (fresh system mode) room (remain fs (sent_fresh system mode cs)) hs
      → handed_out hs ≡ survivors (kept_at fs) (lent_fresh system mode cs)
  -- such a course of reading calls exists, each line ends within area + 2 calls, and neither 1 nor 2 is answered
  pub readable : (system mode : ℕ) (room : List ℕ) (lines : List (List ℕ)) → Readable (fresh system mode) room lines
  pub ends : (st : Reader) (line room : List ℕ) → st.place ≡ None → (hs : List Heard) (st' : Reader) (room' : List ℕ) → Lends line st room hs st' room'
      → length hs ≤ area_length (system_of st.system).payload (settings_of line).flag + 2
  pub served : (system mode : ℕ) (cs : List Call) (fs : List Fate) → Transmission system mode (system_of system).lines cs fs
      → (room : List ℕ) → length room ≡ capacity → (hs : List Heard) → Reads (fresh system mode) room (remain fs (sent_fresh system mode cs)) hs → All IsFrom3 hs
