-- SHORT BURSTS NEVER PASS (02, Item 13). In an accepted line with flag 01h, any mode and system, change at least one bit, all changed bits within 18
-- consecutive ones (B0 first) of the words that the payload CRC covers. The line is then refused, with 15 or 16.
-- Assumes nothing.
use Rattle.std.specs.Prelude.{ℕ, ◌+◌, ◌<◌, ◌≤◌, true, List, [], ◌∷◌, ◌⊎◌, ◌≡◌, length, None}
use Rattle.lists.specs.Tests.{lowest_of}
use Rattle.words.specs.Modes.{is_mode}
use Rattle.line.specs.declared.systems.System.{System}
use Rattle.line.specs.Systems.{system_of, is_system}
use Rattle.line.specs.Check.{settings_of, faults, line_fault}
use Rattle.reader.specs.declared.state.Reader.{Reader}
use Rattle.reader.specs.State.{capacity, fresh}
use Rattle.reader.specs.Reading.{reply, refused, read_fault, reading}
use Rattle.demands.specs.Sending.{Call, Sent, sent_fresh, blocks_of}
use Rattle.demands.specs.Hearing.{Heard, Reads, handed_out}
use Rattle.demands.specs.Damage.{Fate, kept, removed, replaced, remain, RefusedIfReplaced, longest_run, kept_at, survivors}
use Rattle.demands.specs.Demand3.{Consecutive, Transmission}
use Rattle.bursts.specs.Burst.{Burst, Hit}

-- ---- the statement, of bursts of that width
-- Once, over the payload length: 3 to 16 of any row, whatever its L, P, N and code, in which EAV, header and SAV stand before the payload.
abbrev pub NeverAtAnyLength : ℕ → Type 0
NeverAtAnyLength width =
    (s : System) → s.payload + 61 ≤ s.length → (mode : ℕ) (line line' : List ℕ)
    → lowest_of (faults s mode line) ≡ 0 → (settings_of line).flag ≡ 1 → Burst s width line line'
    → (lowest_of (faults s mode line') ≡ 15) ⊎ (lowest_of (faults s mode line') ≡ 16)

-- So of every system and mode: the line check answers 15 or 16, and nothing else.
abbrev pub NeverPasses : ℕ → Type 0
NeverPasses width =
    (system mode : ℕ) (line line' : List ℕ) → Hit system mode width line line' → (line_fault system mode line' ≡ 15) ⊎ (line_fault system mode line' ≡ 16)

-- a burst of that width after which the line check answers n
pub record Answered (system mode width n : ℕ) : Type 0 where
  pub line : List ℕ
  pub line' : List ℕ
  pub hit : Hit system mode width line line'
  pub answer : line_fault system mode line' ≡ n

-- ---- a transmission damaged by bursts
-- a line that is replaced: it was sent with flag 01h, and a burst hit it
abbrev pub HitIfReplaced : ℕ → Fate → Sent → Type 0
HitIfReplaced system kept s = Unit {0}
HitIfReplaced system removed s = Unit {0}
HitIfReplaced system (replaced ws) s = (s.settings.flag ≡ 1) × Burst (system_of system) 18 s.words ws

-- each line with its fate
abbrev pub AllHit : ℕ → List Fate → List Sent → Type 0
AllHit system [] ss = Unit {0}
AllHit system (f ∷ fs) [] = Unit {0}
AllHit system (f ∷ fs) (s ∷ ss) = HitIfReplaced system f s × AllHit system fs ss

-- lines with consecutive numbers, written by calls on a fresh writer; runs shorter than one frame removed, and others hit by a burst
pub record HitTransmission (system mode : ℕ) (cs : List Call) (fs : List Fate) : Type 0 where
  pub numbers : Consecutive (system_of system).lines (sent_fresh system mode cs)
  pub each_line : length fs ≡ length (sent_fresh system mode cs)
  pub runs : longest_run fs < (system_of system).lines
  pub hits : AllHit system fs (sent_fresh system mode cs)

pub record Bursts : Type 0 where
  pub once : NeverAtAnyLength 18
  pub checked : NeverPasses 18
  -- the reader with no line begun, and neither 1 nor 2, refuses it with that number: phase idle, last number none, settings kept; the room is as lent
  pub read : (st : Reader) (line line' room : List ℕ) → read_fault st (length line') (length room) ≡ 0 → st.place ≡ None → Hit st.system st.mode 18 line line'
      → reading st line' room ≡ reply (refused st (line_fault st.system st.mode line')) room
  -- such a line is a replaced line of demand 3: words of the same length that the line check refuses
  pub as_replaced : (system mode : ℕ) (line line' : List ℕ) → Hit system mode 18 line line' → RefusedIfReplaced system mode (replaced line')
  -- so demand 3 speaks of bursts: a transmission damaged by them is one of its transmissions, ..
  pub covers : (system mode : ℕ) (cs : List Call) (fs : List Fate) → HitTransmission system mode cs fs → Transmission system mode (system_of system).lines cs fs
  -- .. and a fresh reader hands out exactly the blocks none of whose words lay on a removed line or on one that a burst hit, in order, as laid
  pub handed : (system mode : ℕ) (cs : List Call) (fs : List Fate) → HitTransmission system mode cs fs → (room : List ℕ) → length room ≡ capacity
      → (hs : List Heard) → Reads (fresh system mode) room (remain fs (sent_fresh system mode cs)) hs
      → handed_out hs ≡ survivors (kept_at fs) (blocks_of (sent_fresh system mode cs))
  -- both numbers occur, in every system and mode
  pub fifteen : (system mode : ℕ) → is_system system ≡ true → is_mode mode ≡ true → Answered system mode 18 15
  pub sixteen : (system mode : ℕ) → is_system system ≡ true → is_mode mode ≡ true → Answered system mode 18 16
  -- 18 is sharp: with 19, in 9-bit mode of every system, a line passes; so the statement is false
  pub passing : (system : ℕ) → is_system system ≡ true → Answered system 9 19 0
  pub sharp : NeverPasses 19 → ⊥
