-- DEMAND 1. Every entry point takes any words, lengths, settings and states, and ends. Bad input gets exactly the refusal that document 01
-- numbers, exactly when its condition holds, with buffers and state as stated there.
-- "Takes any": each field is for all states, settings, numbers and words, and the contracts of `check`, `open_line`, `add_block`, `add_blocks`, `add_packet`,
-- `close_line` and `read`, which have no `requires`, say that the functions are these definitions. "And ends" is not a sentence of this page but the
-- checker's rule: it accepts a function only with a number that falls with each turn of each loop and with each call in a cycle of calls.
-- The conditions are 01's, in the order of its table:
--    1  unknown system or mode; line not L long; room not 16,384        `fits_length`, and in `read_faults_in`
--    2  state not possible                                              `impossible`, the reader's and the writer's
--    3  EAV or SAV                                                      `timed`
--    4  first six header words                                          in `head_faults`
--    5  header word not in its form                                     `formed`
--    6 / 7 / 8  checksum / line CRC / header CRC                        in `head_faults`, `crc_stands`
--    9  line number not 1..N, or B7-B2 of its second word not 0         `numbered`; of the writer's number the first part
--    10 / 11  code not the system's / AAI                               in `settings_faults`
--    12 block type not listed, none at this rate, or refused with 01h   `block_refused`
--    13 flag                                                            in `settings_faults`
--    14 reserved word: no longer given, by 02, Item 5; no list below has it
--    15 area word not data form (8-bit: byte form) ..                   `legal`, in `area_faults`
--    16 payload CRC                                                     in `area_faults`
--    17 value above 255 (8-bit) or 511                                  `valued`
--    18 n above 16,384 or type above FFh; fixed line open: ..           `ill_shaped`
--    19 no place (variable: word) left in the open line                 `is_full`
--    20 opening: .. ; adding: .. ; closing: ..                          `open_blocked`; in `add_faults`, `is_other`; in `close_faults`
--    28 entry broken off, by 02, Item 9: a list of blocks               `broken`, in `entries_in`
-- and of 02, Item 3, for a packet: 17 word above 511, 18 over 255 words, 20 no line open, 24 packet and gap words used exceed the gap: `pack_faults`
-- Assumes nothing.
use Rattle.std.specs.Prelude.{ℕ, suc, ◌≤◌, ◌<◌, Bool, true, false, ◌&&◌, ◌⊎◌, List, [], ◌∷◌, ◌++◌, map, ◌≡◌, leb, ℤ, pos, length, get_or, Option, Some, None}
use Rattle.lists.specs.Tests.{Refusal, rising, holds_at}
use Rattle.line.specs.declared.settings.Settings.{Settings}
use Rattle.line.specs.Systems.{system_of}
use Rattle.line.specs.Check.{faults, line_faults, faulty_with, checked_of}
use Rattle.writer.specs.declared.state.Writer.{Writer}
use Rattle.writer.specs.Answers.{answer_numbers, laid_numbers}
use Rattle.writer.specs.Opening.{open_faults, opening}
use Rattle.writer.specs.Adding.{add_faults, adding}
use Rattle.writer.specs.Packing.{pack_faults, packing}
use Rattle.writer.specs.Closing.{close_faults, closing}
use Rattle.writer.specs.Batch.{Entry, whole, broken, entries_of, stop_numbers, lay_all, batch_faults, batching}
use Rattle.machine.specs.Phases.{phase_numbers, is_busy}
use Rattle.reader.specs.declared.state.Reader.{Reader}
use Rattle.reader.specs.State.{capacity}
use Rattle.reader.specs.Events.{yes_no, event_numbers}
use Rattle.reader.specs.Reading.{read_faults_in, reading}

-- ---- the lowest number whose condition holds is given
-- k is the lowest number whose condition holds
pub record IsLowest (rs : List Refusal) (k : ℕ) : Type 0 where
  pub holds : holds_at k rs ≡ true
  pub lowest : (n : ℕ) → n < k → holds_at n rs ≡ false

-- no condition holds
abbrev pub NoneHolds : List Refusal → Type 0
NoneHolds rs = (n : ℕ) → holds_at n rs ≡ false

-- An entry with the refusals rs: their numbers are ns, and rise; a number is given exactly if it is the lowest whose condition holds; the entry
-- serves exactly if no condition holds.
pub record Numbered (rs : List Refusal) (ns : List ℕ) (given : ℕ → Type 0) (served : Type 0) : Type 0 where
  pub numbers : map (λ (r : Refusal). r.number) rs ≡ ns
  pub rises : rising rs ≡ true
  pub gives : (k : ℕ) → IsLowest rs k → given k
  pub only : (k : ℕ) → given k → IsLowest rs k
  pub serves : NoneHolds rs → served
  pub unless : served → NoneHolds rs

-- ---- reading
-- 1 and 2; with no line begun 3 to 13, 15 and 16 as well. Later calls don't check words again.
abbrev pub where_shut : Option ℕ → List Refusal → List Refusal
where_shut None rs = rs
where_shut (Some q) rs = []

abbrev pub from3to16 : List ℕ
from3to16 = 3 ∷ 4 ∷ 5 ∷ 6 ∷ 7 ∷ 8 ∷ 9 ∷ 10 ∷ 11 ∷ 12 ∷ 13 ∷ 15 ∷ 16 ∷ []

abbrev pub read_answers : Option ℕ → List ℕ
read_answers None = 1 ∷ 2 ∷ from3to16
read_answers (Some q) = 1 ∷ 2 ∷ []

abbrev pub read_refusals : Reader → List ℕ → List ℕ → List Refusal
read_refusals st line room = read_faults_in capacity st (length line) (length room) ++ where_shut st.place (faults (system_of st.system) st.mode line)

-- refused with k; an open block is dropped by 3 to 16
abbrev pub ReadRefused : Reader → List ℕ → List ℕ → ℕ → Type 0
ReadRefused st line room k = event_numbers (reading st line room).told.event ≡ pos 0 ∷ pos k ∷ yes_no (leb 3 k && is_busy st.phase) ∷ []

-- served: with no line begun, begun, 1; else a block, 2, a drop, 3, or the line's end, 4
abbrev pub ServedWith : Option ℕ → ℤ → Type 0
ServedWith None z = z ≡ pos 1
ServedWith (Some q) z = (z ≡ pos 2) ⊎ ((z ≡ pos 3) ⊎ (z ≡ pos 4))

abbrev pub ReadServed : Reader → List ℕ → List ℕ → Type 0
ReadServed st line room = ServedWith st.place (get_or (event_numbers (reading st line room).told.event) 0 (pos 0))

-- phase idle, last number none, settings kept; no line is begun
pub record Forgets (st st' : Reader) : Type 0 where
  pub idle : phase_numbers st'.phase ≡ 0 ∷ []
  pub none_last : st'.last ≡ None
  pub kept : st'.settings ≡ st.settings
  pub none_begun : st'.place ≡ None
  pub same_system : st'.system ≡ st.system
  pub same_mode : st'.mode ≡ st.mode

pub record Demand1 : Type 0 where
  -- the line check: 1, 3 to 13, 15, 16; nothing is read of a line with a fault
  pub check : (system mode : ℕ) (line : List ℕ)
      → Numbered (line_faults system mode line) (1 ∷ from3to16) (λ (k : ℕ). ((checked_of system mode line).fault ≡ k) × (1 ≤ k)) ((checked_of system mode line).fault ≡ 0)
  pub check_leaves : (system mode : ℕ) (line : List ℕ) (k : ℕ) → (checked_of system mode line).fault ≡ k → 1 ≤ k → checked_of system mode line ≡ faulty_with k
  -- opening: 1, 2, 9-13, 20
  pub open_line : (w : Writer) (f v : Bool) (n : ℕ) (t : Settings) (line : List ℕ)
      → Numbered (open_faults w n t (length line)) (1 ∷ 2 ∷ 9 ∷ 10 ∷ 11 ∷ 12 ∷ 13 ∷ 20 ∷ []) (λ (k : ℕ). answer_numbers (opening w f v n t line).answer ≡ k ∷ [])
      (answer_numbers (opening w f v n t line).answer ≡ [])
  -- adding: 1, 2, 17-20; served it answers 0, and then 1 (finished) or 0 (unfinished)
  pub add_block : (w : Writer) (line : List ℕ) (kind : ℕ) (vs : List ℕ)
      → Numbered (add_faults w (length line) kind vs) (1 ∷ 2 ∷ 17 ∷ 18 ∷ 19 ∷ 20 ∷ []) (λ (k : ℕ). laid_numbers (adding w line kind vs).answer ≡ k ∷ [])
      ((laid_numbers (adding w line kind vs).answer ≡ 0 ∷ 1 ∷ []) ⊎ (laid_numbers (adding w line kind vs).answer ≡ 0 ∷ 0 ∷ []))
  -- closing: 1, 2, 20
  pub close_line : (w : Writer) (line : List ℕ)
      → Numbered (close_faults w (length line)) (1 ∷ 2 ∷ 20 ∷ []) (λ (k : ℕ). answer_numbers (closing w line).answer ≡ k ∷ []) (answer_numbers (closing w line).answer ≡ [])
  -- adding a packet (02, Item 3): 1, 2, 17, 18, 20, 24
  pub add_packet : (w : Writer) (line : List ℕ) (did second : ℕ) (vs : List ℕ)
      → Numbered (pack_faults w (length line) vs) (1 ∷ 2 ∷ 17 ∷ 18 ∷ 20 ∷ 24 ∷ []) (λ (k : ℕ). answer_numbers (packing w line did second vs).answer ≡ k ∷ [])
      (answer_numbers (packing w line did second vs).answer ≡ [])
  -- all leave line and state
  pub open_leaves : (w : Writer) (f v : Bool) (n : ℕ) (t : Settings) (line : List ℕ) (k : ℕ) → answer_numbers (opening w f v n t line).answer ≡ k ∷ []
      → ((opening w f v n t line).state ≡ w) × ((opening w f v n t line).line ≡ line)
  pub add_leaves : (w : Writer) (line : List ℕ) (kind : ℕ) (vs : List ℕ) (k : ℕ) → laid_numbers (adding w line kind vs).answer ≡ k ∷ []
      → ((adding w line kind vs).state ≡ w) × ((adding w line kind vs).line ≡ line)
  pub close_leaves : (w : Writer) (line : List ℕ) (k : ℕ) → answer_numbers (closing w line).answer ≡ k ∷ [] → ((closing w line).state ≡ w) × ((closing w line).line ≡ line)
  pub pack_leaves : (w : Writer) (line : List ℕ) (did second : ℕ) (vs : List ℕ) (k : ℕ) → answer_numbers (packing w line did second vs).answer ≡ k ∷ []
      → ((packing w line did second vs).state ≡ w) × ((packing w line did second vs).line ≡ line)
  -- reading: 1-13, 15, 16
  pub read : (st : Reader) (line room : List ℕ)
      → Numbered (read_refusals st line room) (read_answers st.place) (ReadRefused st line room) (ReadServed st line room)
  -- 1 and 2 leave everything; refused with 3-16: phase idle, last number none, settings kept, and the room as it was
  pub read_leaves : (st : Reader) (line room : List ℕ) (k : ℕ) → ReadRefused st line room k → k ≤ 2 → ((reading st line room).told.state ≡ st) × ((reading st line room).room ≡ room)
  pub read_forgets : (st : Reader) (line room : List ℕ) (k : ℕ) → ReadRefused st line room k → 3 ≤ k → Forgets st (reading st line room).told.state × ((reading st line room).room ≡ room)
  -- a list of blocks (02, Item 9): its own refusals are 1 and 2, also of an empty list, which else is all finished
  pub no_blocks : (w : Writer) (line : List ℕ)
      → Numbered (batch_faults w (length line)) (1 ∷ 2 ∷ []) (λ (k : ℕ). stop_numbers (batching w line []).stop ≡ k ∷ []) (stop_numbers (batching w line []).stop ≡ 0 ∷ 1 ∷ [])
  -- every list gets them, with no block finished, and line and state are left
  pub blocks_leave : (w : Writer) (line blocks : List ℕ) (k : ℕ) → stop_numbers (batching w line []).stop ≡ k ∷ [] →
      let x = batching w line blocks in
      (stop_numbers x.stop ≡ k ∷ []) × ((x.finished ≡ 0) × ((x.state ≡ w) × (x.line ≡ line)))
  -- else its entries are laid, each judged when it is reached
  pub blocks_served : (w : Writer) (line blocks : List ℕ) → stop_numbers (batching w line []).stop ≡ 0 ∷ 1 ∷ [] → batching w line blocks ≡ lay_all w line 0 (entries_of blocks)
  -- 28: broken off; nothing of it is laid
  pub entry_broken : (w : Writer) (line : List ℕ) (done : ℕ) (es : List Entry) →
      let x = lay_all w line done (broken ∷ es) in
      (stop_numbers x.stop ≡ 28 ∷ []) × ((x.finished ≡ done) × ((x.state ≡ w) × (x.line ≡ line)))
  -- a whole entry: as a single addition, 17-20. A refused one stops and leaves line and state; ..
  pub entry_refused : (w : Writer) (line : List ℕ) (done kind : ℕ) (vs : List ℕ) (es : List Entry) (k : ℕ) → laid_numbers (adding w line kind vs).answer ≡ k ∷ [] →
      let x = lay_all w line done (whole kind vs ∷ es) in
      (stop_numbers x.stop ≡ k ∷ []) × ((x.finished ≡ done) × ((x.state ≡ w) × (x.line ≡ line)))
  -- .. an unfinished one stops, and isn't counted; ..
  pub entry_unfinished : (w : Writer) (line : List ℕ) (done kind : ℕ) (vs : List ℕ) (es : List Entry) → laid_numbers (adding w line kind vs).answer ≡ 0 ∷ 0 ∷ [] →
      let x = lay_all w line done (whole kind vs ∷ es) in
      (stop_numbers x.stop ≡ 0 ∷ 0 ∷ []) × ((x.finished ≡ done) × ((x.state ≡ (adding w line kind vs).state) × (x.line ≡ (adding w line kind vs).line)))
  -- .. and behind a finished one, which is counted, come the others
  pub entry_finished : (w : Writer) (line : List ℕ) (done kind : ℕ) (vs : List ℕ) (es : List Entry) → laid_numbers (adding w line kind vs).answer ≡ 0 ∷ 1 ∷ []
      → lay_all w line done (whole kind vs ∷ es) ≡ lay_all (adding w line kind vs).state (adding w line kind vs).line (suc done) es
