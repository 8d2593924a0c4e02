-- Each field of demand 1, cited at an instance that a weaker field would not give. The types are written out, as in DemandCited.antt. That a number
-- is the lowest whose condition holds is given in two parts: its own condition, in the words of the crates below, and that no lower number's holds.
-- Assumes nothing.
use Rattle.std.specs.Prelude.{Option, Some, None}
use Prim.Native.Nat.{ℕ, ◌+◌, ◌<◌}
use mathlib.Core.Bool.{Bool, true, false, ◌&&◌, ◌||◌, not}
use mathlib.Core.Logic.{◌⊎◌, inr}
use mathlib.Core.List.{List, [], ◌∷◌, ◌++◌, map}
use mathlib.Core.Path.{◌≡◌, refl, sym, ap, ◌∙◌, subst}
use native.Mathlib.Omega.{arith}
use lib.Dec.{eqb, leb, ltb}
use lib.IntN.{pos}
use lib.ListN.{length, get_or}
use Rattle.lists.specs.Tests.{Refusal, rising, holds_at}
use Rattle.lists.specs.Lists.{same}
use Rattle.lists.proofs.Tests.{true_false, or_false}
use Rattle.line.specs.declared.settings.Settings.{Settings}
use Rattle.line.specs.Systems.{system_of, is_system}
use Rattle.line.specs.Settings.{no_settings, settings_faults, same_settings}
use Rattle.line.specs.Layout.{area_of, end_of, end_words}
use Rattle.line.specs.Check.{settings_of, head_faults, area_faults, payload_faults, faults, fits_length, line_faults, checked_of}
use Rattle.course.specs.Course.{next_number}
use Rattle.writer.specs.declared.state.Writer.{Writer}
use Rattle.writer.specs.State.{impossible, end_in, unfinished}
use Rattle.writer.specs.Answers.{answer_numbers, laid_numbers}
use Rattle.writer.specs.Opening.{open_blocked, open_faults, opening}
use Rattle.writer.specs.Adding.{valued, add_faults, adding}
use Rattle.writer.specs.Packing.{pack_faults, packing}
use Rattle.writer.specs.Closing.{close_faults, closing}
use Rattle.writer.specs.Batch.{Entry, whole, stop_numbers, Batched, lay_all, batch_faults, batching}
use Rattle.writer.proofs.BatchLaws.{entries_one}
use Rattle.machine.specs.Phases.{phase_numbers}
use Rattle.machine.specs.declared.phase.Mark.TheVariants.{Typed}
use Rattle.machine.specs.declared.phase.Phase.TheVariants.{Data}
use Rattle.reader.specs.declared.state.Reader.{Reader}
use Rattle.reader.specs.State.{impossible_in}
use Rattle.reader.specs.Events.{event_numbers}
use Rattle.reader.specs.Reading.{read_faults_in, reading}
use Rattle.demands.proofs.Demand1Holds.{demand_1}

-- ---- one condition among others: the last of a list, and one before others that have another number
holds_not : (b : Bool) → b ≡ false → (not b || false) ≡ true
holds_not b e = ap (λ (x : Bool). not x || false) e

not_holds : (b : Bool) → (not b || false) ≡ true → b ≡ false
not_holds true e = absurd (true_false (sym e))
not_holds false e = refl

stands : (b : Bool) → (not b || false) ≡ false → b ≡ true
stands true e = refl
stands false e = absurd (true_false e)

holds : (b : Bool) → (b || false) ≡ true → b ≡ true
holds true e = refl
holds false e = e

-- ---- the line check of system 1 in 9-bit mode
-- 13: the flag is above 1, and no lower number's condition holds
pub check_13 : (line : List ℕ) → ltb 1 (settings_of line).flag ≡ true → ((n : ℕ) → n < 13 → holds_at n (line_faults 1 9 line) ≡ false)
    → (checked_of 1 9 line).fault ≡ 13
unfolding faults head_faults settings_faults payload_faults area_faults
check_13 line bad low = ((demand_1.check 1 9 line).gives 13 (record { holds = ap (λ (b : Bool). b || false) bad; lowest = low })).0

pub check_13_only : (line : List ℕ) → (checked_of 1 9 line).fault ≡ 13
    → (ltb 1 (settings_of line).flag ≡ true) × ((holds_at 12 (line_faults 1 9 line) ≡ false) × (fits_length 1 9 (length line) ≡ true))
unfolding faults head_faults settings_faults payload_faults area_faults
check_13_only line is =
    let x = (demand_1.check 1 9 line).only 13 (is, omega arith) in
    (holds _ x.holds, (x.lowest 12 (omega arith), stands _ (x.lowest 1 (omega arith))))

-- 1: of a system that is not known, any words
pub check_1 : (mode : ℕ) (line : List ℕ) → (checked_of 4 mode line).fault ≡ 1
unfolding fits_length is_system faults head_faults settings_faults payload_faults area_faults
check_1 mode line =
    ((demand_1.check 4 mode line).gives 1
    (record { holds = refl; lowest = λ n h. let none : 0 ≡ n = omega (arith, h) in subst (λ (k : ℕ). holds_at k (line_faults 4 mode line) ≡ false) none refl })).0

-- served exactly if none holds; the payload CRC stands then
pub check_serves : (line : List ℕ) → ((n : ℕ) → holds_at n (line_faults 1 9 line) ≡ false) → (checked_of 1 9 line).fault ≡ 0
check_serves line none = (demand_1.check 1 9 line).serves none

pub check_unless : (line : List ℕ) → (checked_of 1 9 line).fault ≡ 0
    → same (end_of (system_of 1) (settings_of line).flag line) (end_words (settings_of line).flag (area_of (system_of 1) (settings_of line).flag line)) ≡ true
unfolding faults head_faults settings_faults payload_faults area_faults
check_unless line is = stands _ ((demand_1.check 1 9 line).unless is 16)

-- the numbers of 01's table, of which none is 2, and none 14 any more
pub check_numbers : (line : List ℕ)
    → (map (λ (r : Refusal). r.number) (line_faults 1 9 line) ≡ 1 ∷ 3 ∷ 4 ∷ 5 ∷ 6 ∷ 7 ∷ 8 ∷ 9 ∷ 10 ∷ 11 ∷ 12 ∷ 13 ∷ 15 ∷ 16 ∷ []) × (rising (line_faults 1 9 line) ≡ true)
check_numbers line = let x = demand_1.check 1 9 line in (x.numbers, x.rises)

-- nothing is read of it
pub check_leaves_13 : (line : List ℕ) → (checked_of 1 9 line).fault ≡ 13 → checked_of 1 9 line ≡ record { fault = 13; number = 0; settings = no_settings }
check_leaves_13 line is = demand_1.check_leaves 1 9 line 13 is (omega arith)

-- ---- the writer of system 1 in 9-bit mode
-- after line 7, with 50 words laid of a block of type 5 with 100 values, a CRC of 18 bits, right or wrong, and 100 words of the gap used
abbrev pub halfway : Settings → Option ℕ → Writer
halfway s place = record { system = 1; mode = 9; last = Some 7; settings = s; place = place; rest = unfinished 5 100 50; crc = 0x2A5A5; used = 100 }

-- 20: a line is open
pub open_20 : (s : Settings) (f v : Bool) (t : Settings) (line : List ℕ) → ((n : ℕ) → n < 20 → holds_at n (open_faults (halfway s (Some 3)) 8 t (length line)) ≡ false)
    → answer_numbers (opening (halfway s (Some 3)) f v 8 t line).answer ≡ 20 ∷ []
unfolding settings_faults open_blocked
open_20 s f v t line low = (demand_1.open_line (halfway s (Some 3)) f v 8 t line).gives 20 (record { holds = refl; lowest = low })

-- with none open: the settings are others, or the number isn't next
either_not : (a b : Bool) → ((not a || not b) || false) ≡ true → (a && b) ≡ false
either_not true b e = not_holds b e
either_not false b e = refl

both_so : (a b : Bool) → ((not a || not b) || false) ≡ false → (a ≡ true) × (b ≡ true)
both_so true true e = (refl, refl)
both_so true false e = absurd (true_false e)
both_so false b e = absurd (true_false e)

pub open_20_only : (s : Settings) (f v : Bool) (n : ℕ) (t : Settings) (line : List ℕ) → answer_numbers (opening (halfway s None) f v n t line).answer ≡ 20 ∷ []
    → ((same_settings t s && eqb n (next_number 625 7)) ≡ false) × (impossible (halfway s None) ≡ false)
unfolding settings_faults open_blocked
open_20_only s f v n t line is =
    let x = (demand_1.open_line (halfway s None) f v n t line).only 20 is in
    (either_not (same_settings t s) (eqb n (next_number 625 7)) x.holds, (or_false _ _ (x.lowest 2 (omega arith))).0)

pub open_serves : (s : Settings) (f v : Bool) (line : List ℕ) → ((n : ℕ) → holds_at n (open_faults (halfway s None) 8 s (length line)) ≡ false)
    → answer_numbers (opening (halfway s None) f v 8 s line).answer ≡ []
open_serves s f v line none = (demand_1.open_line (halfway s None) f v 8 s line).serves none

pub open_unless : (s : Settings) (f v : Bool) (n : ℕ) (t : Settings) (line : List ℕ) → answer_numbers (opening (halfway s None) f v n t line).answer ≡ []
    → (same_settings t s ≡ true) × (eqb n (next_number 625 7) ≡ true)
unfolding settings_faults open_blocked
open_unless s f v n t line is = both_so (same_settings t s) (eqb n (next_number 625 7)) ((demand_1.open_line (halfway s None) f v n t line).unless is 20)

pub open_numbers : (w : Writer) (f v : Bool) (n : ℕ) (t : Settings) (line : List ℕ)
    → map (λ (r : Refusal). r.number) (open_faults w n t (length line)) ≡ 1 ∷ 2 ∷ 9 ∷ 10 ∷ 11 ∷ 12 ∷ 13 ∷ 20 ∷ []
open_numbers w f v n t line = (demand_1.open_line w f v n t line).numbers

pub open_leaves_20 : (s : Settings) (f v : Bool) (t : Settings) (line : List ℕ) → answer_numbers (opening (halfway s (Some 3)) f v 8 t line).answer ≡ 20 ∷ []
    → ((opening (halfway s (Some 3)) f v 8 t line).state ≡ halfway s (Some 3)) × ((opening (halfway s (Some 3)) f v 8 t line).line ≡ line)
open_leaves_20 s f v t line is = demand_1.open_leaves (halfway s (Some 3)) f v 8 t line 20 is

-- 17: a value above 511
pub add_17 : (s : Settings) (line : List ℕ) (kind : ℕ) (vs : List ℕ) → valued 9 vs ≡ false
    → ((n : ℕ) → n < 17 → holds_at n (add_faults (halfway s (Some 3)) (length line) kind vs) ≡ false)
    → laid_numbers (adding (halfway s (Some 3)) line kind vs).answer ≡ 17 ∷ []
add_17 s line kind vs bad low = (demand_1.add_block (halfway s (Some 3)) line kind vs).gives 17 (record { holds = holds_not _ bad; lowest = low })

pub add_17_only : (s : Settings) (line : List ℕ) (kind : ℕ) (vs : List ℕ) → laid_numbers (adding (halfway s (Some 3)) line kind vs).answer ≡ 17 ∷ []
    → (valued 9 vs ≡ false) × ((fits_length 1 9 (length line) ≡ true) × (impossible (halfway s (Some 3)) ≡ false))
add_17_only s line kind vs is =
    let x = (demand_1.add_block (halfway s (Some 3)) line kind vs).only 17 is in
    (not_holds _ x.holds, (stands _ (x.lowest 1 (omega arith)), (or_false _ _ (x.lowest 2 (omega arith))).0))

pub add_serves : (s : Settings) (line : List ℕ) (kind : ℕ) (vs : List ℕ) → ((n : ℕ) → holds_at n (add_faults (halfway s (Some 3)) (length line) kind vs) ≡ false)
    → (laid_numbers (adding (halfway s (Some 3)) line kind vs).answer ≡ 0 ∷ 1 ∷ []) ⊎ (laid_numbers (adding (halfway s (Some 3)) line kind vs).answer ≡ 0 ∷ 0 ∷ [])
add_serves s line kind vs none = (demand_1.add_block (halfway s (Some 3)) line kind vs).serves none

-- the type and the length lent are those of the unfinished block
both_same : (a b : Bool) → (not (a && b) || false) ≡ false → (a ≡ true) × (b ≡ true)
both_same true b e = (refl, stands b e)
both_same false b e = absurd (true_false e)

pub add_unless : (s : Settings) (line : List ℕ) (kind : ℕ) (vs : List ℕ)
    → (laid_numbers (adding (halfway s (Some 3)) line kind vs).answer ≡ 0 ∷ 1 ∷ []) ⊎ (laid_numbers (adding (halfway s (Some 3)) line kind vs).answer ≡ 0 ∷ 0 ∷ [])
    → (eqb 5 kind ≡ true) × (eqb 100 (length vs) ≡ true)
add_unless s line kind vs is = both_same _ _ ((demand_1.add_block (halfway s (Some 3)) line kind vs).unless is 20)

pub add_numbers : (w : Writer) (line : List ℕ) (kind : ℕ) (vs : List ℕ)
    → map (λ (r : Refusal). r.number) (add_faults w (length line) kind vs) ≡ 1 ∷ 2 ∷ 17 ∷ 18 ∷ 19 ∷ 20 ∷ []
add_numbers w line kind vs = (demand_1.add_block w line kind vs).numbers

pub add_leaves_17 : (s : Settings) (line : List ℕ) (kind : ℕ) (vs : List ℕ) → laid_numbers (adding (halfway s (Some 3)) line kind vs).answer ≡ 17 ∷ []
    → ((adding (halfway s (Some 3)) line kind vs).state ≡ halfway s (Some 3)) × ((adding (halfway s (Some 3)) line kind vs).line ≡ line)
add_leaves_17 s line kind vs is = demand_1.add_leaves (halfway s (Some 3)) line kind vs 17 is

-- a packet. 20: none is open; 24: 100 words are used of 227
pub pack_20 : (s : Settings) (line : List ℕ) (did second : ℕ) (vs : List ℕ) → ((n : ℕ) → n < 20 → holds_at n (pack_faults (halfway s None) (length line) vs) ≡ false)
    → answer_numbers (packing (halfway s None) line did second vs).answer ≡ 20 ∷ []
pack_20 s line did second vs low = (demand_1.add_packet (halfway s None) line did second vs).gives 20 (record { holds = refl; lowest = low })

pub pack_24_only : (s : Settings) (line : List ℕ) (did second : ℕ) (vs : List ℕ) → answer_numbers (packing (halfway s (Some 3)) line did second vs).answer ≡ 24 ∷ []
    → (ltb 227 (100 + (length vs + 7)) ≡ true) × ((ltb 255 (length vs) ≡ false) × (fits_length 1 9 (length line) ≡ true))
pack_24_only s line did second vs is =
    let x = (demand_1.add_packet (halfway s (Some 3)) line did second vs).only 24 is in
    (holds _ x.holds, ((or_false _ _ (x.lowest 18 (omega arith))).0, stands _ (x.lowest 1 (omega arith))))

pub pack_serves : (s : Settings) (line : List ℕ) (did second : ℕ) (vs : List ℕ) → ((n : ℕ) → holds_at n (pack_faults (halfway s (Some 3)) (length line) vs) ≡ false)
    → answer_numbers (packing (halfway s (Some 3)) line did second vs).answer ≡ []
pack_serves s line did second vs none = (demand_1.add_packet (halfway s (Some 3)) line did second vs).serves none

pub pack_unless : (s : Settings) (line : List ℕ) (did second : ℕ) (vs : List ℕ) → answer_numbers (packing (halfway s (Some 3)) line did second vs).answer ≡ []
    → ltb 227 (100 + (length vs + 7)) ≡ false
pack_unless s line did second vs is = (or_false _ _ ((demand_1.add_packet (halfway s (Some 3)) line did second vs).unless is 24)).0

pub pack_numbers : (w : Writer) (line : List ℕ) (did second : ℕ) (vs : List ℕ)
    → map (λ (r : Refusal). r.number) (pack_faults w (length line) vs) ≡ 1 ∷ 2 ∷ 17 ∷ 18 ∷ 20 ∷ 24 ∷ []
pack_numbers w line did second vs = (demand_1.add_packet w line did second vs).numbers

pub pack_leaves_24 : (s : Settings) (line : List ℕ) (did second : ℕ) (vs : List ℕ) → answer_numbers (packing (halfway s (Some 3)) line did second vs).answer ≡ 24 ∷ []
    → ((packing (halfway s (Some 3)) line did second vs).state ≡ halfway s (Some 3)) × ((packing (halfway s (Some 3)) line did second vs).line ≡ line)
pack_leaves_24 s line did second vs is = demand_1.pack_leaves (halfway s (Some 3)) line did second vs 24 is

-- 20: none is open; with one open, a word is left in its area
pub close_20 : (s : Settings) (line : List ℕ) → ((n : ℕ) → n < 20 → holds_at n (close_faults (halfway s None) (length line)) ≡ false)
    → answer_numbers (closing (halfway s None) line).answer ≡ 20 ∷ []
close_20 s line low = (demand_1.close_line (halfway s None) line).gives 20 (record { holds = refl; lowest = low })

pub close_20_only : (s : Settings) (line : List ℕ) → answer_numbers (closing (halfway s (Some 3)) line).answer ≡ 20 ∷ []
    → (leb (end_in (halfway s (Some 3))) 3 ≡ false) × (fits_length 1 9 (length line) ≡ true)
close_20_only s line is =
    let x = (demand_1.close_line (halfway s (Some 3)) line).only 20 is in
    (not_holds _ x.holds, stands _ (x.lowest 1 (omega arith)))

pub close_serves : (s : Settings) (line : List ℕ) → ((n : ℕ) → holds_at n (close_faults (halfway s (Some 3)) (length line)) ≡ false)
    → answer_numbers (closing (halfway s (Some 3)) line).answer ≡ []
close_serves s line none = (demand_1.close_line (halfway s (Some 3)) line).serves none

pub close_unless : (s : Settings) (line : List ℕ) → answer_numbers (closing (halfway s (Some 3)) line).answer ≡ [] → leb (end_in (halfway s (Some 3))) 3 ≡ true
close_unless s line is = stands _ ((demand_1.close_line (halfway s (Some 3)) line).unless is 20)

pub close_numbers : (w : Writer) (line : List ℕ) → map (λ (r : Refusal). r.number) (close_faults w (length line)) ≡ 1 ∷ 2 ∷ 20 ∷ []
close_numbers w line = (demand_1.close_line w line).numbers

pub close_leaves_20 : (s : Settings) (line : List ℕ) → answer_numbers (closing (halfway s (Some 3)) line).answer ≡ 20 ∷ []
    → ((closing (halfway s (Some 3)) line).state ≡ halfway s (Some 3)) × ((closing (halfway s (Some 3)) line).line ≡ line)
close_leaves_20 s line is = demand_1.close_leaves (halfway s (Some 3)) line 20 is

-- ---- a list of blocks, of the same writer
-- 2, of an empty list; and then of every list, which changes nothing
pub none_2 : (s : Settings) (line : List ℕ) → impossible (halfway s (Some 3)) ≡ true → ((n : ℕ) → n < 2 → holds_at n (batch_faults (halfway s (Some 3)) (length line)) ≡ false)
    → stop_numbers (batching (halfway s (Some 3)) line []).stop ≡ 2 ∷ []
none_2 s line bad low = (demand_1.no_blocks (halfway s (Some 3)) line).gives 2 (record { holds = ap (λ (b : Bool). b || false) bad; lowest = low })

pub none_2_only : (s : Settings) (line : List ℕ) → stop_numbers (batching (halfway s (Some 3)) line []).stop ≡ 2 ∷ []
    → (impossible (halfway s (Some 3)) ≡ true) × (fits_length 1 9 (length line) ≡ true)
none_2_only s line is =
    let x = (demand_1.no_blocks (halfway s (Some 3)) line).only 2 is in
    (holds _ x.holds, stands _ (x.lowest 1 (omega arith)))

pub none_serves : (s : Settings) (line : List ℕ) → ((n : ℕ) → holds_at n (batch_faults (halfway s None) (length line)) ≡ false)
    → stop_numbers (batching (halfway s None) line []).stop ≡ 0 ∷ 1 ∷ []
none_serves s line none = (demand_1.no_blocks (halfway s None) line).serves none

pub none_unless : (s : Settings) (line : List ℕ) → stop_numbers (batching (halfway s None) line []).stop ≡ 0 ∷ 1 ∷ [] → fits_length 1 9 (length line) ≡ true
none_unless s line is = stands _ ((demand_1.no_blocks (halfway s None) line).unless is 1)

pub none_numbers : (w : Writer) (line : List ℕ) → (map (λ (r : Refusal). r.number) (batch_faults w (length line)) ≡ 1 ∷ 2 ∷ []) × (rising (batch_faults w (length line)) ≡ true)
none_numbers w line = let x = demand_1.no_blocks w line in (x.numbers, x.rises)

pub blocks_leave_2 : (s : Settings) (line : List ℕ) → stop_numbers (batching (halfway s (Some 3)) line []).stop ≡ 2 ∷ []
    → (stop_numbers (batching (halfway s (Some 3)) line (5 ∷ 0 ∷ [])).stop ≡ 2 ∷ [])
    × (((batching (halfway s (Some 3)) line (5 ∷ 0 ∷ [])).finished ≡ 0)
    × (((batching (halfway s (Some 3)) line (5 ∷ 0 ∷ [])).state ≡ halfway s (Some 3)) × ((batching (halfway s (Some 3)) line (5 ∷ 0 ∷ [])).line ≡ line)))
blocks_leave_2 s line is = demand_1.blocks_leave (halfway s (Some 3)) line (5 ∷ 0 ∷ []) 2 is

-- one word alone is broken off, 28, also with no line open
pub blocks_28 : (s : Settings) (line : List ℕ) → stop_numbers (batching (halfway s None) line []).stop ≡ 0 ∷ 1 ∷ []
    → (stop_numbers (batching (halfway s None) line (5 ∷ [])).stop ≡ 28 ∷ []) × ((batching (halfway s None) line (5 ∷ [])).state ≡ halfway s None)
blocks_28 s line is =
    let e = demand_1.blocks_served (halfway s None) line (5 ∷ []) is ∙ ap (lay_all (halfway s None) line 0) (entries_one 5) in
    let x = demand_1.entry_broken (halfway s None) line 0 [] in
    (ap (λ (b : Batched). stop_numbers b.stop) e ∙ x.0, ap (λ (b : Batched). b.state) e ∙ x.1.1.0)

-- behind four finished blocks: one that is refused with 17, one that is unfinished, and one that is finished
pub entry_17 : (s : Settings) (line : List ℕ) (kind : ℕ) (vs : List ℕ) (es : List Entry) → laid_numbers (adding (halfway s (Some 3)) line kind vs).answer ≡ 17 ∷ []
    → (stop_numbers (lay_all (halfway s (Some 3)) line 4 (whole kind vs ∷ es)).stop ≡ 17 ∷ []) × ((lay_all (halfway s (Some 3)) line 4 (whole kind vs ∷ es)).finished ≡ 4)
entry_17 s line kind vs es is = let x = demand_1.entry_refused (halfway s (Some 3)) line 4 kind vs es 17 is in (x.0, x.1.0)

pub entry_part : (s : Settings) (line : List ℕ) (kind : ℕ) (vs : List ℕ) (es : List Entry) → laid_numbers (adding (halfway s (Some 3)) line kind vs).answer ≡ 0 ∷ 0 ∷ []
    → ((lay_all (halfway s (Some 3)) line 4 (whole kind vs ∷ es)).finished ≡ 4)
    × ((lay_all (halfway s (Some 3)) line 4 (whole kind vs ∷ es)).state ≡ (adding (halfway s (Some 3)) line kind vs).state)
entry_part s line kind vs es is = let x = demand_1.entry_unfinished (halfway s (Some 3)) line 4 kind vs es is in (x.1.0, x.1.1.0)

pub entry_whole : (s : Settings) (line : List ℕ) (kind : ℕ) (vs : List ℕ) → laid_numbers (adding (halfway s (Some 3)) line kind vs).answer ≡ 0 ∷ 1 ∷ []
    → (lay_all (halfway s (Some 3)) line 4 (whole kind vs ∷ [])).finished ≡ 5
unfolding lay_all
entry_whole s line kind vs is = ap (λ (b : Batched). b.finished) (demand_1.entry_finished (halfway s (Some 3)) line 4 kind vs [] is)

-- ---- the reader of system 1 in 9-bit mode
-- after line 7, with 60 values collected of a block of type 5 with 100
abbrev pub collecting : Settings → Option ℕ → Reader
collecting s place = record { system = 1; mode = 9; last = Some 7; settings = s; place = place; phase = Data (Typed 5) 100 60 }

-- 2, with a line begun: an open block is not dropped
pub read_2 : (s : Settings) (line room : List ℕ) → impossible_in 16384 (collecting s (Some 3)) ≡ true
    → ((n : ℕ) → n < 2 → holds_at n (read_faults_in 16384 (collecting s (Some 3)) (length line) (length room)) ≡ false)
    → event_numbers (reading (collecting s (Some 3)) line room).told.event ≡ pos 0 ∷ pos 2 ∷ pos 0 ∷ []
read_2 s line room bad low =
    (demand_1.read (collecting s (Some 3)) line room).gives 2 (record { holds = ap (λ (b : Bool). b || false) bad; lowest = low })

pub read_2_only : (s : Settings) (line room : List ℕ) → event_numbers (reading (collecting s (Some 3)) line room).told.event ≡ pos 0 ∷ pos 2 ∷ pos 0 ∷ []
    → (impossible_in 16384 (collecting s (Some 3)) ≡ true) × ((fits_length 1 9 (length line) && eqb (length room) 16384) ≡ true)
read_2_only s line room is =
    let x = (demand_1.read (collecting s (Some 3)) line room).only 2 is in
    (holds _ x.holds, stands _ (x.lowest 1 (omega arith)))

-- 16, with none begun: it is
pub read_16 : (s : Settings) (line room : List ℕ)
    → same (end_of (system_of 1) (settings_of line).flag line) (end_words (settings_of line).flag (area_of (system_of 1) (settings_of line).flag line)) ≡ false
    → ((n : ℕ) → n < 16 → holds_at n (read_faults_in 16384 (collecting s None) (length line) (length room) ++ faults (system_of 1) 9 line) ≡ false)
    → event_numbers (reading (collecting s None) line room).told.event ≡ pos 0 ∷ pos 16 ∷ pos 1 ∷ []
unfolding faults head_faults settings_faults payload_faults area_faults
read_16 s line room bad low = (demand_1.read (collecting s None) line room).gives 16 (record { holds = holds_not _ bad; lowest = low })

pub read_16_only : (s : Settings) (line room : List ℕ) → event_numbers (reading (collecting s None) line room).told.event ≡ pos 0 ∷ pos 16 ∷ pos 1 ∷ []
    → (same (end_of (system_of 1) (settings_of line).flag line) (end_words (settings_of line).flag (area_of (system_of 1) (settings_of line).flag line)) ≡ false)
    × ((impossible_in 16384 (collecting s None) ≡ false) × (ltb 1 (settings_of line).flag ≡ false))
unfolding faults head_faults settings_faults payload_faults area_faults
read_16_only s line room is =
    let x = (demand_1.read (collecting s None) line room).only 16 is in
    (not_holds _ x.holds, ((or_false _ _ (x.lowest 2 (omega arith))).0, (or_false _ _ (x.lowest 13 (omega arith))).0))

-- served: with no line begun, begun; else a block, a drop or the line's end
pub read_serves_shut : (s : Settings) (line room : List ℕ)
    → ((n : ℕ) → holds_at n (read_faults_in 16384 (collecting s None) (length line) (length room) ++ faults (system_of 1) 9 line) ≡ false)
    → get_or (event_numbers (reading (collecting s None) line room).told.event) 0 (pos 0) ≡ pos 1
read_serves_shut s line room none = (demand_1.read (collecting s None) line room).serves none

pub read_serves_at : (s : Settings) (line room : List ℕ) → ((n : ℕ) → holds_at n (read_faults_in 16384 (collecting s (Some 3)) (length line) (length room)) ≡ false)
    → let z = get_or (event_numbers (reading (collecting s (Some 3)) line room).told.event) 0 (pos 0) in (z ≡ pos 2) ⊎ ((z ≡ pos 3) ⊎ (z ≡ pos 4))
read_serves_at s line room none = (demand_1.read (collecting s (Some 3)) line room).serves none

pub read_unless_shut : (s : Settings) (line room : List ℕ) → get_or (event_numbers (reading (collecting s None) line room).told.event) 0 (pos 0) ≡ pos 1
    → same (end_of (system_of 1) (settings_of line).flag line) (end_words (settings_of line).flag (area_of (system_of 1) (settings_of line).flag line)) ≡ true
unfolding faults head_faults settings_faults payload_faults area_faults
read_unless_shut s line room is = stands _ ((demand_1.read (collecting s None) line room).unless is 16)

pub read_unless_at : (s : Settings) (line room : List ℕ) → get_or (event_numbers (reading (collecting s (Some 3)) line room).told.event) 0 (pos 0) ≡ pos 4
    → impossible_in 16384 (collecting s (Some 3)) ≡ false
read_unless_at s line room is = (or_false _ _ ((demand_1.read (collecting s (Some 3)) line room).unless (inr (inr is)) 2)).0

pub read_numbers : (s : Settings) (line room : List ℕ)
    → (map (λ (r : Refusal). r.number) (read_faults_in 16384 (collecting s None) (length line) (length room) ++ faults (system_of 1) 9 line)
    ≡ 1 ∷ 2 ∷ 3 ∷ 4 ∷ 5 ∷ 6 ∷ 7 ∷ 8 ∷ 9 ∷ 10 ∷ 11 ∷ 12 ∷ 13 ∷ 15 ∷ 16 ∷ [])
    × (map (λ (r : Refusal). r.number) (read_faults_in 16384 (collecting s (Some 3)) (length line) (length room)) ≡ 1 ∷ 2 ∷ [])
read_numbers s line room = ((demand_1.read (collecting s None) line room).numbers, (demand_1.read (collecting s (Some 3)) line room).numbers)

-- 2 leaves everything
pub read_leaves_2 : (s : Settings) (line room : List ℕ) → event_numbers (reading (collecting s (Some 3)) line room).told.event ≡ pos 0 ∷ pos 2 ∷ pos 0 ∷ []
    → ((reading (collecting s (Some 3)) line room).told.state ≡ collecting s (Some 3)) × ((reading (collecting s (Some 3)) line room).room ≡ room)
read_leaves_2 s line room is = demand_1.read_leaves (collecting s (Some 3)) line room 2 is (omega arith)

-- 16 leaves system, mode and settings, and the room; and so does 3
abbrev pub Forgotten : Settings → List ℕ → List ℕ → Type 0
Forgotten s line room =
    let st = (reading (collecting s None) line room).told.state in
    (phase_numbers st.phase ≡ 0 ∷ [])
    × ((st.last ≡ None) × ((st.settings ≡ s) × ((st.place ≡ None) × ((st.system ≡ 1) × ((st.mode ≡ 9) × ((reading (collecting s None) line room).room ≡ room))))))

pub read_forgets_16 : (s : Settings) (line room : List ℕ) → event_numbers (reading (collecting s None) line room).told.event ≡ pos 0 ∷ pos 16 ∷ pos 1 ∷ [] → Forgotten s line room
read_forgets_16 s line room is =
    let x = demand_1.read_forgets (collecting s None) line room 16 is (omega arith) in
    (x.0.idle, (x.0.none_last, (x.0.kept, (x.0.none_begun, (x.0.same_system, (x.0.same_mode, x.1))))))

pub read_forgets_3 : (s : Settings) (line room : List ℕ) → event_numbers (reading (collecting s None) line room).told.event ≡ pos 0 ∷ pos 3 ∷ pos 1 ∷ [] → Forgotten s line room
read_forgets_3 s line room is =
    let x = demand_1.read_forgets (collecting s None) line room 3 is (omega arith) in
    (x.0.idle, (x.0.none_last, (x.0.kept, (x.0.none_begun, (x.0.same_system, (x.0.same_mode, x.1))))))
