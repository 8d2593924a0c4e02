-- Each field of `Nulls`, cited at an instance that a weaker field would not give. The types are written out in the words of the crates below.
-- Assumes nothing.
use Rattle.std.specs.Prelude.{Option, Some, None}
use Prim.Native.Nat.{ℕ}
use mathlib.Core.Bool.{true, false, not}
use mathlib.Core.List.{List, [], ◌∷◌}
use mathlib.Core.Logic.{inl}
use mathlib.Core.Path.{◌≡◌, refl, ap}
use native.Mathlib.Omega.{arith}
use lib.Dec.{eqb}
use lib.IntN.{pos}
use lib.ListN.{length, take, drop}
use Rattle.lists.specs.Tests.{pick}
use Rattle.lists.specs.Lists.{each}
use Rattle.words.specs.Forms.{xor_of, parity, is_byte, is_data, byte_word}
use Rattle.words.specs.Modes.{value_of}
use Rattle.words.specs.Class.{class_of}
use Rattle.line.specs.declared.settings.Settings.{Settings}
use Rattle.line.specs.Systems.{system_of}
use Rattle.line.specs.Fixed.{is_variable}
use Rattle.line.specs.Check.{number_of, settings_of, line_fault}
use Rattle.writer.specs.declared.state.Writer.{Writer}
use Rattle.writer.specs.declared.state.Laid.TheVariants.{Finished, Unfinished}
use Rattle.writer.specs.State.{laid_of}
use Rattle.writer.specs.Block.{count_words, words_in}
use Rattle.writer.specs.Answers.{laid_numbers}
use Rattle.writer.specs.Adding.{adding}
use Rattle.writer.specs.Filling.{piece_of}
use Rattle.machine.specs.declared.phase.Mark.TheVariants.{Typed, Nulled}
use Rattle.machine.specs.declared.phase.Phase.{Phase}
use Rattle.machine.specs.declared.phase.Phase.TheVariants.{Idle, Second, Fourth, Data}
use Rattle.machine.specs.declared.step.Met.TheVariants.{Nothing}
use Rattle.machine.specs.Phases.{phase_numbers, is_busy}
use Rattle.machine.specs.Walk.{walked_to, past, walk_of}
use Rattle.machine.specs.Places.{walk_places}
use Rattle.reader.specs.declared.state.Reader.{Reader}
use Rattle.reader.specs.State.{impossible}
use Rattle.reader.specs.Events.{event_numbers}
use Rattle.reader.specs.Jump.{jump_from, jump_numbers}
use Rattle.reader.specs.Reading.{Reply, goes_on, walk_from, read_fault, reading}
use Rattle.demands.proofs.NullsHold.{nulls}

-- ---- what the writer lays
-- an unfinished block in 8-bit mode; a finished one in either mode; and where its words come from
pub unfinished_8 : (w : Writer) (line : List ℕ) (kind : ℕ) (vs : List ℕ) → (adding w line kind vs).answer ≡ Unfinished → w.mode ≡ 8
    → each (λ x. not (eqb x 0x100)) (piece_of w line kind vs) ≡ true
unfinished_8 w line kind vs e eight = (nulls.never_null w line kind vs 0 (ap laid_numbers e)).all eight

pub finished_head : (w : Writer) (line : List ℕ) (kind : ℕ) (vs : List ℕ) → (adding w line kind vs).answer ≡ Finished
    → let ws = words_in w.settings.block w.mode kind vs in
    each (λ x. not (eqb x 0x100)) (pick (is_variable w.settings.block) (take 5 (drop 1 ws)) (take 1 ws)) ≡ true
finished_head w line kind vs e = (nulls.never_null w line kind vs 1 (ap laid_numbers e)).head

pub laid_part : (w : Writer) (line : List ℕ) (kind : ℕ) (vs : List ℕ) → (adding w line kind vs).answer ≡ Unfinished
    → piece_of w line kind vs ≡ take (length (piece_of w line kind vs)) (drop (laid_of w.rest) (words_in w.settings.block w.mode kind vs))
laid_part w line kind vs e = (nulls.never_null w line kind vs 0 (ap laid_numbers e)).a_part

-- ---- an open phase: that of the fourth count byte too
pub fourth_open : (a b c : ℕ) → is_busy (Fourth Nulled a b c) ≡ true
fourth_open a b c = nulls.is_open (Fourth Nulled a b c) refl

-- a reader of system 1 in 9-bit mode, after line 7, with 60 values collected of a null or a block of 100
abbrev pub reads : Settings → Option ℕ → Phase → Reader
reads s place p = record { system = 1; mode = 9; last = Some 7; settings = s; place = place; phase = p }

abbrev pub within : Settings → Option ℕ → Reader
within s place = reads s place (Data Nulled 100 60)

pub as_possible : (s : Settings) (place : Option ℕ) → impossible (within s place) ≡ impossible (reads s place (Data (Typed 0) 100 60))
as_possible s place = nulls.possible (within s place) 0

-- refused with 15: dropped, and told so
pub refused_15 : (s : Settings) (line room : List ℕ) → read_fault (within s None) (length line) (length room) ≡ 0 → line_fault 1 9 line ≡ 15
    → (event_numbers (reading (within s None) line room).told.event ≡ pos 0 ∷ pos 15 ∷ pos 1 ∷ [])
    × (phase_numbers (reading (within s None) line room).told.state.phase ≡ 0 ∷ [])
refused_15 s line room ok fault =
    let e = nulls.refused_drops (within s None) line room ok refl refl 15 fault (omega arith) in
    (ap (λ (x : Reply). event_numbers x.told.event) e, ap (λ (x : Reply). phase_numbers x.told.state.phase) e)

-- a line that does not go on with it, and one that does
pub begun_off : (s : Settings) (line room : List ℕ) → read_fault (within s None) (length line) (length room) ≡ 0 → line_fault 1 9 line ≡ 0
    → goes_on (within s None) (number_of line) (settings_of line) ≡ false
    → (event_numbers (reading (within s None) line room).told.event ≡ pos 1 ∷ pos (number_of line) ∷ pos 1 ∷ jump_numbers (jump_from (system_of 1).lines (Some 7) (number_of line)))
    × (phase_numbers (reading (within s None) line room).told.state.phase ≡ 0 ∷ [])
begun_off s line room ok fault off =
    let e = nulls.begun_drops (within s None) line room ok refl refl fault off in
    (ap (λ (x : Reply). event_numbers x.told.event) e, ap (λ (x : Reply). phase_numbers x.told.state.phase) e)

pub begun_on : (s : Settings) (line room : List ℕ) → read_fault (within s None) (length line) (length room) ≡ 0 → line_fault 1 9 line ≡ 0
    → goes_on (within s None) (number_of line) (settings_of line) ≡ true
    → (event_numbers (reading (within s None) line room).told.event ≡ pos 1 ∷ pos (number_of line) ∷ pos 0 ∷ jump_numbers (jump_from (system_of 1).lines (Some 7) (number_of line)))
    × (phase_numbers (reading (within s None) line room).told.state.phase ≡ 5 ∷ 100 ∷ 60 ∷ [])
begun_on s line room ok fault goes =
    let e = nulls.begun_keeps (within s None) line room ok refl refl fault goes in
    (ap (λ (x : Reply). event_numbers x.told.event) e, ap (λ (x : Reply). phase_numbers x.told.state.phase) e)

-- a line that ends in a null, of which one count byte was read
pub ends_open : (s : Settings) (line room r : List ℕ) (n : ℕ) → read_fault (within s (Some 3)) (length line) (length room) ≡ 0
    → walk_from (within s (Some 3)) 3 line room ≡ walked_to (Second Nulled 6) Nothing n r
    → (event_numbers (reading (within s (Some 3)) line room).told.event ≡ pos 4 ∷ [])
    × (phase_numbers (reading (within s (Some 3)) line room).told.state.phase ≡ 4 ∷ 6 ∷ [])
ends_open s line room r n ok is =
    let e = nulls.end_keeps (within s (Some 3)) 3 line room ok refl (Second Nulled 6) n r refl is in
    (ap (λ (x : Reply). event_numbers x.told.event) e, ap (λ (x : Reply). phase_numbers x.told.state.phase) e)

-- ---- a whole null
-- in 9-bit mode, of no stated count, with 100h as its one value: 256
pub unstated_9 : (ws room : List ℕ) (v : ℕ)
    → walk_of 9 Idle (0x309 ∷ 0x100 ∷ 0x200 ∷ 0x200 ∷ 0x200 ∷ 0x200 ∷ 0x100 ∷ 0x30a ∷ ws) (v ∷ room) ≡ past 8 (walk_of 9 Idle ws (256 ∷ room))
unfolding count_words byte_word parity xor_of value_of class_of is_byte is_data pick
unstated_9 ws room v = nulls.not_handed_out 9 0 (0x100 ∷ []) ws (v ∷ room) (inl refl) (omega arith) (omega arith) refl

-- a place of five words, one of them 309h, and places behind it
pub skipped_five : (mode a b c : ℕ) (p : Phase) (xs : List (List ℕ)) (room : List ℕ)
    → walk_places mode p ((0x100 ∷ a ∷ b ∷ c ∷ 0x309 ∷ []) ∷ xs) room ≡ past 5 (walk_places mode p xs room)
skipped_five mode a b c p xs room = nulls.place_skipped mode p (a ∷ b ∷ c ∷ 0x309 ∷ []) xs room
