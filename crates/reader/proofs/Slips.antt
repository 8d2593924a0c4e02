-- The five slips that 01 has seen, none of which the definitions make: one checked list with one claim.
-- Assumes nothing.
use Rattle.std.specs.Prelude.{Some, None}
use mathlib.Core.Bool.{Bool, true, false}
use mathlib.Core.List.{List, [], ◌∷◌, ◌++◌, map}
use mathlib.Core.Path.{◌≡◌, refl}
use Prim.Native.Nat.{ℕ, suc}
use lib.IntN.{ℤ, pos}
use lib.ListN.{take, drop, replicate}
use Rattle.lists.specs.Tests.{pick}
use Rattle.words.specs.Forms.{byte_word, data_word, is_byte, is_data}
use Rattle.words.specs.Modes.{is_mode}
use Rattle.words.specs.Checksum.{checksum}
use Rattle.words.specs.Crc.{crc_of, crc_start, crc_words}
use Rattle.line.specs.declared.settings.Settings.{Settings}
use Rattle.line.specs.Systems.{system_of, is_system}
use Rattle.line.specs.Timing.{timing_word, timing_words}
use Rattle.line.specs.Fixed.{table, fixed_of, places_of, size_of, fills_all, block_refused}
use Rattle.line.specs.Settings.{settings_faults, settings_fault, same_settings}
use Rattle.line.specs.Header.{number_words, settings_bytes, settings_words, summed_words, header_words}
use Rattle.line.specs.Layout.{area_length, end_words, framed, area_of, end_of}
use Rattle.line.specs.Check.{legal, number_of, settings_of, timed, formed, crc_stands, numbered, head_faults, area_faults, payload_faults, faults, fits_length, line_fault, checked_of}
use Rattle.course.specs.Course.{next_number}
use Rattle.machine.specs.declared.phase.Mark.TheVariants.{Typed}
use Rattle.machine.specs.declared.phase.Phase.TheVariants.{Data}
use Rattle.machine.specs.Phases.{phase_numbers}
use Rattle.reader.specs.declared.state.Reader.{Reader}
use Rattle.reader.specs.declared.state.Told.{Told}
use Rattle.reader.specs.Events.{yes_no, event_numbers}
use Rattle.reader.specs.Jump.{folded}
use Rattle.reader.specs.State.{impossible_in}
use Rattle.reader.specs.Reading.{goes_on, begun, starts, read_fault_in, reading_in, reading}

-- what the definitions give, and what 01 has: numbers with a sign, because an event has them
pub record Case : Type 0 where
  pub given : List ℤ
  pub wanted : List ℤ

abbrev case : List ℤ → List ℤ → Case
case g w = record { given = g; wanted = w }

abbrev number : ℕ → ℕ → Case
number g w = case (pos g ∷ []) (pos w ∷ [])

-- system 0, variable lines, flag 00h: a line of that number, all filler; and the word at index i changed to w
settings : Settings
settings = record { code = 1; aai = 0; destination = replicate 16 7; source = replicate 16 9; block = 0xc1; flag = 0; reserved = replicate 5 0 }

line : ℕ → List ℕ
line n = framed (system_of 0) false true n settings [] (replicate 1440 0x200)

put : ℕ → ℕ → List ℕ → List ℕ
put i w l = take i l ++ (w ∷ drop (suc i) l)

-- a reader behind line 7 in the middle of a block, and what a call tells
open_block : Reader
open_block = record { system = 0; mode = 8; last = Some 7; settings = settings; place = None; phase = Data (Typed 1) 3 2 }

lent : Reader → List ℕ → Told
lent st l = (reading st l (replicate 16384 0)).told

-- the event, then the phase
heard : Told → List ℤ
heard t = event_numbers t.event ++ map pos (phase_numbers t.state.phase)

pub slips : List Case
slips =
    -- "Places as P divided by size (5 into 1440 gives 288; the table says 287), or as P-2 divided by size (37h says 10)"
    number (places_of 1440 0x21) 287 ∷ number (places_of 1440 0x37) 10 ∷ number (places_of 1920 0x37) 13
    ∷ case (yes_no (block_refused 1440 0x77 1) ∷ yes_no (block_refused 1920 0x37 1) ∷ yes_no (block_refused 1440 0x38 2) ∷ []) (pos 1 ∷ pos 0 ∷ pos 0 ∷ [])
    ∷ case (yes_no (block_refused 1440 0x49 0) ∷ yes_no (block_refused 1920 0x49 0) ∷ []) (pos 1 ∷ pos 0 ∷ [])
    -- "CRC over bytes and not ten bits": B8 counts
    ∷ number (crc_of crc_start (0x100 ∷ [])) 0x2c7f7 ∷ number (crc_of crc_start (0x000 ∷ [])) 0x3dff7
    -- "Byte-form parity asked of 9-bit data"; and of 100h, which passes in both modes
    ∷ number (line_fault 0 9 (put 276 0x103 (line 1))) 0 ∷ number (line_fault 0 8 (put 276 0x103 (line 1))) 15
    ∷ number (line_fault 0 9 (put 276 0x100 (line 1))) 0 ∷ number (line_fault 0 8 (put 276 0x100 (line 1))) 0
    -- "Keeping the open block after a refused line": line 8 goes on with it; refused, it drops it, and line 9 is begun unknown, with no block open
    ∷ case (heard (lent open_block (line 8))) (pos 1 ∷ pos 8 ∷ pos 0 ∷ pos 0 ∷ pos 3 ∷ pos 1 ∷ pos 3 ∷ pos 2 ∷ [])
    ∷ case (heard (lent open_block (put 0 0x000 (line 8)))) (pos 0 ∷ pos 3 ∷ pos 1 ∷ pos 0 ∷ [])
    ∷ case (heard (lent (lent open_block (put 0 0x000 (line 8))).state (line 9))) (pos 1 ∷ pos 9 ∷ pos 0 ∷ pos 0 ∷ [])
    ∷ []

pub slips_shut_out : map (λ (c : Case). c.given) slips ≡ map (λ (c : Case). c.wanted) slips
unfolding slips settings line put open_block lent heard pick is_mode is_system is_byte is_data byte_word data_word checksum crc_of crc_words timing_word timing_words mathlib.Core.Bool.xor table fixed_of places_of size_of fills_all block_refused settings_faults settings_fault same_settings number_words settings_bytes settings_words summed_words header_words area_length end_words framed area_of end_of legal number_of settings_of timed formed crc_stands numbered head_faults area_faults payload_faults faults fits_length line_fault checked_of next_number folded impossible_in goes_on begun starts read_fault_in reading_in
slips_shut_out = refl
