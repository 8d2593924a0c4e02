-- The answers of the line check for which the whole area is looked at: none, 15 and 16, the CRC of an area too. The others are computed in
-- line/proofs/Examples.
-- Assumes nothing.
use mathlib.Core.List.{List, [], ◌∷◌, ◌++◌}
use mathlib.Core.Path.{◌≡◌, refl}
use Prim.Native.Nat.{ℕ, ◌-◌}
use lib.Dec.{T}
use lib.ListN.{length, take}
use Rattle.lists.specs.Tests.{pick}
use Rattle.words.specs.Forms.{byte_word, data_word, is_byte, is_data}
use Rattle.words.specs.Modes.{is_mode}
use Rattle.words.specs.Checksum.{checksum}
use Rattle.words.specs.Crc.{crc_words}
use Rattle.line.specs.Systems.{is_system}
use Rattle.line.specs.Timing.{timing_word, timing_words}
use Rattle.line.specs.Fixed.{table, fixed_of, places_of, size_of, fills_all, block_refused}
use Rattle.line.specs.Settings.{settings_faults}
use Rattle.line.specs.Header.{number_words, settings_bytes, settings_words, summed_words, header_words}
use Rattle.line.specs.Layout.{area_length, end_words, framed, area_of, end_of}
use Rattle.line.specs.Check.{legal, number_of, settings_of, timed, formed, crc_stands, numbered, head_faults, area_faults, payload_faults, faults, fits_length, line_fault, checked_of}
use Rattle.line.proofs.Examples.{Case, case, hold, set, plain, fixed, guarded, marked, line, put}

-- with those two words last
ending : ℕ → ℕ → List ℕ → List ℕ
ending a b l = take (length l - 2) l ++ (a ∷ b ∷ [])

pub area_answers : List Case
area_answers =
    -- none: each system and mode; a fixed block, also one that fills all P words; 309h in a variable line; with flag 01h and the CRC of 1,438 words of
    -- filler, which an independent program computed
    case (line_fault 0 8 (line 0 1 plain)) 0 ∷ case (line_fault 1 9 (line 1 625 plain)) 0
    ∷ case (line_fault 2 9 (line 2 525 (set 2 1 0x09 0 0))) 0 ∷ case (line_fault 3 8 (line 3 625 (set 2 0 0xc1 0 0))) 0
    ∷ case (line_fault 0 9 (line 0 525 fixed)) 0 ∷ case (line_fault 0 8 (line 0 1 (set 1 0 0x37 0 0))) 0
    ∷ case (line_fault 0 8 (put 276 0x309 (line 0 1 plain))) 0
    ∷ case (line_fault 0 8 (ending 0x1c0 0x21a (line 0 20 guarded))) 0
    -- a reserved byte that is not 0, in a fixed line; in a variable one: `marks_back`
    ∷ case (line_fault 3 9 (line 3 1 (set 2 0 0x21 0 0xff))) 0
    -- 100h in 8-bit mode: in a variable line, and in the rest of a fixed one
    ∷ case (line_fault 0 8 (put 276 0x100 (line 0 1 plain))) 0 ∷ case (line_fault 0 8 (put 1715 0x100 (line 0 1 fixed))) 0
    -- 15: area word; 400h and above; 309h and 30Ah in variable lines only; a CRC word
    ∷ case (line_fault 0 8 (put 276 0x000 (line 0 1 plain))) 15 ∷ case (line_fault 0 8 (put 1715 0x600 (line 0 1 plain))) 15
    ∷ case (line_fault 0 8 (put 276 0x103 (line 0 1 plain))) 15 ∷ case (line_fault 0 8 (put 276 0x500 (line 0 1 plain))) 15
    ∷ case (line_fault 0 8 (put 276 0x30a (line 0 1 fixed))) 15
    ∷ case (line_fault 0 8 (put 1715 0x309 (line 0 1 guarded))) 15
    -- 16
    ∷ case (line_fault 0 8 (line 0 1 guarded)) 16 ∷ []

pub they_hold : T (hold area_answers)
unfolding hold area_answers set plain fixed guarded line ending put pick is_mode is_system is_byte is_data byte_word data_word checksum crc_words timing_word timing_words mathlib.Core.Bool.xor table fixed_of places_of size_of fills_all block_refused settings_faults number_words settings_bytes settings_words summed_words header_words area_length end_words framed area_of end_of legal number_of settings_of timed formed crc_stands numbered head_faults area_faults payload_faults faults fits_length line_fault
they_hold = tt

-- five reserved bytes, none of them 0 and no two alike: they are read back with all that stands in the header
pub marks_back : checked_of 0 8 (line 0 1 marked) ≡ record { fault = 0; number = 1; settings = marked }
unfolding set plain marked line pick is_mode is_system is_byte is_data byte_word data_word checksum crc_words timing_word timing_words mathlib.Core.Bool.xor table fixed_of places_of size_of fills_all block_refused settings_faults number_words settings_bytes settings_words summed_words header_words area_length end_words framed area_of end_of legal number_of settings_of timed formed crc_stands numbered head_faults area_faults payload_faults faults fits_length line_fault checked_of
marks_back = refl
