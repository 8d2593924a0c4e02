-- The answers 1 and 3 to 13 of the line check are reached on whole lines of the four systems, in one checked list with one claim. Those for which
-- the whole area is looked at, none, 15 and 16, are computed in demands/proofs/AreaAnswers, where nothing else has to wait for them. The
-- reader's answer 2 and the writer's answers are not the line check's. 01's slips are listed in reader/proofs/Slips.
-- Assumes nothing.
use mathlib.Core.Bool.{Bool, true, false, ◌&&◌}
use mathlib.Core.List.{List, [], ◌∷◌, ◌++◌}
use Prim.Native.Nat.{ℕ, suc}
use lib.Dec.{T, eqb}
use lib.ListN.{take, drop, replicate}
use Rattle.lists.specs.Tests.{pick}
use Rattle.lists.specs.Lists.{part}
use Rattle.words.specs.Forms.{byte_word, data_word, is_byte, is_data}
use Rattle.words.specs.Modes.{is_mode}
use Rattle.words.specs.Checksum.{checksum}
use Rattle.words.specs.Crc.{crc_words}
use Rattle.line.specs.declared.settings.Settings.{Settings}
use Rattle.line.specs.Systems.{system_of, is_system}
use Rattle.line.specs.Timing.{timing_word, timing_words}
use Rattle.line.specs.Fixed.{table, fixed_of, places_of, size_of, fills_all, block_refused}
use Rattle.line.specs.Settings.{settings_faults}
use Rattle.line.specs.Header.{number_words, settings_bytes, settings_words, summed_words, header_words}
use Rattle.line.specs.Layout.{area_length, end_words, framed, area_of, end_of}
use Rattle.line.specs.Check.{legal, number_of, settings_of, timed, formed, crc_stands, numbered, head_faults, area_faults, payload_faults, faults, fits_length, line_fault}
use Rattle.line.proofs.SettingsLaws.{with_five}

-- settings: code, AAI, block type, flag and the last reserved byte
unfoldable pub set : ℕ → ℕ → ℕ → ℕ → ℕ → Settings
set c a k f r =
    record {
      code = c;
      aai = a;
      destination = replicate 16 7;
      source = replicate 16 9;
      block = k;
      flag = f;
      reserved = 0 ∷ 0 ∷ 0 ∷ 0 ∷ r ∷ [];
    }

unfoldable pub plain : Settings
plain = set 1 0 0xc1 0 0

unfoldable pub fixed : Settings
fixed = set 1 0 0x21 0 0

unfoldable pub guarded : Settings
guarded = set 1 0 0xc1 1 0

-- with five reserved bytes that are not 0
unfoldable pub marked : Settings
unfolding plain set
marked = with_five plain (0x01 ∷ 0x02 ∷ 0x03 ∷ 0x04 ∷ 0xff ∷ [])

-- a line of that number and those settings, its payload all filler
unfoldable pub line : ℕ → ℕ → Settings → List ℕ
line system n s = framed (system_of system) false true n s [] (replicate (system_of system).payload 0x200)

-- the word at index i changed to w
unfoldable pub put : ℕ → ℕ → List ℕ → List ℕ
put i w l = take i l ++ (w ∷ drop (suc i) l)

-- the checksum made right again; and the second number word changed, with all that covers it made right again
resum : List ℕ → List ℕ
resum l = put 56 (checksum (part 7 49 l)) l

renumber : ℕ → List ℕ → List ℕ
renumber w l = let m = put 11 w l in resum (take 12 m ++ (crc_words (part 7 5 m) ++ drop 14 m))

-- what the definitions give, and what 01 has
pub record Case : Type 0 where
  pub given : ℕ
  pub wanted : ℕ

abbrev pub case : ℕ → ℕ → Case
case g w = record { given = g; wanted = w }

unfoldable pub hold : List Case → Bool
hold [] = true
hold (c ∷ cs) = eqb c.given c.wanted && hold cs

pub answers : List Case
answers =
    -- 1: unknown system or mode; line not L long
    case (line_fault 4 8 (line 0 1 plain)) 1 ∷ case (line_fault 0 10 (line 0 1 plain)) 1 ∷ case (line_fault 1 8 (line 0 1 plain)) 1 ∷ case (line_fault 0 8 []) 1
    -- 3: EAV; SAV; F and V not those of EAV
    ∷ case (line_fault 0 8 (put 0 0x3fe (line 0 1 plain))) 3 ∷ case (line_fault 0 8 (put 274 0x001 (line 0 1 plain))) 3
    ∷ case (line_fault 0 8 (put 3 0x274 (line 0 1 plain))) 3
    -- 4, 5, 6, 7, 8
    ∷ case (line_fault 0 8 (put 5 0x3fe (line 0 1 plain))) 4
    ∷ case (line_fault 0 8 (put 20 0x207 (line 0 1 plain))) 5 ∷ case (line_fault 0 8 (put 56 0x000 (line 0 1 plain))) 5
    ∷ case (line_fault 0 8 (put 56 0x2ff (line 0 1 plain))) 6
    ∷ case (line_fault 0 8 (resum (put 12 0x2ff (line 0 1 plain)))) 7
    ∷ case (line_fault 0 8 (resum (put 55 0x2ff (line 0 1 plain)))) 8
    -- the same of the five reserved words: 5 out of byte form; else 6, and 8 where the checksum is right
    ∷ case (line_fault 0 8 (put 49 0x100 (line 0 1 marked))) 5 ∷ case (line_fault 0 8 (put 53 0x1ff (line 0 1 marked))) 5
    ∷ case (line_fault 0 8 (put 51 (byte_word 0xff) (line 0 1 marked))) 6
    ∷ case (line_fault 0 8 (resum (put 51 (byte_word 0xff) (line 0 1 marked)))) 8
    -- 9: not 1..N; B7-B2 of the second word not 0
    ∷ case (line_fault 0 8 (line 0 0 plain)) 9 ∷ case (line_fault 0 8 (line 0 526 plain)) 9 ∷ case (line_fault 1 8 (line 1 626 plain)) 9
    ∷ case (line_fault 0 8 (renumber (byte_word 4) (line 0 1 plain))) 9
    -- 10, 11
    ∷ case (line_fault 0 8 (line 0 1 (set 2 0 0xc1 0 0))) 10 ∷ case (line_fault 2 8 (line 2 1 plain)) 10
    ∷ case (line_fault 0 8 (line 0 1 (set 1 2 0xc1 0 0))) 11
    -- 12: not listed; none at this rate; refused with flag 01h; each with B6 too
    ∷ case (line_fault 0 8 (line 0 1 (set 1 0 0x05 0 0))) 12 ∷ case (line_fault 0 8 (line 0 1 (set 1 0 0x81 0 0))) 12
    ∷ case (line_fault 0 8 (line 0 1 (set 1 0 0x09 0 0))) 12 ∷ case (line_fault 1 8 (line 1 1 (set 1 0 0x49 0 0))) 12
    ∷ case (line_fault 0 8 (line 0 1 (set 1 0 0x37 1 0))) 12 ∷ case (line_fault 1 8 (line 1 1 (set 1 0 0x78 1 0))) 12
    ∷ case (line_fault 2 8 (line 2 1 (set 2 0 0x38 1 0))) 12
    ∷ case (line_fault 0 8 (line 0 1 (set 1 0 0x38 2 0))) 13
    -- 13
    ∷ case (line_fault 0 8 (line 0 1 (set 1 0 0xc1 2 0))) 13
    -- 10 to 13 with a reserved byte that is not 0: the same
    ∷ case (line_fault 0 8 (line 0 1 (set 2 0 0xc1 0 0xff))) 10 ∷ case (line_fault 0 8 (line 0 1 (set 1 2 0xc1 0 0xff))) 11
    ∷ case (line_fault 0 8 (line 0 1 (set 1 0 0x81 0 0xff))) 12 ∷ case (line_fault 0 8 (line 0 1 (set 1 0 0xc1 2 0xff))) 13 ∷ []

pub they_hold : T (hold answers)
unfolding hold answers set plain marked line put resum renumber pick is_mode is_system is_byte is_data byte_word data_word checksum crc_words timing_word timing_words mathlib.Core.Bool.xor table fixed_of places_of size_of fills_all block_refused settings_faults number_words settings_bytes settings_words summed_words header_words area_length end_words framed area_of end_of legal number_of settings_of timed formed crc_stands numbered head_faults area_faults payload_faults faults fits_length line_fault
they_hold = tt
