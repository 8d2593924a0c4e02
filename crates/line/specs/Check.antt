-- The line check: answers 1, 3 to 13, 15 and 16, and what is read of a line without fault.
-- Assumes nothing.
use Rattle.std.specs.Prelude.{ℕ, zero, suc, ◌+◌, ◌*◌, ◌/◌, ◌%◌, Bool, true, false, ◌&&◌, ◌||◌, not, List, [], ◌∷◌, ◌++◌, map, eqb, leb, length, get_or}
use Rattle.lists.specs.Tests.{pick, Refusal, when, lowest_of}
use Rattle.lists.specs.Lists.{part, same, each}
use Rattle.words.specs.Forms.{bit, is_byte, is_data}
use Rattle.words.specs.Modes.{is_mode}
use Rattle.words.specs.Class.{separator, end_code, null_word}
use Rattle.words.specs.Checksum.{checksum}
use Rattle.words.specs.Crc.{crc_words}
use Rattle.line.specs.declared.systems.System.{System}
use Rattle.line.specs.declared.settings.Settings.{Settings}
use Rattle.line.specs.declared.check.Checked.{Checked}
use Rattle.line.specs.Systems.{system_of, is_system}
use Rattle.line.specs.Timing.{timing_words}
use Rattle.line.specs.Fixed.{is_variable}
use Rattle.line.specs.Settings.{no_settings, settings_faults}
use Rattle.line.specs.Header.{flag_words, id_words}
use Rattle.line.specs.Layout.{sav_at, area_of, end_of, end_words}

-- ---- what stands in the header
-- the low byte of a word
abbrev pub low : ℕ → ℕ
low w = w % 256

-- L7-L0 in the first word, L8 and L9 in B0 and B1 of the second
unfoldable pub number_of : List ℕ → ℕ
number_of line = low (get_or line 10 0) + get_or line 11 0 % 4 * 256

-- the settings, kept as byte values
unfoldable pub settings_of : List ℕ → Settings
settings_of line =
    record {
      code = low (get_or line 14 0) % 16;
      aai = low (get_or line 14 0) / 16;
      destination = map low (part 15 16 line);
      source = map low (part 31 16 line);
      block = low (get_or line 47 0);
      flag = low (get_or line 48 0);
      reserved = map low (part 49 5 line);
    }

-- ---- 3 to 9
-- EAV at 0-3 and SAV before the payload; F and V agree in both
unfoldable pub timed : ℕ → List ℕ → Bool
timed sav line =
    let f = eqb (bit 8 (get_or line 3 0)) 1 in
    let v = eqb (bit 7 (get_or line 3 0)) 1 in
    same (part 0 4 line) (timing_words f v true) && same (part sav 4 line) (timing_words f v false)

-- the 47 words after the first six: the CRC words and the checksum in data form, all others in byte form
unfoldable pub formed : List ℕ → Bool
formed line = each is_byte (part 10 2 line) && (each is_data (part 12 2 line) && (each is_byte (part 14 40 line) && each is_data (part 54 3 line)))

-- the two words behind the n words from a on are the CRC of these
unfoldable pub crc_stands : ℕ → ℕ → List ℕ → Bool
crc_stands a n line = same (part (a + n) 2 line) (crc_words (part a n line))

-- the line number is 1..N, and B7-B2 of its second word are 0
unfoldable pub numbered : ℕ → List ℕ → Bool
numbered lines line = leb 1 (number_of line) && (leb (number_of line) lines && eqb (low (get_or line 11 0) / 4) 0)

-- 3 EAV or SAV; 4 first six header words; 5 header word not in its form; 6 checksum; 7 line CRC; 8 header CRC; 9 line number
unfoldable pub head_faults : System → List ℕ → List Refusal
head_faults s line =
    when 3 (not (timed (sav_at s) line))
    ∷ when 4 (not (same (part 4 6 line) (flag_words ++ id_words)))
    ∷ when 5 (not (formed line))
    ∷ when 6 (not (same (part 56 1 line) (checksum (part 7 49 line) ∷ [])))
    ∷ when 7 (not (crc_stands 7 5 line))
    ∷ when 8 (not (crc_stands 14 40 line))
    ∷ when 9 (not (numbered s.lines line))
    ∷ []

-- ---- 15 and 16
-- data form (8-bit: byte form, or 100h); 309h and 30Ah in variable lines only
unfoldable pub legal : ℕ → Bool → ℕ → Bool
legal mode variable w = pick (eqb mode 8) (is_byte w || eqb w null_word) (is_data w) || (variable && (eqb w separator || eqb w end_code))

-- 15 area word not legal, or CRC word not data form; 16 payload CRC
unfoldable pub area_faults : ℕ → Bool → ℕ → List ℕ → List ℕ → List Refusal
area_faults mode variable flag area end =
    when 15 (not (each (legal mode variable) area && each is_data end)) ∷ when 16 (not (same end (end_words flag area))) ∷ []

unfoldable pub payload_faults : System → ℕ → ℕ → ℕ → List ℕ → List Refusal
payload_faults s mode block flag line = area_faults mode (is_variable block) flag (area_of s flag line) (end_of s flag line)

-- ---- the lowest number whose condition holds
-- 3 to 9, 10 to 13, 15 and 16: of any system, by its L, P, N and code
unfoldable pub faults : System → ℕ → List ℕ → List Refusal
faults row mode line =
    let t = settings_of line in
    head_faults row line ++ (settings_faults row t ++ payload_faults row mode t.block t.flag line)

-- 1: unknown system or mode; line not L long
unfoldable pub fits_length : ℕ → ℕ → ℕ → Bool
fits_length system mode n = is_system system && (is_mode mode && eqb n (system_of system).length)

abbrev pub fits : ℕ → ℕ → List ℕ → Bool
fits system mode line = fits_length system mode (length line)

-- 1, then 3 to 16, among which 14 has no condition
abbrev pub line_faults : ℕ → ℕ → List ℕ → List Refusal
line_faults system mode line = when 1 (not (fits system mode line)) ∷ faults (system_of system) mode line

unfoldable pub line_fault : ℕ → ℕ → List ℕ → ℕ
line_fault system mode line = lowest_of (line_faults system mode line)

-- ---- what the check answers: the fault, or 0 with the number and the settings that stand there
abbrev pub faulty_with : ℕ → Checked
faulty_with n = record { fault = n; number = 0; settings = no_settings }

abbrev pub checked_from : ℕ → List ℕ → Checked
checked_from zero line = record { fault = 0; number = number_of line; settings = settings_of line }
checked_from (suc n) line = faulty_with (suc n)

unfoldable pub checked_of : ℕ → ℕ → List ℕ → Checked
checked_of system mode line = checked_from (line_fault system mode line) line
