-- The P cases of document 01, as one checked list: what the definitions compute, beside what 01 prints, with one claim over all of it.
-- Assumes nothing.
use Rattle.std.specs.Prelude.{Some}
use Prim.Native.Nat.{ℕ}
use mathlib.Core.Bool.{true, false, xor}
use mathlib.Core.List.{List, [], ◌∷◌, map}
use mathlib.Core.Path.{◌≡◌, refl}
use lib.IntN.{ℤ, pos, negsuc}
use lib.ListN.{take, drop, replicate}
use Rattle.lists.specs.Lists.{part}
use Rattle.words.specs.Forms.{byte_word}
use Rattle.words.specs.Modes.{word_of}
use Rattle.words.specs.Crc.{crc_words}
use Rattle.line.specs.declared.settings.Settings.{Settings}
use Rattle.line.specs.Systems.{system_of}
use Rattle.line.specs.Timing.{timing_word, timing_words}
use Rattle.line.specs.Header.{id_words, number_words, settings_bytes, settings_words, summed_words, header_words}
use Rattle.course.specs.Course.{next_number}
use Rattle.writer.specs.Block.{block_words}
use Rattle.reader.specs.Jump.{folded, jump_from, jump_numbers}

-- what the definitions compute, and what 01 prints: numbers with a sign, because a jump may be behind
pub record Case : Type 0 where
  pub computed : List ℤ
  pub printed : List ℤ

-- words are not negative
words : List ℕ → List ℕ → Case
words c p = record { computed = map pos c; printed = map pos p }

-- the jump of line n after line x, at 525 lines
jump : ℕ → ℕ → ℤ → Case
jump n x p = record { computed = jump_numbers (jump_from (system_of 0).lines (Some x) n); printed = p ∷ [] }

-- settings of that AAI and code
with_code : ℕ → ℕ → Settings
with_code aai code =
    record { code = code; aai = aai; destination = replicate 16 0; source = replicate 16 0; block = 0xC1; flag = 0; reserved = replicate 5 0 }

-- a word of the header of line 1 with such settings
header_word : ℕ → List ℕ
header_word i = part i 1 (header_words 1 (with_code 1 2))

pub cases : List Case
cases =
    -- "DID 40h is 140h": 40h in byte form, the first word that the line CRC covers, and the header's fourth word
    words (byte_word 0x40 ∷ take 1 id_words) (0x140 ∷ 0x140 ∷ [])
    ∷ words (header_word 3) (0x140 ∷ [])
    -- "line 1 is 101h 200h"
    ∷ words (number_words 1) (0x101 ∷ 0x200 ∷ [])
    -- "525 is 10Dh 102h"
    ∷ words (number_words 525) (0x10D ∷ 0x102 ∷ [])
    -- "625 is 271h 102h"
    ∷ words (number_words 625) (0x271 ∷ 0x102 ∷ [])
    -- "AAI 1 with code 2 is 212h": the first of the settings' words
    ∷ words (take 1 (settings_words (with_code 1 2))) (0x212 ∷ [])
    -- "C1h is 1C1h": C1h in byte form, and the header's word for a block type of C1h
    ∷ words (byte_word 0xC1 ∷ []) (0x1C1 ∷ [])
    ∷ words (header_word 43) (0x1C1 ∷ [])
    -- "9-bit 100h is 100h, 0FFh is 2FFh"
    ∷ words (word_of 9 0x100 ∷ word_of 9 0x0FF ∷ []) (0x100 ∷ 0x2FF ∷ [])
    -- "EAV with F=V=0 ends 274h, SAV 200h"
    ∷ words (drop 3 (timing_words false false true)) (0x274 ∷ [])
    ∷ words (drop 3 (timing_words false false false)) (0x200 ∷ [])
    -- "EAV with F=V=1 ends 3C4h"
    ∷ words (drop 3 (timing_words true true true)) (0x3C4 ∷ [])
    -- "type 01h, 8-bit data 00h FFh 01h is 309 101 203 200 200 200 200 2FF 101 30A"
    ∷ words (block_words 8 0x01 (0x00 ∷ 0xFF ∷ 0x01 ∷ [])) (0x309 ∷ 0x101 ∷ 0x203 ∷ 0x200 ∷ 0x200 ∷ 0x200 ∷ 0x200 ∷ 0x2FF ∷ 0x101 ∷ 0x30A ∷ [])
    -- "jump 1 after 525 is 0; 525 after 525 is -1"
    ∷ jump 1 525 (pos 0)
    ∷ jump 525 525 (negsuc 0)
    ∷ []

-- each is printed as it is computed
pub printed_is : map (λ (c : Case). c.computed) cases ≡ map (λ (c : Case). c.printed) cases
unfolding cases words jump with_code header_word byte_word word_of timing_word timing_words xor number_words settings_bytes settings_words crc_words summed_words header_words block_words next_number folded
printed_is = refl
