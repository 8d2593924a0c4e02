-- Where things stand in a line, and a whole line from F, V, number, settings, the words laid in its gap and area.
-- Assumes nothing.
use Rattle.std.specs.Prelude.{ℕ, zero, suc, ◌+◌, ◌-◌, ◌%◌, Bool, true, false, List, [], ◌∷◌, ◌++◌, eqb, length, drop}
use Rattle.lists.specs.Tests.{pick}
use Rattle.lists.specs.Lists.{part}
use Rattle.words.specs.Crc.{crc_words}
use Rattle.line.specs.declared.settings.Settings.{Settings}
use Rattle.line.specs.declared.systems.System.{System}
use Rattle.line.specs.Timing.{timing_words}
use Rattle.line.specs.Header.{header_words}

-- EAV at 0-3, header at 4-56, gap, SAV in the four words before the payload, payload in the last P.
abbrev pub gap_at : ℕ
gap_at = 57

abbrev pub sav_at : System → ℕ
sav_at s = s.length - s.payload - 4

abbrev pub payload_at : System → ℕ
payload_at s = s.length - s.payload

-- the writer fills the gap with 200h at even indices of the line and 040h at odd ones
unfoldable pub gap_word : ℕ → ℕ
gap_word i = pick (eqb (i % 2) 0) 0x200 0x040

-- n words from index i on
abbrev pub gap_words : ℕ → ℕ → List ℕ
gap_words i zero = []
gap_words i (suc n) = gap_word i ∷ gap_words (suc i) n

-- the gap with the words laid in it from its first word on, and the filler behind them
abbrev pub gap_after : System → List ℕ → List ℕ
gap_after s laid = laid ++ gap_words (gap_at + length laid) (sav_at s - gap_at - length laid)

-- Flag 00h: the area is all P words. Flag 01h: the area is the first P-2, and the last two are their CRC.
unfoldable pub area_length : ℕ → ℕ → ℕ
area_length p flag = pick (eqb flag 1) (p - 2) p

unfoldable pub end_words : ℕ → List ℕ → List ℕ
end_words flag area = pick (eqb flag 1) (crc_words area) []

-- a line with the words laid in its gap, and that payload
unfoldable pub framed : System → Bool → Bool → ℕ → Settings → List ℕ → List ℕ → List ℕ
framed s f v number settings laid payload =
    timing_words f v true ++ (header_words number settings ++ (gap_after s laid ++ (timing_words f v false ++ payload)))

-- the whole line
unfoldable pub line_words : System → Bool → Bool → ℕ → Settings → List ℕ → List ℕ → List ℕ
unfolding framed
line_words s f v number settings laid area = framed s f v number settings laid (area ++ end_words settings.flag area)

-- the area of a line, and what stands behind it
unfoldable pub area_of : System → ℕ → List ℕ → List ℕ
area_of s flag line = part (payload_at s) (area_length s.payload flag) line

unfoldable pub end_of : System → ℕ → List ℕ → List ℕ
end_of s flag line = drop (payload_at s + area_length s.payload flag) line
