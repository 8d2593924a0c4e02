-- The fixed blocks.
-- Assumes nothing.
use Rattle.std.specs.Prelude.{ℕ, ◌*◌, ◌%◌, Bool, ◌&&◌, ◌||◌, not, List, [], ◌∷◌, eqb, leb}
use Rattle.lists.specs.Tests.{pick}
use Rattle.line.specs.declared.fixed.Fixed.{Fixed}

-- size with the type word, places at 270, places at 360
abbrev pub fixed : ℕ → ℕ → ℕ → Fixed
fixed s a b = record { size = s; at270 = a; at360 = b }

-- a row of the table: B5-B0 of the block type, and what they stand for
pub record Row : Type 0 where
  pub bits : ℕ
  pub means : Fixed

abbrev row : ℕ → ℕ → ℕ → ℕ → Row
row k s a b = record { bits = k; means = fixed s a b }

-- B5-B0, size with the type word, places at 270 and at 360 (0: none)
unfoldable pub table : List Row
table =
    row 0x01 1438 1 1 ∷ row 0x02 719 2 2 ∷ row 0x03 479 3 4 ∷ row 0x04 359 4 5 ∷ row 0x09 1918 0 1 ∷ row 0x0a 959 1 2 ∷ row 0x0b 639 2 3
    ∷ row 0x11 766 1 2 ∷ row 0x12 383 3 5 ∷ row 0x13 255 5 7 ∷ row 0x14 191 7 10
    ∷ row 0x21 5 287 383 ∷ row 0x22 9 159 213 ∷ row 0x23 13 110 147 ∷ row 0x24 17 84 112 ∷ row 0x25 33 43 58 ∷ row 0x26 49 29 39 ∷ row 0x27 65 22 29
    ∷ row 0x28 97 14 19 ∷ row 0x29 129 11 14 ∷ row 0x2a 193 7 9 ∷ row 0x2b 257 5 7 ∷ row 0x2c 385 3 4 ∷ row 0x2d 513 2 3 ∷ row 0x2e 609 2 3
    ∷ row 0x31 62 23 30 ∷ row 0x32 153 9 12 ∷ row 0x33 171 8 11 ∷ row 0x34 177 8 10 ∷ row 0x35 199 7 9 ∷ row 0x36 256 5 7 ∷ row 0x37 144 10 13
    ∷ row 0x38 160 9 12 ∷ []

abbrev pub find : ℕ → List Row → Fixed
find k [] = fixed 0 0 0
find k (r ∷ rs) = pick (eqb k r.bits) r.means (find k rs)

-- what B5-B0 stand for; all 0 where they are not listed. B6 announces ECC and changes nothing else.
unfoldable pub fixed_of : ℕ → Fixed
unfolding table pick
fixed_of block = find (block % 64) table

-- the places of a block type where the payload is P words
unfoldable pub places_of : ℕ → ℕ → ℕ
unfolding fixed_of pick
places_of p block = pick (eqb p 1440) (fixed_of block).at270 (fixed_of block).at360

-- the size of a block, its type word included
unfoldable pub size_of : ℕ → ℕ
unfolding fixed_of
size_of block = (fixed_of block).size

-- its places fill all P words
unfoldable pub fills_all : ℕ → ℕ → Bool
unfolding places_of size_of
fills_all p block = eqb (places_of p block * size_of block) p

-- Block type C1h is the variable one.
abbrev pub is_variable : ℕ → Bool
is_variable block = eqb block 0xc1

-- block type not listed (B7 is 0 in those that are), none at this rate, or refused with flag 01h because it fills all P words
unfoldable pub block_refused : ℕ → ℕ → ℕ → Bool
unfolding places_of fills_all
block_refused p block flag = not (is_variable block) && (leb 128 block || (eqb (places_of p block) 0 || (eqb flag 1 && fills_all p block)))
