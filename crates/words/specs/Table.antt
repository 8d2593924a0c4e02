-- The classes as a table: entry w says what the word w of the payload is.
-- Assumes nothing.
use Rattle.std.specs.Prelude.{ℕ, zero, suc, List, [], ◌∷◌, eqb, ltb, get_or}
use Rattle.lists.specs.Tests.{pick}
use Rattle.words.specs.Class.{class_of}
use Rattle.words.specs.declared.class.Class.{Class}
use Rattle.words.specs.declared.class.Class.TheVariants.{Byte, Other, Separator, Ending, Illegal, Null}

-- one bit for each class
abbrev pub class_bit : Class → ℕ
class_bit Byte = 1
class_bit Other = 2
class_bit Separator = 4
class_bit Ending = 8
class_bit Illegal = 16
class_bit Null = 32

-- what a rule makes of the n numbers from i on
abbrev pub tabulate : ℕ → ℕ → (ℕ → ℕ) → List ℕ
tabulate i zero f = []
tabulate i (suc n) f = f i ∷ tabulate (suc i) n f

-- the table's rule: its entry for each word of ten bits is the bit of the word's class
unfoldable pub class_table : List ℕ
class_table = tabulate 0 1024 (λ w. class_bit (class_of w))

-- the entry of a number in a table; 400h and above is no word of ten bits and has no entry: it is illegal
unfoldable pub bit_in : List ℕ → ℕ → ℕ
bit_in t w = pick (ltb w 1024) (get_or t w 0) 16

-- the class of a bit, and of a number in a table
unfoldable pub class_of_bit : ℕ → Class
class_of_bit b = pick (eqb b 1) Byte (pick (eqb b 32) Null (pick (eqb b 2) Other (pick (eqb b 4) Separator (pick (eqb b 8) Ending Illegal))))

unfoldable pub class_in : List ℕ → ℕ → Class
class_in t w = class_of_bit (bit_in t w)

-- the number of that class, by the entry alone
unfoldable pub class_number_in : List ℕ → ℕ → ℕ
class_number_in t w = let b = bit_in t w in pick (eqb b 1) 1 (pick (eqb b 32) 6 (pick (eqb b 2) 2 (pick (eqb b 4) 3 (pick (eqb b 8) 4 5))))
