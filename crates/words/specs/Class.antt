-- What a word of the payload is.
-- Assumes nothing.
use Rattle.std.specs.Prelude.{ℕ, Bool, true, false, eqb}
use Rattle.lists.specs.Tests.{pick}
use Rattle.words.specs.Forms.{is_byte, is_data}
use Rattle.words.specs.declared.class.Class.{Class}
use Rattle.words.specs.declared.class.Class.TheVariants.{Byte, Other, Separator, Ending, Illegal, Null}

-- the separator 309h, and the end code 30Ah
abbrev pub separator : ℕ
separator = 0x309

abbrev pub end_code : ℕ
end_code = 0x30a

-- the word 100h, which decks of the 2001 edition send as an invalid type: data form, and not byte form
abbrev pub null_word : ℕ
null_word = 0x100

-- byte form; 100h; other data form; separator; end code; illegal: every other word, 400h and above too
unfoldable pub class_of : ℕ → Class
unfolding pick
class_of w =
    pick (is_byte w) Byte (pick (eqb w null_word) Null (pick (is_data w) Other (pick (eqb w separator) Separator (pick (eqb w end_code) Ending Illegal))))

-- the classes by number
abbrev pub class_number : Class → ℕ
class_number Byte = 1
class_number Other = 2
class_number Separator = 3
class_number Ending = 4
class_number Illegal = 5
class_number Null = 6

-- the number of a word's class, by the forms, 100h and the two codes alone
unfoldable pub class_number_of : ℕ → ℕ
class_number_of w = pick (is_byte w) 1 (pick (eqb w 0x100) 6 (pick (is_data w) 2 (pick (eqb w 0x309) 3 (pick (eqb w 0x30a) 4 5))))

-- 309h or 30Ah
abbrev pub is_code : Class → Bool
is_code Byte = false
is_code Other = false
is_code Separator = true
is_code Ending = true
is_code Illegal = false
is_code Null = false

-- 100h
abbrev pub is_null : Class → Bool
is_null Byte = false
is_null Other = false
is_null Separator = false
is_null Ending = false
is_null Illegal = false
is_null Null = true
