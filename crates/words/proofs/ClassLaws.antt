-- Laws of the classes: what each class says of a word, and what the word of a value is.
-- Assumes nothing.
use mathlib.Core.Path.{◌≡◌, refl, sym, ap, ◌∙◌, subst}
use mathlib.Core.Bool.{Bool, true, false, ◌||◌}
use Prim.Native.Nat.{ℕ}
use lib.Dec.{T, eqb}
use borrow.Author.Tests.{eqb-true}
use Rattle.lists.specs.Tests.{pick}
use Rattle.words.specs.Forms.{is_byte, is_data}
use Rattle.words.specs.Class.{class_of, class_number, class_number_of, separator, end_code, null_word, is_code, is_null}
use Rattle.words.proofs.FormLaws.{byte_data}
use Rattle.words.specs.declared.class.Class.{Class}
use Rattle.words.specs.declared.class.Class.TheVariants.{Byte, Other, Separator, Ending, Illegal, Null}

-- no two classes have one number
named : ℕ → Class
unfolding pick
named n = pick (eqb n 1) Byte (pick (eqb n 2) Other (pick (eqb n 3) Separator (pick (eqb n 4) Ending (pick (eqb n 5) Illegal Null))))

named_back : (k : Class) → named (class_number k) ≡ k
unfolding named
named_back Byte = refl
named_back Other = refl
named_back Separator = refl
named_back Ending = refl
named_back Illegal = refl
named_back Null = refl

pub class_injective : (a b : Class) → class_number a ≡ class_number b → a ≡ b
class_injective a b e = sym (named_back a) ∙ ap named e ∙ named_back b

-- ---- the number of a word's class
pub number_by : (b z d s e : Bool)
    → class_number (pick b Byte (pick z Null (pick d Other (pick s Separator (pick e Ending Illegal))))) ≡ pick b 1 (pick z 6 (pick d 2 (pick s 3 (pick e 4 5))))
unfolding pick
number_by true z d s e = refl
number_by false true d s e = refl
number_by false false true s e = refl
number_by false false false true e = refl
number_by false false false false true = refl
number_by false false false false false = refl

pub class_numbers : (w : ℕ) → class_number (class_of w) ≡ class_number_of w
unfolding class_of class_number_of
class_numbers w = number_by (is_byte w) (eqb w 0x100) (is_data w) (eqb w 0x309) (eqb w 0x30a)

-- a class that is the word's has its number
pub class_numbered : (w : ℕ) (k : Class) → k ≡ class_of w → (k ≡ class_of w) × (class_number k ≡ class_number_of w)
class_numbered w k e = (e, ap class_number e ∙ class_numbers w)

-- ---- the class by the tests, in their order
module _ (w : ℕ) where
  pub class_byte : is_byte w ≡ true → class_of w ≡ Byte
  unfolding class_of pick
  class_byte b = simp b

  pub class_illegal : is_byte w ≡ false → eqb w null_word ≡ false → is_data w ≡ false → eqb w separator ≡ false → eqb w end_code ≡ false → class_of w ≡ Illegal
  unfolding class_of pick
  class_illegal b z d s e = simp (b, z, d, s, e)

-- ---- 309h and 30Ah by the class: what is in byte form is in data form, and a code is not
never : {A : Type 0} → true ≡ false → A
never e = absurd (subst T e tt)

code_by : (b z d s e : Bool) → (b ≡ true → d ≡ true) → (z ≡ true → d ≡ true) → (s ≡ true → d ≡ false) → (e ≡ true → d ≡ false)
    → (s || e) ≡ is_code (pick b Byte (pick z Null (pick d Other (pick s Separator (pick e Ending Illegal)))))
unfolding pick
code_by true z false s e p n q r = never (sym (p refl))
code_by false true false s e p n q r = never (sym (n refl))
code_by b z true true e p n q r = never (q refl)
code_by b z true false true p n q r = never (r refl)
code_by true z true false false p n q r = refl
code_by false true true false false p n q r = refl
code_by false false true false false p n q r = refl
code_by false false false true e p n q r = refl
code_by false false false false true p n q r = refl
code_by false false false false false p n q r = refl

pub code_not_data : (w code : ℕ) → is_data code ≡ false → eqb w code ≡ true → is_data w ≡ false
code_not_data w code n e = ap is_data (eqb-true w code e) ∙ n

pub code_class : (w : ℕ) → (eqb w separator || eqb w end_code) ≡ is_code (class_of w)
unfolding class_of is_data
code_class w =
    code_by (is_byte w) (eqb w null_word) (is_data w) (eqb w separator) (eqb w end_code) (byte_data w) (λ e. ap is_data (eqb-true w null_word e))
    (code_not_data w separator refl) (code_not_data w end_code refl)

-- ---- 100h by the class: it is not in byte form
null_by : (b z d s e : Bool) → (z ≡ true → b ≡ false) → z ≡ is_null (pick b Byte (pick z Null (pick d Other (pick s Separator (pick e Ending Illegal)))))
unfolding pick
null_by true true d s e p = never (p refl)
null_by true false d s e p = refl
null_by false true d s e p = refl
null_by false false true s e p = refl
null_by false false false true e p = refl
null_by false false false false true p = refl
null_by false false false false false p = refl

pub null_class : (w : ℕ) → eqb w null_word ≡ is_null (class_of w)
unfolding class_of is_byte
null_class w = null_by (is_byte w) (eqb w null_word) (is_data w) (eqb w separator) (eqb w end_code) (λ e. ap is_byte (eqb-true w null_word e))
