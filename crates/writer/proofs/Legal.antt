-- Every word that an accepted addition lays is legal in its line.
-- Assumes nothing.
use mathlib.Core.Path.{◌≡◌, refl, sym, ap, ap₂, ◌∙◌}
use mathlib.Core.Bool.{Bool, true, false, ◌&&◌, ◌||◌}
use mathlib.Core.List.{List, [], ◌∷◌, map}
use Prim.Native.Nat.{ℕ, zero, suc, ◌/◌, ◌%◌, ◌<◌}
use native.Mathlib.Omega.{arith}
use lib.Dec.{eqb, ltb}
use lib.ListN.{length, replicate}
use borrow.Author.Tests.{ltb-true}
use Rattle.lists.specs.Tests.{pick}
use Rattle.lists.specs.Lists.{each}
use Rattle.lists.proofs.Tests.{or_left, or_right, pick_elim}
use Rattle.lists.proofs.Lists.{each_append, each_map}
use Rattle.words.specs.Forms.{is_byte, is_data, byte_word, data_word}
use Rattle.words.specs.Modes.{values, word_of}
use Rattle.words.specs.Class.{class_of, separator, end_code, null_word, is_null}
use Rattle.words.proofs.ClassLaws.{class_byte}
use Rattle.words.proofs.FormLaws.{byte_in, data_in, byte_data, byte_of_low}
use Rattle.line.specs.Fixed.{is_variable}
use Rattle.line.specs.Check.{legal}
use Rattle.writer.specs.Block.{count_words, block_words, fixed_words, words_in}
use Rattle.writer.specs.Adding.{valued}

-- ---- parts of a list of which each passes a test
pub each_filler : (f : ℕ → Bool) (n x : ℕ) → f x ≡ true → each f (replicate n x) ≡ true
each_filler f zero x e = refl
each_filler f (suc n) x e = ap₂ ◌&&◌ e (each_filler f n x e)

-- ---- words of each kind
pub byte_any : (v : ℕ) → is_byte (byte_word v) ≡ true
byte_any v = ap is_byte (sym (byte_of_low v)) ∙ byte_in (v % 256) (omega arith)

pub byte_legal : (mode : ℕ) (variable : Bool) (v : ℕ) → legal mode variable (byte_word v) ≡ true
unfolding legal
byte_legal mode variable v = or_left _ _ (pick_elim (λ (b : Bool). b ≡ true) (eqb mode 8) (λ e. or_left _ _ (byte_any v)) (λ e. byte_data (byte_word v) (byte_any v)))

value_by : (m : Bool) (v : ℕ) → v < pick m 256 512
    → pick m (is_byte (pick m (byte_word v) (data_word v)) || eqb (pick m (byte_word v) (data_word v)) null_word) (is_data (pick m (byte_word v) (data_word v))) ≡ true
unfolding pick
value_by true v h = or_left _ _ (byte_in v h)
value_by false v h = data_in v h

pub value_legal : (mode : ℕ) (variable : Bool) (v : ℕ) → ltb v (values mode) ≡ true → legal mode variable (word_of mode v) ≡ true
unfolding legal values word_of
value_legal mode variable v e = or_left _ _ (value_by (eqb mode 8) v (ltb-true v _ e))

-- a byte is not 100h, and in 8-bit mode no value is
pub byte_some : (v : ℕ) → is_null (class_of (byte_word v)) ≡ false
byte_some v = ap is_null (class_byte (byte_word v) (byte_any v))

some_by : (m : Bool) (v : ℕ) → (m && is_null (class_of (pick m (byte_word v) (data_word v)))) ≡ false
unfolding pick
some_by true v = byte_some v
some_by false v = refl

pub value_some : (mode v : ℕ) → (eqb mode 8 && is_null (class_of (word_of mode v))) ≡ false
unfolding word_of
value_some mode v = some_by (eqb mode 8) v

pub filler_legal : (mode : ℕ) (variable : Bool) → legal mode variable 0x200 ≡ true
unfolding legal is_byte is_data
filler_legal mode variable = or_left _ _ (pick_elim (λ (b : Bool). b ≡ true) (eqb mode 8) (λ e. refl) (λ e. refl))

separator_legal : (mode : ℕ) → legal mode true separator ≡ true
unfolding legal
separator_legal mode = or_right (pick (eqb mode 8) (is_byte separator || eqb separator null_word) (is_data separator)) true refl

end_legal : (mode : ℕ) → legal mode true end_code ≡ true
unfolding legal
end_legal mode = or_right (pick (eqb mode 8) (is_byte end_code || eqb end_code null_word) (is_data end_code)) true refl

-- ---- a block's words
values_legal : (mode : ℕ) (variable : Bool) (vs : List ℕ) → valued mode vs ≡ true → each (legal mode variable) (map (word_of mode) vs) ≡ true
unfolding valued
values_legal mode variable vs e = each_map (word_of mode) (legal mode variable) (λ v. ltb v (values mode)) (value_legal mode variable) vs e

words_by : (mode kind : ℕ) (vs : List ℕ) (variable : Bool) → valued mode vs ≡ true → each (legal mode variable) (pick variable (block_words mode kind vs) (fixed_words mode kind vs)) ≡ true
unfolding pick block_words fixed_words count_words
words_by mode kind vs true e =
    let n = length vs in
    let byte = byte_legal mode true in
    ap₂ ◌&&◌ (separator_legal mode)
    (ap₂ ◌&&◌ (byte kind)
    (ap₂ ◌&&◌ (byte (n % 256))
    (ap₂ ◌&&◌ (byte (n / 256 % 256))
    (ap₂ ◌&&◌ (byte (n / 65536 % 256))
    (ap₂ ◌&&◌ (byte (n / 16777216 % 256))
    (each_append (legal mode true) (map (word_of mode) vs) (end_code ∷ []) (values_legal mode true vs e) (ap₂ ◌&&◌ (end_legal mode) refl)))))))
words_by mode kind vs false e = ap₂ ◌&&◌ (byte_legal mode false kind) (values_legal mode false vs e)

pub words_legal : (block mode kind : ℕ) (vs : List ℕ) → valued mode vs ≡ true → each (legal mode (is_variable block)) (words_in block mode kind vs) ≡ true
unfolding words_in
words_legal block mode kind vs e = words_by mode kind vs (is_variable block) e
