-- A line that a fresh writer opens, fills with document 01's worked block and closes: what `written` says holds of some line.
-- Assumes nothing.
use mathlib.Core.Path.{◌≡◌, refl, sym, ap, ap₂, ◌∙◌, subst}
use mathlib.Core.Bool.{Bool, false}
use mathlib.Core.List.{List, [], ◌∷◌, ◌++◌}
use Prim.Native.Nat.{ℕ, ◌+◌, ◌≤◌}
use native.Mathlib.Omega.{arith}
use lib.Dec.{lit<, lit≤}
use lib.ListN.{length, take, drop, replicate, length-append, length-replicate, length-drop}
use lib.Seq.{paste, length_paste_head}
use Rattle.lists.specs.Tests.{pick}
use Rattle.words.specs.Crc.{crc_of}
use Rattle.words.specs.Forms.{byte_word}
use Rattle.words.specs.Modes.{is_mode, values, word_of}
use Rattle.line.specs.declared.settings.Settings.{Settings}
use Rattle.line.specs.Systems.{system_of, is_system}
use Rattle.line.specs.Fixed.{block_refused}
use Rattle.line.specs.Settings.{Held, settings_fault, settings_faults}
use Rattle.line.specs.Layout.{area_length}
use Rattle.line.specs.Check.{fits_length}
use Rattle.course.specs.Course.{blocks_end}
use Rattle.writer.specs.declared.state.Writer.{Writer}
use Rattle.writer.specs.State.{fresh, impossible, open_state}
use Rattle.writer.specs.Block.{count_words, block_words, words_in}
use Rattle.writer.specs.Answers.{Left, Added}
use Rattle.writer.specs.Opening.{open_blocked, open_fault, open_words}
use Rattle.writer.specs.Adding.{valued, ill_shaped, add_fault, todo, fitting, lay, adding}
use Rattle.writer.specs.Closing.{close_fault, closing}
use Rattle.writer.specs.Filling.{piece_of, Filling, filled, adds, Written}
use Rattle.writer.proofs.Keeps.{open_leaves, add_leaves, close_leaves}
use Rattle.writer.proofs.Framing.{front, front_length, framed_front}
use Rattle.writer.proofs.Writing.{Whole, written}
use Rattle.writer.proofs.Pieces.{piece_laid}

-- a line of one block, by the three faults
module _ (w : Writer) (f v : Bool) (n : ℕ) (t : Settings) (lent : List ℕ) (kind : ℕ) (vs : List ℕ) where
  abbrev at : Writer
  at = open_state w n t

  abbrev line : List ℕ
  line = open_words w.system f v n t

  one_block : open_fault w n t (length lent) ≡ 0 → add_fault (open_state w n t) (length (open_words w.system f v n t)) kind vs ≡ 0
      → close_fault (lay (open_state w n t) (open_words w.system f v n t) kind vs).state (length (lay (open_state w n t) (open_words w.system f v n t) kind vs).line) ≡ 0
      → let x = adding (open_state w n t) (open_words w.system f v n t) kind vs in
      Written w f v n t lent (closing x.state x.line).state (closing x.state x.line).line (piece_of (open_state w n t) (open_words w.system f v n t) kind vs ∷ []) []
  one_block a b c =
      let o = open_leaves w f v n t lent a in
      record {
        open_done = ap (λ (x : Left). x.answer) o;
        last = (adding at line kind vs).state;
        full = (adding at line kind vs).line;
        calls = subst (λ (x : Left). Filling x.state x.line (adding at line kind vs).state (adding at line kind vs).line (piece_of at line kind vs ∷ []) []) (sym o) (adds kind vs filled);
        close_done = ap (λ (x : Added). (closing x.state x.line).answer) (add_leaves at line kind vs b)
            ∙ ap (λ (x : Left). x.answer) (close_leaves (lay at line kind vs).state (lay at line kind vs).line c);
        state_is = refl;
        line_is = refl;
      }

-- ---- system 0, 8 bits, code 1, variable lines, flag 00h: line 20 with a block of type 1 and three values
pub settings : Settings
settings = record { code = 1; aai = 0; destination = replicate 16 0; source = replicate 16 0; block = 0xc1; flag = 0; reserved = replicate 5 0 }

pub start : Writer
start = fresh 0 8

pub lent : List ℕ
lent = replicate 1716 0

three : List ℕ
three = 0 ∷ 255 ∷ 1 ∷ []

held : Held settings
unfolding settings
held = record { to = refl; from = refl; five = refl; to_bytes = refl; from_bytes = refl; five_bytes = refl; block_byte = lit< tt; flag_byte = lit< tt }

opened_words : List ℕ
opened_words = open_words 0 false false 20 settings

opened_long : length opened_words ≡ 1716
unfolding opened_words open_words
opened_long =
    let fill : List ℕ = replicate (system_of 0).payload 0x200 in
    ap length (framed_front (system_of 0) false false 20 settings [] fill)
    ∙ length-append (front (system_of 0) false false 20 settings []) fill
    ∙ ap₂ ◌+◌ (front_length (system_of 0) false false 20 settings [] held (lit≤ tt) (lit≤ tt)) (length-replicate {A = ℕ} 1440 0x200)

-- words pasted within a line leave its length
paste_long : (l s : List ℕ) (a k : ℕ) → a + k ≤ length l → k ≤ length s → length (paste l a s k) ≡ length l
paste_long l s a k h g =
    let x = length-append (take a l ++ take k s) (drop (a + k) l) in
    let y = length_paste_head l a s k (omega arith) g in
    let z = length-drop (a + k) l in
    omega arith

opens : open_fault start 20 settings (length lent) ≡ 0
unfolding open_fault start settings lent pick fits_length is_system is_mode impossible settings_fault settings_faults block_refused open_blocked
opens = ap (λ (m : ℕ). open_fault start 20 settings m) (length-replicate {A = ℕ} 1716 0)

lays : add_fault (open_state start 20 settings) (length opened_words) 1 three ≡ 0
unfolding add_fault start settings three pick fits_length is_system is_mode impossible settings_fault settings_faults block_refused valued values ill_shaped blocks_end area_length
lays = ap (λ (m : ℕ). add_fault (open_state start 20 settings) m 1 three) opened_long

-- the ten words of the block
pub worked : List ℕ
worked = 0x309 ∷ 0x101 ∷ 0x203 ∷ 0x200 ∷ 0x200 ∷ 0x200 ∷ 0x200 ∷ 0x2ff ∷ 0x101 ∷ 0x30a ∷ []

at_20 : Writer
at_20 = open_state start 20 settings

worked_laid : take (fitting at_20 (todo at_20 1 three)) (todo at_20 1 three) ≡ worked
unfolding worked at_20 start settings three pick blocks_end area_length words_in block_words count_words word_of byte_word
worked_laid = refl

ten : fitting at_20 (todo at_20 1 three) ≡ 10
unfolding at_20 start settings three pick blocks_end area_length words_in block_words count_words
ten = refl

full_long : length (lay at_20 opened_words 1 three).line ≡ 1716
unfolding at_20 start
full_long =
    let long = opened_long in
    let k = ten in
    paste_long opened_words (todo at_20 1 three) 276 (fitting at_20 (todo at_20 1 three)) (omega arith) (omega arith) ∙ long

shuts : close_fault (lay at_20 opened_words 1 three).state (length (lay at_20 opened_words 1 three).line) ≡ 0
unfolding close_fault at_20 start settings three pick fits_length is_system is_mode impossible settings_fault settings_faults block_refused blocks_end area_length words_in block_words count_words word_of byte_word crc_of
shuts = ap (close_fault (lay at_20 opened_words 1 three).state) full_long

-- the line and the state that it leaves
pub final : Left
final = closing (adding at_20 opened_words 1 three).state (adding at_20 opened_words 1 three).line

pub sample : Written start false false 20 settings lent final.state final.line (worked ∷ []) []
unfolding at_20 opened_words final start
sample =
    subst (λ (p : List ℕ). Written start false false 20 settings lent final.state final.line (p ∷ []) [])
    (piece_laid at_20 opened_words 1 three lays ∙ worked_laid)
    (one_block start false false 20 settings lent 1 three opens lays shuts)

-- so the line is that of the definition, and the line check finds no fault in it
pub sample_whole : Whole start false false 20 settings (worked ∷ []) [] final.line
sample_whole = written start false false 20 settings lent final.state final.line (worked ∷ []) [] held sample
