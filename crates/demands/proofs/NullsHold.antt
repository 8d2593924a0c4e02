-- Nulls, proved: the statement is specs/Nulls.antt.
-- Assumes nothing.
use Rattle.std.specs.Prelude.{Some, None}
use Prim.Native.Nat.{ℕ, zero, suc, ◌+◌, ◌/◌, ◌%◌, ◌≤◌, ◌<◌}
use mathlib.Core.Bool.{Bool, true, false, ◌&&◌, ◌||◌, not}
use mathlib.Core.List.{List, [], ◌∷◌, ◌++◌, map, append_assoc}
use mathlib.Core.Logic.{◌⊎◌, inl, inr, ⊎_elim}
use mathlib.Core.Path.{◌≡◌, refl, sym, ap, ap₂, ◌∙◌}
use native.Mathlib.Nat.{zero-add, add-zero}
use native.Mathlib.Numerals.{add-one}
use native.Mathlib.Omega.{arith}
use lib.Dec.{eqb, leb}
use lib.ListN.{length, take, drop, set, length-map, length-set}
use lib.Seq.{sets, sets-eq}
use borrow.Author.Tests.{eq-eqb, lt-leb}
use Rattle.lists.specs.Tests.{pick}
use Rattle.lists.specs.Lists.{part, each}
use Rattle.lists.proofs.Tests.{or_left, or_right, false_or, both_true, and_none, pick_true}
use Rattle.lists.proofs.Lists.{each_append, each_take, each_drop}
use Rattle.words.specs.Forms.{byte_word, is_byte, is_data}
use Rattle.words.specs.Modes.{word_of, value_of}
use Rattle.words.specs.Class.{class_of, separator, end_code, null_word, is_code, is_null}
use Rattle.words.proofs.ClassLaws.{null_class}
use Rattle.line.specs.declared.settings.Settings.{Settings}
use Rattle.line.specs.Systems.{system_of}
use Rattle.line.specs.Fixed.{is_variable}
use Rattle.line.specs.Check.{number_of, settings_of}
use Rattle.writer.specs.declared.state.Writer.{Writer}
use Rattle.writer.specs.State.{most, laid_of}
use Rattle.writer.specs.Block.{count_words, block_words, fixed_words, words_in}
use Rattle.writer.specs.Answers.{laid_numbers}
use Rattle.writer.specs.Adding.{todo, fitting, adding}
use Rattle.writer.proofs.Legal.{byte_some, value_some}
use Rattle.writer.proofs.Pieces.{laid_ok, piece_laid}
use Rattle.machine.specs.declared.phase.Mark.TheVariants.{Nulled}
use Rattle.machine.specs.declared.phase.Phase.{Phase}
use Rattle.machine.specs.declared.phase.Phase.TheVariants.{Idle, Kind, First, Second, Third, Fourth, Data}
use Rattle.machine.specs.declared.step.Met.{Met}
use Rattle.machine.specs.Phases.{is_busy}
use Rattle.machine.specs.Machine.{on, end_step, counted, step_of}
use Rattle.machine.specs.Walk.{Walk, walked_to, past, unless, stored, walk_of}
use Rattle.machine.specs.Places.{place_room, walk_places}
use Rattle.machine.proofs.WalkLaws.{past_zero, past_past, word_goes}
use Rattle.machine.proofs.RunLaws.{collecting, data_class, value_kept}
use Rattle.machine.proofs.PlaceLaws.{met_null}
use Rattle.reader.specs.declared.state.Reader.{Reader}
use Rattle.reader.specs.declared.state.Event.TheVariants.{Refused, Begun}
use Rattle.reader.specs.Jump.{jump_from}
use Rattle.reader.specs.State.{impossible, impossible_in}
use Rattle.reader.specs.Reading.{reply, becomes, goes_on, begun, goes_from}
use Rattle.reader.proofs.AtCapacity.{accepts, refuses, by_place}
use Rattle.demands.specs.Nulls.{is_some, head_in, NeverNull, in_null, typed_as, null_with, is_datum, Nulls}
use Rattle.demands.proofs.BlockRun.{separator_step, byte_step, count_value, counted_fits}

-- ---- what the writer lays
some_not : (w : ℕ) → is_null (class_of w) ≡ false → is_some w ≡ true
some_not w e = ap not (null_class w ∙ e)

byte_is : (v : ℕ) → is_some (byte_word v) ≡ true
byte_is v = some_not (byte_word v) (byte_some v)

-- in 8-bit mode no value's word is 100h
value_is : (mode v : ℕ) → mode ≡ 8 → is_some (word_of mode v) ≡ true
value_is mode v e = some_not (word_of mode v) (ap (λ (b : Bool). b && is_null (class_of (word_of mode v))) (sym (eq-eqb mode 8 e)) ∙ value_some mode v)

module _ (mode kind : ℕ) (vs : List ℕ) where
  head_by : (variable : Bool) → each is_some (pick variable (part 1 5 (pick variable (block_words mode kind vs) (fixed_words mode kind vs))) (take 1 (pick variable (block_words mode kind vs) (fixed_words mode kind vs)))) ≡ true
  unfolding pick block_words fixed_words count_words
  head_by true =
      let n = length vs in
      ap₂ ◌&&◌ (byte_is kind)
      (ap₂ ◌&&◌ (byte_is (n % 256)) (ap₂ ◌&&◌ (byte_is (n / 256 % 256)) (ap₂ ◌&&◌ (byte_is (n / 65536 % 256)) (ap₂ ◌&&◌ (byte_is (n / 16777216 % 256)) refl))))
  head_by false = ap₂ ◌&&◌ (byte_is kind) refl

  values_are : mode ≡ 8 → (us : List ℕ) → each is_some (map (word_of mode) us) ≡ true
  values_are e [] = refl
  values_are e (u ∷ us) = ap₂ ◌&&◌ (value_is mode u e) (values_are e us)

  words_by : (variable : Bool) → mode ≡ 8 → each is_some (pick variable (block_words mode kind vs) (fixed_words mode kind vs)) ≡ true
  unfolding pick block_words fixed_words count_words
  words_by true e =
      let n = length vs in
      ap₂ ◌&&◌ (byte_is kind)
      (ap₂ ◌&&◌ (byte_is (n % 256))
      (ap₂ ◌&&◌ (byte_is (n / 256 % 256))
      (ap₂ ◌&&◌ (byte_is (n / 65536 % 256))
      (ap₂ ◌&&◌ (byte_is (n / 16777216 % 256)) (each_append is_some (map (word_of mode) vs) (end_code ∷ []) (values_are e vs) refl)))))
  words_by false e = ap₂ ◌&&◌ (byte_is kind) (values_are e vs)

  head_is : (block : ℕ) → each is_some (head_in block (words_in block mode kind vs)) ≡ true
  unfolding words_in
  head_is block = head_by (is_variable block)

  words_are : (block : ℕ) → mode ≡ 8 → each is_some (words_in block mode kind vs) ≡ true
  unfolding words_in
  words_are block e = words_by (is_variable block) e

-- as many of them as there are
take_own : (k : ℕ) (l : List ℕ) → take k l ≡ take (length (take k l)) l
take_own zero l = refl
take_own (suc k) [] = refl
take_own (suc k) (x ∷ l) = ap {B = List ℕ} (λ (t : List ℕ). x ∷ t) (take_own k l)

never : (w : Writer) (line : List ℕ) (kind : ℕ) (vs : List ℕ) (done : ℕ) → laid_numbers (adding w line kind vs).answer ≡ 0 ∷ done ∷ [] → NeverNull w line kind vs
never w line kind vs done e =
    let p = piece_laid w line kind vs (laid_ok w line kind vs (ap length e)) in
    let ws = words_in w.settings.block w.mode kind vs in
    record {
      a_part = p ∙ take_own (fitting w (todo w kind vs)) (todo w kind vs) ∙ ap (λ (l : List ℕ). take (length l) (todo w kind vs)) (sym p);
      head = head_is w.mode kind vs w.settings.block;
      all = λ eight. ap (each is_some) p
          ∙ each_take is_some (fitting w (todo w kind vs)) (todo w kind vs) (each_drop is_some (laid_of w.rest) ws (words_are w.mode kind vs w.settings.block eight));
    }

-- ---- a null is an open phase
open_by : (p : Phase) → in_null p ≡ true → is_busy p ≡ true
open_by Idle e = e
open_by Kind e = refl
open_by (First k) e = refl
open_by (Second k a) e = refl
open_by (Third k a b) e = refl
open_by (Fourth k a b c) e = refl
open_by (Data k n m) e = refl

possible_by : (st : Reader) (k : ℕ) (p : Phase)
    → impossible (becomes st st.last st.settings st.place p) ≡ impossible (becomes st st.last st.settings st.place (typed_as k p))
unfolding impossible_in
possible_by st k Idle = refl
possible_by st k Kind = refl
possible_by st k (First x) = refl
possible_by st k (Second x a) = refl
possible_by st k (Third x a b) = refl
possible_by st k (Fourth x a b c) = refl
possible_by st k (Data x n m) = refl

-- a line begun behind an open phase, by whether it goes on
begun_is : (st : Reader) (n : ℕ) (t : Settings) (room : List ℕ) (busy on : Bool) → is_busy st.phase ≡ busy → goes_on st n t ≡ on
    → reply (begun st n t) room ≡ reply (record {
      event = Begun n (jump_from (system_of st.system).lines st.last n) (busy && not on);
      state = becomes st (Some n) t (Some 0) (pick on st.phase Idle);
    }) room
unfolding begun
begun_is st n t room busy on e g =
    ap₂ (λ (x y : Bool). reply (record {
      event = Begun n (jump_from (system_of st.system).lines st.last n) (x && not y);
      state = becomes st (Some n) t (Some 0) (pick y st.phase Idle);
    }) room) e g

-- ---- the words of a null
-- one walk behind another
then : (x y z : Walk) (a b : ℕ) → x ≡ past a y → y ≡ past b z → x ≡ past (a + b) z
then x y z a b e f = e ∙ ap (past a) f ∙ past_past a b z

-- a word with which nothing is reported and nothing kept
quiet : (mode : ℕ) (p q : Phase) (w : ℕ) (ws room : List ℕ) → step_of mode (length room) p w ≡ on q → walk_of mode p (w ∷ ws) room ≡ past 1 (walk_of mode q ws room)
unfolding stored pick
quiet mode p q w ws room e = word_goes mode p w ws room (on q) (sym e) room refl refl

-- a data word
kept : (mode n m w : ℕ) (ws room : List ℕ) → step_of mode (length room) (Data Nulled n m) w ≡ collecting Nulled n m
    → walk_of mode (Data Nulled n m) (w ∷ ws) room ≡ past 1 (walk_of mode (Data Nulled n (m + 1)) ws (set room m (value_of mode w)))
unfolding stored pick
kept mode n m w ws room e = word_goes mode (Data Nulled n m) w ws room (collecting Nulled n m) (sym e) (set room m (value_of mode w)) refl refl

type_step : (mode room : ℕ) → step_of mode room Kind null_word ≡ on (First Nulled)
unfolding step_of class_of is_byte is_data pick
type_step mode room = refl

stops_not : (mode w : ℕ) → is_datum mode w ≡ true → (is_code (class_of w) || (eqb mode 8 && is_null (class_of w))) ≡ false
stops_not mode w e =
    let b = both_true (not (is_code (class_of w))) (not (eqb mode 8 && eqb w null_word)) e in
    false_or (back (is_code (class_of w)) b.0) (ap (λ (z : Bool). eqb mode 8 && z) (sym (null_class w)) ∙ back (eqb mode 8 && eqb w null_word) b.1)
  where
    back : (b : Bool) → not b ≡ true → b ≡ false
    back true e = sym e
    back false e = refl

datum_step : (mode room n m w : ℕ) → is_datum mode w ≡ true → (not (eqb n 0) && leb n m) ≡ false → m < room → step_of mode room (Data Nulled n m) w ≡ collecting Nulled n m
unfolding step_of
datum_step mode room n m w e x h = data_class mode room Nulled n m (class_of w) (stops_not mode w e) ∙ value_kept room Nulled n m x h

-- a count of 0, or one that is not met yet
unmet : (n m k : ℕ) → (n ≡ 0) ⊎ (n ≡ m + suc k) → (not (eqb n 0) && leb n m) ≡ false
unmet n m k c =
    ⊎_elim (λ z. ap (λ (b : Bool). not b && leb n m) (eq-eqb n 0 z)) (λ z. and_none (not (eqb n 0)) (leb n m) (lt-leb n m (omega arith))) c

data_walk : (mode n : ℕ) (ds : List ℕ) (m : ℕ) (rest room : List ℕ) → (n ≡ 0) ⊎ (n ≡ m + length ds) → m + length ds ≤ length room → each (is_datum mode) ds ≡ true
    → walk_of mode (Data Nulled n m) (ds ++ rest) room ≡ past (length ds) (walk_of mode (Data Nulled n (m + length ds)) rest (sets room m (map (value_of mode) ds)))
data_walk mode n [] m rest room c fits e =
    ap (λ (k : ℕ). walk_of mode (Data Nulled n k) rest room) (sym (add-zero m)) ∙ sym (past_zero (walk_of mode (Data Nulled n (m + 0)) rest room))
data_walk mode n (d ∷ ds) m rest room c fits e =
    let b = both_true (is_datum mode d) (each (is_datum mode) ds) e in
    let v = value_of mode d in
    let long = length-set room m v in
    let next : m + 1 + length ds ≡ m + suc (length ds) = omega arith in
    then _ _ _ 1 (length ds)
    (kept mode n m d (ds ++ rest) room (datum_step mode (length room) n m d b.0 (unmet n m (length ds) c) (omega arith)))
    (data_walk mode n ds (m + 1) rest (set room m v) (⊎_elim (λ z. inl z) (λ z. inr (omega arith)) c) (omega arith) b.1)
    ∙ ap (λ (i : ℕ). past (1 + length ds) (walk_of mode (Data Nulled n (m + 1 + length ds)) rest (sets (set room m v) i (map (value_of mode) ds)))) (add-one m)
    ∙ ap₂ (λ (k j : ℕ). past k (walk_of mode (Data Nulled n j) rest (sets room m (map (value_of mode) (d ∷ ds))))) (one_more (length ds)) next
  where
    one_more : (k : ℕ) → 1 + k ≡ suc k
    one_more k = omega arith

-- 30Ah with the count 0 or met
end_step_lem : (mode room n m : ℕ) → (n ≡ 0) ⊎ (n ≡ m) → step_of mode room (Data Nulled n m) end_code ≡ on Idle
unfolding step_of class_of is_byte is_data pick end_step
end_step_lem mode room n m c =
    pick_true _ _ (⊎_elim (λ z. or_left (eqb n 0) (eqb n m) (eq-eqb n 0 z)) (λ z. or_right (eqb n 0) (eqb n m) (eq-eqb n m z)) c)

whole : (mode n : ℕ) (ds ws room : List ℕ) → (n ≡ 0) ⊎ (n ≡ length ds) → n ≤ most → length ds ≤ length room → each (is_datum mode) ds ≡ true
    → walk_of mode Idle (null_with n ds ++ ws) room ≡ past (length ds + 7) (walk_of mode Idle ws (map (value_of mode) ds ++ drop (length ds) room))
unfolding count_words
whole mode n ds ws room c small fits e =
    let r = length room in
    let vs = map (value_of mode) ds in
    let long : length vs ≡ length ds = length-map ds (value_of mode) in
    let within : n ≤ r = ⊎_elim (λ z. omega arith) (λ z. omega arith) c in
    let laid : sets room 0 vs ≡ vs ++ drop (length ds) room =
    sets-eq vs room 0 (omega arith) ∙ ap (λ (k : ℕ). vs ++ drop k room) (zero-add (length vs) ∙ long) in
    let total : 1 + (1 + (1 + (1 + (1 + (1 + (length ds + 1)))))) ≡ length ds + 7 = omega arith in
    let end : (r' : List ℕ) → walk_of mode (Data Nulled n (0 + length ds)) (end_code ∷ ws) r' ≡ past 1 (walk_of mode Idle ws r') = λ r'.
    quiet mode (Data Nulled n (0 + length ds)) Idle end_code ws r' (end_step_lem mode (length r') n (0 + length ds) (⊎_elim (λ z. inl z) (λ z. inr (omega arith)) c)) in
    let data_end = then _ _ _ (length ds) 1 (data_walk mode n ds 0 (end_code ∷ ws) room (⊎_elim (λ z. inl z) (λ z. inr (omega arith)) c) (omega arith) e) (end (sets room 0 vs)) in
    let last : step_of mode r (Fourth Nulled (n % 256) (n / 256 % 256) (n / 65536 % 256)) (byte_word (n / 16777216 % 256)) ≡ on (Data Nulled n 0) =
    byte_step mode r _ _ (omega arith) ∙ ap (counted r Nulled) (count_value n small) ∙ counted_fits r Nulled n within in
    ap (λ (l : List ℕ). walk_of mode Idle (separator ∷ null_word ∷ byte_word (n % 256) ∷ byte_word (n / 256 % 256) ∷ byte_word (n / 65536 % 256) ∷ byte_word (n / 16777216 % 256) ∷ l) room)
    (append_assoc ds (end_code ∷ []) ws)
    ∙ then _ _ _ 1 _ (quiet mode Idle Kind separator _ room (separator_step mode r))
    (then _ _ _ 1 _ (quiet mode Kind (First Nulled) null_word _ room (type_step mode r))
    (then _ _ _ 1 _ (quiet mode (First Nulled) (Second Nulled (n % 256)) _ _ room (byte_step mode r (First Nulled) (n % 256) (omega arith)))
    (then _ _ _ 1 _ (quiet mode (Second Nulled (n % 256)) (Third Nulled (n % 256) (n / 256 % 256)) _ _ room (byte_step mode r (Second Nulled (n % 256)) (n / 256 % 256) (omega arith)))
    (then _ _ _ 1 _ (quiet mode (Third Nulled (n % 256) (n / 256 % 256)) (Fourth Nulled (n % 256) (n / 256 % 256) (n / 65536 % 256)) _ _ room
    (byte_step mode r (Third Nulled (n % 256) (n / 256 % 256)) (n / 65536 % 256) (omega arith)))
    (then _ _ _ 1 _ (quiet mode (Fourth Nulled (n % 256) (n / 256 % 256) (n / 65536 % 256)) (Data Nulled n 0) _ _ room last) data_end)))))
    ∙ ap₂ (λ (k : ℕ) (l : List ℕ). past k (walk_of mode Idle ws l)) total laid

-- ---- a null's place
null_there : is_null (class_of null_word) ≡ true
null_there = sym (null_class null_word) ∙ eq-eqb null_word null_word refl

skipped : (mode : ℕ) (p : Phase) (us : List ℕ) (xs : List (List ℕ)) (room : List ℕ)
    → walk_places mode p ((null_word ∷ us) ∷ xs) room ≡ past (length us + 1) (walk_places mode p xs room)
unfolding walk_places
skipped mode p us xs room =
    let on = walk_places mode p xs room in
    ap (λ (met : Met). unless met (walked_to p met (suc (length us)) (place_room met (map (value_of mode) us) room)) (past (suc (length us)) on))
    (met_null mode (null_word ∷ us) null_there)
    ∙ ap (λ (k : ℕ). past k (walk_places mode p xs room)) (sym (add-one (length us)))

pub nulls : Nulls
unfolding pick
nulls = record {
  never_null = never;
  is_open = open_by;
  possible = λ st k. possible_by st k st.phase;
  refused_drops = λ st line room ok shut e k is some.
      refuses st line room ok shut k is (λ z. omega arith)
      ∙ ap (λ (b : Bool). reply (record { event = Refused k b; state = becomes st None st.settings None Idle }) room) (open_by st.phase e);
  begun_drops = λ st line room ok shut e accepted off.
      accepts st line room ok shut accepted ∙ begun_is st (number_of line) (settings_of line) room true false (open_by st.phase e) off;
  begun_keeps = λ st line room ok shut e accepted goes_on.
      accepts st line room ok shut accepted ∙ begun_is st (number_of line) (settings_of line) room true true (open_by st.phase e) goes_on;
  end_keeps = λ st q line room ok at p n r e is. by_place st line room (Some q) ok at ∙ ap (goes_from st q) is;
  not_handed_out = whole;
  place_skipped = skipped;
}
