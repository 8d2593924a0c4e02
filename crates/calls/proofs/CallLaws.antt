-- A call from C as its steps learn it: a buffer of the wrong length; turned away by the early answer; or the call made, and what it leaves copied into the buffers. The calls of the
-- writer differ in what they ask and leave, and so do those of the reader: each is a record here, and the three ways are shown once for a record. Assumes nothing.
use Prim.Native.Nat.{ℕ, ◌<◌}
use mathlib.Core.Bool.{Bool, true, false, not, ◌||◌, ◌&&◌}
use mathlib.Core.List.{List, [], ◌∷◌, ◌++◌}
use native.Mathlib.Omega.{arith}
use mathlib.Core.Path.{◌≡◌, refl, sym, ap, ap₂, ◌∙◌}
use lib.Dec.{eqb}
use lib.ListN.{length, take}
use borrow.Author.Tests.{eqb-true, eq-eqb, not-false}
use Rattle.lists.specs.Tests.{pick, when, lowest_of}
use Rattle.lists.proofs.Tests.{both_true, true_false, pick_true, pick_false}
use Rattle.octets.specs.Bytes.{is_even}
use Rattle.line.specs.declared.settings.Settings.{Settings}
use Rattle.fields.specs.Fields.{bytes_for, settings_from}
use Rattle.fields.specs.Frame.{image_length}
use Rattle.images.specs.ReaderImage.{image_of as reader_bytes, state_of as reader_from, is_image as is_reader, moved}
use Rattle.images.proofs.ImageLaws.{moved_image}
use Rattle.writerimages.specs.WriterImage.{image_of as writer_bytes, state_of as writer_from, is_image as is_writer}
use Rattle.events.specs.EventImage.{event_length, event_image}
use Rattle.events.proofs.EventLaws.{event_length_lem, uncounted}
use Rattle.reader.specs.declared.state.Reader.{Reader}
use Rattle.reader.specs.declared.within.Report.{Report}
use Rattle.reader.specs.declared.within.Report.TheVariants.{Told}
use Rattle.reader.specs.declared.within.Within.{Within}
use Rattle.reader.specs.Within.{Sliced, sliced}
use Rattle.writer.specs.declared.state.Writer.{Writer}
use Rattle.writer.specs.Answers.{Left, Added}
use Rattle.writer.specs.Batch.{Batched}
use Rattle.bytereader.specs.Bytewise.{read_bytes, within_bytes, bytes_fault}
use Rattle.bytereader.specs.declared.goes.Went.{Went}
use Rattle.bytereader.specs.Calls.{went_of}
use Rattle.bytereader.proofs.Whole.{whole_bytes}
use Rattle.bytewriter.specs.Bytewise.{open_bytes, add_bytes, many_bytes, pack_bytes, close_bytes}
use Rattle.calls.specs.Answers.{event_answer, report_answer, done_answer, laid_answer, stop_answer, sixteen, refusal}
use Rattle.calls.specs.Early.{write_early, early_by}
use Rattle.calls.specs.Reading.{Read, gave}
use Rattle.calls.specs.Writing.{Wrote, wrote, WroteMany, wrote_many, settings_length}
use Rattle.calls.proofs.AnswerLaws.{AnswersBy, misshaped, turned_away, let_through}
use Rattle.calls.proofs.BytesAnswers.{within_bytes_answers, open_bytes_answers, add_bytes_answers, many_bytes_answers, pack_bytes_answers, close_bytes_answers}

-- ---- two buffers, of m and n bytes or not
one_not : (a b : Bool) → (not a || not b) ≡ true → (a && b) ≡ false
one_not true true e = sym e
one_not true false e = refl
one_not false b e = refl

both_so : (a b : Bool) → (not a || not b) ≡ false → (a && b) ≡ true
both_so true true e = refl
both_so true false e = sym e
both_so false b e = absurd (true_false e)

module _ (s t : List ℕ) (m n : ℕ) where
  pub misfit : (not (eqb (length s) m) || not (eqb (length t) n)) ≡ true → (eqb (length s) m && eqb (length t) n) ≡ false
  misfit e = one_not (eqb (length s) m) (eqb (length t) n) e

  pub fit : (not (eqb (length s) m) || not (eqb (length t) n)) ≡ false → (eqb (length s) m && eqb (length t) n) ≡ true
  fit e = both_so (eqb (length s) m) (eqb (length t) n) e

  pub as_long : (not (eqb (length s) m) || not (eqb (length t) n)) ≡ false → (length s ≡ m) × (length t ≡ n)
  as_long e = let is = both_true (eqb (length s) m) (eqb (length t) n) (fit e) in (eqb-true (length s) m is.0, eqb-true (length t) n is.1)

-- ---- the writer's calls
-- what is lent; the library's call, which leaves an X; and what C sees: after a refusal before the call, and of what it leaves
pub record WriterCall (A X : Type 0) : Type 0 where
  pub state : List ℕ
  pub shaped : Bool
  pub long : ℕ
  pub even : Bool
  pub call : Writer → X
  pub answer : X → ℕ
  pub next : X → Writer
  pub by : AnswersBy (write_early (writer_from state) long even) (answer (call (writer_from state)))
  pub kept : ℕ → A
  pub leaves : ℕ → List ℕ → X → A

abbrev pub called : {A X : Type 0} → WriterCall A X → A
called c =
    let x = c.call (writer_from c.state) in
    let early = refusal c.shaped (is_writer c.state) (c.answer x) in
    pick (eqb early 0) (c.leaves (c.answer x) (writer_bytes (c.next x)) x) (c.kept early)

module _ {A X : Type 0} (c : WriterCall A X) where
  pub wrong : c.shaped ≡ false → c.kept 1 ≡ called c
  wrong s = misshaped c.kept _ c.shaped (is_writer c.state) (c.answer (c.call (writer_from c.state))) s

  -- what is asked before the call: 1 of a wrong shape, and then 1 and 2 of the image and its state
  module _ {shaped even : Bool} (fits : shaped ≡ c.shaped) (words : even ≡ c.even) where
    abbrev asked : ℕ
    asked = pick shaped (early_by (is_writer c.state) (write_early (writer_from c.state) c.long even)) 1

    early_is : c.shaped ≡ true → asked ≡ early_by (is_writer c.state) (write_early (writer_from c.state) c.long c.even)
    early_is s = pick_true _ _ (fits ∙ s) ∙ ap (λ (b : Bool). early_by (is_writer c.state) (write_early (writer_from c.state) c.long b)) words

    pub away : {k : ℕ} → k ≡ asked → (k ≡ 0 → ⊥) → c.kept k ≡ called c
    away {k} is h = go c.shaped refl
      where
        go : (b : Bool) → c.shaped ≡ b → c.kept k ≡ called c
        go true s = turned_away c.kept _ c.shaped (is_writer c.state) _ s _ c.by k (is ∙ early_is s) h
        go false s = ap c.kept (is ∙ pick_false _ _ (fits ∙ s)) ∙ wrong s

    -- what the call left, x; the image of its state put into what is lent; and its answer
    pub made : c.shaped ≡ true → asked ≡ 0 → (x : X) {w : Writer} {s : List ℕ} {r : ℕ} → w ≡ writer_from c.state → x ≡ c.call w → s ≡ writer_bytes (c.next x) → r ≡ c.answer x → c.leaves r s x ≡ called c
    made right h x same done put answered =
        ap₂ (λ (n : ℕ) (s : List ℕ). c.leaves n s x) answered put
        ∙ ap (λ (y : X). c.leaves (c.answer y) (writer_bytes (c.next y)) y) (done ∙ ap c.call same)
        ∙ let_through c.kept _ c.shaped (is_writer c.state) _ right _ c.by asked (early_is right) h

abbrev pub opening_call : List ℕ → Bool → Bool → ℕ → List ℕ → List ℕ → WriterCall Wrote Left
opening_call state f v number settings line = record {
  state = state;
  shaped = eqb (length state) image_length && eqb (length settings) settings_length;
  long = length line;
  even = true;
  call = λ w. open_bytes w f v (sixteen number) (settings_from settings) line;
  answer = λ x. done_answer x.answer;
  next = λ x. x.state;
  by = open_bytes_answers (writer_from state) line f v (sixteen number) (settings_from settings);
  kept = λ k. wrote k state line;
  leaves = λ n s x. wrote n s x.line;
}

abbrev pub adding_call : List ℕ → ℕ → List ℕ → List ℕ → WriterCall Wrote Added
adding_call state kind values line = record {
  state = state;
  shaped = eqb (length state) image_length;
  long = length line;
  even = is_even values;
  call = λ w. add_bytes w line (sixteen kind) values;
  answer = λ x. laid_answer x.answer;
  next = λ x. x.state;
  by = add_bytes_answers (writer_from state) line (sixteen kind) values;
  kept = λ k. wrote k state line;
  leaves = λ n s x. wrote n s x.line;
}

abbrev pub packing_call : List ℕ → ℕ → ℕ → List ℕ → List ℕ → WriterCall Wrote Left
packing_call state did second values line = record {
  state = state;
  shaped = eqb (length state) image_length;
  long = length line;
  even = is_even values;
  call = λ w. pack_bytes w line did second values;
  answer = λ x. done_answer x.answer;
  next = λ x. x.state;
  by = pack_bytes_answers (writer_from state) line did second values;
  kept = λ k. wrote k state line;
  leaves = λ n s x. wrote n s x.line;
}

abbrev pub closing_call : List ℕ → List ℕ → WriterCall Wrote Left
closing_call state line = record {
  state = state;
  shaped = eqb (length state) image_length;
  long = length line;
  even = true;
  call = λ w. close_bytes w line;
  answer = λ x. done_answer x.answer;
  next = λ x. x.state;
  by = close_bytes_answers (writer_from state) line;
  kept = λ k. wrote k state line;
  leaves = λ n s x. wrote n s x.line;
}

abbrev pub many_call : List ℕ → List ℕ → List ℕ → ℕ → WriterCall WroteMany Batched
many_call state blocks line finished = record {
  state = state;
  shaped = eqb (length state) image_length;
  long = length line;
  even = is_even blocks;
  call = λ w. many_bytes w line blocks;
  answer = λ x. stop_answer x.stop;
  next = λ x. x.state;
  by = many_bytes_answers (writer_from state) line blocks;
  kept = λ k. wrote_many k state line finished;
  leaves = λ n s x. wrote_many n s x.line x.finished;
}

-- numbers and settings taken over
pub opens_with : (w : Writer) (f v : Bool) (line : List ℕ) {m n : ℕ} {t u : Settings} → m ≡ n → t ≡ u → open_bytes w f v m t line ≡ open_bytes w f v n u line
opens_with w f v line e h = ap₂ (λ (n : ℕ) (t : Settings). open_bytes w f v n t line) e h

pub adds_with : (w : Writer) (line values : List ℕ) {m n : ℕ} → m ≡ n → add_bytes w line m values ≡ add_bytes w line n values
adds_with w line values e = ap (λ (n : ℕ). add_bytes w line n values) e

-- what is lent is as long as an image, so that the image stands there
pub filled : (n : ℕ) (lent s i : List ℕ) → length lent ≡ n → s ≡ pick (eqb (length lent) n) i lent → s ≡ i
filled n lent s i h e = e ∙ pick_true _ _ (eq-eqb (length lent) n h)

-- ---- the reading calls
abbrev pub shaped : List ℕ → List ℕ → Bool
shaped state event = eqb (length state) image_length && eqb (length event) event_length

-- buffers of the right lengths, the state that the image spells, and whether it is one
pub record Spelt (state event : List ℕ) (st : Reader) (is : Bool) : Type 0 where
  pub right : shaped state event ≡ true
  pub spelt : st ≡ reader_from state
  pub shown : is ≡ is_reader state

-- an image that no state gives is never 0
never_0 : (f : ℕ) → early_by false f ≡ 0 → ⊥
unfolding early_by pick
never_0 f = go (eqb f 1)
  where
    go : (b : Bool) → pick {A = ℕ} b 1 2 ≡ 0 → ⊥
    go true e = omega (arith, e)
    go false e = omega (arith, e)

-- of an image that a state gives it is 1 or 2 of the state
of_state : (f : ℕ) → early_by true f ≡ f
unfolding early_by pick
of_state f = go (eqb f 1) refl
  where
    go : (b : Bool) → eqb f 1 ≡ b → pick b 1 f ≡ f
    go true e = sym (eqb-true f 1 e)
    go false e = refl

module _ (a : ℕ) (state line room event : List ℕ) where
  -- what the call on the state leaves, and what it answers
  abbrev pub leaves : Sliced
  leaves = within_bytes a (reader_from state) line room

  abbrev pub answers : ℕ
  answers = report_answer leaves.answer.report

  abbrev pub early_of : ℕ
  early_of = refusal (shaped state event) (is_reader state) answers

  abbrev pub within_read : Read
  within_read =
      pick (eqb early_of 0) (gave answers (reader_bytes leaves.answer.state) leaves.room (event_image leaves.answer.report leaves.answer.consumed))
      (gave early_of state room event)

  kept : ℕ → Read
  kept k = gave k state room event

  pub read_wrong : shaped state event ≡ false → gave 1 state room event ≡ within_read
  unfolding kept
  read_wrong s = misshaped kept _ (shaped state event) (is_reader state) answers s

  module _ {st : Reader} {is : Bool} (k : Spelt state event st is) where
    same_fault : bytes_fault st (length line) (length room) ≡ bytes_fault (reader_from state) (length line) (length room)
    same_fault = ap (λ (x : Reader). bytes_fault x (length line) (length room)) k.spelt

    pub read_no : is ≡ false → {fault n : ℕ} → fault ≡ bytes_fault st (length line) (length room) → n ≡ early_by false fault → gave n state room event ≡ within_read
    unfolding kept
    read_no isnt {fault} {n} asked early =
        let e : n ≡ early_by (is_reader state) (bytes_fault (reader_from state) (length line) (length room)) = early ∙ ap₂ early_by (sym isnt ∙ k.shown) (asked ∙ same_fault) in
        turned_away kept _ (shaped state event) (is_reader state) answers k.right _ (within_bytes_answers (reader_from state) line room a) n e (λ z. never_0 fault (sym early ∙ z))

    -- the call made: what it left, y, and the room
    module _ (holds : is ≡ true) (y : Within) (room' : List ℕ) (did : sliced y room' ≡ within_bytes a st line room) where
      left_is : sliced y room' ≡ leaves
      left_is = did ∙ ap (λ (x : Reader). within_bytes a x line room) k.spelt

      image_is : is_reader state ≡ true
      image_is = sym k.shown ∙ holds

      -- 1 or 2, which leaves the room
      pub read_barred : true ≡ not (eqb (bytes_fault st (length line) (length room)) 0) → room' ≡ room → {r : ℕ} → r ≡ report_answer y.report → gave r state room' event ≡ within_read
      unfolding kept
      read_barred bar back {r} answered =
          let f = bytes_fault (reader_from state) (length line) (length room) in
          let some : f ≡ 0 → ⊥ = λ z. true_false (bar ∙ ap not (eq-eqb _ 0 (same_fault ∙ z))) in
          let by = within_bytes_answers (reader_from state) line room a in
          let is_f : r ≡ f = answered ∙ ap (λ (x : Sliced). report_answer x.answer.report) left_is ∙ by.refused some in
          let e : r ≡ early_by (is_reader state) f = is_f ∙ sym (of_state f) ∙ ap (λ (b : Bool). early_by b f) (sym image_is) in
          ap (λ (q : List ℕ). gave r state q event) back
          ∙ turned_away kept _ (shaped state event) (is_reader state) answers k.right _ by r e (λ z. some (sym is_f ∙ z))

      -- or what the call leaves, written
      pub read_served : false ≡ not (eqb (bytes_fault st (length line) (length room)) 0) → {r : ℕ} {s e : List ℕ} → r ≡ report_answer y.report → s ≡ reader_bytes y.state
          → e ≡ event_image y.report y.consumed → gave r s room' e ≡ within_read
      unfolding kept
      read_served free {r} {s} {e} answered put told =
          let f = bytes_fault (reader_from state) (length line) (length room) in
          let none : f ≡ 0 = sym same_fault ∙ eqb-true _ 0 (not-false _ (sym free)) in
          let by = within_bytes_answers (reader_from state) line room a in
          let z : 0 ≡ early_by (is_reader state) f = sym none ∙ sym (of_state f) ∙ ap (λ (b : Bool). early_by b f) (sym image_is) in
          ap₂ (λ (n : ℕ) (l : List ℕ). gave n l room' e) answered put
          ∙ ap (λ (l : List ℕ). gave (report_answer y.report) (reader_bytes y.state) room' l) told
          ∙ ap (λ (x : Sliced). gave (report_answer x.answer.report) (reader_bytes x.answer.state) x.room (event_image x.answer.report x.answer.consumed)) left_is
          ∙ let_through kept _ (shaped state event) (is_reader state) answers k.right _ by 0 z refl

-- an image in which only place and phase are others is that of the state that a call on a begun line leaves
pub moves : {state event : List ℕ} {st : Reader} {is : Bool} → Spelt state event st is → is ≡ true → (w : Went)
    → moved w.place w.phase state ≡ reader_bytes (went_of st w).state
moves {state} k holds w =
    moved_image state (sym k.shown ∙ holds) w.place w.phase ∙ ap (λ (x : Reader). reader_bytes (went_of x w).state) (sym k.spelt)

-- ---- without allowance
-- an early answer is 0, 1 or 2; and where it is 0, lengths are in order and the call's answer is neither 1 nor 2
early_some : (sh im : Bool) (n : ℕ) → eqb (refusal sh im n) 0 ≡ false → (eqb (refusal sh im n) 1 || eqb (refusal sh im n) 2) ≡ true
unfolding refusal pick
early_some sh im n = go (not sh || eqb n 1) (not im || eqb n 2)
  where
    go : (p q : Bool) → eqb (lowest_of (when 1 p ∷ when 2 q ∷ [])) 0 ≡ false → (eqb (lowest_of (when 1 p ∷ when 2 q ∷ [])) 1 || eqb (lowest_of (when 1 p ∷ when 2 q ∷ [])) 2) ≡ true
    go true q e = refl
    go false true e = refl
    go false false e = absurd (true_false e)

early_none : (sh im : Bool) (n : ℕ) → eqb (refusal sh im n) 0 ≡ true → (sh ≡ true) × ((eqb n 1 || eqb n 2) ≡ false)
unfolding refusal pick
early_none sh im n = go sh im (eqb n 1) (eqb n 2)
  where
    go : (s i p q : Bool) → eqb (lowest_of (when 1 (not s || p) ∷ when 2 (not i || q) ∷ [])) 0 ≡ true → (s ≡ true) × ((p || q) ≡ false)
    go true true false false e = (refl, refl)
    go true true false true e = absurd (true_false (sym e))
    go true true true q e = absurd (true_false (sym e))
    go true false true q e = absurd (true_false (sym e))
    go true false false q e = absurd (true_false (sym e))
    go false i p q e = absurd (true_false (sym e))

module _ (a : ℕ) (far : 2304 < a) (state line room event : List ℕ) where
  abbrev pub plain_read : Read
  plain_read =
      let y = read_bytes (reader_from state) line room in
      let n = event_answer y.told.event in
      let early = refusal (shaped state event) (is_reader state) n in
      pick (eqb early 0) (gave n (reader_bytes y.told.state) y.room (event_image (Told y.told.event) 0)) (gave early state room event)

  same_answer : answers a state line room event ≡ event_answer (read_bytes (reader_from state) line room).told.event
  same_answer = ap report_answer (whole_bytes a (reader_from state) line room far).report_is

  -- refused by 1 or 2, nothing is written in either
  pub plain_refused : (x : Read) → x ≡ within_read a state line room event → (eqb x.answer 1 || eqb x.answer 2) ≡ true → x ≡ plain_read
  plain_refused x is h = go (eqb (early_of a state line room event) 0) refl
    where
      go : (b : Bool) → eqb (early_of a state line room event) 0 ≡ b → x ≡ plain_read
      go true e =
          let n = ap (λ (y : Read). y.answer) (is ∙ pick_true _ _ e) in
          let none = (early_none (shaped state event) (is_reader state) (answers a state line room event) e).1 in
          absurd (true_false (sym h ∙ ap (λ (k : ℕ). eqb k 1 || eqb k 2) n ∙ none))
      go false e =
          is ∙ pick_false _ _ e
          ∙ ap (λ (k : ℕ). gave (refusal (shaped state event) (is_reader state) k) state room event) same_answer
          ∙ sym (pick_false _ _ (ap (λ (k : ℕ). eqb (refusal (shaped state event) (is_reader state) k) 0) (sym same_answer) ∙ e))

  -- any other answer: lengths are in order, and the event tells no number consumed
  early_clear : (x : Read) → x ≡ within_read a state line room event → (eqb x.answer 1 || eqb x.answer 2) ≡ false → eqb (early_of a state line room event) 0 ≡ true
  early_clear x is h = go (eqb (early_of a state line room event) 0) refl
    where
      go : (b : Bool) → eqb (early_of a state line room event) 0 ≡ b → eqb (early_of a state line room event) 0 ≡ true
      go true e = e
      go false e =
          let n = ap (λ (y : Read). y.answer) (is ∙ pick_false _ _ e) in
          absurd (true_false (sym (early_some (shaped state event) (is_reader state) (answers a state line room event) e) ∙ ap (λ (k : ℕ). eqb k 1 || eqb k 2) (sym n) ∙ h))

  pub plain_long : (x : Read) → x ≡ within_read a state line room event → (eqb x.answer 1 || eqb x.answer 2) ≡ false → length x.event ≡ 32
  plain_long x is h =
      let e = early_clear x is h in
      let z = leaves a state line room event in
      ap (λ (y : Read). length y.event) (is ∙ pick_true _ _ e) ∙ event_length_lem z.answer.report z.answer.consumed

  pub plain_told : (x : Read) → x ≡ within_read a state line room event → (eqb x.answer 1 || eqb x.answer 2) ≡ false → {e : List ℕ} → e ≡ take 24 x.event ++ bytes_for 8 0
      → gave x.answer x.state x.room e ≡ plain_read
  plain_told x is h {e} put =
      let clear = early_clear x is h in
      let s = whole_bytes a (reader_from state) line room far in
      let y = read_bytes (reader_from state) line room in
      let z = leaves a state line room event in
      ap (gave x.answer x.state x.room) put
      ∙ ap (λ (w : Read). gave w.answer w.state w.room (take 24 w.event ++ bytes_for 8 0)) (is ∙ pick_true _ _ clear)
      ∙ ap (gave (answers a state line room event) (reader_bytes z.answer.state) z.room) (uncounted z.answer.report z.answer.consumed)
      ∙ ap₂ (λ (r : Report) (t : Reader). gave (report_answer r) (reader_bytes t) z.room (event_image r 0)) s.report_is s.state_is
      ∙ ap (λ (q : List ℕ). gave (event_answer y.told.event) (reader_bytes y.told.state) q (event_image (Told y.told.event) 0)) s.room_is
      ∙ sym (pick_true _ _ (ap (λ (k : ℕ). eqb (refusal (shaped state event) (is_reader state) k) 0) (sym same_answer) ∙ clear))
