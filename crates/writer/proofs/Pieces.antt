-- One accepted addition: the piece that it lays of a block, and what is left of the block; and the words of a block whose values come from two calls.
-- What the pieces of a course of calls are together is demand 2 (demands/specs/Demand2.antt: `blocks`).
-- Assumes nothing.
use Rattle.std.specs.Prelude.{Option}
use mathlib.Core.Path.{◌≡◌, refl, sym, ap, ap₂, ◌∙◌}
use mathlib.Core.Bool.{Bool, true, false}
use mathlib.Core.List.{List, [], ◌∷◌, ◌++◌, map, map-append, append_assoc}
use mathlib.Core.Logic.{⊎_elim}
use Prim.Native.Nat.{ℕ, ◌+◌, ◌-◌, ◌≤◌}
use native.Mathlib.Omega.{arith}
use lib.Dec.{eqb}
use lib.ListN.{length, take, drop, length-append, length-take, length-drop, length-map, take-append-drop}
use lib.Seq.{take_all, take-append-le, drop_at}
use borrow.Author.Tests.{eq-eqb, eqb-true, eqb-false}
use Rattle.lists.specs.Tests.{pick}
use Rattle.lists.proofs.Tests.{pick_true, pick_false, lt_or_le}
use Rattle.words.specs.Forms.{byte_word}
use Rattle.words.specs.Modes.{word_of}
use Rattle.words.specs.Class.{separator, end_code}
use Rattle.line.specs.Systems.{system_of}
use Rattle.line.specs.Fixed.{is_variable}
use Rattle.line.specs.Layout.{payload_at}
use Rattle.course.specs.Course.{place_of}
use Rattle.writer.specs.declared.state.Writer.{Writer}
use Rattle.writer.specs.declared.state.Laid.{Laid}
use Rattle.writer.specs.declared.state.Laid.TheVariants.{Finished, Unfinished}
use Rattle.writer.specs.State.{laid_of, unfinished}
use Rattle.writer.specs.Block.{count_words, block_words, fixed_words}
use Rattle.writer.specs.Answers.{laid_numbers, Added}
use Rattle.writer.specs.Adding.{add_fault, todo, fitting, adding}
use Rattle.writer.specs.Filling.{piece_of, as_laid}
use Rattle.writer.proofs.Keeps.{add_leaves, add_stays}
use Rattle.writer.proofs.Refusals.{can_add}
use Rattle.writer.proofs.FillLaws.{piece_law}
use Rattle.writer.proofs.Writing.{either}
use Rattle.writer.proofs.BlockLaws.{words_fixed}
use Rattle.writer.proofs.Stays.{fixed_whole, fixed_fits}
use Rattle.writer.specs.declared.state.Part.{Part}

-- ---- one addition
done_or : (b : Bool) → pick b Finished Unfinished ≡ Finished → b ≡ true
unfolding pick
done_or true e = refl
done_or false e = absurd (let z : ◌≡◌ {A = ℕ} 0 1 = cc in let k : ⊥ = omega arith in k)

left_or : (b : Bool) → pick b Finished Unfinished ≡ Unfinished → b ≡ false
unfolding pick
left_or false e = refl
left_or true e = absurd (let z : ◌≡◌ {A = ℕ} 0 1 = cc in let k : ⊥ = omega arith in k)

module _ (w : Writer) (line : List ℕ) (kind : ℕ) (vs : List ℕ) where
  abbrev ws : List ℕ
  ws = todo w kind vs

  abbrev k : ℕ
  k = fitting w (todo w kind vs)

  -- an answer of two numbers is not a refusal
  pub laid_ok : length (laid_numbers (adding w line kind vs).answer) ≡ 2 → add_fault w (length line) kind vs ≡ 0
  laid_ok e =
      ⊎_elim (λ z. z) (λ h. absurd (let a = ap (λ (x : Added). length (laid_numbers x.answer)) (add_stays w line kind vs h) in let f : ⊥ = omega arith in f))
      (either (add_fault w (length line) kind vs))

  pub finished_clear : (adding w line kind vs).answer ≡ Finished → add_fault w (length line) kind vs ≡ 0
  finished_clear e = laid_ok (ap (λ (a : Laid). length (laid_numbers a)) e)

  pub unfinished_clear : (adding w line kind vs).answer ≡ Unfinished → add_fault w (length line) kind vs ≡ 0
  unfinished_clear e = laid_ok (ap (λ (a : Laid). length (laid_numbers a)) e)

  module _ (ok : add_fault w (length line) kind vs ≡ 0) where
    within : payload_at (system_of w.system) + place_of w.place ≤ length line
    within =
        let a = can_add w line kind vs ok in
        omega (arith, a.room, a.end, a.fit.long, a.fit.row.room)

    pub piece_laid : piece_of w line kind vs ≡ take (fitting w (todo w kind vs)) (todo w kind vs)
    unfolding piece_of
    piece_laid =
        ap (λ (x : Added). take (place_of x.state.place - place_of w.place) (drop (payload_at (system_of w.system) + place_of w.place) x.line)) (add_leaves w line kind vs ok)
        ∙ piece_law line ws (payload_at (system_of w.system) + place_of w.place) (place_of w.place) k within (omega arith)

    -- the answer says whether all was laid
    answer_is : (adding w line kind vs).answer ≡ pick (eqb k (length ws)) Finished Unfinished
    answer_is = ap (λ (x : Added). x.answer) (add_leaves w line kind vs ok)

    pub all_laid : (adding w line kind vs).answer ≡ Finished → piece_of w line kind vs ≡ ws
    all_laid e =
        let all = eqb-true k (length ws) (done_or _ (sym answer_is ∙ e)) in
        piece_laid ∙ take_all k ws (omega arith)

    -- unfinished: in a variable line alone, with 1 to n+6 words laid
    pub some_left : (adding w line kind vs).answer ≡ Unfinished → eqb k (length ws) ≡ false
    some_left e = left_or _ (sym answer_is ∙ e)

    pub rest_left : (adding w line kind vs).answer ≡ Unfinished → (adding w line kind vs).state.rest ≡ unfinished kind (length vs) (laid_of w.rest + k)
    rest_left e = ap (λ (x : Added). x.state.rest) (add_leaves w line kind vs ok) ∙ pick_false _ _ (some_left e)

    pub varies : (adding w line kind vs).answer ≡ Unfinished → is_variable w.settings.block ≡ true
    varies e = go (is_variable w.settings.block) refl
      where
        go : (b : Bool) → is_variable w.settings.block ≡ b → is_variable w.settings.block ≡ true
        go true v = v
        go false v = absurd (eqb-false k (length ws) (some_left e) (fixed_fits w line kind vs ok v))

    -- a place of a fixed line is laid in one call
    pub fixed_once : is_variable w.settings.block ≡ false
        → ((adding w line kind vs).answer ≡ Finished) × (piece_of w line kind vs ≡ fixed_words w.mode kind vs)
    fixed_once v =
        let all = fixed_fits w line kind vs ok v in
        let done : (adding w line kind vs).answer ≡ Finished = answer_is ∙ pick_true _ _ (eq-eqb k (length ws) all) in (
          done,
          all_laid done ∙ ap₂ (λ (r : Option Part) (l : List ℕ). drop (laid_of r) l) (fixed_whole w line kind vs ok v) (words_fixed w.settings.block w.mode kind vs v),
        )

-- ---- a block of values from two calls: the j first words are of the first call, the others of the second
head : ℕ → ℕ → List ℕ
head kind n = separator ∷ byte_word kind ∷ count_words n

block_split : (mode kind : ℕ) (a b : List ℕ) (n : ℕ) → length (a ++ b) ≡ n
    → block_words mode kind (a ++ b) ≡ (head kind n ++ map (word_of mode) a) ++ (map (word_of mode) b ++ (end_code ∷ []))
unfolding block_words head
block_split mode kind a b n e =
    let f = word_of mode in
    ap₂ (λ (m : ℕ) (l : List ℕ). head kind m ++ (l ++ (end_code ∷ []))) e (map-append f a b)
    ∙ ap (λ (l : List ℕ). head kind n ++ l) (append_assoc (map f a) (map f b) (end_code ∷ []))
    ∙ sym (append_assoc (head kind n) (map f a) (map f b ++ (end_code ∷ [])))

module _ (mode kind j n : ℕ) (vs us : List ℕ) (short : j ≤ n + 6) (ev : length vs ≡ n) (eu : length us ≡ n) where
  first : List ℕ → List ℕ
  first l = head kind n ++ map (word_of mode) (take (j - 6) l)

  first_long : (l : List ℕ) → length l ≡ n → length (first l) ≡ 6 + (j - 6)
  unfolding first head count_words
  first_long l e = let a = length-map (take (j - 6) l) (word_of mode) in let b = length-take (j - 6) l in omega arith

  pub as_long : length (as_laid j vs us) ≡ n
  as_long =
      let a = length-append (take (j - 6) vs) (drop (j - 6) us) in
      let b = length-take (j - 6) vs in
      let c = length-drop (j - 6) us in
      omega arith

  whole_split : (l : List ℕ) → length l ≡ n → block_words mode kind l ≡ first l ++ (map (word_of mode) (drop (j - 6) l) ++ (end_code ∷ []))
  unfolding first
  whole_split l e =
      let s = take-append-drop (j - 6) l in
      ap (block_words mode kind) (sym s) ∙ block_split mode kind (take (j - 6) l) (drop (j - 6) l) n (ap length s ∙ e)

  as_split : block_words mode kind (as_laid j vs us) ≡ first vs ++ (map (word_of mode) (drop (j - 6) us) ++ (end_code ∷ []))
  unfolding first
  as_split = block_split mode kind (take (j - 6) vs) (drop (j - 6) us) n as_long

  pub as_before : take j (block_words mode kind (as_laid j vs us)) ≡ take j (block_words mode kind vs)
  as_before =
      let le : j ≤ length (first vs) = let l = first_long vs ev in omega arith in
      ap (take j) as_split
      ∙ take-append-le j (first vs) _ le
      ∙ sym (take-append-le j (first vs) _ le)
      ∙ ap (take j) (sym (whole_split vs ev))

  pub as_behind : drop j (block_words mode kind (as_laid j vs us)) ≡ drop j (block_words mode kind us)
  as_behind =
      ⊎_elim (λ h. let z : j - 6 ≡ 0 = omega arith in ap (λ (m : ℕ). drop j (block_words mode kind (take m vs ++ drop m us))) z)
      (λ h.
      let is : 6 + (j - 6) ≡ j = omega arith in
      ap (drop j) as_split
      ∙ drop_at (first vs) _ j (first_long vs ev ∙ is)
      ∙ sym (drop_at (first us) _ j (first_long us eu ∙ is))
      ∙ ap (drop j) (sym (whole_split us eu)))
      (lt_or_le j 6)
