-- What an accepted addition says of the desk: in a variable line some words more of a block, in a fixed line a whole place.
-- Assumes nothing.
use Rattle.std.specs.Prelude.{Option, Some, None}
use mathlib.Core.Path.{◌≡◌, refl, sym, ap, ap₂, ◌∙◌}
use mathlib.Core.Bool.{Bool, true, false, ◌&&◌, ◌||◌, not}
use mathlib.Core.List.{List, [], ◌∷◌, ◌++◌, append-nil}
use Prim.Native.Nat.{ℕ, ◌+◌, ◌-◌, ◌≤◌, min}
use native.Mathlib.Omega.{arith}
use lib.Dec.{ltb, eqb}
use lib.ListN.{length, take, drop, length-take, length-drop}
use lib.Seq.{take_all, take-add}
use borrow.Author.Tests.{eqb-true, eqb-false, not-false}
use Rattle.lists.proofs.Tests.{or_false, both_true}
use Rattle.lists.proofs.Lists.{each_append, each_take, each_drop}
use Rattle.words.specs.Modes.{values}
use Rattle.line.specs.declared.settings.Settings.{Settings}
use Rattle.line.specs.Fixed.{is_variable, size_of}
use Rattle.course.specs.Course.{is_at}
use Rattle.writer.specs.declared.state.Laid.TheVariants.{Finished, Unfinished}
use Rattle.writer.specs.State.{most, laid_of}
use Rattle.writer.specs.Block.{block_words, fixed_words, words_in}
use Rattle.writer.specs.Adding.{valued, ill_shaped, is_other, add_fault, todo, fitting, adding}
use Rattle.writer.specs.Filling.{piece_of, as_laid}
use Rattle.writer.proofs.BlockLaws.{words_variable, words_fixed, block_long, count, count_variable, words_long}
use Rattle.writer.proofs.Refusals.{CanAdd, can_add}
use Rattle.writer.proofs.Stays.{part_laid, fixed_whole}
use Rattle.writer.proofs.Pieces.{piece_laid, all_laid, some_left, fixed_once, as_long, as_before, as_behind}
use Rattle.demands.specs.Sending.{Desk, values_now, piece_now, joined_pieces}
use Rattle.demands.proofs.DeskOk.{OpenNow, Owes, DeskOk}
use Rattle.demands.proofs.Outcomes.{Varies, Fills, Adds}
use Rattle.demands.proofs.DeskCalls.{joined_pieces_append}
use Rattle.writer.specs.declared.state.Part.{Part}

-- ---- the values as laid, j words before and the others now, against those lent now
pub record Lent (mode kind j : ℕ) (laid values vs : List ℕ) : Type 0 where
  pub long : length (as_laid j values vs) ≡ length vs
  pub fits : valued mode (as_laid j values vs) ≡ true
  pub before : laid ≡ take j (block_words mode kind (as_laid j values vs))
  pub behind : drop j (block_words mode kind (as_laid j values vs)) ≡ drop j (block_words mode kind vs)

lent_fits : (mode i : ℕ) (us vs : List ℕ) → valued mode us ≡ true → valued mode vs ≡ true → valued mode (take i us ++ drop i vs) ≡ true
unfolding valued
lent_fits mode i us vs eu ev =
    let f : ℕ → Bool = λ (x : ℕ). ltb x (values mode) in
    each_append f (take i us) (drop i vs) (each_take f i us eu) (each_drop f i vs ev)

lent_by : (mode : ℕ) (d : Desk) (kind : ℕ) (vs : List ℕ) (r : Option Part) → Owes mode d → valued mode vs ≡ true → d.writer.rest ≡ r
    → is_other r kind (length vs) ≡ false → Lent mode kind (laid_of r) (joined_pieces d.pieces) d.values vs
lent_by mode d kind vs None ow fit e same = record { long = refl; fits = fit; before = ap joined_pieces (ow.none_owing e); behind = refl }
lent_by mode d kind vs (Some p) ow fit e same =
    let o = ow.owing p.kind p.count p.laid e in
    let b = both_true (eqb p.kind kind) (eqb p.count (length vs)) (not-false _ same) in
    let is : p.count ≡ length vs = eqb-true p.count (length vs) b.1 in
    let ev : length d.values ≡ length vs = o.long ∙ is in
    let short : p.laid ≤ length vs + 6 = omega (arith, o.short, is) in
    record {
      long = as_long mode kind p.laid (length vs) d.values vs short ev refl;
      fits = lent_fits mode (p.laid - 6) d.values vs o.values_fit fit;
      before =
          o.words ∙ ap (λ (m : ℕ). take p.laid (block_words mode m d.values)) (eqb-true p.kind kind b.0)
          ∙ sym (as_before mode kind p.laid (length vs) d.values vs short ev refl);
      behind = as_behind mode kind p.laid (length vs) d.values vs short ev refl;
    }

-- ---- 18 in a fixed line
shape_fixed : (p : Option ℕ) (block kind n : ℕ) → is_at p ≡ true → is_variable block ≡ false → ill_shaped p block kind n ≡ false
    → (n + 1 ≡ size_of block) × (1 ≤ kind)
unfolding ill_shaped
shape_fixed p block kind n o v e =
    let a = (or_false (ltb 255 kind) _ (or_false (ltb most n) _ e).1).1 in
    let b : (not (eqb (n + 1) (size_of block)) || eqb kind 0) ≡ false =
    sym (ap₂ (λ (x y : Bool). (x && not y) && (not (eqb (n + 1) (size_of block)) || eqb kind 0)) o v) ∙ a in
    let c = or_false (not (eqb (n + 1) (size_of block))) (eqb kind 0) b in
    (eqb-true _ _ (not-false _ c.0), omega (arith, eqb-false kind 0 c.1))

-- ---- from any state, and whatever words the line has
module _ (mode : ℕ) (d : Desk) (kind : ℕ) (vs : List ℕ) (ow : Owes mode d)
    (clear : add_fault d.writer (length d.now.words) kind vs ≡ 0) where
  -- how many words are laid now
  abbrev k : ℕ
  k = fitting d.writer (todo d.writer kind vs)

  pub finds : CanAdd d.writer d.now.words kind vs
  finds = can_add d.writer d.now.words kind vs clear

  now_fits : valued mode vs ≡ true
  now_fits = ap (λ (m : ℕ). valued m vs) (sym ow.of_mode) ∙ finds.values

  pub lent_now : Lent mode kind (laid_of d.writer.rest) (joined_pieces d.pieces) d.values vs
  lent_now = lent_by mode d kind vs d.writer.rest ow now_fits refl finds.same

  todo_long : length (todo d.writer kind vs) ≡ count d.writer.settings.block (length vs) - laid_of d.writer.rest
  todo_long =
      length-drop (laid_of d.writer.rest) (words_in d.writer.settings.block d.writer.mode kind vs)
      ∙ ap (λ (x : ℕ). x - laid_of d.writer.rest) (words_long d.writer.settings.block d.writer.mode kind vs)

  some_laid : 1 ≤ fitting d.writer (todo d.writer kind vs)
  some_laid = omega (arith, todo_long, finds.room, finds.left)

  -- finished: all that was left
  pub all_now : (adding d.writer d.now.words kind vs).answer ≡ Finished → fitting d.writer (todo d.writer kind vs) ≡ length (todo d.writer kind vs)
  all_now e =
      let ws = todo d.writer kind vs in
      let same = ap length (sym (piece_laid d.writer d.now.words kind vs clear) ∙ all_laid d.writer d.now.words kind vs clear e) in
      omega (arith, same, length-take (fitting d.writer ws) ws)

  -- ---- a variable line
  module _ (v : is_variable d.writer.settings.block ≡ true) where
    variable_words : (us : List ℕ) → words_in d.writer.settings.block d.writer.mode kind us ≡ block_words mode kind us
    variable_words us = words_variable d.writer.settings.block d.writer.mode kind us v ∙ ap (λ (m : ℕ). block_words m kind us) ow.of_mode

    pub piece_now_lem : piece_of d.writer d.now.words kind vs ≡ take k (drop (laid_of d.writer.rest) (block_words mode kind (values_now d vs)))
    piece_now_lem =
        piece_laid d.writer d.now.words kind vs clear ∙ ap (take k) (ap (drop (laid_of d.writer.rest)) (variable_words vs) ∙ sym lent_now.behind)

    -- all that is laid of the block
    pub words_now : joined_pieces (d.pieces ++ (piece_now d kind vs ∷ [])) ≡ take (laid_of d.writer.rest + k) (block_words mode kind (values_now d vs))
    words_now =
        joined_pieces_append d.pieces (piece_now d kind vs ∷ [])
        ∙ ap₂ ◌++◌ lent_now.before (append-nil (piece_of d.writer d.now.words kind vs) ∙ piece_now_lem)
        ∙ sym (take-add (laid_of d.writer.rest) k (block_words mode kind (values_now d vs)))

    ends_now : (adding d.writer d.now.words kind vs).answer ≡ Finished → laid_of d.writer.rest + k ≡ length (values_now d vs) + 7
    ends_now e = omega (arith, all_now e, todo_long, finds.left, count_variable d.writer.settings.block (length vs) v, lent_now.long)

    pub goes_now : (adding d.writer d.now.words kind vs).answer ≡ Unfinished
        → (1 ≤ laid_of d.writer.rest + k) × (laid_of d.writer.rest + k ≤ length vs + 6)
    goes_now e = part_laid d.writer d.now.words kind vs clear v (eqb-false _ _ (some_left d.writer d.now.words kind vs clear e))

    whole_variable : (adding d.writer d.now.words kind vs).answer ≡ Finished
        → joined_pieces (d.pieces ++ (piece_now d kind vs ∷ [])) ≡ words_in d.writer.settings.block mode kind (values_now d vs)
    whole_variable e =
        let us = values_now d vs in
        words_now ∙ take_all (laid_of d.writer.rest + k) (block_words mode kind us) (omega (arith, ends_now e, block_long mode kind us))
        ∙ sym (words_variable d.writer.settings.block mode kind us v)

  -- ---- a fixed line
  module _ (v : is_variable d.writer.settings.block ≡ false) where
    none_laid : d.writer.rest ≡ None
    none_laid = fixed_whole d.writer d.now.words kind vs clear v

    pub none_before : d.pieces ≡ []
    none_before = ow.none_owing none_laid

    pub values_are : values_now d vs ≡ vs
    values_are = ap (λ (r : Option Part). as_laid (laid_of r) d.values vs) none_laid

    pub piece_fixed : piece_of d.writer d.now.words kind vs ≡ fixed_words mode kind vs
    piece_fixed = (fixed_once d.writer d.now.words kind vs clear v).1 ∙ ap (λ (m : ℕ). fixed_words m kind vs) ow.of_mode

    whole_fixed : joined_pieces (d.pieces ++ (piece_now d kind vs ∷ [])) ≡ words_in d.writer.settings.block mode kind (values_now d vs)
    whole_fixed =
        joined_pieces_append d.pieces (piece_now d kind vs ∷ [])
        ∙ ap₂ ◌++◌ (ap joined_pieces none_before) (append-nil (piece_of d.writer d.now.words kind vs) ∙ piece_fixed)
        ∙ ap (fixed_words mode kind) (sym values_are)
        ∙ sym (words_fixed d.writer.settings.block mode kind (values_now d vs) v)

  -- ---- either
  pub piece_some : 1 ≤ length (piece_of d.writer d.now.words kind vs)
  piece_some =
      let ws = todo d.writer kind vs in
      let long : length (piece_of d.writer d.now.words kind vs) ≡ min k (length ws) =
      ap length (piece_laid d.writer d.now.words kind vs clear) ∙ length-take k ws in
      omega (arith, long, some_laid)

  -- a finished block: its pieces, joined, are its words
  pub whole_now : (adding d.writer d.now.words kind vs).answer ≡ Finished
      → joined_pieces (d.pieces ++ (piece_now d kind vs ∷ [])) ≡ words_in d.writer.settings.block mode kind (values_now d vs)
  whole_now e = by (is_variable d.writer.settings.block) refl
    where
      by : (b : Bool) → is_variable d.writer.settings.block ≡ b
          → joined_pieces (d.pieces ++ (piece_now d kind vs ∷ [])) ≡ words_in d.writer.settings.block mode kind (values_now d vs)
      by true v = whole_variable v e
      by false v = whole_fixed v

-- ---- on a line as the calls before left it
module _ (system mode : ℕ) (d : Desk) (kind : ℕ) (vs : List ℕ) (ok : DeskOk system mode d)
    (clear : add_fault d.writer (length d.now.words) kind vs ≡ 0) where
  can : CanAdd d.writer d.now.words kind vs
  can = finds mode d kind vs ok.owes clear

  pub now_open : OpenNow system mode d
  now_open = ok.opened can.begun

  now_block : d.writer.settings.block ≡ d.now.settings.block
  now_block = ap (λ (u : Settings). u.block) now_open.is_open.of_settings

  now_varies : is_variable d.writer.settings.block ≡ true → Varies mode d kind vs
  now_varies v =
      let lent = lent_now mode d kind vs ok.owes clear in
      record {
        small = omega (arith, can.byte);
        at_most = omega (arith, lent.long, can.number);
        length_is = lent.long;
        values_fit = lent.fits;
        k = fitting d.writer (todo d.writer kind vs);
        some = some_laid mode d kind vs ok.owes clear;
        before = lent.before;
        piece = piece_now_lem mode d kind vs ok.owes clear v;
        ends = ends_now mode d kind vs ok.owes clear v;
        goes_on = λ e. omega (arith, (goes_now mode d kind vs ok.owes clear v e).1, lent.long);
      }

  now_fills : is_variable d.writer.settings.block ≡ false → Fills mode d kind vs
  now_fills v =
      let shape = shape_fixed d.writer.place d.writer.settings.block kind (length vs) can.begun v can.shape in
      record {
        finished = (fixed_once d.writer d.now.words kind vs clear v).0;
        small = omega (arith, can.byte);
        some = shape.1;
        values_fit = now_fits mode d kind vs ok.owes clear;
        values_are = values_are mode d kind vs ok.owes clear v;
        long = shape.0 ∙ ap size_of now_block;
        none_before = none_before mode d kind vs ok.owes clear v;
        piece = piece_fixed mode d kind vs ok.owes clear v;
      }

  pub adds_say : Adds mode d kind vs
  adds_say = record {
    begun = can.begun;
    number = can.number;
    some = piece_some mode d kind vs ok.owes clear;
    varies = λ v. now_varies (ap is_variable now_block ∙ v);
    fills = λ v. now_fills (ap is_variable now_block ∙ v);
    whole = λ e. whole_now mode d kind vs ok.owes clear e ∙ ap (λ (b : ℕ). words_in b mode kind (values_now d vs)) now_block;
  }
