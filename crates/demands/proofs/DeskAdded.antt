-- The desk after an accepted addition holds what it held.
-- Assumes nothing.
use Rattle.std.specs.Prelude.{Option, Some, None}
use mathlib.Core.Path.{◌≡◌, refl, sym, ap, ◌∙◌, subst}
use mathlib.Core.Bool.{false}
use mathlib.Core.List.{List, [], ◌∷◌, ◌++◌, append-nil}
use Prim.Native.Nat.{ℕ, ◌+◌}
use lib.ListN.{length}
use borrow.Author.Tests.{eq-eqb}
use Rattle.lists.proofs.Tests.{true_false, pick_true}
use Rattle.line.specs.Fixed.{is_variable, size_of}
use Rattle.writer.specs.declared.state.Laid.TheVariants.{Finished, Unfinished}
use Rattle.writer.specs.State.{is_part, laid_of, unfinished}
use Rattle.writer.specs.Answers.{Added}
use Rattle.writer.specs.Adding.{add_fault, todo, fitting, lay, adding}
use Rattle.packets.specs.Packet.{packed}
use Rattle.writer.specs.Filling.{piece_of, joined}
use Rattle.writer.proofs.BlockLaws.{fixed_long}
use Rattle.writer.proofs.Keeps.{add_leaves}
use Rattle.writer.proofs.Stays.{add_possible}
use Rattle.writer.proofs.Pieces.{rest_left, varies}
use Rattle.writer.proofs.Writing.{Open, laid_on}
use Rattle.demands.specs.Sending.{Piece, Complete, Desk, values_now, piece_now, added_by}
use Rattle.demands.proofs.AllLaws.{all_more}
use Rattle.demands.proofs.DeskOk.{OpenNow, Owing, Owes, DeskOk}
use Rattle.demands.proofs.DeskCalls.{joined_append, laid_desk}
use Rattle.demands.proofs.DeskAdds.{now_open, lent_now, all_now, words_now, goes_now, adds_say}
use Rattle.writer.specs.declared.state.Part.{Part}

-- ---- an unfinished block is one: its type, how many values it has, and how many words are laid
abbrev kind_of : Option Part → ℕ
kind_of None = 0
kind_of (Some p) = p.kind

abbrev values_of : Option Part → ℕ
values_of None = 0
values_of (Some p) = p.count

-- ---- what is owed, from any state and whatever words the line has
module _ (mode : ℕ) (d : Desk) (kind : ℕ) (vs : List ℕ) (ow : Owes mode d) (clear : add_fault d.writer (length d.now.words) kind vs ≡ 0) where
  abbrev k : ℕ
  k = fitting d.writer (todo d.writer kind vs)

  pub leaves : adding d.writer d.now.words kind vs ≡ lay d.writer d.now.words kind vs
  leaves = add_leaves d.writer d.now.words kind vs clear

  mode_stays : (adding d.writer d.now.words kind vs).state.mode ≡ mode
  mode_stays = ap (λ (y : Added). y.state.mode) leaves ∙ ow.of_mode

  -- finished: no block is left
  pub rest_whole : (adding d.writer d.now.words kind vs).answer ≡ Finished → (adding d.writer d.now.words kind vs).state.rest ≡ None
  rest_whole e = ap (λ (y : Added). y.state.rest) leaves ∙ pick_true _ _ (eq-eqb _ _ (all_now mode d kind vs ow clear e))

  pub finished_owes : (adding d.writer d.now.words kind vs).answer ≡ Finished
      → Owes mode (added_by Finished (adding d.writer d.now.words kind vs) d kind vs)
  finished_owes e =
      record { of_mode = mode_stays; none_owing = λ r. refl; owing = λ c n j r. absurd (true_false (sym (ap is_part r) ∙ ap is_part (rest_whole e))) }

  -- unfinished: what is laid now is the unfinished block
  owing_now : (adding d.writer d.now.words kind vs).answer ≡ Unfinished
      → Owing mode (added_by Unfinished (adding d.writer d.now.words kind vs) d kind vs) kind (length vs) (laid_of d.writer.rest + k)
  owing_now e =
      let v = varies d.writer d.now.words kind vs clear e in
      let lent = lent_now mode d kind vs ow clear in
      let range = goes_now mode d kind vs ow clear v e in
      record {
        variable = ap (λ (y : Added). is_variable y.state.settings.block) leaves ∙ v;
        long = lent.long;
        values_fit = lent.fits;
        some = range.0;
        short = range.1;
        words = words_now mode d kind vs ow clear v;
      }

  owing_as : (adding d.writer d.now.words kind vs).answer ≡ Unfinished → (c n j : ℕ)
      → (adding d.writer d.now.words kind vs).state.rest ≡ unfinished c n j
      → Owing mode (added_by Unfinished (adding d.writer d.now.words kind vs) d kind vs) c n j
  owing_as e c n j r =
      let desk = added_by Unfinished (adding d.writer d.now.words kind vs) d kind vs in
      let same : unfinished kind (length vs) (laid_of d.writer.rest + k) ≡ unfinished c n j = sym (rest_left d.writer d.now.words kind vs clear e) ∙ r in
      subst (λ (i : ℕ). Owing mode desk c n i) (ap laid_of same)
      (subst (λ (m : ℕ). Owing mode desk c m (laid_of d.writer.rest + k)) (ap values_of same)
      (subst (λ (h : ℕ). Owing mode desk h (length vs) (laid_of d.writer.rest + k)) (ap kind_of same) (owing_now e)))

  pub unfinished_owes : (adding d.writer d.now.words kind vs).answer ≡ Unfinished
      → Owes mode (added_by Unfinished (adding d.writer d.now.words kind vs) d kind vs)
  unfinished_owes e =
      record {
        of_mode = mode_stays;
        none_owing = λ r. absurd (true_false (sym (ap is_part (rest_left d.writer d.now.words kind vs clear e)) ∙ ap is_part r));
        owing = owing_as e;
      }

-- ---- the line
module _ (system mode : ℕ) (d : Desk) (kind : ℕ) (vs : List ℕ) (ok : DeskOk system mode d)
    (clear : add_fault d.writer (length d.now.words) kind vs ≡ 0) where
  abbrev x : Added
  x = adding d.writer d.now.words kind vs

  -- the line is open still, with one piece more
  line_now : Open system mode d.now.f d.now.v d.now.number d.now.settings (packed d.now.packets) (joined (d.now.pieces ++ (piece_of d.writer d.now.words kind vs ∷ [])))
      x.state x.line
  line_now =
      let o = now_open system mode d kind vs ok clear in
      let p = piece_of d.writer d.now.words kind vs in
      let more : joined (d.now.pieces ++ (p ∷ [])) ≡ joined d.now.pieces ++ p =
      joined_append d.now.pieces (p ∷ []) ∙ ap (λ (l : List ℕ). joined d.now.pieces ++ l) (append-nil p) in
      subst (λ (l : List ℕ). Open system mode d.now.f d.now.v d.now.number d.now.settings (packed d.now.packets) l x.state x.line) (sym more)
      (laid_on system mode d.now.f d.now.v d.now.number d.now.settings o.openable.held o.openable.known o.openable.row o.openable.clean (packed d.now.packets) (joined d.now.pieces) d.writer
      d.now.words o.is_open kind vs clear)

  piece_long : is_variable d.now.settings.block ≡ false → length (piece_of d.writer d.now.words kind vs) ≡ size_of d.now.settings.block
  piece_long v =
      let fills = (adds_say system mode d kind vs ok clear).fills v in
      ap length fills.piece ∙ fixed_long mode kind vs ∙ fills.long

  open_after : (bs : List Complete) (us : List ℕ) (ps : List Piece) → OpenNow system mode (laid_desk d kind vs bs us ps)
  open_after bs us ps =
      let o = now_open system mode d kind vs ok clear in
      record {
        is_open = line_now;
        openable = o.openable;
        sound = o.sound;
        last_is = ap (λ (y : Added). y.state.last) (leaves mode d kind vs ok.owes clear) ∙ o.last_is;
        placed = λ v.
            all_more (λ (l : List ℕ). length l ≡ size_of d.now.settings.block) d.now.pieces (piece_of d.writer d.now.words kind vs) (o.placed v) (piece_long v);
      }

  laid_ok : (bs : List Complete) (us : List ℕ) (ps : List Piece) → Owes mode (laid_desk d kind vs bs us ps) → DeskOk system mode (laid_desk d kind vs bs us ps)
  laid_ok bs us ps ow =
      record {
        of_system = ap (λ (y : Added). y.state.system) (leaves mode d kind vs ok.owes clear) ∙ ok.of_system;
        possible = add_possible d.writer d.now.words kind vs ok.possible;
        opened = λ at. open_after bs us ps;
        owes = ow;
      }

  pub finished_ok : (adding d.writer d.now.words kind vs).answer ≡ Finished
      → DeskOk system mode (added_by Finished (adding d.writer d.now.words kind vs) d kind vs)
  finished_ok e = laid_ok _ [] [] (finished_owes mode d kind vs ok.owes clear e)

  pub unfinished_ok : (adding d.writer d.now.words kind vs).answer ≡ Unfinished
      → DeskOk system mode (added_by Unfinished (adding d.writer d.now.words kind vs) d kind vs)
  unfinished_ok e = laid_ok d.now.blocks (values_now d vs) (d.pieces ++ (piece_now d kind vs ∷ [])) (unfinished_owes mode d kind vs ok.owes clear e)
