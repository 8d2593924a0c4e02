-- Where a block's words are: a piece laid on the open line stands in that line when it is closed, and its number is then how many were closed before.
-- Assumes nothing.
use Prim.Native.Nat.{ℕ, zero, suc, ◌+◌, ◌-◌, ◌≤◌}
use mathlib.Core.Bool.{true}
use mathlib.Core.List.{List, [], ◌∷◌, ◌++◌, append_assoc}
use mathlib.Core.Logic.{◌⊎◌, inl, inr, ⊎_elim}
use mathlib.Core.Path.{◌≡◌, refl, sym, ap, ◌∙◌, subst}
use native.Mathlib.Omega.{arith}
use lib.ListN.{length, replicate, length-append}
use Rattle.lists.specs.Lists.{part}
use Rattle.lists.proofs.Tests.{true_false}
use Rattle.lists.proofs.Lists.{part_front, part_behind}
use Rattle.line.specs.Systems.{system_of}
use Rattle.line.specs.Layout.{area_length}
use Rattle.course.specs.Course.{is_at}
use Rattle.writer.specs.declared.state.Writer.{Writer}
use Rattle.writer.specs.declared.state.Answer.TheVariants.{Done}
use Rattle.writer.specs.Answers.{Added}
use Rattle.writer.specs.Adding.{add_fault, adding}
use Rattle.writer.specs.Closing.{closing}
use Rattle.writer.specs.Filling.{joined, area_from}
use Rattle.writer.proofs.Keeps.{add_leaves, close_clear}
use Rattle.writer.proofs.Refusals.{can_add, can_close}
use Rattle.demands.specs.All.{All}
use Rattle.demands.specs.Sending.{Call, Piece, Complete, Sent, Desk, start, with, piece_now, complete_now, sent_fresh, blocks_of}
use Rattle.demands.specs.Demand2.{StandsIn, StandsOn, IsPlaced}
use Rattle.demands.proofs.AllLaws.{all_more, all_by, all_append}
use Rattle.demands.proofs.DeskOk.{DeskOk}
use Rattle.demands.proofs.DeskCalls.{moves}
use Rattle.demands.proofs.DeskOpens.{opens_say}
use Rattle.demands.proofs.DeskCloses.{closes_say}
use Rattle.demands.proofs.DeskStart.{start_ok}
use Rattle.demands.proofs.DeskDoes.{Does, is_quiet, is_opened, is_finished, is_unfinished, is_closed}
use Rattle.demands.proofs.DeskLaws.{along}

-- ---- one of some pieces stands among them, joined, and whatever is behind
data Among (ws : List ℕ) : List (List ℕ) → Type 0 where
  first : {ps : List (List ℕ)} → Among ws (ws ∷ ps)
  later : {p : List ℕ} {ps : List (List ℕ)} → Among ws ps → Among ws (p ∷ ps)

record Found (ws a rest : List ℕ) : Type 0 where
  place : ℕ
  within : place + length ws ≤ length a
  there : part place (length ws) (a ++ rest) ≡ ws

found : (ws : List ℕ) (ps : List (List ℕ)) (rest : List ℕ) → Among ws ps → Found ws (joined ps) rest
found ws _ rest (first {ps}) =
    record {
      place = 0;
      within = omega (arith, length-append ws (joined ps));
      there = ap (part 0 (length ws)) (append_assoc ws (joined ps) rest) ∙ part_front ws (joined ps ++ rest) (length ws) refl;
    }
found ws _ rest (later {p} {ps} m) =
    let f = found ws ps rest m in
    record {
      place = length p + f.place;
      within = omega (arith, f.within, length-append p (joined ps));
      there = ap (part (length p + f.place) (length ws)) (append_assoc p (joined ps) rest) ∙ part_behind p (joined ps ++ rest) (length p) f.place (length ws) refl ∙ f.there;
    }

among_more : (ws : List ℕ) (ps : List (List ℕ)) (q : List ℕ) → Among ws ps → Among ws (ps ++ (q ∷ []))
among_more ws _ q (first {ps}) = first
among_more ws _ q (later {p} {ps} m) = later (among_more ws ps q m)

among_last : (ws : List ℕ) (ps : List (List ℕ)) → Among ws (ps ++ (ws ∷ []))
among_last ws [] = first
among_last ws (p ∷ ps) = later (among_last ws ps)

-- ---- lines behind others
on_more : (system : ℕ) (ws : List ℕ) (rs ss : List Sent) (i : ℕ) → StandsOn system ws rs i → StandsOn system ws (rs ++ ss) i
on_more system ws [] ss i h = absurd h
on_more system ws (r ∷ rs) ss zero h = h
on_more system ws (r ∷ rs) ss (suc i) h = on_more system ws rs ss i h

on_last : (system : ℕ) (ws : List ℕ) (rs : List Sent) (s : Sent) → StandsIn system ws s → StandsOn system ws (rs ++ (s ∷ [])) (length rs)
on_last system ws [] s h = h
on_last system ws (r ∷ rs) s h = on_last system ws rs s h

long_more : (rs : List Sent) (s : Sent) → length (rs ++ (s ∷ [])) ≡ suc (length rs)
long_more rs s = omega (arith, length-append rs (s ∷ []))

module _ (system mode : ℕ) where
  -- a piece stands in a line closed before, or was laid on the open line
  OnOpen : Desk → Piece → Type 0
  OnOpen d p = (is_at d.writer.place ≡ true) × ((p.line ≡ d.closed) × Among p.words d.now.pieces)

  Somewhere : List Sent → Desk → Piece → Type 0
  unfolding OnOpen
  Somewhere rs d p = StandsOn system p.words rs p.line ⊎ OnOpen d p

  -- rs: the lines closed so far
  record Standing (rs : List Sent) (d : Desk) : Type 0 where
    many : length rs ≡ d.closed
    owed : All (Somewhere rs d) d.pieces
    finished : is_at d.writer.place ≡ true → All (λ (b : Complete). All (Somewhere rs d) b.pieces) d.now.blocks

  -- every piece that is somewhere on one desk is somewhere on another
  moves_all : (rs rs' : List Sent) (d d' : Desk) → ((p : Piece) → Somewhere rs d p → Somewhere rs' d' p)
      → (bs : List Complete) → All (λ (b : Complete). All (Somewhere rs d) b.pieces) bs → All (λ (b : Complete). All (Somewhere rs' d') b.pieces) bs
  moves_all rs rs' d d' f bs h =
      all_by (λ (b : Complete). All (Somewhere rs d) b.pieces) (λ (b : Complete). All (Somewhere rs' d') b.pieces)
      (λ b. all_by (Somewhere rs d) (Somewhere rs' d') f b.pieces) bs h

  Shown : Desk → List Call → List Sent → Type 0
  Shown d cs ss = (rs : List Sent) → Standing rs d → All (IsPlaced system (rs ++ ss)) (blocks_of ss)

  -- ---- an accepted addition: the piece laid now, and those before
  module _ (d : Desk) (kind : ℕ) (vs : List ℕ) (clear : add_fault d.writer (length d.now.words) kind vs ≡ 0) (d' : Desk)
      (state : d'.writer ≡ (adding d.writer d.now.words kind vs).state) (same : d'.closed ≡ d.closed)
      (pieces : d'.now.pieces ≡ d.now.pieces ++ ((piece_now d kind vs).words ∷ [])) where
    still : is_at d'.writer.place ≡ true
    still = ap (λ (w : Writer). is_at w.place) state ∙ ap (λ (x : Added). is_at x.state.place) (add_leaves d.writer d.now.words kind vs clear)

    before_stays : (rs : List Sent) (p : Piece) → Somewhere rs d p → Somewhere rs d' p
    unfolding Somewhere OnOpen
    before_stays rs p =
        ⊎_elim (λ h. inl h)
        (λ h. inr (still, (h.1.0 ∙ sym same, subst (Among p.words) (sym pieces) (among_more p.words d.now.pieces (piece_now d kind vs).words h.1.1))))

    now_stands : (rs : List Sent) → Somewhere rs d' (piece_now d kind vs)
    unfolding Somewhere OnOpen
    now_stands rs = inr (still, (sym same, subst (Among (piece_now d kind vs).words) (sym pieces) (among_last (piece_now d kind vs).words d.now.pieces)))

    all_now : (rs : List Sent) → All (Somewhere rs d) d.pieces → All (Somewhere rs d') (d.pieces ++ (piece_now d kind vs ∷ []))
    all_now rs h =
        all_more (Somewhere rs d') d.pieces (piece_now d kind vs) (all_by (Somewhere rs d) (Somewhere rs d') (before_stays rs) d.pieces h) (now_stands rs)

  -- ---- closing: what was laid on the open line stands in it
  module _ (d : Desk) (ok : DeskOk system mode d) (done : (closing d.writer d.now.words).answer ≡ Done) where
    abbrev s : Sent
    s = with d.now d.now.pieces d.now.blocks (closing d.writer d.now.words).line

    stands_in : (ws : List ℕ) → Among ws d.now.pieces → StandsIn system ws (with d.now d.now.pieces d.now.blocks (closing d.writer d.now.words).line)
    unfolding area_from
    stands_in ws m =
        let c = closes_say system mode d ok done in
        let n = area_length (system_of system).payload d.now.settings.flag in
        let f = found ws d.now.pieces (replicate (n - length (joined d.now.pieces)) 0x200) m in
        let most = (ok.opened (can_close d.writer d.now.words (close_clear d.writer d.now.words done)).begun).is_open.within in
        record { place = f.place; within = omega (arith, f.within, most); there = ap (part f.place (length ws)) c.accepts.area_back ∙ f.there }

    to_line : (rs : List Sent) → length rs ≡ d.closed → (p : Piece) → Somewhere rs d p → StandsOn system p.words (rs ++ (s ∷ [])) p.line
    unfolding Somewhere OnOpen
    to_line rs many p =
        ⊎_elim (λ h. on_more system p.words rs (s ∷ []) p.line h)
        (λ h. subst (StandsOn system p.words (rs ++ (s ∷ []))) (many ∙ sym h.1.0) (on_last system p.words rs s (stands_in p.words h.1.1)))

  -- ---- each kind of call
  placed_by : (d : Desk) (c : Call) (d' : Desk) (ts : List Sent) → Does true d c d' ts → DeskOk system mode d → DeskOk system mode d' → (cs : List Call) (ss : List Sent)
      → Shown d' cs ss → Shown d (c ∷ cs) (ts ++ ss)
  unfolding Shown Somewhere OnOpen
  placed_by d c _ _ (is_quiet w qs ws q) dk k cs ss more rs h =
      let f : (p : Piece) → Somewhere rs d p → Somewhere rs (moves d w qs ws) p =
      λ p. ⊎_elim (λ l. inl l) (λ r. inr (ap is_at q.place ∙ r.0, r.1)) in
      more rs
      (record {
        many = h.many;
        owed = all_by (Somewhere rs d) (Somewhere rs (moves d w qs ws)) f d.pieces h.owed;
        finished = λ at. moves_all rs rs d (moves d w qs ws) f d.now.blocks (h.finished (sym (ap is_at q.place) ∙ at));
      })
  placed_by d _ _ _ (is_opened f v n t held lent e) dk k cs ss more rs h =
      let shut = ap is_at (opens_say system mode d f v n t lent dk e).was_shut in
      more rs
      (record {
        many = h.many;
        owed = all_by (Somewhere rs d) _ (λ p. ⊎_elim (λ l. inl l) (λ r. absurd (true_false (sym r.0 ∙ shut)))) d.pieces h.owed;
        finished = λ at. tt;
      })
  placed_by d _ d' _ (is_finished kind vs clear e) dk k cs ss more rs h =
      let was = (can_add d.writer d.now.words kind vs clear).begun in
      more rs
      (record {
        many = h.many;
        owed = tt;
        finished = λ at.
            all_more (λ (b : Complete). All (Somewhere rs d') b.pieces) d.now.blocks (complete_now d kind vs)
            (moves_all rs rs d d' (before_stays d kind vs clear d' refl refl refl rs) d.now.blocks (h.finished was))
            (all_now d kind vs clear d' refl refl refl rs h.owed);
      })
  placed_by d _ d' _ (is_unfinished kind vs clear e) dk k cs ss more rs h =
      let was = (can_add d.writer d.now.words kind vs clear).begun in
      more rs
      (record {
        many = h.many;
        owed = all_now d kind vs clear d' refl refl refl rs h.owed;
        finished = λ at. moves_all rs rs d d' (before_stays d kind vs clear d' refl refl refl rs) d.now.blocks (h.finished was);
      })
  placed_by d _ d' _ (is_closed e) dk k cs ss more rs h =
      let s = with d.now d.now.pieces d.now.blocks (closing d.writer d.now.words).line in
      let at = (can_close d.writer d.now.words (close_clear d.writer d.now.words e)).begun in
      let shut = ap is_at (closes_say system mode d dk e).state_place in
      let to = to_line d dk e rs h.many in
      let joins = append_assoc rs (s ∷ []) ss in
      let here : All (IsPlaced system (rs ++ (s ∷ []))) d.now.blocks =
      all_by (λ (b : Complete). All (Somewhere rs d) b.pieces) (IsPlaced system (rs ++ (s ∷ [])))
      (λ b. all_by (Somewhere rs d) (λ (p : Piece). StandsOn system p.words (rs ++ (s ∷ [])) p.line) to b.pieces) d.now.blocks (h.finished at) in
      let behind = more (rs ++ (s ∷ []))
      (record {
        many = long_more rs s ∙ ap suc h.many;
        owed = all_by (Somewhere rs d) _ (λ p x. inl (to p x)) d.pieces h.owed;
        finished = λ z. absurd (true_false (sym z ∙ shut));
      }) in
      subst (λ (l : List Sent). All (IsPlaced system l) (blocks_of (s ∷ ss))) joins
      (all_append (IsPlaced system ((rs ++ (s ∷ [])) ++ ss)) d.now.blocks (blocks_of ss)
      (all_by (IsPlaced system (rs ++ (s ∷ []))) (IsPlaced system ((rs ++ (s ∷ [])) ++ ss))
      (λ b. all_by (λ (p : Piece). StandsOn system p.words (rs ++ (s ∷ [])) p.line) (λ (p : Piece). StandsOn system p.words ((rs ++ (s ∷ [])) ++ ss) p.line)
      (λ p. on_more system p.words (rs ++ (s ∷ [])) ss p.line) b.pieces) d.now.blocks here)
      behind)

  pub placed_fresh : (cs : List Call) → All (IsPlaced system (sent_fresh system mode cs)) (blocks_of (sent_fresh system mode cs))
  unfolding Shown
  placed_fresh cs =
      along system mode true Shown (λ d rs h. tt) placed_by cs (start system mode) (start_ok system mode) []
      (record { many = refl; owed = tt; finished = λ at. tt })
