-- An addition on an open line: what the ear hears of the line grows by the block that it finishes, if all of that block was kept.
-- Assumes nothing.
use Rattle.std.specs.Prelude.{None, Option, Some}
use Prim.Native.Nat.{ℕ, suc, ◌≤◌}
use mathlib.Core.Bool.{Bool, true, false}
use mathlib.Core.List.{List, [], ◌∷◌, ◌++◌, append-nil}
use mathlib.Core.Path.{◌≡◌, refl, sym, ap, ap₂, ◌∙◌, subst}
use native.Mathlib.Omega.{arith}
use lib.ListN.{length, length-map}
use Rattle.lists.specs.Tests.{pick}
use Rattle.lists.proofs.Tests.{true_false, pick_true}
use Rattle.course.specs.Course.{is_at}
use Rattle.words.specs.Modes.{word_of}
use Rattle.writer.specs.declared.state.Laid.TheVariants.{Finished, Unfinished}
use Rattle.writer.specs.State.{most, is_part, laid_of}
use Rattle.writer.specs.Answers.{Added}
use Rattle.writer.specs.Adding.{add_fault, adding}
use Rattle.writer.specs.Block.{fixed_words}
use Rattle.writer.specs.Filling.{joined, piece_of}
use Rattle.writer.proofs.Keeps.{add_leaves}
use Rattle.demands.specs.Sending.{Block, Piece, Complete, Desk, values_now, piece_now, complete_now, added_by}
use Rattle.demands.specs.Hearing.{Heard, is_block}
use Rattle.demands.specs.Damage.{all_on, survivors}
use Rattle.demands.proofs.Run.{Now, run_to, run_out, place_out, places_to}
use Rattle.demands.proofs.RunLaws.{run_to_append, run_out_append, run_room}
use Rattle.demands.proofs.BlockRun.{Shaped}
use Rattle.demands.proofs.PlaceRun.{place_given, place_room_lem, places_out_append, places_to_append}
use Rattle.demands.proofs.Ear.{Ear, start_now}
use Rattle.demands.proofs.DeskOk.{DeskOk}
use Rattle.demands.proofs.Outcomes.{Varies, Fills, Adds}
use Rattle.demands.proofs.DeskCalls.{joined_append, laid_desk}
use Rattle.demands.proofs.DeskAdds.{adds_say}
use Rattle.demands.proofs.DeskAdded.{rest_whole}
use Rattle.demands.proofs.Ahead.{blocks_heard, Matches, ByWords, ByPlaces, Inside, Ahead}
use Rattle.demands.proofs.StartLine.{matches_idle}
use Rattle.demands.proofs.PieceRun.{all_one, all_lost, piece_ends, idle_again, piece_silent, matches_on}
use Rattle.writer.specs.declared.state.Part.{Part}

-- ---- lists
over : (b : Bool) (z : Block) (l k : List Block) → pick b (z ∷ (l ++ k)) (l ++ k) ≡ pick b (z ∷ l) l ++ k
unfolding pick
over true z l k = refl
over false z l k = refl

pub survivors_append : (keeps : ℕ → Bool) (xs ys : List Complete) → survivors keeps (xs ++ ys) ≡ survivors keeps xs ++ survivors keeps ys
survivors_append keeps [] ys = refl
survivors_append keeps (x ∷ xs) ys =
    ap (λ (l : List Block). pick (all_on keeps x.pieces) (x.block ∷ l) l) (survivors_append keeps xs ys)
    ∙ over (all_on keeps x.pieces) x.block (survivors keeps xs) (survivors keeps ys)

pub heard_append : (xs ys : List Block) → blocks_heard (xs ++ ys) ≡ blocks_heard xs ++ blocks_heard ys
heard_append [] ys = refl
heard_append (x ∷ xs) ys = ap (λ (l : List Heard). is_block x ∷ l) (heard_append xs ys)

joined_one : (ps : List (List ℕ)) (p : List ℕ) → joined (ps ++ (p ∷ [])) ≡ joined ps ++ p
joined_one ps p = joined_append ps (p ∷ []) ∙ ap (λ (l : List ℕ). joined ps ++ l) (append-nil p)

one_more : (keeps : ℕ → Bool) (bs : List Complete) (b : Complete)
    → blocks_heard (survivors keeps (bs ++ (b ∷ []))) ≡ blocks_heard (survivors keeps bs) ++ blocks_heard (pick (all_on keeps b.pieces) (b.block ∷ []) [])
one_more keeps bs b = ap blocks_heard (survivors_append keeps bs (b ∷ [])) ∙ heard_append (survivors keeps bs) (survivors keeps (b ∷ []))

-- ---- an addition that was not refused
-- the line is open still
still_open : (d : Desk) (kind : ℕ) (vs : List ℕ) → add_fault d.writer (length d.now.words) kind vs ≡ 0 → (adding d.writer d.now.words kind vs).state.place ≡ None → ⊥
still_open d kind vs ok e = true_false (ap is_at (sym (ap (λ (y : Added). y.state.place) (add_leaves d.writer d.now.words kind vs ok)) ∙ e))

module _ (system mode cap : ℕ) (keeps : ℕ → Bool) (told gone : Bool) (d : Desk) (ear : Ear) (kind : ℕ) (vs : List ℕ)
    (dk : DeskOk system mode d) (clear : add_fault d.writer (length d.now.words) kind vs ≡ 0) (room_for : length vs ≤ most → length vs ≤ cap)
    (a : Ahead system mode cap keeps told gone d ear) where
  abbrev piece : List ℕ
  piece = piece_of d.writer d.now.words kind vs

  says : Adds mode d kind vs
  says = adds_say system mode d kind vs dk clear

  fit : length vs ≤ cap
  fit = room_for says.number

  -- where something was lost of it, something was laid of it
  was_begun : all_on keeps d.pieces ≡ false → 1 ≤ laid_of d.writer.rest
  was_begun e = by d.writer.rest refl
    where
      by : (r : Option Part) → d.writer.rest ≡ r → 1 ≤ laid_of d.writer.rest
      by None h = absurd (true_false (sym (ap (all_on keeps) (dk.owes.none_owing h)) ∙ e))
      by (Some p) h = subst (λ (i : ℕ). 1 ≤ i) (sym (ap laid_of h)) (dk.owes.owing p.kind p.count p.laid h).some

  module _ (q : Now) (y : Varies mode d kind vs) (w : ByWords mode cap keeps d q) where
    shaped : Shaped mode kind (values_now d vs)
    shaped = record { small = y.small; at_most = y.at_most; values_fit = y.values_fit }

    fit_now : length (values_now d vs) ≤ cap
    fit_now = omega (arith, y.length_is, fit)

    mid : Now
    mid = run_to mode q (joined d.now.pieces)

    run_out_lem : run_out mode q (joined (d.now.pieces ++ (piece ∷ []))) ≡ blocks_heard (survivors keeps d.now.blocks) ++ run_out mode mid piece
    unfolding mid
    run_out_lem =
        ap (run_out mode q) (joined_one d.now.pieces piece)
        ∙ run_out_append mode q (joined d.now.pieces) piece
        ∙ ap (λ (l : List Heard). l ++ run_out mode (run_to mode q (joined d.now.pieces)) piece) w.heard

    run_to_lem : run_to mode q (joined (d.now.pieces ++ (piece ∷ []))) ≡ run_to mode mid piece
    unfolding mid
    run_to_lem = ap (run_to mode q) (joined_one d.now.pieces piece) ∙ run_to_append mode q (joined d.now.pieces) piece

    words_end : keeps d.closed ≡ true → (adding d.writer d.now.words kind vs).answer ≡ Finished
        → ByWords mode cap keeps (added_by Finished (adding d.writer d.now.words kind vs) d kind vs) q
    unfolding mid
    words_end k e =
        let out = piece_ends mode cap kind (values_now d vs) shaped fit_now keeps d.pieces mid w.matches (laid_of d.writer.rest) y.k y.before piece y.piece was_begun y.some (y.ends e) in
        let is_idle = idle_again mode cap kind (values_now d vs) shaped fit_now keeps d.pieces mid w.matches (laid_of d.writer.rest) y.k y.before piece y.piece was_begun y.some (y.ends e) in
        record {
          heard = run_out_lem
              ∙ ap (λ (l : List Heard). blocks_heard (survivors keeps d.now.blocks) ++ l)
              (out ∙ ap (λ (b : Bool). blocks_heard (pick b ((complete_now d kind vs).block ∷ []) [])) (sym (all_one keeps d.pieces (piece_now d kind vs) k)))
              ∙ sym (one_more keeps d.now.blocks (complete_now d kind vs));
          matches = subst (Matches mode cap keeps []) (sym run_to_lem)
              (matches_idle mode cap keeps [] (run_to mode mid piece) refl is_idle (run_room mode mid piece ∙ w.matches.long));
        }

    words_on : keeps d.closed ≡ true → (adding d.writer d.now.words kind vs).answer ≡ Unfinished
        → ByWords mode cap keeps (added_by Unfinished (adding d.writer d.now.words kind vs) d kind vs) q
    unfolding mid
    words_on k e =
        let out = piece_silent mode cap kind (values_now d vs) shaped fit_now keeps d.pieces mid w.matches (laid_of d.writer.rest) y.k y.before piece y.piece was_begun (y.goes_on e) in
        let m = matches_on mode cap kind (values_now d vs) shaped fit_now keeps d.pieces mid w.matches (laid_of d.writer.rest) y.k y.before piece y.piece was_begun (y.goes_on e) (piece_now d kind vs) k refl in
        record {
          heard = run_out_lem ∙ ap (λ (l : List Heard). blocks_heard (survivors keeps d.now.blocks) ++ l) out ∙ append-nil _;
          matches = subst (Matches mode cap keeps (d.pieces ++ (piece_now d kind vs ∷ []))) (sym run_to_lem) m;
        }

  module _ (q : Now) (y : Fills mode d kind vs) (w : ByPlaces mode cap keeps d q) where
    behind : List ℕ
    behind = places_to mode q.room d.now.pieces

    piece_long : length piece ≤ suc (length behind)
    unfolding behind fixed_words
    piece_long =
        let l : length piece ≡ suc (length vs) = ap length y.piece ∙ ap suc (length-map vs (word_of mode)) in
        omega (arith, fit, w.long)

    place_heard : keeps d.closed ≡ true → place_out mode piece behind ≡ blocks_heard (pick (all_on keeps (complete_now d kind vs).pieces) ((complete_now d kind vs).block ∷ []) [])
    place_heard k =
        ap (λ (l : List ℕ). place_out mode l behind) y.piece
        ∙ place_given mode kind vs behind y.small y.some y.values_fit
        ∙ ap (λ (l : List ℕ). blocks_heard (record { kind = kind; values = l } ∷ [])) (sym y.values_are)
        ∙ sym (ap blocks_heard (pick_true ((complete_now d kind vs).block ∷ []) [] (all_one keeps d.pieces (piece_now d kind vs) k ∙ ap (all_on keeps) y.none_before)))

    places_end : keeps d.closed ≡ true → ByPlaces mode cap keeps (added_by Finished (adding d.writer d.now.words kind vs) d kind vs) q
    unfolding behind
    places_end k = record {
      heard = places_out_append mode q.room d.now.pieces (piece ∷ [])
          ∙ ap₂ (λ (l m : List Heard). l ++ m) w.heard (append-nil (place_out mode piece behind) ∙ place_heard k)
          ∙ sym (one_more keeps d.now.blocks (complete_now d kind vs));
      phase = w.phase;
      long = ap length (places_to_append mode q.room d.now.pieces (piece ∷ [])) ∙ place_room_lem mode piece behind piece_long ∙ w.long;
    }

  -- ---- the whole
  laid_ahead : (bs : List Complete) (us : List ℕ) (ps : List Piece)
      → (keeps d.closed ≡ true → (q : Now) → Inside mode cap keeps d q → Inside mode cap keeps (laid_desk d kind vs bs us ps) q)
      → (keeps d.closed ≡ false → is_part (adding d.writer d.now.words kind vs).state.rest ≡ true → all_on keeps ps ≡ false)
      → Ahead system mode cap keeps told gone (laid_desk d kind vs bs us ps) ear
  laid_ahead bs us ps on lost = record {
    listens = a.listens;
    between = λ z. absurd (still_open d kind vs clear z);
    inside = λ z k h. on k (start_now system mode ear d.now.number d.now.settings) (a.inside says.begun k h);
    none_dropped = λ z h g. a.none_dropped says.begun h g;
    missing = λ k p z least part. lost k part;
  }

  pub finished_ahead : (adding d.writer d.now.words kind vs).answer ≡ Finished
      → Ahead system mode cap keeps told gone (added_by Finished (adding d.writer d.now.words kind vs) d kind vs) ear
  finished_ahead e =
      laid_ahead (d.now.blocks ++ (complete_now d kind vs ∷ [])) [] []
      (λ k q i. record { by_words = λ v. words_end q (says.varies v) (i.by_words v) k e; by_places = λ v. places_end q (says.fills v) (i.by_places v) k })
      (λ k part. absurd (true_false (sym part ∙ ap is_part (rest_whole mode d kind vs dk.owes clear e))))

  pub unfinished_ahead : (adding d.writer d.now.words kind vs).answer ≡ Unfinished
      → Ahead system mode cap keeps told gone (added_by Unfinished (adding d.writer d.now.words kind vs) d kind vs) ear
  unfinished_ahead e =
      laid_ahead d.now.blocks (values_now d vs) (d.pieces ++ (piece_now d kind vs ∷ []))
      (λ k q i. record { by_words = λ v. words_on q (says.varies v) (i.by_words v) k e; by_places = λ v. absurd (two_answers (sym (says.fills v).finished ∙ e)) })
      (λ k part. all_lost keeps d.pieces (piece_now d kind vs) k)
    where
      two_answers : Finished ≡ Unfinished → ⊥
      two_answers h = let z : ◌≡◌ {A = ℕ} 0 1 = cc in omega arith
