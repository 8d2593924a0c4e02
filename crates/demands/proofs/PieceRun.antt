-- A piece of a block laid on a line that is kept: what the machine says of it, by what became of the pieces before it.
-- Assumes nothing.
use Prim.Native.Nat.{ℕ, ◌+◌, ◌≤◌}
use mathlib.Core.Bool.{Bool, true, false, ◌&&◌}
use mathlib.Core.List.{List, [], ◌∷◌, ◌++◌, append-nil}
use mathlib.Core.Path.{◌≡◌, refl, sym, ap, ap₂, ◌∙◌}
use native.Mathlib.Nat.{zero-add}
use native.Mathlib.Omega.{arith}
use lib.ListN.{length, take, drop, length-drop, take-append-drop}
use lib.Seq.{take_all}
use Rattle.lists.specs.Tests.{pick}
use Rattle.lists.proofs.Lists.{part_add}
use Rattle.lists.proofs.Tests.{pick_true, pick_false, and_none}
use Rattle.writer.specs.Block.{block_words}
use Rattle.machine.specs.declared.phase.Phase.{Phase}
use Rattle.machine.specs.declared.phase.Phase.TheVariants.{Idle}
use Rattle.writer.proofs.BlockLaws.{block_long}
use Rattle.demands.specs.Sending.{Piece, joined_pieces}
use Rattle.demands.specs.Hearing.{Heard, is_block}
use Rattle.demands.specs.Damage.{all_on}
use Rattle.demands.proofs.Run.{Now, now, idle, run_to, run_out}
use Rattle.demands.proofs.DeskCalls.{joined_pieces_append}
use Rattle.demands.proofs.Ahead.{blocks_heard, Behind, Matches}
use Rattle.demands.proofs.RunLaws.{run_to_append, run_out_append, run_room}
use Rattle.demands.proofs.BlockRun.{Shaped, whole_out, whole_to, front_out, behind_out, behind_to}

-- one more piece on a line that is kept
pub all_one : (keeps : ℕ → Bool) (ps : List Piece) (p : Piece) → keeps p.line ≡ true → all_on keeps (ps ++ (p ∷ [])) ≡ all_on keeps ps
all_one keeps [] p e = ap (λ (b : Bool). b && true) e
all_one keeps (q ∷ ps) p e = ap (λ (b : Bool). keeps q.line && b) (all_one keeps ps p e)

-- and on one that is not
pub all_lost : (keeps : ℕ → Bool) (ps : List Piece) (p : Piece) → keeps p.line ≡ false → all_on keeps (ps ++ (p ∷ [])) ≡ false
all_lost keeps [] p e = ap (λ (b : Bool). b && true) e
all_lost keeps (q ∷ ps) p e = ap (λ (b : Bool). keeps q.line && b) (all_lost keeps ps p e) ∙ and_none (keeps q.line) false refl

module _ (mode cap kind : ℕ) (us : List ℕ) (s : Shaped mode kind us) (fit : length us ≤ cap) (keeps : ℕ → Bool) (ps : List Piece) (q : Now) (m : Matches mode cap keeps ps q) (j k : ℕ)
    (before : joined_pieces ps ≡ take j (block_words mode kind us)) (piece : List ℕ) (is : piece ≡ take k (drop j (block_words mode kind us)))
    (some : all_on keeps ps ≡ false → 1 ≤ j) where
  abbrev words : List ℕ
  words = block_words mode kind us

  fits : (b : Behind mode cap ps q) → length us ≤ length b.from
  fits b = omega (arith, fit, b.from_long)

  -- the machine behind the first j words
  stands : (b : Behind mode cap ps q) → q ≡ run_to mode (idle b.from) (take j words)
  stands b = b.is ∙ ap (run_to mode (idle b.from)) before

  -- something was lost: idle passes over the piece
  lost_is : all_on keeps ps ≡ false → q ≡ idle q.room
  lost_is e = ap (λ (p : Phase). now p q.room) (m.lost e)

  lost_out : all_on keeps ps ≡ false → run_out mode q piece ≡ []
  lost_out e = ap₂ (λ (x : Now) (l : List ℕ). run_out mode x l) (lost_is e) is ∙ behind_out mode kind us s q.room j k (some e)

  lost_to : all_on keeps ps ≡ false → run_to mode q piece ≡ idle q.room
  lost_to e = ap₂ (λ (x : Now) (l : List ℕ). run_to mode x l) (lost_is e) is ∙ behind_to mode kind us s q.room j k (some e)

  -- ---- the last piece
  module _ (least : 1 ≤ k) (all : j + k ≡ length us + 7) where
    rest_is : piece ≡ drop j words
    rest_is =
        let l = length-drop j words in
        let w = block_long mode kind us in
        is ∙ take_all k (drop j words) (omega arith)

    last_out : (b : Behind mode cap ps q) → run_out mode q piece ≡ is_block (record { kind = kind; values = us }) ∷ []
    last_out b =
        ap₂ (λ (x : Now) (l : List ℕ). run_out mode x l) (stands b) rest_is
        ∙ sym (ap (λ (l : List Heard). l ++ run_out mode (run_to mode (idle b.from) (take j words)) (drop j words)) (front_out mode kind us s b.from (fits b) j (omega arith)))
        ∙ sym (run_out_append mode (idle b.from) (take j words) (drop j words))
        ∙ ap (run_out mode (idle b.from)) (take-append-drop j words)
        ∙ whole_out mode kind us s b.from (fits b)

    last_to : (b : Behind mode cap ps q) → (run_to mode q piece).phase ≡ Idle
    last_to b =
        ap (λ (x : Now). x.phase)
        (ap₂ (λ (x : Now) (l : List ℕ). run_to mode x l) (stands b) rest_is
        ∙ sym (run_to_append mode (idle b.from) (take j words) (drop j words))
        ∙ ap (run_to mode (idle b.from)) (take-append-drop j words))
        ∙ whole_to mode kind us s b.from (fits b)

    -- the block is handed out if all of it was kept
    pub piece_ends : run_out mode q piece ≡ blocks_heard (pick (all_on keeps ps) (record { kind = kind; values = us } ∷ []) [])
    piece_ends = by (all_on keeps ps) refl
      where
        by : (b : Bool) → all_on keeps ps ≡ b → run_out mode q piece ≡ blocks_heard (pick (all_on keeps ps) (record { kind = kind; values = us } ∷ []) [])
        by true e = last_out (m.whole e) ∙ sym (ap blocks_heard (pick_true _ _ e))
        by false e = lost_out e ∙ sym (ap blocks_heard (pick_false _ _ e))

    pub idle_again : (run_to mode q piece).phase ≡ Idle
    idle_again = by (all_on keeps ps) refl
      where
        by : (b : Bool) → all_on keeps ps ≡ b → (run_to mode q piece).phase ≡ Idle
        by true e = last_to (m.whole e)
        by false e = ap (λ (x : Now). x.phase) (lost_to e)

  -- ---- a piece before the last
  module _ (short : j + k ≤ length us + 6) where
    more_out : (b : Behind mode cap ps q) → run_out mode q piece ≡ []
    more_out b =
        ap₂ (λ (x : Now) (l : List ℕ). run_out mode x l) (stands b) is
        ∙ sym (ap (λ (l : List Heard). l ++ run_out mode (run_to mode (idle b.from) (take j words)) (take k (drop j words))) (front_out mode kind us s b.from (fits b) j (omega arith)))
        ∙ sym (run_out_append mode (idle b.from) (take j words) (take k (drop j words)))
        ∙ ap (run_out mode (idle b.from)) (sym (part_add 0 j k words ∙ ap (λ (i : ℕ). take j words ++ take k (drop i words)) (zero-add j)))
        ∙ front_out mode kind us s b.from (fits b) (j + k) short

    pub piece_silent : run_out mode q piece ≡ []
    piece_silent = by (all_on keeps ps) refl
      where
        by : (b : Bool) → all_on keeps ps ≡ b → run_out mode q piece ≡ []
        by true e = more_out (m.whole e)
        by false e = lost_out e

    pub matches_on : (p : Piece) → keeps p.line ≡ true → p.words ≡ piece → Matches mode cap keeps (ps ++ (p ∷ [])) (run_to mode q piece)
    matches_on p e w = record {
      long = run_room mode q piece ∙ m.long;
      whole = λ h.
          let b = m.whole (sym (all_one keeps ps p e) ∙ h) in
          record {
            from = b.from;
            from_long = b.from_long;
            is = ap (λ (x : Now). run_to mode x piece) b.is
                ∙ sym (run_to_append mode (idle b.from) (joined_pieces ps) piece)
                ∙ ap (λ (l : List ℕ). run_to mode (idle b.from) (joined_pieces ps ++ l)) (sym (append-nil p.words ∙ w))
                ∙ ap (run_to mode (idle b.from)) (sym (joined_pieces_append ps (p ∷ [])));
          };
      lost = λ h. ap (λ (x : Now). x.phase) (lost_to (sym (all_one keeps ps p e) ∙ h));
    }
