-- Laws of runs to the words' end: words in two parts, and the room's length.
-- Assumes nothing.
use Prim.Native.Nat.{ℕ}
use mathlib.Core.List.{List, [], ◌∷◌, ◌++◌, append_assoc}
use mathlib.Core.Path.{◌≡◌, refl, sym, ap, ◌∙◌}
use lib.ListN.{length}
use Rattle.words.specs.Modes.{value_of}
use Rattle.machine.specs.Machine.{step_of}
use Rattle.machine.specs.Walk.{collected_of}
use Rattle.machine.proofs.Kept.{stored_long}
use Rattle.demands.specs.Hearing.{Heard}
use Rattle.demands.proofs.Run.{Now, step_to, step_out, run_to, run_out}

-- ---- words in two parts
pub run_to_append : (mode : ℕ) (q : Now) (xs ys : List ℕ) → run_to mode q (xs ++ ys) ≡ run_to mode (run_to mode q xs) ys
run_to_append mode q [] ys = refl
run_to_append mode q (w ∷ xs) ys = run_to_append mode (step_to mode q w) xs ys

pub run_out_append : (mode : ℕ) (q : Now) (xs ys : List ℕ) → run_out mode q (xs ++ ys) ≡ run_out mode q xs ++ run_out mode (run_to mode q xs) ys
run_out_append mode q [] ys = refl
run_out_append mode q (w ∷ xs) ys =
    let next = step_to mode q w in
    ap (λ (hs : List Heard). step_out mode q w ++ hs) (run_out_append mode next xs ys)
    ∙ sym (append_assoc (step_out mode q w) (run_out mode next xs) (run_out mode (run_to mode next xs) ys))

-- ---- the room keeps its length
pub step_room : (mode : ℕ) (q : Now) (w : ℕ) → length (step_to mode q w).room ≡ length q.room
unfolding step_to
step_room mode q w = stored_long (step_of mode (length q.room) q.phase w).keeps (collected_of q.phase) (value_of mode w) q.room

pub run_room : (mode : ℕ) (q : Now) (ws : List ℕ) → length (run_to mode q ws).room ≡ length q.room
run_room mode q [] = refl
run_room mode q (w ∷ ws) = run_room mode (step_to mode q w) ws ∙ step_room mode q w
