-- The loop of the walk: the walk started over at the present place, phase and room gives what it gives from the start.
-- Assumes nothing.
use mathlib.Core.Path.{◌≡◌, sym, ap, ◌∙◌}
use mathlib.Core.Bool.{true, false}
use mathlib.Core.List.{List}
use Prim.Native.Nat.{ℕ, ◌+◌, ◌-◌, ◌≤◌, ◌<◌}
use native.Mathlib.Nat.{add-zero}
use native.Mathlib.Omega.{arith}
use lib.ListN.{length, get_or, take, drop, length-drop, drop_of_length-le}
use lib.Seq.{take_all, drop-drop}
use Rattle.lists.proofs.Loops.{next_drop}
use Rattle.words.specs.Modes.{value_of}
use Rattle.machine.specs.declared.phase.Phase.{Phase}
use Rattle.machine.specs.declared.step.Met.TheVariants.{Nothing}
use Rattle.machine.specs.declared.step.Step.{Step}
use Rattle.machine.specs.Machine.{step_of}
use Rattle.machine.specs.Walk.{Walk, walked_to, past, is_nothing, collected_of, stored, walk_of}
use Rattle.machine.specs.Runs.{taken_by, ran_phase, ran_room}
use Rattle.machine.proofs.WalkLaws.{past_zero, past_past, word_goes, word_stops}
use Rattle.machine.specs.Heads.{head_taken, head_phase}
use Rattle.machine.proofs.RunLaws.{run_taken, taken_within}
use Rattle.machine.proofs.HeadLaws.{head_within, head_led}

pub record Going (mode : ℕ) (words : List ℕ) (start : Walk) (room : List ℕ) (p : Phase) (i : ℕ) : Type 0 where
  pub inside : i ≤ length words
  pub same : past i (walk_of mode p (drop i words) room) ≡ start

pub going_start : (mode : ℕ) (words room : List ℕ) (p : Phase) → Going mode words (walk_of mode p words room) room p 0
going_start mode words room p = record { inside = omega arith; same = past_zero (walk_of mode p words room) }

-- the words from i on, as they are lent
pub rest_lent : (i : ℕ) (words : List ℕ) → take (length words - i) (drop i words) ≡ drop i words
rest_lent i words = take_all (length words - i) (drop i words) (rw (length-drop i words) (omega arith))

module _ (mode : ℕ) (words : List ℕ) (start : Walk) (room : List ℕ) (p : Phase) (i : ℕ) (g : Going mode words start room p i) where
  -- k words taken at once
  going_by : (k : ℕ) (next : List ℕ) (q : Phase) → k ≤ length (drop i words) → walk_of mode p (drop i words) room ≡ past k (walk_of mode q (drop k (drop i words)) next)
      → Going mode words start next q (i + k)
  going_by k next q few led =
      record {
        inside = omega (arith, few, length-drop i words, g.inside);
        same =
            sym (past_past i k (walk_of mode q (drop (i + k) words) next))
            ∙ ap (λ (x : Walk). past i x) (rw (sym (drop-drop k i words)) (sym led))
            ∙ g.same;
      }

  -- a run
  pub going_run : (k : ℕ) (next : List ℕ) (q : Phase) → k ≡ taken_by mode p (length room) (drop i words) → next ≡ ran_room mode p (drop i words) k room → q ≡ ran_phase p k
      → Going mode words start next q (i + k)
  going_run k next q is put to =
      going_by k next q (rw is (taken_within mode p (length room) (drop i words))) (rw (put, to) (run_taken mode p (drop i words) room k is))

  -- a head, or none
  pub going_head : (k : ℕ) (q : Phase) → k ≡ head_taken (length room) p (drop i words) → q ≡ head_phase (length room) p (drop i words) → Going mode words start room q (i + k)
  going_head k q is to = going_by k room q (rw is (head_within (length room) p (drop i words))) (rw (is, to) (head_led mode p (drop i words) room))

  -- the words' end
  pub going_end : length words ≤ i → walked_to p Nothing i room ≡ start
  unfolding walk_of
  going_end h =
      ap (λ (n : ℕ). walked_to p Nothing n room) (sym (add-zero i))
      ∙ ap (λ (ws : List ℕ). past i (walk_of mode p ws room)) (sym (drop_of_length-le words h))
      ∙ g.same

  -- a word
  module _ (inside : i < length words) (s : Step) (is : s ≡ step_of mode (length room) p (get_or words i 0)) (next : List ℕ)
      (put : next ≡ stored s.keeps (collected_of p) (value_of mode (get_or words i 0)) room) where
    pub going_word : is_nothing s.met ≡ true → Going mode words start next s.phase (i + 1)
    going_word e =
        record {
          inside = omega arith;
          same =
              sym (past_past i 1 (walk_of mode s.phase (drop (i + 1) words) next))
              ∙ ap (λ (x : Walk). past i x) (sym (word_goes mode p (get_or words i 0) (drop (i + 1) words) room s is next put e))
              ∙ ap (λ (ws : List ℕ). past i (walk_of mode p ws room)) (sym (next_drop words i inside))
              ∙ g.same;
        }

    pub going_stop : is_nothing s.met ≡ false → walked_to s.phase s.met (i + 1) next ≡ start
    going_stop e =
        ap (λ (x : Walk). past i x) (sym (word_stops mode p (get_or words i 0) (drop (i + 1) words) room s is next put e))
        ∙ ap (λ (ws : List ℕ). past i (walk_of mode p ws room)) (sym (next_drop words i inside))
        ∙ g.same
