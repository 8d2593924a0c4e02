-- A transmission damaged by bursts is a transmission of demand 3: each line that the writer closed is accepted, so that a burst in it is refused.
-- Assumes nothing.
use mathlib.Core.Path.{◌≡◌, ap, ◌∙◌}
use mathlib.Core.Bool.{true}
use mathlib.Core.List.{List, [], ◌∷◌, ◌++◌}
use Prim.Native.Nat.{ℕ}
use native.Mathlib.Omega.{arith}
use lib.ListN.{length}
use Rattle.line.specs.declared.settings.Settings.{Settings}
use Rattle.line.specs.Systems.{system_of}
use Rattle.demands.specs.All.{All}
use Rattle.demands.specs.Sending.{Call, Sent, Desk, start, sent_fresh}
use Rattle.demands.specs.Damage.{Fate, kept, removed, replaced, RefusedIfReplaced}
use Rattle.demands.specs.Demand3.{Transmission}
use Rattle.demands.proofs.DeskOk.{DeskOk}
use Rattle.demands.proofs.DeskCloses.{closes_say}
use Rattle.demands.proofs.DeskDoes.{Does, is_quiet, is_opened, is_finished, is_unfinished, is_closed}
use Rattle.demands.proofs.DeskStart.{start_ok}
use Rattle.demands.proofs.DeskLaws.{along}
use Rattle.demands.proofs.EndLine.{Found, found}
use Rattle.bursts.specs.Burst.{Hit}
use Rattle.bursts.specs.Bursts.{HitIfReplaced, AllHit, HitTransmission}
use Rattle.bursts.proofs.BurstLaws.{refused_after, long_after}

module _ (system mode : ℕ) where
  -- the line check finds no fault in a closed line, and its settings
  abbrev IsFound : Sent → Type 0
  IsFound s = Found system mode s.number s.settings s.words

  found_by : (d : Desk) (c : Call) (d' : Desk) (ts : List Sent) → Does true d c d' ts → DeskOk system mode d → DeskOk system mode d' → (cs : List Call) (ss : List Sent)
      → All IsFound ss → All IsFound (ts ++ ss)
  found_by d c _ _ (is_quiet w qs ws q) dk k cs ss more = more
  found_by d _ _ _ (is_opened f v n t held lent e) dk k cs ss more = more
  found_by d _ _ _ (is_finished kind vs clear e) dk k cs ss more = more
  found_by d _ _ _ (is_unfinished kind vs clear e) dk k cs ss more = more
  found_by d _ _ _ (is_closed e) dk k cs ss more = (found system mode d.now.number d.now.settings _ (closes_say system mode d dk e).accepts.checked, more)

  all_found : (cs : List Call) → All IsFound (sent_fresh system mode cs)
  all_found cs = along system mode true (λ (d : Desk) (cs : List Call) (ss : List Sent). All IsFound ss) (λ d. tt) found_by cs (start system mode) (start_ok system mode)

  pub as_replaced : (line line' : List ℕ) → Hit system mode 18 line line' → RefusedIfReplaced system mode (replaced line')
  as_replaced line line' h = (long_after system mode line line' h, refused_after system mode line line' h)

  one_refused : (f : Fate) (s : Sent) → IsFound s → HitIfReplaced system f s → RefusedIfReplaced system mode f
  one_refused kept s x h = tt
  one_refused removed s x h = tt
  one_refused (replaced ws) s x h =
      as_replaced s.words ws (record { accepted = x.clear; guarded = ap (λ (t : Settings). t.flag) x.settings ∙ h.0; burst = h.1 })

  all_refused : (fs : List Fate) (ss : List Sent) → length fs ≡ length ss → All IsFound ss → AllHit system fs ss → All (RefusedIfReplaced system mode) fs
  all_refused [] ss e x h = tt
  all_refused (f ∷ fs) [] e x h = absurd (omega arith)
  all_refused (f ∷ fs) (s ∷ ss) e x h = (one_refused f s x.0 h.0, all_refused fs ss (omega arith) x.1 h.1)

  pub covers : (cs : List Call) (fs : List Fate) → HitTransmission system mode cs fs → Transmission system mode (system_of system).lines cs fs
  covers cs fs x =
      record {
        numbers = x.numbers;
        each_line = x.each_line;
        runs = x.runs;
        refusing = all_refused fs (sent_fresh system mode cs) x.each_line (all_found cs) x.hits;
      }
