-- DEMAND 3, proved: the statement is specs/Demand3.antt.
-- Assumes nothing.
use Rattle.std.specs.Prelude.{Option, Some, None}
use Prim.Native.Nat.{ℕ, suc, ◌+◌}
use mathlib.Core.Bool.{Bool, true, false}
use mathlib.Core.List.{List, [], ◌∷◌, ◌++◌}
use mathlib.Core.Path.{◌≡◌, refl, sym, ap, ap₂, ◌∙◌}
use native.Mathlib.Nat.{add-zero, add-suc, suc-add, zero-add}
use lib.ListN.{length}
use Rattle.lists.proofs.Tests.{true_false, pick_false}
use Rattle.line.specs.Systems.{system_of}
use Rattle.course.specs.Course.{is_at}
use Rattle.writer.specs.Answers.{Left}
use Rattle.writer.proofs.Keeps.{close_clear, close_leaves}
use Rattle.writer.proofs.Refusals.{can_add, can_close}
use Rattle.reader.specs.State.{capacity, fresh}
use Rattle.demands.specs.All.{All}
use Rattle.demands.specs.Sending.{Call, Block, Complete, Sent, Desk, start, piece_now, complete_now, sent_by, sent_fresh, blocks_of}
use Rattle.demands.specs.Hearing.{Heard, is_end, Reads, handed_out}
use Rattle.demands.specs.Damage.{Fate, remain, kept_at, survivors}
use Rattle.demands.specs.Demand3.{Transmission, IsFrom3, Demand3}
use Rattle.demands.proofs.LineEnds.{readable, line_within}
use Rattle.demands.proofs.DeskOk.{DeskOk}
use Rattle.demands.proofs.DeskDoes.{Does, is_quiet, is_opened, is_finished, is_unfinished, is_closed}
use Rattle.demands.proofs.DeskStart.{start_ok}
use Rattle.demands.proofs.DeskLaws.{along}
use Rattle.demands.proofs.Ahead.{blocks_heard, Agrees, Tells, nothing_more, one_kept, one_removed, one_replaced}
use Rattle.demands.proofs.PieceRun.{all_lost}
use Rattle.demands.proofs.AddLine.{survivors_append}
use Rattle.demands.proofs.Notices.{noticed}
use Rattle.demands.proofs.Demand2Holds.{fresh_tells}
use Rattle.demands.proofs.AsLent.{as_lent, lent_fresh_lem}
use Rattle.demands.proofs.FrameNeeded.{frame_needed}

-- ---- a block finished on a line that is not kept has a piece there
abbrev Lost : (ℕ → Bool) → ℕ → List Complete → Type 0
Lost keeps i bs = keeps i ≡ false → survivors keeps bs ≡ []

abbrev AllLost : (ℕ → Bool) → ℕ → List Sent → Type 0
AllLost keeps i [] = Unit {0}
AllLost keeps i (s ∷ ss) = Lost keeps i s.blocks × AllLost keeps (suc i) ss

module _ (system mode : ℕ) (keeps : ℕ → Bool) where
  -- of the open line
  NowLost : Desk → Type 0
  NowLost d = is_at d.writer.place ≡ true → Lost keeps d.closed d.now.blocks

  shut_start : NowLost (start system mode)
  unfolding NowLost
  shut_start = λ at k. refl

  lost_by : (d : Desk) (c : Call) (d' : Desk) (ts : List Sent) → Does true d c d' ts → DeskOk system mode d → DeskOk system mode d' → (cs : List Call) (ss : List Sent)
      → (NowLost d' → AllLost keeps d'.closed ss) → NowLost d → AllLost keeps d.closed (ts ++ ss)
  unfolding NowLost
  lost_by d c _ _ (is_quiet w qs ws q) dk k cs ss more h = more (λ at. h (sym (ap is_at q.place) ∙ at))
  lost_by d _ _ _ (is_opened f v n t held lent e) dk k cs ss more h = more (λ at i. refl)
  lost_by d _ _ _ (is_finished kind vs clear e) dk k cs ss more h =
      more
      (λ at i.
      survivors_append keeps d.now.blocks (complete_now d kind vs ∷ [])
      ∙ ap₂ (λ (x y : List Block). x ++ y) (h (can_add d.writer d.now.words kind vs clear).begun i) (pick_false _ _ (all_lost keeps d.pieces (piece_now d kind vs) i)))
  lost_by d _ _ _ (is_unfinished kind vs clear e) dk k cs ss more h = more (λ at. h (can_add d.writer d.now.words kind vs clear).begun)
  lost_by d _ _ _ (is_closed e) dk k cs ss more h =
      let clear = close_clear d.writer d.now.words e in (
        h (can_close d.writer d.now.words clear).begun,
        more (λ at i. absurd (true_false (sym at ∙ ap (λ (x : Left). is_at x.state.place) (close_leaves d.writer d.now.words clear)))),
      )

  all_lines_lost : (cs : List Call) (d : Desk) → DeskOk system mode d → NowLost d → AllLost keeps d.closed (sent_by d cs)
  all_lines_lost = along system mode true (λ (d : Desk) (cs : List Call) (ss : List Sent). NowLost d → AllLost keeps d.closed ss) (λ d h. tt) lost_by

-- ---- what is handed out
handed_blocks : (bs : List Block) (hs : List Heard) → handed_out (blocks_heard bs ++ hs) ≡ bs ++ handed_out hs
handed_blocks [] hs = refl
handed_blocks (b ∷ bs) hs = ap (λ (l : List Block). b ∷ l) (handed_blocks bs hs)

handed_by : (lines : ℕ) (keeps : ℕ → Bool) (i : ℕ) (before : Option ℕ) (gone : Bool) (fs : List Fate) (ss : List Sent) (hs : List Heard) → Tells lines keeps before gone fs ss hs
    → Agrees keeps i fs → AllLost keeps i ss → handed_out hs ≡ survivors keeps (blocks_of ss)
handed_by lines keeps i before gone fs _ _ nothing_more agrees lost = refl
handed_by lines keeps i before gone _ _ _ (one_kept {fs = fs} {s = s} {ss = ss} {hs = hs} dropped none_dropped more) agrees lost =
    handed_blocks (survivors keeps s.blocks) (is_end ∷ hs)
    ∙ ap (λ (l : List Block). survivors keeps s.blocks ++ l) (handed_by lines keeps (suc i) (Some s.number) false fs ss hs more agrees.1 lost.1)
    ∙ sym (survivors_append keeps s.blocks (blocks_of ss))
handed_by lines keeps i before gone _ _ _ (one_removed {fs = fs} {s = s} {ss = ss} {hs = hs} more) agrees lost =
    handed_by lines keeps (suc i) before true fs ss hs more agrees.1 lost.1
    ∙ sym (survivors_append keeps s.blocks (blocks_of ss) ∙ ap (λ (l : List Block). l ++ survivors keeps (blocks_of ss)) (lost.0 agrees.0))
handed_by lines keeps i before gone _ _ _ (one_replaced {fs = fs} {s = s} {ss = ss} {hs = hs} k dropped least more) agrees lost =
    handed_by lines keeps (suc i) None false fs ss hs more agrees.1 lost.1
    ∙ sym (survivors_append keeps s.blocks (blocks_of ss) ∙ ap (λ (l : List Block). l ++ survivors keeps (blocks_of ss)) (lost.0 agrees.0))

-- ---- neither 1 nor 2
from3_blocks : (bs : List Block) (hs : List Heard) → All IsFrom3 hs → All IsFrom3 (blocks_heard bs ++ hs)
from3_blocks [] hs h = h
from3_blocks (b ∷ bs) hs h = (tt, from3_blocks bs hs h)

served_by : (lines : ℕ) (keeps : ℕ → Bool) (before : Option ℕ) (gone : Bool) (fs : List Fate) (ss : List Sent) (hs : List Heard) → Tells lines keeps before gone fs ss hs → All IsFrom3 hs
served_by lines keeps before gone fs _ _ nothing_more = tt
served_by lines keeps before gone _ _ _ (one_kept {fs = fs} {s = s} {ss = ss} {hs = hs} dropped none_dropped more) =
    (tt, from3_blocks (survivors keeps s.blocks) (is_end ∷ hs) (tt, served_by lines keeps (Some s.number) false fs ss hs more))
served_by lines keeps before gone _ _ _ (one_removed {fs = fs} {ss = ss} {hs = hs} more) = served_by lines keeps before true fs ss hs more
served_by lines keeps before gone _ _ _ (one_replaced {fs = fs} {ss = ss} {hs = hs} k dropped least more) = (least, served_by lines keeps None false fs ss hs more)

-- ---- the fates by number
agrees_by : (keeps : ℕ → Bool) (i : ℕ) (fs : List Fate) → ((j : ℕ) → keeps (i + j) ≡ kept_at fs j) → Agrees keeps i fs
agrees_by keeps i [] h = tt
agrees_by keeps i (f ∷ fs) h = (ap keeps (sym (add-zero i)) ∙ h 0, agrees_by keeps (suc i) fs (λ j. ap keeps (suc-add i j ∙ sym (add-suc i j)) ∙ h (suc j)))

module _ (system mode : ℕ) (cs : List Call) (fs : List Fate) (x : Transmission system mode (system_of system).lines cs fs) (room : List ℕ) (long : length room ≡ capacity)
    (hs : List Heard) (r : Reads (fresh system mode) room (remain fs (sent_fresh system mode cs)) hs) where
  fated : Agrees (kept_at fs) 0 fs
  fated = agrees_by (kept_at fs) 0 fs (λ j. ap (kept_at fs) (zero-add j))

  tells : Tells (system_of system).lines (kept_at fs) None false fs (sent_fresh system mode cs) hs
  tells =
      fresh_tells system mode (kept_at fs) true cs fs room hs long fated x.refusing x.each_line
      (noticed (system_of system).lines true fs (sent_fresh system mode cs) x.runs x.numbers) r

  handed_out_lem : handed_out hs ≡ survivors (kept_at fs) (blocks_of (sent_fresh system mode cs))
  handed_out_lem =
      handed_by (system_of system).lines (kept_at fs) 0 None false fs (sent_fresh system mode cs) hs tells fated
      (all_lines_lost system mode (kept_at fs) cs (start system mode) (start_ok system mode) (shut_start system mode (kept_at fs)))

  all_served : All IsFrom3 hs
  all_served = served_by (system_of system).lines (kept_at fs) None false fs (sent_fresh system mode cs) hs tells

pub demand_3 : Demand3
demand_3 = record {
  handed = handed_out_lem;
  needed = frame_needed;
  lent = as_lent;
  as_demanded = λ system mode t cs fs x room long hs r.
      handed_out_lem system mode cs fs x.transmission room long hs r ∙ ap (survivors (kept_at fs)) (sym (lent_fresh_lem system mode cs x.unchanged));
  readable = λ system mode room lines. readable (fresh system mode) room lines refl;
  ends = line_within;
  served = all_served;
}
