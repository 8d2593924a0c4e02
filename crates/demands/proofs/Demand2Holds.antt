-- DEMAND 2, proved: the statement is specs/Demand2.antt.
-- Assumes nothing.
use Rattle.std.specs.Prelude.{Option, Some, None}
use Prim.Native.Nat.{ℕ, suc, ◌-◌, min}
use mathlib.Core.Bool.{Bool, true, false}
use mathlib.Core.List.{List, [], ◌∷◌, ◌++◌, map}
use mathlib.Core.Logic.{⊎_elim}
use mathlib.Core.Path.{◌≡◌, refl, sym, ap, ap₂, ◌∙◌, subst}
use native.Mathlib.Omega.{arith}
use lib.ListN.{length, take}
use lib.Seq.{take_all}
use Rattle.lists.proofs.Tests.{true_false, pick_true, lt_or_le}
use Rattle.line.specs.Systems.{system_of}
use Rattle.line.proofs.Lines.{written_again}
use Rattle.course.specs.Course.{place_of}
use Rattle.writer.specs.declared.state.Writer.{Writer}
use Rattle.writer.specs.State.{impossible, end_in, fresh as fresh_writer}
use Rattle.writer.specs.Adding.{todo}
use Rattle.writer.proofs.Stays.{fresh_possible}
use Rattle.writer.proofs.Pieces.{piece_laid}
use Rattle.writer.proofs.Writing.{written}
use Rattle.reader.specs.State.{capacity, fresh}
use Rattle.reader.specs.Jump.{jump_from}
use Rattle.reader.proofs.AtCapacity.{accepts, refuses, accepted_exactly}
use Rattle.demands.specs.All.{All}
use Rattle.demands.specs.Sending.{Call, Piece, Complete, Sent, Desk, start, piece_now, complete_now, sent_by, sent_fresh}
use Rattle.demands.specs.Hearing.{Heard, is_begun, is_block, is_end, Reads}
use Rattle.demands.specs.Damage.{Fate, kept, is_kept, remain, RefusedIfReplaced, all_on, survivors}
use Rattle.demands.specs.Demand2.{IsLine, HasWord, IsBlock, HasBlocks, given_back, Demand2}
use Rattle.demands.proofs.AllLaws.{all_more, all_each}
use Rattle.demands.proofs.Run.{now}
use Rattle.demands.proofs.LineLends.{ear_of}
use Rattle.demands.proofs.LineEnds.{readable}
use Rattle.demands.proofs.EarReads.{fresh_tuned, reads_are}
use Rattle.demands.proofs.DeskOk.{DeskOk}
use Rattle.demands.proofs.DeskAdds.{adds_say}
use Rattle.demands.proofs.DeskCloses.{closes_say}
use Rattle.demands.proofs.DeskStart.{ValuesOf, standing, standing_ok, standing_some, start_ok}
use Rattle.demands.proofs.Listed.{listed_hold, relists}
use Rattle.demands.proofs.DeskDoes.{Does, is_quiet, is_opened, is_finished, is_unfinished, is_closed}
use Rattle.demands.proofs.DeskLaws.{along}
use Rattle.demands.proofs.Ahead.{blocks_heard, Ahead, RoomFor, room_for, Agrees, Noticed, Tells, nothing_more, one_kept, one_removed, one_replaced}
use Rattle.demands.proofs.StartLine.{matches_idle}
use Rattle.demands.proofs.Follow.{follow}
use Rattle.demands.proofs.Placed.{placed_fresh}
use Rattle.demands.proofs.Writable.{all_written}
use Rattle.demands.proofs.Closing.{can_be_closed}

-- ---- a fresh writer and a fresh reader
pub start_ahead : (system mode cap : ℕ) (keeps : ℕ → Bool) (told : Bool) (room : List ℕ) → length room ≡ cap
    → Ahead system mode cap keeps told false (start system mode) (ear_of (fresh system mode) room)
start_ahead system mode cap keeps told room long = record {
  listens = record { long = long; numbered = tt };
  between = λ e. record {
    here = λ g. matches_idle mode cap keeps [] (now _ room) refl refl long;
    same = λ g p w. absurd (true_false (sym p));
    away = λ g p. refl_away g;
  };
  inside = λ e k h. absurd (true_false (sym e));
  none_dropped = λ e h g. absurd (true_false (sym e));
  missing = λ k p e l part. absurd (true_false (sym part));
}
  where
    refl_away : false ≡ true → all_on keeps [] ≡ false
    refl_away g = absurd (true_false (sym g))

-- a fresh reader lent what remains of a fresh writer's lines
pub fresh_tells : (system mode : ℕ) (keeps : ℕ → Bool) (told : Bool) (cs : List Call) (fs : List Fate) (room : List ℕ) (hs : List Heard) → length room ≡ capacity → Agrees keeps 0 fs
    → All (RefusedIfReplaced system mode) fs → length fs ≡ length (sent_fresh system mode cs) → Noticed (system_of system).lines told None false fs (sent_fresh system mode cs)
    → Reads (fresh system mode) room (remain fs (sent_fresh system mode cs)) hs
    → Tells (system_of system).lines keeps None false fs (sent_fresh system mode cs) hs
fresh_tells system mode keeps told cs fs room hs long agrees refusing each noticed r =
    subst (Tells (system_of system).lines keeps None false fs (sent_fresh system mode cs))
    (sym (reads_are system mode (fresh system mode) room (remain fs (sent_fresh system mode cs)) hs (fresh_tuned system mode room long) r))
    (follow system mode capacity keeps told cs (start system mode) (start_ok system mode) (all_each (RoomFor capacity) (room_for capacity (omega arith)) cs) fs false (ear_of (fresh system mode) room) agrees refusing each noticed
    (start_ahead system mode capacity keeps told room long))

-- ---- each line is 01's, and each block's pieces are its words
-- what holds of the desk before a call holds behind it, and of the lines that the call closes
module _ (system mode : ℕ) where
  Blocks : Desk → Type 0
  Blocks d = HasBlocks mode d.now × All HasWord d.pieces

  lines_by_lem : (d : Desk) (c : Call) (d' : Desk) (ts : List Sent) → Does true d c d' ts → DeskOk system mode d → DeskOk system mode d' → (cs : List Call) (ss : List Sent)
      → All (IsLine system) ss → All (IsLine system) (ts ++ ss)
  lines_by_lem d c _ _ (is_quiet w qs ws q) dk k cs ss more = more
  lines_by_lem d _ _ _ (is_opened f v n t held lent e) dk k cs ss more = more
  lines_by_lem d _ _ _ (is_finished kind vs clear e) dk k cs ss more = more
  lines_by_lem d _ _ _ (is_unfinished kind vs clear e) dk k cs ss more = more
  lines_by_lem d _ _ _ (is_closed e) dk k cs ss more = ((closes_say system mode d dk e).is, more)

  pub lines_hold : (cs : List Call) (d : Desk) → DeskOk system mode d → All (IsLine system) (sent_by d cs)
  lines_hold = along system mode true (λ (d : Desk) (cs : List Call) (ss : List Sent). All (IsLine system) ss) (λ d. tt) lines_by_lem

  blocks_by : (d : Desk) (c : Call) (d' : Desk) (ts : List Sent) → Does true d c d' ts → DeskOk system mode d → DeskOk system mode d' → (cs : List Call) (ss : List Sent)
      → (Blocks d' → All (HasBlocks mode) ss) → Blocks d → All (HasBlocks mode) (ts ++ ss)
  unfolding Blocks
  blocks_by d c _ _ (is_quiet w qs ws q) dk k cs ss more h = more h
  blocks_by d _ _ _ (is_opened f v n t held lent e) dk k cs ss more h = more (tt, h.1)
  blocks_by d _ _ _ (is_finished kind vs clear e) dk k cs ss more h =
      let a = adds_say system mode d kind vs dk clear in
      more (all_more (IsBlock d.now.settings.block mode) d.now.blocks (complete_now d kind vs) h.0 (a.whole e, all_more HasWord d.pieces (piece_now d kind vs) h.1 a.some), tt)
  blocks_by d _ _ _ (is_unfinished kind vs clear e) dk k cs ss more h =
      more (h.0, all_more HasWord d.pieces (piece_now d kind vs) h.1 (adds_say system mode d kind vs dk clear).some)
  blocks_by d _ _ _ (is_closed e) dk k cs ss more h = (h.0, more h)

  pub blocks_hold : (cs : List Call) (d : Desk) → DeskOk system mode d → HasBlocks mode d.now × All HasWord d.pieces
      → All (HasBlocks mode) (sent_by d cs)
  unfolding Blocks
  blocks_hold = along system mode true (λ (d : Desk) (cs : List Call) (ss : List Sent). Blocks d → All (HasBlocks mode) ss) (λ d h. tt) blocks_by

-- a writer in any possible state with no line open: its lines are 01's, and the pieces of its blocks, joined, are their words, those laid before among them
module _ (w : Writer) (us : List ℕ) (possible : impossible w ≡ false) (shut : w.place ≡ None) (values : ValuesOf w.mode w.rest us) (cs : List Call) where
  pub any_lines : All (IsLine w.system) (sent_by (standing w us) cs)
  any_lines = lines_hold w.system w.mode cs (standing w us) (standing_ok w us possible values shut)

  pub any_blocks : All (HasBlocks w.mode) (sent_by (standing w us) cs)
  any_blocks = blocks_hold w.system w.mode cs (standing w us) (standing_ok w us possible values shut) (tt, standing_some w us possible values)

-- ---- all lines kept
abbrev all_kept : List Sent → List Fate
all_kept [] = []
all_kept (s ∷ ss) = kept ∷ all_kept ss

abbrev each_kept : ℕ → Bool
each_kept i = true

kept_remain : (ss : List Sent) → remain (all_kept ss) ss ≡ map (λ (s : Sent). s.words) ss
kept_remain [] = refl
kept_remain (s ∷ ss) = ap (λ (l : List (List ℕ)). s.words ∷ l) (kept_remain ss)

kept_long : (ss : List Sent) → length (all_kept ss) ≡ length ss
kept_long [] = refl
kept_long (s ∷ ss) = ap suc (kept_long ss)

kept_agrees : (i : ℕ) (ss : List Sent) → Agrees each_kept i (all_kept ss)
kept_agrees i [] = tt
kept_agrees i (s ∷ ss) = (refl, kept_agrees (suc i) ss)

kept_refusing : (system mode : ℕ) (ss : List Sent) → All (RefusedIfReplaced system mode) (all_kept ss)
kept_refusing system mode [] = tt
kept_refusing system mode (s ∷ ss) = (tt, kept_refusing system mode ss)

kept_noticed : (lines : ℕ) (before : Option ℕ) (ss : List Sent) → Noticed lines false before false (all_kept ss) ss
kept_noticed lines before [] = tt
kept_noticed lines before (s ∷ ss) = (((λ g. absurd (true_false (sym g))), λ t g k. absurd (true_false (sym t))), kept_noticed lines (Some s.number) ss)

kept_blocks : (bs : List Complete) → blocks_heard (survivors each_kept bs) ≡ map (λ (b : Complete). is_block b.block) bs
kept_blocks [] = refl
kept_blocks (b ∷ bs) = ap blocks_heard (pick_true _ _ (on_all b.pieces)) ∙ ap (λ (l : List Heard). is_block b.block ∷ l) (kept_blocks bs)
  where
    on_all : (ps : List Piece) → all_on each_kept ps ≡ true
    on_all [] = refl
    on_all (p ∷ ps) = on_all ps

head_kept : List Fate → Bool
head_kept [] = true
head_kept (f ∷ fs) = is_kept f

tail_fates : List Fate → List Fate
tail_fates [] = []
tail_fates (f ∷ fs) = fs

given_back_lem : (lines : ℕ) (before : Option ℕ) (gone : Bool) (fs : List Fate) (ss : List Sent) (hs : List Heard) → Tells lines each_kept before gone fs ss hs → gone ≡ false → fs ≡ all_kept ss
    → hs ≡ given_back lines before ss
unfolding given_back head_kept tail_fates
given_back_lem lines before gone fs _ _ nothing_more g e = refl
given_back_lem lines _ gone _ _ _ (one_kept {before = before} {fs = fs} {s = s} {ss = ss} {hs = hs} dropped none_dropped more) g e =
    let rest = given_back_lem lines (Some s.number) false fs ss hs more refl (ap tail_fates e) in
    ap₂ (λ (b : Bool) (l : List Heard). is_begun s.number (jump_from lines before s.number) b s.settings ∷ (l ++ (is_end ∷ hs))) (none_dropped g) (kept_blocks s.blocks)
    ∙ ap (λ (l : List Heard). is_begun s.number (jump_from lines before s.number) false s.settings ∷ (map (λ (b : Complete). is_block b.block) s.blocks ++ (is_end ∷ l))) rest
given_back_lem lines before gone _ _ _ (one_removed more) g e = absurd (true_false (sym (ap head_kept e)))
given_back_lem lines before gone _ _ _ (one_replaced k dropped least more) g e = absurd (true_false (sym (ap head_kept e)))

-- ---- as many as fit
take_min : (a : ℕ) (l : List ℕ) → take (min a (length l)) l ≡ take a l
take_min a l =
    ⊎_elim (λ h. ap (λ (k : ℕ). take k l) (let e : min a (length l) ≡ a = omega arith in e))
    (λ h. take_all (min a (length l)) l (omega arith) ∙ sym (take_all a l (omega arith)))
    (lt_or_le a (length l))

pub demand_2 : Demand2
demand_2 = record {
  lines = λ system mode cs. any_lines (fresh_writer system mode) [] (fresh_possible system mode) refl tt cs;
  any_line = λ w f v n t lent w' line ps qs held c. (written w f v n t lent w' line ps qs held c).is;
  writable = λ system mode f v n t bs known moded one last held clean passes. all_written system mode f v t held known moded clean n bs one last passes;
  closable = λ w line fit possible held at. can_be_closed w line fit possible at held;
  blocks = λ system mode cs. any_blocks (fresh_writer system mode) [] (fresh_possible system mode) refl tt cs;
  placed = placed_fresh;
  laid = λ w line kind vs clear. piece_laid w line kind vs clear ∙ take_min (end_in w - place_of w.place) (todo w kind vs);
  accepted = accepted_exactly;
  told = λ st line room fit shut clean. (accepts st line room fit shut clean, written_again st.system st.mode line clean);
  not_told = refuses;
  heard = λ system mode cs room long hs r.
      let ss = sent_fresh system mode cs in
      given_back_lem (system_of system).lines None false (all_kept ss) ss hs
      (fresh_tells system mode each_kept false cs (all_kept ss) room hs long (kept_agrees 0 ss) (kept_refusing system mode ss) (kept_long ss)
      (kept_noticed (system_of system).lines None ss)
      (subst (λ (ls : List (List ℕ)). Reads (fresh system mode) room ls hs) (sym (kept_remain ss)) r))
      refl refl;
  readable = λ system mode cs room. readable (fresh system mode) room (map (λ (s : Sent). s.words) (sent_fresh system mode cs)) refl;
  listed_back = λ system mode cs. listed_hold system mode cs (start system mode) (start_ok system mode);
  relisted = relists;
  rewritten = written_again;
}
