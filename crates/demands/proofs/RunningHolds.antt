-- The running CRC, proved: the statement is specs/Running.antt.
-- Assumes nothing.
use Rattle.std.specs.Prelude.{Option, Some, None}
use Prim.Native.Nat.{ℕ}
use mathlib.Core.Bool.{Bool, true, false}
use mathlib.Core.List.{List, [], ◌∷◌}
use mathlib.Core.Path.{◌≡◌, refl, sym, ap, ◌∙◌}
use lib.Dec.{lit<}
use lib.ListN.{length}
use Rattle.lists.proofs.Tests.{true_false}
use Rattle.words.specs.Crc.{crc_start, crc_of}
use Rattle.words.proofs.CrcLaws.{crc_none}
use Rattle.course.specs.Course.{is_at}
use Rattle.writer.specs.declared.state.Writer.{Writer}
use Rattle.writer.specs.Answers.{Left, Added}
use Rattle.packets.specs.Packet.{packed}
use Rattle.writer.specs.Filling.{joined}
use Rattle.writer.proofs.Keeps.{open_clear, open_leaves, add_leaves, close_clear, close_leaves}
use Rattle.writer.proofs.Refusals.{can_open}
use Rattle.writer.proofs.Writing.{filling, opened_line, summed_there}
use Rattle.demands.specs.Sending.{Call, Sent, Desk, start, after, sends}
use Rattle.demands.specs.Running.{desk_after, laid_in, Running}
use Rattle.demands.proofs.DeskOk.{DeskOk}
use Rattle.demands.proofs.DeskDoes.{Does, is_quiet, is_opened, is_finished, is_unfinished, is_closed, does}
use Rattle.demands.proofs.DeskLaws.{after_ok}
use Rattle.demands.proofs.DeskStart.{start_ok}

-- ---- with no line open it is the CRC of no words
abbrev NoneLaid : Desk → Type 0
NoneLaid d = is_at d.writer.place ≡ false → d.writer.crc ≡ crc_start

-- an opening and an addition leave a line open, a closing starts anew, and no other call changes the number
none_by : (d : Desk) (c : Call) (d' : Desk) (ts : List Sent) → Does true d c d' ts → NoneLaid d → NoneLaid d'
none_by d c _ _ (is_quiet w qs ws q) h shut = q.crc ∙ h (ap is_at (sym q.place) ∙ shut)
none_by d _ _ _ (is_opened f v n t held lent e) h shut =
    absurd (true_false (sym (ap (λ (x : Left). is_at x.state.place) (open_leaves d.writer f v n t lent (open_clear d.writer f v n t lent e))) ∙ shut))
none_by d _ _ _ (is_finished kind vs clear e) h shut =
    absurd (true_false (sym (ap (λ (x : Added). is_at x.state.place) (add_leaves d.writer d.now.words kind vs clear)) ∙ shut))
none_by d _ _ _ (is_unfinished kind vs clear e) h shut =
    absurd (true_false (sym (ap (λ (x : Added). is_at x.state.place) (add_leaves d.writer d.now.words kind vs clear)) ∙ shut))
none_by d _ _ _ (is_closed e) h shut =
    ap (λ (x : Left). x.state.crc) (close_leaves d.writer d.now.words (close_clear d.writer d.now.words e))

-- ---- behind any calls
both_after : (system mode : ℕ) (cs : List Call) (d : Desk) → DeskOk system mode d → NoneLaid d → DeskOk system mode (desk_after d cs) × NoneLaid (desk_after d cs)
unfolding desk_after
both_after system mode [] d ok none = (ok, none)
both_after system mode (c ∷ cs) d ok none =
    both_after system mode cs (after d c) (after_ok system mode d c ok) (none_by d c (after d c) (sends d c) (does true d c) none)

nothing_there : (system : ℕ) (w : Writer) (line : List ℕ) → is_at w.place ≡ false → crc_of crc_start (laid_in system w line) ≡ crc_start
nothing_there system w line shut = go w.place refl
  where
    go : (p : Option ℕ) → w.place ≡ p → crc_of crc_start (laid_in system w line) ≡ crc_start
    go None e = ap (λ (p : Option ℕ). crc_of crc_start (laid_in system (record { system = w.system; mode = w.mode; last = w.last; settings = w.settings; place = p; rest = w.rest; crc = w.crc; used = w.used }) line)) e
        ∙ crc_none crc_start (lit< tt)
    go (Some k) e = absurd (true_false (sym (ap is_at e) ∙ shut))

kept_by : (system mode : ℕ) (d : Desk) → DeskOk system mode d → NoneLaid d → d.writer.crc ≡ crc_of crc_start (laid_in system d.writer d.now.words)
kept_by system mode d ok none = go (is_at d.writer.place) refl
  where
    go : (b : Bool) → is_at d.writer.place ≡ b → d.writer.crc ≡ crc_of crc_start (laid_in system d.writer d.now.words)
    go true at =
        let o = ok.opened at in
        let a = o.openable in
        summed_there system mode d.now.f d.now.v d.now.number d.now.settings a.held a.known a.row a.clean (packed d.now.packets) (joined d.now.pieces)
        d.writer d.now.words o.is_open
    go false shut = none shut ∙ sym (nothing_there system d.writer d.now.words shut)

pub running : Running
running = record {
  kept = λ system mode cs.
      let both = both_after system mode cs (start system mode) (start_ok system mode) (λ e. refl) in
      kept_by system mode (desk_after (start system mode) cs) both.0 both.1;
  any_line = λ w f v n t lent w' line ps qs held done calls.
      let o = can_open w n t (length lent) (open_clear w f v n t lent done) in
      let there = filling w.system w.mode f v n t held o.known o.row o.clean [] [] _ _ w' line ps qs calls (opened_line w f v n t lent done) in
      summed_there w.system w.mode f v n t held o.known o.row o.clean (packed qs) (joined ps) w' line there;
}
