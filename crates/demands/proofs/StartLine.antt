-- A line opened: the ear would start on it behind what was laid of an unfinished block, if all of that was kept, and idle if not.
-- Assumes nothing.
use Rattle.std.specs.Prelude.{Option, Some, None}
use Prim.Native.Nat.{ℕ, ◌≤◌}
use mathlib.Core.Bool.{Bool, true, false, ◌&&◌, not}
use mathlib.Core.List.{List, []}
use mathlib.Core.Path.{◌≡◌, refl, sym, ap, ◌∙◌}
use native.Mathlib.Omega.{arith}
use lib.ListN.{length}
use Rattle.lists.specs.Tests.{pick}
use Rattle.lists.proofs.Tests.{true_false, and_true, pick_true, pick_false, and_none}
use Rattle.line.specs.declared.settings.Settings.{Settings}
use Rattle.line.specs.Systems.{system_of}
use Rattle.line.specs.Settings.{same_settings}
use Rattle.line.specs.Fixed.{is_variable}
use Rattle.course.specs.Course.{place_of}
use Rattle.writer.specs.declared.state.Answer.TheVariants.{Done}
use Rattle.writer.specs.State.{is_part}
use Rattle.writer.specs.Opening.{is_next, opening}
use Rattle.machine.specs.declared.phase.Phase.{Phase}
use Rattle.machine.specs.declared.phase.Phase.TheVariants.{Idle}
use Rattle.machine.specs.Phases.{is_busy}
use Rattle.reader.specs.Jump.{jump_from, is_zero}
use Rattle.reader.specs.Reading.{goes_on}
use Rattle.reader.proofs.JumpLaws.{system_jump_zero}
use Rattle.demands.specs.Sending.{Piece, Desk, opened_by, joined_pieces}
use Rattle.demands.specs.Damage.{all_on}
use Rattle.demands.proofs.Run.{Now, now, idle, run_to}
use Rattle.demands.proofs.Ear.{Ear, goes_on_in, start_now}
use Rattle.demands.proofs.DeskOk.{DeskOk}
use Rattle.demands.proofs.Outcomes.{Opens}
use Rattle.demands.proofs.DeskCalls.{shut_at, none_left, fixed_none}
use Rattle.demands.proofs.Ahead.{Matches, Between, Numbered, Noted, Ahead}

-- ---- the jump is 0 exactly where the number is next
zero_next : (system : ℕ) (l : Option ℕ) (n : ℕ) → Numbered (system_of system).lines l → 1 ≤ n → n ≤ (system_of system).lines
    → is_zero (jump_from (system_of system).lines l n) ≡ is_next (system_of system).lines l n
zero_next system None n r one most = refl
zero_next system (Some x) n r one most = system_jump_zero system n x one most r.0 r.1

goes_by : (system mode : ℕ) (e : Ear) (n : ℕ) (t : Settings) → Numbered (system_of system).lines e.last → 1 ≤ n → n ≤ (system_of system).lines
    → goes_on_in system mode e n t ≡ (is_next (system_of system).lines e.last n && same_settings t e.settings)
unfolding goes_on
goes_by system mode e n t r one most = ap (λ (b : Bool). b && same_settings t e.settings) (zero_next system e.last n r one most)

-- ---- idle
pick_idle : (b : Bool) (p : Phase) → p ≡ Idle → pick b p Idle ≡ Idle
unfolding pick
pick_idle true p e = e
pick_idle false p e = refl

busy_idle : (p : Phase) (b : Bool) → p ≡ Idle → (is_busy p && b) ≡ false
busy_idle p b e = ap (λ (x : Phase). is_busy x && b) e

-- where nothing is owing the machine is idle
pub idle_behind : (mode cap : ℕ) (keeps : ℕ → Bool) (ps : List Piece) (q : Now) → ps ≡ [] → Matches mode cap keeps ps q → q.phase ≡ Idle
idle_behind mode cap keeps ps q e m =
    let b = m.whole (ap (all_on keeps) e) in
    ap (λ (x : Now). x.phase) (b.is ∙ ap (λ (l : List Piece). run_to mode (idle b.from) (joined_pieces l)) e)

pub matches_idle : (mode cap : ℕ) (keeps : ℕ → Bool) (ps : List Piece) (q : Now) → ps ≡ [] → q.phase ≡ Idle → length q.room ≡ cap → Matches mode cap keeps ps q
matches_idle mode cap keeps ps q e i l = record {
  long = l;
  whole = λ h. record { from = q.room; from_long = l; is = ap (λ (p : Phase). now p q.room) i ∙ sym (ap (λ (x : List Piece). run_to mode (idle q.room) (joined_pieces x)) e) };
  lost = λ h. i;
}

-- ---- the start of a line
module _ (system mode cap : ℕ) (keeps : ℕ → Bool) (told gone : Bool) (d : Desk) (ear : Ear) (f v : Bool) (n : ℕ) (t : Settings) (lent : List ℕ)
    (ok : DeskOk system mode d) (o : Opens system d f v n t lent) (one : 1 ≤ n) (most : n ≤ (system_of system).lines) (a : Ahead system mode cap keeps told gone d ear) where
  here : Between mode cap keeps told d ear gone
  here = a.between o.was_shut

  goes : goes_on_in system mode ear n t ≡ (is_next (system_of system).lines ear.last n && same_settings t ear.settings)
  goes = goes_by system mode ear n t a.listens.numbered one most

  -- behind a gap that is noticed
  start_gone : gone ≡ true → is_next (system_of system).lines ear.last n ≡ false → Matches mode cap keeps d.pieces (start_now system mode ear n t)
  start_gone g h =
      let no_go : goes_on_in system mode ear n t ≡ false = goes ∙ ap (λ (b : Bool). b && same_settings t ear.settings) h in
      let i : pick (goes_on_in system mode ear n t) ear.phase Idle ≡ Idle = pick_false ear.phase Idle no_go in
      by i (is_part d.writer.rest) refl
    where
      by : pick (goes_on_in system mode ear n t) ear.phase Idle ≡ Idle → (b : Bool) → is_part d.writer.rest ≡ b → Matches mode cap keeps d.pieces (start_now system mode ear n t)
      by i true e = record { long = a.listens.long; whole = λ w. absurd (true_false (sym w ∙ here.away g e)); lost = λ w. i }
      by i false e = matches_idle mode cap keeps d.pieces (start_now system mode ear n t) (none_left system mode d ok e) i a.listens.long

  -- an unfinished block, all of it kept, goes on
  goes_part : Noted (system_of system).lines told ear.last gone n → gone ≡ false → is_part d.writer.rest ≡ true → all_on keeps d.pieces ≡ true
      → goes_on_in system mode ear n t ≡ true
  goes_part h g e w = goes ∙ and_true (by told refl) (ap (same_settings t) (here.same g e w).settings ∙ (o.goes_on e).0)
    where
      by : (b : Bool) → told ≡ b → is_next (system_of system).lines ear.last n ≡ true
      by true z = h.1 z g (here.same g e w).known
      by false z = ap (λ (l : Option ℕ). is_next (system_of system).lines l n) ((here.same g e w).last z) ∙ (o.goes_on e).1

  start_here : Noted (system_of system).lines told ear.last gone n → gone ≡ false → Matches mode cap keeps d.pieces (start_now system mode ear n t)
  start_here h g = by (is_part d.writer.rest) refl
    where
      by : (b : Bool) → is_part d.writer.rest ≡ b → Matches mode cap keeps d.pieces (start_now system mode ear n t)
      by false e =
          let i = idle_behind mode cap keeps d.pieces (now ear.phase ear.room) (none_left system mode d ok e) (here.here g) in
          matches_idle mode cap keeps d.pieces (start_now system mode ear n t) (none_left system mode d ok e) (pick_idle (goes_on_in system mode ear n t) ear.phase i) a.listens.long
      by true e = record {
        long = a.listens.long;
        whole = λ w.
            let b = (here.here g).whole w in
            record { from = b.from; from_long = b.from_long; is = ap (λ (p : Phase). now p ear.room) (pick_true ear.phase Idle (goes_part h g e w)) ∙ b.is };
        lost = λ w. pick_idle (goes_on_in system mode ear n t) ear.phase ((here.here g).lost w);
      }

  start_matches : Noted (system_of system).lines told ear.last gone n → Matches mode cap keeps d.pieces (start_now system mode ear n t)
  start_matches h = by gone refl
    where
      by : (b : Bool) → gone ≡ b → Matches mode cap keeps d.pieces (start_now system mode ear n t)
      by true g = start_gone g (h.0 g)
      by false g = start_here h g

  -- nothing is dropped: the phase is idle, or it goes on
  start_none_dropped : Noted (system_of system).lines told ear.last gone n → gone ≡ false → (is_busy ear.phase && not (goes_on_in system mode ear n t)) ≡ false
  start_none_dropped h g = by (is_part d.writer.rest) (all_on keeps d.pieces) refl refl
    where
      by : (b c : Bool) → is_part d.writer.rest ≡ b → all_on keeps d.pieces ≡ c → (is_busy ear.phase && not (goes_on_in system mode ear n t)) ≡ false
      by false c e w = busy_idle ear.phase _ (idle_behind mode cap keeps d.pieces (now ear.phase ear.room) (none_left system mode d ok e) (here.here g))
      by true false e w = busy_idle ear.phase _ ((here.here g).lost w)
      by true true e w = ap (λ (x : Bool). is_busy ear.phase && not x) (goes_part h g e w) ∙ and_none (is_busy ear.phase) false refl

  abbrev next : Desk
  next = opened_by Done (opening d.writer f v n t lent) d f v n t

  pub opened_ahead : DeskOk system mode (opened_by Done (opening d.writer f v n t lent) d f v n t)
      → Ahead system mode cap keeps told gone (opened_by Done (opening d.writer f v n t lent) d f v n t) ear
  opened_ahead k = record {
    listens = a.listens;
    between = λ e. absurd (shut_at 0 (sym e ∙ o.place));
    inside = λ e h g. record {
      by_words = λ w. record { heard = refl; matches = start_matches g };
      by_places = λ w. record { heard = refl; phase = idle_behind mode cap keeps d.pieces (start_now system mode ear n t) (fixed_none system mode next k (ap (λ (u : Settings). is_variable u.block) o.settings ∙ w)) (start_matches g); long = a.listens.long };
    };
    none_dropped = λ e h g. start_none_dropped h g;
    missing = λ h p e least part. absurd (at_zero p (sym o.place ∙ e) least);
  }
    where
      at_zero : (p : ℕ) → Some 0 ≡ Some p → 1 ≤ p → ⊥
      at_zero p e h = let z : 0 ≡ p = ap place_of e in omega arith
