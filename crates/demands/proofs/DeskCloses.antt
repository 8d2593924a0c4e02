-- A line closed: what an accepted closing says, and that the desk holds what it held.
-- Assumes nothing.
use Rattle.std.specs.Prelude.{Option, Some, None}
use mathlib.Core.Path.{◌≡◌, sym, ap, ap₂, ◌∙◌, subst}
use mathlib.Core.Bool.{Bool, true, false, ◌&&◌, not}
use mathlib.Core.List.{List, [], ◌∷◌}
use Prim.Native.Nat.{ℕ, suc, ◌-◌, ◌*◌, ◌/◌, ◌≤◌}
use native.Mathlib.Nat.{suc-mul, mul-div_cancel, zero-mul}
use native.Mathlib.Omega.{arith}
use lib.Dec.{eqb}
use lib.ListN.{length, length-append}
use borrow.Author.Tests.{leb-true, not-false}
use Rattle.lists.specs.Tests.{pick}
use Rattle.lists.proofs.Tests.{true_false, or_right, pick_true}
use Rattle.words.specs.Crc.{crc_start}
use Rattle.line.specs.declared.settings.Settings.{Settings}
use Rattle.line.specs.Systems.{system_of, is_system}
use Rattle.line.proofs.SystemLaws.{sound}
use Rattle.line.specs.Fixed.{is_variable, size_of, places_of}
use Rattle.line.specs.Layout.{area_length}
use Rattle.course.specs.Course.{is_at, place_of, blocks_end, misplaced}
use Rattle.course.proofs.CourseLaws.{grid_some}
use Rattle.writer.specs.declared.state.Answer.TheVariants.{Done}
use Rattle.writer.specs.State.{is_part, end_in, moved}
use Rattle.writer.specs.Answers.{Left, left}
use Rattle.writer.specs.Adding.{is_full}
use Rattle.writer.specs.Closing.{sealed, closing}
use Rattle.packets.specs.Packet.{packed}
use Rattle.writer.specs.Filling.{joined}
use Rattle.writer.proofs.Keeps.{close_clear, close_leaves}
use Rattle.writer.proofs.Refusals.{Begun, begun, CanClose, can_close}
use Rattle.writer.proofs.Stays.{close_possible}
use Rattle.writer.proofs.Writing.{closed_line, closed_accepted}
use Rattle.demands.specs.Sending.{Desk, closed_by}
use Rattle.demands.proofs.DeskOk.{AllLong, OpenNow, DeskOk}
use Rattle.demands.proofs.Outcomes.{Closes}
use Rattle.demands.proofs.DeskCalls.{owes_stays}

-- ---- an area has a word, with either flag
area_by : (p : ℕ) (b : Bool) → 3 ≤ p → 1 ≤ pick b (p - 2) p
unfolding pick
area_by p true h = omega arith
area_by p false h = omega arith

pub area_some : (system flag : ℕ) → is_system system ≡ true → 1 ≤ area_length (system_of system).payload flag
unfolding area_length
area_some system flag known = area_by (system_of system).payload (eqb flag 1) (sound system known).some

-- ---- what 20 lets pass: an unfinished block where no word is left
filled_by : (end : ℕ) (place : Option ℕ) (part : Bool) → (part && not (is_full end place)) ≡ false → part ≡ true → is_at place ≡ true → end ≤ place_of place
filled_by end place false e p at = absurd (true_false (sym p))
filled_by end None true e p at = absurd (true_false (sym at))
filled_by end (Some q) true e p at = leb-true end q (not-false _ e)

pub varied_by : (part variable : Bool) → (part && not variable) ≡ false → part ≡ true → variable ≡ true
varied_by true variable e p = not-false variable e
varied_by false variable e p = absurd (true_false (sym p))

pub end_variable : (p block flag : ℕ) → is_variable block ≡ true → blocks_end p block flag ≡ area_length p flag
unfolding blocks_end
end_variable p block flag v = pick_true _ _ v

-- ---- pieces of one size
pub long_joined : (n : ℕ) (ps : List (List ℕ)) → AllLong n ps → length (joined ps) ≡ length ps * n
long_joined n [] h = sym (zero-mul n)
long_joined n (p ∷ ps) h = let more = long_joined n ps h.1 in omega (arith, h.0, length-append p (joined ps), suc-mul (length ps) n)

module _ (system mode : ℕ) (d : Desk) (ok : DeskOk system mode d) (done : (closing d.writer d.now.words).answer ≡ Done) where
  abbrev t : Settings
  t = d.now.settings

  finds : CanClose d.writer d.now.words
  finds = can_close d.writer d.now.words (close_clear d.writer d.now.words done)

  leaves : closing d.writer d.now.words
      ≡ left Done (moved d.writer None d.writer.rest crc_start)
      (sealed (system_of d.writer.system) d.writer.settings.flag (place_of d.writer.place) d.writer.crc d.now.words)
  leaves = close_leaves d.writer d.now.words (close_clear d.writer d.now.words done)

  now_open : OpenNow system mode d
  now_open = ok.opened finds.begun

  -- a possible state, with a line open
  at_closing : Begun d.writer
  at_closing = begun d.writer ok.possible (or_right (is_part d.writer.rest) (is_at d.writer.place) finds.begun)

  place_is : place_of d.writer.place ≡ length (joined d.now.pieces)
  place_is = ap place_of now_open.is_open.of_place

  end_is : end_in d.writer ≡ blocks_end (system_of system).payload t.block t.flag
  end_is =
      ap₂ (λ (s : ℕ) (u : Settings). blocks_end (system_of s).payload u.block u.flag) now_open.is_open.of_system now_open.is_open.of_settings

  fills : is_part d.writer.rest ≡ true → length (joined d.now.pieces) ≡ area_length (system_of system).payload t.flag
  fills part =
      let v : is_variable t.block ≡ true =
      ap (λ (u : Settings). is_variable u.block) (sym now_open.is_open.of_settings) ∙ varied_by (is_part d.writer.rest) _ at_closing.course.varied part in
      let full = filled_by (end_in d.writer) d.writer.place (is_part d.writer.rest) finds.none_left part finds.begun in
      omega (arith, full, place_is, end_is, end_variable (system_of system).payload t.block t.flag v, now_open.is_open.within)

  placed_now : misplaced (system_of system).payload t.block t.flag (Some (length (joined d.now.pieces))) ≡ false
  placed_now =
      let o = now_open.is_open in
      sym
      (ap₂ (λ (s : ℕ) (u : Settings). misplaced (system_of s).payload u.block u.flag d.writer.place) o.of_system o.of_settings
      ∙ ap (λ (p : Option ℕ). misplaced (system_of system).payload t.block t.flag p) o.of_place)
      ∙ at_closing.course.placed

  few : is_variable t.block ≡ false → length d.now.pieces ≤ places_of (system_of system).payload t.block
  few v =
      let g = grid_some (system_of system).payload t.block t.flag (length (joined d.now.pieces)) v placed_now in
      let size = size_of t.block in
      let is : length (joined d.now.pieces) / size ≡ length d.now.pieces =
      ap (λ (q : ℕ). q / size) (long_joined size d.now.pieces (now_open.placed v)) ∙ mul-div_cancel (length d.now.pieces) g.0 in
      subst (λ (q : ℕ). q ≤ places_of (system_of system).payload t.block) is g.1

-- ---- an accepted closing
pub closes_say : (system mode : ℕ) (d : Desk) → DeskOk system mode d → (closing d.writer d.now.words).answer ≡ Done → Closes system mode d
closes_say system mode d ok done =
    let o = now_open system mode d ok done in
    let a = o.openable in
    let t = d.now.settings in
    let e = leaves system mode d ok done in
    let full = fills system mode d ok done in
    record {
      is =
          closed_line system mode d.now.f d.now.v d.now.number t a.held a.known a.moded a.row a.clean a.one
          a.most_lines (packed d.now.packets) d.now.pieces d.writer d.now.words o.is_open done;
      accepts =
          closed_accepted system mode d.now.f d.now.v d.now.number t a.held a.known a.moded a.row a.clean a.one
          a.most_lines (packed d.now.packets) d.now.pieces d.writer d.now.words o.is_open done;
      held = a.held;
      holds = o.is_open.holds;
      sound = o.sound;
      last_is = o.last_is;
      settings_are = o.is_open.of_settings;
      state_last = ap (λ (x : Left). x.state.last) e;
      state_settings = ap (λ (x : Left). x.state.settings) e;
      state_place = ap (λ (x : Left). x.state.place) e;
      state_rest = ap (λ (x : Left). x.state.rest) e;
      full = full;
      within = few system mode d ok done;
      begun = λ part p at.
          omega (arith, full part, place_is system mode d ok done, ap place_of at, area_some system t.flag a.known);
    }

pub closed_ok : (system mode : ℕ) (d : Desk) → DeskOk system mode d → (closing d.writer d.now.words).answer ≡ Done
    → DeskOk system mode (closed_by Done (closing d.writer d.now.words) d)
closed_ok system mode d ok done =
    let e = leaves system mode d ok done in
    let x = closing d.writer d.now.words in
    record {
      of_system = ap (λ (y : Left). y.state.system) e ∙ ok.of_system;
      possible = close_possible d.writer d.now.words ok.possible;
      opened = λ at. absurd (true_false (sym at ∙ ap (λ (y : Left). is_at y.state.place) e));
      owes = owes_stays mode d x.state _ (suc d.closed) (ap (λ (y : Left). y.state.mode) e) (ap (λ (y : Left). y.state.rest) e)
          (λ z. ap (λ (y : Left). y.state.settings.block) e) ok.owes;
    }
