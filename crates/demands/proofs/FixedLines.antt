-- A fixed line has as many blocks as places filled, so as many blocks as there are places stand on one line.
-- Assumes nothing.
use Prim.Native.Nat.{ℕ, ◌*◌, ◌/◌, ◌≤◌}
use mathlib.Core.Bool.{true, false}
use mathlib.Core.List.{List, [], ◌∷◌, ◌++◌, map}
use mathlib.Core.Path.{◌≡◌, refl, sym, ap, ◌∙◌}
use native.Mathlib.Nat.{mul-div_cancel}
use native.Mathlib.Omega.{arith}
use lib.ListN.{length, get_or, length-append, length-map}
use Rattle.lists.proofs.Tests.{true_false, pick_false}
use Rattle.line.specs.declared.settings.Settings.{Settings}
use Rattle.line.specs.Systems.{system_of}
use Rattle.line.specs.Fixed.{is_variable, size_of, places_of}
use Rattle.line.specs.Settings.{settings_fault}
use Rattle.course.specs.Course.{is_at, blocks_end}
use Rattle.course.proofs.CourseLaws.{start_placed, grid_some}
use Rattle.writer.specs.declared.state.Laid.{Laid}
use Rattle.writer.specs.Answers.{Left, laid_numbers}
use Rattle.writer.specs.Filling.{joined}
use Rattle.writer.proofs.Keeps.{close_clear, close_leaves}
use Rattle.writer.proofs.Refusals.{can_add, can_close}
use Rattle.demands.specs.All.{All}
use Rattle.demands.specs.Sending.{Call, Block, Complete, Sent, Desk, start, piece_now, complete_now, sent_fresh, blocks_of}
use Rattle.demands.specs.Writable.{Packed}
use Rattle.demands.proofs.DeskOk.{DeskOk}
use Rattle.demands.proofs.DeskAdds.{adds_say}
use Rattle.demands.proofs.DeskCloses.{long_joined}
use Rattle.demands.proofs.DeskStart.{start_ok}
use Rattle.demands.proofs.DeskDoes.{Does, is_quiet, is_opened, is_finished, is_unfinished, is_closed}
use Rattle.demands.proofs.DeskLaws.{along}

-- of a fixed line: a block a piece, and a piece a place
pub record FixedLine (s : Sent) : Type 0 where
  pub one_each : length s.blocks ≡ length s.pieces
  pub sized : length (joined s.pieces) ≡ length s.pieces * size_of s.settings.block

abbrev pub IsFixed : Sent → Type 0
IsFixed s = is_variable s.settings.block ≡ false → FixedLine s

module _ (system mode : ℕ) where
  -- of the open line
  Even : Desk → Type 0
  Even d = is_at d.writer.place ≡ true → is_variable d.now.settings.block ≡ false → length d.now.blocks ≡ length d.now.pieces

  fixed_by_lem : (d : Desk) (c : Call) (d' : Desk) (ts : List Sent) → Does true d c d' ts → DeskOk system mode d → DeskOk system mode d' → (cs : List Call) (ss : List Sent)
      → (Even d' → All IsFixed ss) → Even d → All IsFixed (ts ++ ss)
  unfolding Even
  fixed_by_lem d c _ _ (is_quiet w qs ws q) dk k cs ss more h = more (λ at. h (sym (ap is_at q.place) ∙ at))
  fixed_by_lem d _ _ _ (is_opened f v n t held lent e) dk k cs ss more h = more (λ at fixed. refl)
  fixed_by_lem d _ _ _ (is_finished kind vs clear e) dk k cs ss more h =
      more
      (λ at fixed.
      let was = h (can_add d.writer d.now.words kind vs clear).begun fixed in
      omega (arith, was, length-append d.now.blocks (complete_now d kind vs ∷ []), length-append d.now.pieces ((piece_now d kind vs).words ∷ [])))
  fixed_by_lem d _ _ _ (is_unfinished kind vs clear e) dk k cs ss more h =
      more
      (λ at fixed.
      let other = sym ((adds_say system mode d kind vs dk clear).fills fixed).finished ∙ e in
      let n : ◌≡◌ {A = ℕ} 1 0 = ap (λ (a : Laid). get_or (laid_numbers a) 1 0) other in
      omega (arith, n))
  fixed_by_lem d _ _ _ (is_closed e) dk k cs ss more h =
      let clear = close_clear d.writer d.now.words e in
      let at = (can_close d.writer d.now.words clear).begun in (
        λ fixed. record { one_each = h at fixed; sized = long_joined (size_of d.now.settings.block) d.now.pieces ((dk.opened at).placed fixed) },
        more (λ z. absurd (true_false (sym z ∙ ap (λ (x : Left). is_at x.state.place) (close_leaves d.writer d.now.words clear)))),
      )

  pub fixed_fresh : (cs : List Call) → All IsFixed (sent_fresh system mode cs)
  unfolding Even
  fixed_fresh cs =
      along system mode true (λ (d : Desk) (cs : List Call) (ss : List Sent). Even d → All IsFixed ss) (λ d h. tt) fixed_by_lem cs (start system mode) (start_ok system mode) (λ at fixed. refl)

ends_fixed : (p block flag : ℕ) → is_variable block ≡ false → blocks_end p block flag ≡ places_of p block * size_of block
unfolding blocks_end
ends_fixed p block flag v = pick_false _ _ v

-- so many places of one size
places_by : (n places size : ℕ) → 1 ≤ size → n * size ≡ places * size → n ≡ places
places_by n places size one e = sym (mul-div_cancel n one) ∙ ap (λ (x : ℕ). x / size) e ∙ mul-div_cancel places one

-- a second line has one block more than the first has places
module _ (system : ℕ) (t : Settings) (clean : settings_fault system t ≡ 0) (fixed : is_variable t.block ≡ false) (bs : List Block)
    (few : length bs ≤ places_of (system_of system).payload t.block) where
  pub on_one : (ss : List Sent) → 1 ≤ length ss → All IsFixed ss → All (λ (s : Sent). s.settings ≡ t) ss → Packed system ss
      → map (λ (b : Complete). b.block) (blocks_of ss) ≡ bs → length ss ≡ 1
  on_one [] some each sets packed is = absurd (omega arith)
  on_one (s ∷ []) some each sets packed is = refl
  on_one (r ∷ s ∷ ss) some each sets packed is =
      let p = (system_of system).payload in
      let size = size_of t.block in
      let one = (grid_some p t.block t.flag 0 fixed (start_placed system t clean)).0 in
      let a = each.0 (ap (λ (u : Settings). is_variable u.block) sets.0 ∙ fixed) in
      let b = each.1.0 (ap (λ (u : Settings). is_variable u.block) sets.1.0 ∙ fixed) in
      let full : length r.pieces * size ≡ places_of p t.block * size =
      sym (ap (λ (u : Settings). length r.pieces * size_of u.block) sets.0) ∙ sym a.sized ∙ packed.0
      ∙ ap (λ (u : Settings). blocks_end p u.block u.flag) sets.0 ∙ ends_fixed p t.block t.flag fixed in
      let all = places_by (length r.pieces) (places_of p t.block) size one full in
      let long = sym (length-map (r.blocks ++ (s.blocks ++ blocks_of ss)) (λ (c : Complete). c.block)) ∙ ap length is in
      absurd
      (omega (arith, all, a.one_each, b.one_each, packed.1.0, long, length-append r.blocks (s.blocks ++ blocks_of ss), length-append s.blocks (blocks_of ss), few))
