-- Refusals change nothing, and what each call leaves by its fault.
-- Assumes nothing.
use Rattle.std.specs.Prelude.{None}
use mathlib.Core.Path.{◌≡◌, refl}
use mathlib.Core.Bool.{Bool, true, false}
use mathlib.Core.List.{List}
use Prim.Native.Nat.{ℕ}
use native.Mathlib.Omega.{arith}
use lib.Dec.{eqb}
use lib.ListN.{length}
use borrow.Author.Tests.{eq-eqb, ne_eqb, eqb-true}
use Rattle.lists.specs.Tests.{pick}
use Rattle.lists.proofs.Tests.{pick_true, pick_false}
use Rattle.words.specs.Crc.{crc_start}
use Rattle.line.specs.declared.settings.Settings.{Settings}
use Rattle.line.specs.Systems.{system_of}
use Rattle.course.specs.Course.{place_of}
use Rattle.writer.specs.declared.state.Writer.{Writer}
use Rattle.writer.specs.declared.state.Answer.TheVariants.{Refused, Done}
use Rattle.writer.specs.declared.state.Laid.TheVariants.{Refused as NotLaid}
use Rattle.writer.specs.State.{moved, open_state}
use Rattle.writer.specs.Answers.{left, added}
use Rattle.writer.specs.Opening.{open_fault, open_words, opening}
use Rattle.writer.specs.Adding.{add_fault, lay, adding}
use Rattle.writer.specs.Closing.{close_fault, sealed, closing}

-- ---- opening and closing: done exactly if no condition holds, and otherwise nothing has changed
pub done_or : (b : Bool) (s w : Writer) (l line : List ℕ) (n : ℕ) → (pick b (left Done s l) (left (Refused n) w line)).answer ≡ Done
    → b ≡ true
unfolding pick
done_or true s w l line n e = refl
done_or false s w l line n e = absurd (let z : ◌≡◌ {A = ℕ} 0 1 = cc in let k : ⊥ = omega arith in k)

pub kept_or : (b : Bool) (s w : Writer) (l line : List ℕ) (n k : ℕ) → let x = pick b (left Done s l) (left (Refused n) w line) in x.answer ≡ Refused k
    → (x.state ≡ w) × (x.line ≡ line)
unfolding pick
kept_or true s w l line n k e = absurd (let z : ◌≡◌ {A = ℕ} 0 1 = cc in let f : ⊥ = omega arith in f)
kept_or false s w l line n k e = (refl, refl)

module _ (w : Writer) (f v : Bool) (n : ℕ) (t : Settings) (line : List ℕ) where
  pub open_clear : (opening w f v n t line).answer ≡ Done → open_fault w n t (length line) ≡ 0
  unfolding opening
  open_clear e = eqb-true _ _ (done_or (eqb (open_fault w n t (length line)) 0) _ _ _ _ _ e)

  pub open_leaves : open_fault w n t (length line) ≡ 0 → opening w f v n t line ≡ left Done (open_state w n t) (open_words w.system f v n t)
  unfolding opening
  open_leaves e = pick_true _ _ (eq-eqb _ _ e)

  pub open_keeps : (k : ℕ) → (opening w f v n t line).answer ≡ Refused k → ((opening w f v n t line).state ≡ w) × ((opening w f v n t line).line ≡ line)
  unfolding opening
  open_keeps k e = kept_or (eqb (open_fault w n t (length line)) 0) _ w _ line (open_fault w n t (length line)) k e

module _ (w : Writer) (line : List ℕ) where
  pub close_clear : (closing w line).answer ≡ Done → close_fault w (length line) ≡ 0
  unfolding closing
  close_clear e = eqb-true _ _ (done_or (eqb (close_fault w (length line)) 0) _ _ _ _ _ e)

  pub close_leaves : close_fault w (length line) ≡ 0
      → closing w line ≡ left Done (moved w None w.rest crc_start) (sealed (system_of w.system) w.settings.flag (place_of w.place) w.crc line)
  unfolding closing
  close_leaves e = pick_true _ _ (eq-eqb _ _ e)

  pub close_keeps : (k : ℕ) → (closing w line).answer ≡ Refused k → ((closing w line).state ≡ w) × ((closing w line).line ≡ line)
  unfolding closing
  close_keeps k e = kept_or (eqb (close_fault w (length line)) 0) _ w _ line (close_fault w (length line)) k e

-- ---- adding
module _ (w : Writer) (line : List ℕ) (kind : ℕ) (vs : List ℕ) where
  pub add_leaves : add_fault w (length line) kind vs ≡ 0 → adding w line kind vs ≡ lay w line kind vs
  unfolding adding
  add_leaves e = pick_true _ _ (eq-eqb _ _ e)

  pub add_stays : (add_fault w (length line) kind vs ≡ 0 → ⊥) → adding w line kind vs ≡ added (NotLaid (add_fault w (length line) kind vs)) w line
  unfolding adding
  add_stays h = pick_false _ _ (ne_eqb _ _ h)
