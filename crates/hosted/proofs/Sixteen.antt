-- A number of more than 16 bits counts as 65,535: every rule that would refuse the number refuses that too, and before any rule in which they differ. So opening and adding are those of
-- the number itself.
-- Assumes nothing.
use Rattle.std.specs.Prelude.{Option}
use Prim.Native.Nat.{ℕ, min, ◌≤◌, ◌<◌}
use mathlib.Core.Bool.{Bool, true, false, ◌&&◌, not}
use mathlib.Core.List.{List}
use mathlib.Core.Path.{◌≡◌, sym, ap, ◌∙◌}
use mathlib.Core.Logic.{⊎_elim}
use native.Mathlib.Omega.{arith}
use lib.Dec.{leb, ltb}
use lib.ListN.{length}
use borrow.Author.Tests.{lt-ltb, lt-leb}
use Rattle.lists.specs.Tests.{pick}
use Rattle.lists.proofs.Tests.{or_left, or_right, and_none, lt_or_le, pick_true}
use Rattle.line.specs.declared.settings.Settings.{Settings}
use Rattle.line.specs.Systems.{system_of}
use Rattle.line.specs.Check.{fits_length}
use Rattle.writer.specs.declared.state.Writer.{Writer}
use Rattle.writer.specs.declared.state.Answer.TheVariants.{Refused}
use Rattle.writer.specs.declared.state.Laid.TheVariants.{Refused as NotLaid}
use Rattle.writer.specs.State.{most, impossible}
use Rattle.writer.specs.Answers.{left, added}
use Rattle.writer.specs.Opening.{open_fault, opening}
use Rattle.writer.specs.Adding.{valued, ill_shaped, add_fault, adding}
use Rattle.writer.proofs.StateLaws.{not_opened}
use Rattle.writer.proofs.Calls.{add_refused}
use Rattle.calls.specs.Answers.{sixteen}
use Rattle.hosted.proofs.CourseHeld.{lines_most}

few : (n : ℕ) → n ≤ 65535 → min n 65535 ≡ n
few n h = omega arith

many : (n : ℕ) → 65535 < n → min n 65535 ≡ 65535
many n h = omega arith

-- what agrees for all large numbers agrees with the number itself
as_one : {A : Type 0} (f : ℕ → A) (x : A) → ((n : ℕ) → 65535 ≤ n → f n ≡ x) → (n : ℕ) → f (sixteen n) ≡ f n
unfolding sixteen
as_one f x h n =
    ⊎_elim (λ (l : 65535 < n). ap f (many n l) ∙ h 65535 (omega arith) ∙ sym (h n (omega arith))) (λ (l : n ≤ 65535). ap f (few n l)) (lt_or_le 65535 n)

-- of two refusals one is given
one_of : (b : Bool) (n x : ℕ) → 0 < n → 0 < x → 0 < pick b n x
unfolding pick
one_of true n x p q = p
one_of false n x p q = q

-- ---- opening: 9 holds of each, and nothing before it looks at the number
abbrev up_to_nine : Writer → ℕ → ℕ
up_to_nine w long = pick (not (fits_length w.system w.mode long)) 1 (pick (impossible w) 2 9)

module _ (w : Writer) (f v : Bool) (t : Settings) (line : List ℕ) where
  out_of_range : (n : ℕ) → 65535 ≤ n → not (leb 1 n && leb n (system_of w.system).lines) ≡ true
  out_of_range n h = ap not (and_none (leb 1 n) _ (lt-leb n _ (omega (arith, h, lines_most w.system))))

  fault_9 : (n : ℕ) → 65535 ≤ n → open_fault w n t (length line) ≡ up_to_nine w (length line)
  unfolding open_fault
  fault_9 n h = ap (λ (x : ℕ). pick (not (fits_length w.system w.mode (length line))) 1 (pick (impossible w) 2 x)) (pick_true 9 _ (out_of_range n h))

  refused_9 : (n : ℕ) → 65535 ≤ n → opening w f v n t line ≡ left (Refused (up_to_nine w (length line))) w line
  refused_9 n h =
      let some : 0 < up_to_nine w (length line) = one_of _ 1 _ (omega arith) (one_of (impossible w) 2 9 (omega arith) (omega arith)) in
      sym (not_opened w f v n t line (up_to_nine w (length line)) (sym (fault_9 n h)) (λ z. omega (arith, some, z)))

  pub opens_the_same : (n : ℕ) → opening w f v (sixteen n) t line ≡ opening w f v n t line
  opens_the_same = as_one (λ (n : ℕ). opening w f v n t line) _ refused_9

-- ---- adding: 18 holds of each, and nothing before it looks at the type
abbrev up_to_eighteen : Writer → ℕ → List ℕ → ℕ
up_to_eighteen w long vs = pick (not (fits_length w.system w.mode long)) 1 (pick (impossible w) 2 (pick (not (valued w.mode vs)) 17 18))

module _ (w : Writer) (line vs : List ℕ) where
  above_a_byte : (place : Option ℕ) (block kind n : ℕ) → 65535 ≤ kind → ill_shaped place block kind n ≡ true
  unfolding ill_shaped
  above_a_byte place block kind n h = or_right (ltb most n) _ (or_left (ltb 255 kind) _ (lt-ltb 255 kind (omega arith)))

  fault_18 : (kind : ℕ) → 65535 ≤ kind → add_fault w (length line) kind vs ≡ up_to_eighteen w (length line) vs
  unfolding add_fault
  fault_18 kind h =
      ap (λ (x : ℕ). pick (not (fits_length w.system w.mode (length line))) 1 (pick (impossible w) 2 (pick (not (valued w.mode vs)) 17 x)))
      (pick_true 18 _ (above_a_byte w.place w.settings.block kind (length vs) h))

  refused_18 : (kind : ℕ) → 65535 ≤ kind → adding w line kind vs ≡ added (NotLaid (up_to_eighteen w (length line) vs)) w line
  refused_18 kind h =
      let some : 0 < up_to_eighteen w (length line) vs =
      one_of _ 1 _ (omega arith) (one_of (impossible w) 2 _ (omega arith) (one_of (not (valued w.mode vs)) 17 18 (omega arith) (omega arith))) in
      sym (add_refused w line kind vs (up_to_eighteen w (length line) vs) (sym (fault_18 kind h)) (λ z. omega (arith, some, z)))

  pub adds_the_same : (kind : ℕ) → adding w line (sixteen kind) vs ≡ adding w line kind vs
  adds_the_same = as_one (λ (kind : ℕ). adding w line kind vs) _ refused_18
