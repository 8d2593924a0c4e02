-- Laws of the writer's answers: the numbers of its refusals rise; and what opening leaves, refused or done.
-- Assumes nothing.
use mathlib.Core.Path.{◌≡◌, refl, sym, ap, ap₂, ◌∙◌}
use mathlib.Core.Bool.{Bool, true}
use mathlib.Core.List.{List}
use Prim.Native.Nat.{ℕ}
use lib.ListN.{length}
use borrow.Author.Tests.{eq-eqb, ne_eqb, not-false}
use Rattle.lists.specs.Tests.{rising}
use Rattle.lists.proofs.Tests.{pick_true, pick_false}
use Rattle.lists.proofs.Refusals.{lowest_clear}
use Rattle.line.specs.declared.settings.Settings.{Settings}
use Rattle.line.specs.Settings.{settings_faults}
use Rattle.line.specs.Check.{fits_length}
use Rattle.writer.specs.declared.state.Writer.{Writer}
use Rattle.writer.specs.declared.state.Answer.TheVariants.{Refused, Done}
use Rattle.writer.specs.Answers.{left}
use Rattle.writer.specs.State.{open_state}
use Rattle.writer.specs.Opening.{open_faults, open_fault, open_words, opening}
use Rattle.writer.specs.Adding.{add_faults}
use Rattle.writer.specs.Closing.{close_faults}

-- ---- the numbers rise, whatever the conditions are: the answer is the lowest whose condition holds
pub open_rising : (w : Writer) (n : ℕ) (t : Settings) (long : ℕ) → rising (open_faults w n t long) ≡ true
unfolding settings_faults
open_rising w n t long = refl

pub add_rising : (w : Writer) (long kind : ℕ) (vs : List ℕ) → rising (add_faults w long kind vs) ≡ true
add_rising w long kind vs = refl

pub close_rising : (w : Writer) (long : ℕ) → rising (close_faults w long) ≡ true
close_rising w long = refl

-- ---- opening
-- a line that opening does not refuse fits
pub open_fits : (w : Writer) (n : ℕ) (t : Settings) (long : ℕ) → open_fault w n t long ≡ 0 → fits_length w.system w.mode long ≡ true
unfolding open_fault
open_fits w n t long e = not-false _ (lowest_clear (open_faults w n t long) (open_rising w n t long) e).0

pub not_opened : (w : Writer) (f v : Bool) (n : ℕ) (t : Settings) (line : List ℕ) (x : ℕ) → x ≡ open_fault w n t (length line) → (x ≡ 0 → ⊥)
    → left (Refused x) w line ≡ opening w f v n t line
unfolding opening
not_opened w f v n t line x e h =
    ap (λ (k : ℕ). left (Refused k) w line) e ∙ sym (pick_false _ _ (ne_eqb (open_fault w n t (length line)) 0 (λ z. h (e ∙ z))))

pub opened : (w : Writer) (f v : Bool) (n : ℕ) (t : Settings) (line out : List ℕ) (st : Writer) (x : ℕ) → x ≡ open_fault w n t (length line) → x ≡ 0
    → out ≡ open_words w.system f v n t → st ≡ open_state w n t → left Done st out ≡ opening w f v n t line
unfolding opening
opened w f v n t line out st x e h k s =
    ap₂ (left Done) s k ∙ sym (pick_true _ _ (eq-eqb (open_fault w n t (length line)) 0 (sym e ∙ h)))
