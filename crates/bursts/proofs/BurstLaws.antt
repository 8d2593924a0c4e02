-- Short bursts never pass: of any row, and so of every system and mode; and what the reader does with such a line.
-- Assumes nothing.
use mathlib.Core.Path.{◌≡◌, refl, sym, ap, ◌∙◌}
use mathlib.Core.Bool.{Bool, true, false, ◌&&◌, not}
use mathlib.Core.List.{List, [], ◌∷◌}
use mathlib.Core.Logic.{◌⊎◌, inl, inr, ⊎_elim}
use Prim.Native.Nat.{ℕ, ◌≤◌}
use native.Mathlib.Omega.{arith}
use lib.ListN.{length, length-take, length-drop}
use borrow.Author.Tests.{not-false}
use Rattle.lists.specs.Tests.{pick, when, lowest_of}
use Rattle.lists.specs.Lists.{same, each}
use Rattle.lists.proofs.Tests.{pick_true}
use Rattle.lists.proofs.Refusals.{lowest_clear}
use Rattle.lists.proofs.Lists.{same_eq}
use Rattle.words.specs.Forms.{is_data}
use Rattle.words.specs.Crc.{crc_words}
use Rattle.line.specs.declared.systems.System.{System}
use Rattle.line.specs.Systems.{system_of}
use Rattle.line.specs.Fixed.{is_variable}
use Rattle.line.specs.Layout.{end_words, area_of, end_of}
use Rattle.line.specs.Check.{legal, settings_of, area_faults, faults, fits_length, fits, line_faults, line_fault}
use Rattle.line.proofs.SystemLaws.{Fit, fitting}
use Rattle.line.proofs.CheckLaws.{check_rising, fault_of_fit}
use Rattle.bursts.specs.Burst.{Burst, Hit}
use Rattle.bursts.specs.Bursts.{NeverAtAnyLength, NeverPasses}
use Rattle.bursts.proofs.BurstCrc.{same_covered}
use Rattle.bursts.proofs.AreaAlone.{asked, end_is, by_area}

-- ---- of any row
module _ (s : System) (width : ℕ) (line line' : List ℕ) (b : Burst s width line line') where
  area_long : length (area_of s 1 line') ≡ length (area_of s 1 line)
  unfolding area_of
  area_long = simp (length-take, length-drop, b.long)

  -- the CRC words, which are as they were, are not those of the changed area
  crc_wrong : width ≤ 18 → end_of s 1 line ≡ crc_words (area_of s 1 line) → same (end_of s 1 line') (crc_words (area_of s 1 line')) ≡ false
  crc_wrong short is = go (same (end_of s 1 line') (crc_words (area_of s 1 line'))) refl
    where
      go : (t : Bool) → same (end_of s 1 line') (crc_words (area_of s 1 line')) ≡ t → t ≡ false
      go true e =
          absurd (b.some (same_covered b.start width (area_of s 1 line') (area_of s 1 line) short area_long b.same_before b.same_behind
          (sym (same_eq (end_of s 1 line') (crc_words (area_of s 1 line')) e) ∙ b.behind ∙ is)))
      go false e = refl

-- 16 holds: the answer is 15 or 16, by whether 15 does
one_of : (a b : Bool) → b ≡ true → (lowest_of (when 15 a ∷ when 16 b ∷ []) ≡ 15) ⊎ (lowest_of (when 15 a ∷ when 16 b ∷ []) ≡ 16)
unfolding pick
one_of true b e = inl refl
one_of false b e = inr (pick_true 16 0 e)

pub never_at_any_length : {width : ℕ} → width ≤ 18 → NeverAtAnyLength width
unfolding asked area_faults end_words pick
never_at_any_length {width} short s room mode line line' accepted guarded b =
    let is = by_area s mode line accepted guarded room line' b.before in
    let wrong = crc_wrong s width line line' b short (end_is s mode line accepted guarded) in
    ⊎_elim (λ e. inl (is ∙ e)) (λ e. inr (is ∙ e)) (one_of (not (each (legal mode (is_variable (settings_of line).block)) (area_of s 1 line') && each is_data (end_of s 1 line'))) _ (ap not wrong))

-- ---- of every system and mode
-- what an accepted line has
pub record Passed (system mode : ℕ) (line : List ℕ) : Type 0 where
  pub fit : fits system mode line ≡ true
  pub row : Fit system mode line
  pub clear : lowest_of (faults (system_of system) mode line) ≡ 0

pub passed : (system mode : ℕ) (line : List ℕ) → line_fault system mode line ≡ 0 → Passed system mode line
unfolding line_fault
passed system mode line e =
    let fit = not-false _ (lowest_clear (line_faults system mode line) (check_rising system mode line) e).0 in
    record { fit = fit; row = fitting system mode line fit; clear = sym (fault_of_fit system mode line fit) ∙ e }

-- a line of the same length: 3 to 16
pub same_fit : (system mode : ℕ) (line line' : List ℕ) → line_fault system mode line ≡ 0 → length line' ≡ length line
    → line_fault system mode line' ≡ lowest_of (faults (system_of system) mode line')
same_fit system mode line line' e long = fault_of_fit system mode line' (ap (fits_length system mode) long ∙ (passed system mode line e).fit)

pub never_passes : {width : ℕ} → width ≤ 18 → NeverPasses width
never_passes {width} short system mode line line' h =
    let p = passed system mode line h.accepted in
    let is = same_fit system mode line line' h.accepted h.burst.long in
    ⊎_elim (λ e. inl (is ∙ e)) (λ e. inr (is ∙ e))
    (never_at_any_length short (system_of system) p.row.row.room mode line line' p.clear h.guarded h.burst)

-- so not 0
pub refused_after : (system mode : ℕ) (line line' : List ℕ) → Hit system mode 18 line line' → line_fault system mode line' ≡ 0 → ⊥
refused_after system mode line line' h z =
    ⊎_elim (λ e. omega (arith, e, z)) (λ e. omega (arith, e, z)) (never_passes (omega arith) system mode line line' h)

-- and of the system's length
pub long_after : (system mode : ℕ) (line line' : List ℕ) → Hit system mode 18 line line' → length line' ≡ (system_of system).length
long_after system mode line line' h = h.burst.long ∙ sym (passed system mode line h.accepted).row.long
