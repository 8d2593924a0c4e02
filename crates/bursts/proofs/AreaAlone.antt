-- A line that agrees with an accepted one up to the payload: 3 to 14 find nothing in it, so that 15 and 16 alone decide. Of any row.
-- Assumes nothing.
use mathlib.Core.Path.{◌≡◌, refl, ap, ap₂, ◌∙◌, subst}
use mathlib.Core.Bool.{true}
use mathlib.Core.List.{List, ◌++◌}
use Prim.Native.Nat.{ℕ, ◌+◌, ◌≤◌}
use native.Mathlib.Omega.{arith}
use lib.ListN.{take}
use borrow.Author.Tests.{not-false}
use Rattle.lists.specs.Tests.{pick, Refusal, or_next, lowest_of, rising}
use Rattle.lists.proofs.Refusals.{Clear, clear_lowest, lowest_clear, clear_split, lowest_append}
use Rattle.lists.proofs.Lists.{same_eq}
use Rattle.words.specs.Crc.{crc_words}
use Rattle.line.specs.declared.settings.Settings.{Settings}
use Rattle.line.specs.declared.systems.System.{System}
use Rattle.line.specs.Fixed.{is_variable}
use Rattle.line.specs.Settings.{settings_faults}
use Rattle.line.specs.Layout.{payload_at, end_words, area_of, end_of}
use Rattle.line.specs.Check.{settings_of, head_faults, area_faults, payload_faults, faults}
use Rattle.line.proofs.CheckLaws.{head_rising, settings_rising}
use Rattle.line.proofs.HeadSeen.{head_front, settings_alike, head_alike}

-- the numbers 3 to 16 rise
all_rising : (s : System) (mode : ℕ) (line : List ℕ) → rising (faults s mode line) ≡ true
unfolding faults head_faults settings_faults payload_faults area_faults
all_rising s mode line = refl

-- refusals behind some of which none holds
behind_clear : (rs ss : List Refusal) → rising rs ≡ true → Clear rs → lowest_of (rs ++ ss) ≡ lowest_of ss
behind_clear rs ss up k = lowest_append rs ss up ∙ ap (λ (n : ℕ). or_next n (lowest_of ss)) (clear_lowest rs k)

-- what 15 and 16 ask of an area and what stands behind it, with flag 01h and the block type of the line
unfoldable pub asked : ℕ → List ℕ → List ℕ → List ℕ → List Refusal
asked mode line area end = area_faults mode (is_variable (settings_of line).block) 1 area end

-- none of 3 to 16 holds
record AllClear (s : System) (mode : ℕ) (line : List ℕ) : Type 0 where
  head : Clear (head_faults s line)
  settings : Clear (settings_faults s (settings_of line))
  area : Clear (asked mode line (area_of s 1 line) (end_of s 1 line))

module _ (s : System) (mode : ℕ) (line : List ℕ) (accepted : lowest_of (faults s mode line) ≡ 0) (guarded : (settings_of line).flag ≡ 1) where
  clear : AllClear s mode line
  unfolding faults payload_faults asked
  clear =
      let a = clear_split (head_faults s line) _ (lowest_clear (faults s mode line) (all_rising s mode line) accepted) in
      let b = clear_split (settings_faults s (settings_of line)) _ a.1 in
      record {
        head = a.0;
        settings = b.0;
        area = subst (λ (f : ℕ). Clear (area_faults mode (is_variable (settings_of line).block) f (area_of s f line) (end_of s f line))) guarded b.1;
      }

  -- the two words behind the area are its CRC
  pub end_is : end_of s 1 line ≡ crc_words (area_of s 1 line)
  unfolding asked area_faults end_words pick
  end_is = same_eq (end_of s 1 line) (crc_words (area_of s 1 line)) (not-false _ clear.area.1.0)

  -- a line that is the same up to the payload
  pub by_area : s.payload + 61 ≤ s.length → (line' : List ℕ) → take (payload_at s) line' ≡ take (payload_at s) line
      → lowest_of (faults s mode line') ≡ lowest_of (asked mode line (area_of s 1 line') (end_of s 1 line'))
  unfolding faults payload_faults asked
  by_area room line' before =
      let head = head_front s (payload_at s) line' line (omega arith) (omega arith) before in
      ap₂ (λ (hs : List Refusal) (t : Settings). lowest_of (hs ++ (settings_faults s t ++ payload_faults s mode t.block t.flag line')))
      (head_alike s line' line head) (settings_alike s line' line head)
      ∙ behind_clear (head_faults s line) _ (head_rising s line) clear.head
      ∙ behind_clear (settings_faults s (settings_of line)) _ (settings_rising s (settings_of line)) clear.settings
      ∙ ap (λ (f : ℕ). lowest_of (area_faults mode (is_variable (settings_of line).block) f (area_of s f line') (end_of s f line'))) guarded
