-- Settings that are bytes: zero settings; those that the line check reads from a line, whatever its words are; and those that 41 bytes spell.
-- Assumes nothing.
use Prim.Native.Nat.{ℕ, zero, suc, ◌+◌, ◌/◌, ◌%◌, ◌<◌, ◌≤◌}
use mathlib.Core.Bool.{true}
use mathlib.Core.List.{List, [], ◌∷◌, map}
use mathlib.Core.Path.{◌≡◌, refl, ◌∙◌}
use native.Mathlib.Omega.{arith}
use lib.ListN.{length, get_or, length-map}
use borrow.Author.Tests.{lt-ltb, not-false}
use Rattle.lists.specs.Lists.{part, each}
use Rattle.lists.proofs.Tests.{and_true}
use Rattle.lists.proofs.Lists.{length_part, each_at}
use Rattle.lists.proofs.Refusals.{lowest_clear}
use Rattle.line.specs.declared.settings.Settings.{Settings}
use Rattle.line.specs.Settings.{Held, small, no_settings}
use Rattle.line.specs.Check.{low, settings_of, line_faults, line_fault, checked_from, checked_of}
use Rattle.line.proofs.SystemLaws.{fitting}
use Rattle.line.proofs.CheckLaws.{check_rising}
use Rattle.fields.specs.Fields.{settings_from}
use Rattle.fields.proofs.FrameLaws.{settings_held}

pub record Octets (t : Settings) : Type 0 where
  pub code_byte : small t.code ≡ true
  pub aai_byte : small t.aai ≡ true
  pub held : Held t

pub zero_octets : Octets no_settings
zero_octets =
    record {
      code_byte = refl;
      aai_byte = refl;
      held = record { to = refl; from = refl; five = refl; to_bytes = refl; from_bytes = refl; five_bytes = refl; block_byte = omega arith; flag_byte = omega arith };
    }

-- ---- of a line
low_small : (l : List ℕ) → each small (map low l) ≡ true
low_small [] = refl
low_small (w ∷ l) = and_true (lt-ltb (w % 256) 256 (omega arith)) (low_small l)

low_part : (a n : ℕ) (l : List ℕ) → a + n ≤ length l → length (map low (part a n l)) ≡ n
low_part a n l h = length-map (part a n l) low ∙ length_part a n l h

low_less : (w : ℕ) → low w < 256
low_less w = omega arith

sixteenth : (w : ℕ) → (low w % 16 < 256) × (low w / 16 < 256)
sixteenth w = (omega arith, omega arith)

read_octets : (line : List ℕ) → 57 ≤ length line → Octets (settings_of line)
unfolding settings_of
read_octets line h =
    let w = get_or line 14 0 in
    record {
      code_byte = lt-ltb _ 256 (sixteenth w).0;
      aai_byte = lt-ltb _ 256 (sixteenth w).1;
      held =
          record {
            to = low_part 15 16 line (omega arith);
            from = low_part 31 16 line (omega arith);
            five = low_part 49 5 line (omega arith);
            to_bytes = low_small (part 15 16 line);
            from_bytes = low_small (part 31 16 line);
            five_bytes = low_small (part 49 5 line);
            block_byte = low_less (get_or line 47 0);
            flag_byte = low_less (get_or line 48 0);
          };
    }

-- with a fault the check gives zero settings
checked_by : (system mode : ℕ) (line : List ℕ) (n : ℕ) → line_fault system mode line ≡ n → Octets (checked_from n line).settings
unfolding line_fault
checked_by system mode line zero is =
    let c = lowest_clear (line_faults system mode line) (check_rising system mode line) is in
    let f = fitting system mode line (not-false _ c.0) in
    read_octets line (omega (arith, f.long, f.row.room))
checked_by system mode line (suc n) is = zero_octets

pub checked_octets : (system mode : ℕ) (line : List ℕ) → Octets (checked_of system mode line).settings
unfolding checked_of
checked_octets system mode line = checked_by system mode line (line_fault system mode line) refl

-- ---- of 41 bytes
pub spelled_octets : (b : List ℕ) → each small b ≡ true → length b ≡ 41 → Octets (settings_from b)
unfolding settings_from
spelled_octets b e h = record { code_byte = each_at small b 0 (omega arith) e; aai_byte = each_at small b 1 (omega arith) e; held = settings_held b e h }
