-- What 3 to 14 look at: the first 57 words of a line, which are EAV and the header, and SAV. Lines that agree there have the same head.
-- Assumes nothing.
use mathlib.Core.Path.{◌≡◌, sym, ap, ap₂, ◌∙◌}
use mathlib.Core.Bool.{◌&&◌}
use mathlib.Core.List.{List, map}
use Prim.Native.Nat.{ℕ, ◌+◌, ◌*◌, ◌/◌, ◌%◌, ◌<◌, ◌≤◌}
use native.Mathlib.Omega.{arith}
use lib.Dec.{eqb, leb, lit<, lit≤}
use lib.ListN.{get_or, take}
use lib.Seq.{take-take, get_or-take}
use Rattle.lists.specs.Lists.{part}
use Rattle.lists.proofs.Lists.{inside}
use Rattle.line.specs.declared.systems.System.{System}
use Rattle.line.specs.Layout.{gap_at, sav_at}
use Rattle.line.specs.Check.{low, number_of, settings_of, timed, formed, crc_stands, numbered, head_faults}
use Rattle.line.proofs.Headers.{settings_from, from_bytes}

-- the same EAV, header and SAV
pub record SameHead (s : System) (l m : List ℕ) : Type 0 where
  pub front : take gap_at l ≡ take gap_at m
  pub sav : part (sav_at s) 4 l ≡ part (sav_at s) 4 m

-- lines that agree in their first p words, where EAV, header and SAV are among these
pub head_front : (s : System) (p : ℕ) (l m : List ℕ) → gap_at ≤ p → sav_at s + 4 ≤ p → take p l ≡ take p m → SameHead s l m
head_front s p l m h k e =
    record {
      front = sym (take-take gap_at p l h) ∙ ap (take gap_at) e ∙ take-take gap_at p m h;
      sav = sym (inside (sav_at s) 4 p l k) ∙ ap (part (sav_at s) 4) e ∙ inside (sav_at s) 4 p m k;
    }

module _ (s : System) (l m : List ℕ) (a : SameHead s l m) where
  seen : (i n : ℕ) → i + n ≤ 57 → part i n l ≡ part i n m
  seen i n h = sym (inside i n 57 l h) ∙ ap (part i n) a.front ∙ inside i n 57 m h

  word : (i : ℕ) → i < 57 → get_or l i 0 ≡ get_or m i 0
  word i h = sym (get_or-take 57 l i 0 h) ∙ ap (λ (x : List ℕ). get_or x i 0) a.front ∙ get_or-take 57 m i 0 h

  pub number_alike : number_of l ≡ number_of m
  unfolding number_of
  number_alike = ap₂ (λ (x y : ℕ). low x + y % 4 * 256) (word 10 (lit< tt)) (word 11 (lit< tt))

  pub settings_alike : settings_of l ≡ settings_of m
  settings_alike = from_bytes l ∙ ap (λ (x : List ℕ). settings_from (map low x)) (seen 14 40 (lit≤ tt)) ∙ sym (from_bytes m)

  timed_alike : timed (sav_at s) l ≡ timed (sav_at s) m
  unfolding timed
  timed_alike = simp (word 3 (lit< tt), seen 0 4 (lit≤ tt), a.sav)

  formed_alike : formed l ≡ formed m
  unfolding formed
  formed_alike = simp (seen 10 2 (lit≤ tt), seen 12 2 (lit≤ tt), seen 14 40 (lit≤ tt), seen 54 3 (lit≤ tt))

  crc_alike : (i n : ℕ) → i + n + 2 ≤ 57 → crc_stands i n l ≡ crc_stands i n m
  unfolding crc_stands
  crc_alike i n h = simp (seen (i + n) 2 h, seen i n (omega arith))

  numbered_alike : numbered s.lines l ≡ numbered s.lines m
  unfolding numbered
  numbered_alike = ap₂ (λ (n w : ℕ). leb 1 n && (leb n s.lines && eqb (low w / 4) 0)) number_alike (word 11 (lit< tt))

  pub head_alike : head_faults s l ≡ head_faults s m
  unfolding head_faults
  head_alike = simp (timed_alike, seen 4 6 (lit≤ tt), formed_alike, seen 56 1 (lit≤ tt), seen 7 49 (lit≤ tt), crc_alike 7 5 (lit≤ tt), crc_alike 14 40 (lit≤ tt), numbered_alike)
