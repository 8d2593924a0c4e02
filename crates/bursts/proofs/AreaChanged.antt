-- A line with another area of the same length: it is as long as before, and the words before the area and behind it are the same.
-- Assumes nothing.
use mathlib.Core.Path.{◌≡◌, ap, ◌∙◌}
use mathlib.Core.List.{List, ◌++◌}
use Prim.Native.Nat.{ℕ, ◌+◌, ◌-◌, ◌≤◌}
use native.Mathlib.Omega.{arith}
use lib.ListN.{length, take, length-take, length-drop, length-append}
use lib.Seq.{take_at, drop_at}
use Rattle.lists.proofs.Lists.{drop_behind}
use Rattle.line.specs.declared.systems.System.{System}
use Rattle.line.specs.Layout.{payload_at, area_length, area_of, end_of}
use Rattle.line.proofs.AreaLaws.{area_most}

pub changed : System → List ℕ → List ℕ → List ℕ
changed s line area = take (payload_at s) line ++ (area ++ end_of s 1 line)

pub record Changed (s : System) (line area line' : List ℕ) : Type 0 where
  pub long : length line' ≡ length line
  pub before : take (payload_at s) line' ≡ take (payload_at s) line
  pub area_is : area_of s 1 line' ≡ area
  pub behind : end_of s 1 line' ≡ end_of s 1 line

module _ (s : System) (line area : List ℕ) (fits : s.payload ≤ s.length) (long : length line ≡ s.length) (fills : length area ≡ area_length s.payload 1) where
  front : length (take (payload_at s) line) ≡ payload_at s
  front = simp length-take (omega arith)

  end : List ℕ
  end = end_of s 1 line

  pub is_changed : Changed s line area (changed s line area)
  unfolding changed end area_of end_of
  is_changed =
      let a = length-append (take (payload_at s) line) (area ++ end) in
      let b = length-append area end in
      let c : length end ≡ length line - (payload_at s + area_length s.payload 1) = length-drop (payload_at s + area_length s.payload 1) line in
      let most = area_most s.payload 1 in
      record {
        long = omega (arith, front);
        before = take_at (take (payload_at s) line) (area ++ end) (payload_at s) front;
        area_is = ap (take (area_length s.payload 1)) (drop_at (take (payload_at s) line) (area ++ end) (payload_at s) front) ∙ take_at area end (area_length s.payload 1) fills;
        behind = drop_behind (take (payload_at s) line) (area ++ end) (payload_at s) (area_length s.payload 1) front ∙ drop_at area end (area_length s.payload 1) fills;
      }
