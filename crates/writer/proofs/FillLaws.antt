-- Laws of lent parts of a line that words are laid in.
-- Assumes nothing.
use mathlib.Core.Path.{◌≡◌, ap, ap₂, ◌∙◌}
use mathlib.Core.List.{List, ◌++◌, append_assoc}
use Prim.Native.Nat.{ℕ, ◌+◌, ◌-◌, ◌≤◌}
use native.Mathlib.Omega.{arith}
use lib.ListN.{length, take, drop, length-take, length-drop}
use lib.Seq.{length-take-le, take_at, drop_at, paste}
use borrow.Rule.Slice.PartMut.{put_mid}
use Rattle.lists.proofs.Loops as lent
pub use Rattle.blocks.proofs.FillLaws.{part_whole}

-- ---- a part lent from a on, k words long, back with the first k words of s
pub mid_paste : (d s ys : List ℕ) (a k : ℕ) → a + k ≤ length d → ys ≡ take (length (take (a + k - a) (drop a d))) s → put_mid a (a + k - a) d ys ≡ paste d a s k
mid_paste d s ys a k h e =
    let m : a + k - a ≡ k = omega arith in
    let n : length (take (a + k - a) (drop a d)) ≡ k =
    ap (λ (i : ℕ). length (take i (drop a d))) m ∙ length-take-le k (drop a d) (rw (length-drop a d) (omega arith)) in
    lent.mid_paste d s ys a k (e ∙ ap (λ (i : ℕ). take i s) n)

pub part_most : (d : List ℕ) (a k : ℕ) → length (take (a + k - a) (drop a d)) ≤ k
part_most d a k = rw (length-take (a + k - a) (drop a d)) (omega arith)

-- the piece of words pasted at their place
pub piece_law : (l s : List ℕ) (a p k : ℕ) → a ≤ length l → k ≤ length s → take (p + k - p) (drop a (paste l a s k)) ≡ take k s
piece_law l s a p k ha hk =
    let m : p + k - p ≡ k = omega arith in
    ap₂ take m (ap (drop a) (append_assoc (take a l) (take k s) (drop (a + k) l)) ∙ drop_at (take a l) (take k s ++ drop (a + k) l) a (length-take-le a l ha))
    ∙ take_at (take k s) (drop (a + k) l) k (length-take-le k s hk)
