-- Laws of a text that grows: a row laid behind its first n bytes.
-- Assumes nothing.
use mathlib.Core.Path.{◌≡◌, sym, ap, ◌∙◌}
use mathlib.Core.List.{List, ◌++◌, append_assoc}
use Prim.Native.Nat.{ℕ, ◌+◌, ◌-◌, ◌≤◌}
use native.Mathlib.Omega.{arith}
use lib.ListN.{length, take, replicate, length-append}
use lib.Seq.{length-take-le, take-append_seam}
use Rattle.reader.specs.declared.state.Event.{Event}
use Rattle.rows.specs.declared.Row.{Row}
use Rattle.rows.specs.Rows.{row_text, row_of}

-- bytes laid behind a text's first n
pub laid : (n : ℕ) (t b x post : List ℕ) → n ≤ length t → x ≡ b → take (n + length b) (take n t ++ (x ++ post)) ≡ take n t ++ b
laid n t b x post h e =
    let whole : length (take n t ++ b) ≡ n + length b = length-append (take n t) b ∙ ap (λ (k : ℕ). k + length b) (length-take-le _ _ h) in
    ap (λ (y : List ℕ). take (n + length b) (take n t ++ (y ++ post))) e
    ∙ ap (λ (k : ℕ). take k (take n t ++ (b ++ post))) (sym whole)
    ∙ ap (take (length (take n t ++ b))) (sym (append_assoc (take n t) b post))
    ∙ take-append_seam (take n t ++ b) post

-- a row of 48 bytes
pub text_fits : (r : Row) (e : Event) → r ≡ row_of e → length r.bytes ≡ 48 → length (row_text e) ≤ 48
unfolding row_of
text_fits r e is long =
    let t = row_text e in
    let b : length r.bytes ≡ length t + length {A = ℕ} (replicate (48 - length t) 0) = ap (λ (x : Row). length x.bytes) is ∙ length-append t (replicate (48 - length t) 0) in
    omega (arith, b, long)

pub text_of : (r : Row) (e : Event) → r ≡ row_of e → take r.length r.bytes ≡ row_text e
unfolding row_of
text_of r e is = ap (λ (x : Row). take x.length x.bytes) is ∙ take-append_seam (row_text e) (replicate (48 - length (row_text e)) 0)
