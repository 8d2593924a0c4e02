-- A line in two parts, all before the payload and the payload: words pasted into the payload, and the line sealed.
-- Assumes nothing.
use mathlib.Core.Path.{◌≡◌, sym, ap, ap₂, ◌∙◌}
use mathlib.Core.Bool.{Bool, true, false}
use mathlib.Core.List.{List, ◌++◌, append_assoc}
use Prim.Native.Nat.{ℕ, ◌+◌, ◌-◌, ◌≤◌}
use native.Mathlib.Omega.{arith}
use lib.ListN.{length, take, drop, replicate, length-append}
use lib.Seq.{paste, take_at, take-append-add}
use Rattle.lists.proofs.Lists.{drop_behind, take_filler, drop_filler}
use Rattle.words.specs.Crc.{crc_start, crc_of, crc_words}
use Rattle.words.proofs.CrcLaws.{crc_append}
use Rattle.line.specs.declared.systems.System.{System}
use Rattle.line.specs.declared.settings.Settings.{Settings}
use Rattle.line.specs.Timing.{timing_words}
use Rattle.line.specs.Settings.{Held}
use Rattle.line.specs.Header.{header_words}
use Rattle.line.specs.Layout.{payload_at, gap_after, area_length, end_words, framed, line_words}
use Rattle.line.proofs.Headers.{header_length_lem}
use Rattle.line.proofs.GapLaws.{GapHolds, gap_long}
use Rattle.line.proofs.Lines.{four}
use Rattle.writer.specs.Closing.{end_by, sealed}

-- ---- filler
-- a part of the filler behind a list
pub take_behind : (a : List ℕ) (n m x : ℕ) → length a ≤ n → n ≤ length a + m → take n (a ++ replicate m x) ≡ a ++ replicate (n - length a) x
take_behind a n m x h k =
    let e : n ≡ length a + (n - length a) = omega arith in
    ap (λ (i : ℕ). take i (a ++ replicate m x)) e ∙ take-append-add a (replicate m x) (n - length a) ∙ ap (λ (l : List ℕ). a ++ l) (take_filler (n - length a) m x (omega arith))

-- ---- what stands before the payload, whatever is laid in the gap
pub front : System → Bool → Bool → ℕ → Settings → List ℕ → List ℕ
front s f v n t laid = timing_words f v true ++ (header_words n t ++ (gap_after s laid ++ timing_words f v false))

module _ (s : System) (f v : Bool) (n : ℕ) (t : Settings) (laid : List ℕ) (held : Held t) (room : s.payload + 61 ≤ s.length) (holds : GapHolds s laid) where
  pub front_length : length (front s f v n t laid) ≡ payload_at s
  unfolding front
  front_length =
      let gap = gap_after s laid in
      let a = length-append (timing_words f v true) (header_words n t ++ (gap ++ timing_words f v false)) in
      let b = length-append (header_words n t) (gap ++ timing_words f v false) in
      let c = length-append gap (timing_words f v false) in
      let d = header_length_lem t held n in
      let e = gap_long s laid holds in
      let g = four f v true in
      let h = four f v false in
      omega arith

pub framed_front : (s : System) (f v : Bool) (n : ℕ) (t : Settings) (laid payload : List ℕ) → framed s f v n t laid payload ≡ front s f v n t laid ++ payload
unfolding framed front
framed_front s f v n t laid payload =
    let eav = timing_words f v true in
    let sav = timing_words f v false in
    let header = header_words n t in
    let gap = gap_after s laid in
    sym (append_assoc eav (header ++ (gap ++ sav)) payload ∙ ap (λ (x : List ℕ). eav ++ x) (append_assoc header (gap ++ sav) payload ∙ ap (λ (x : List ℕ). header ++ x) (append_assoc gap sav payload)))

-- ---- words pasted behind a, over the filler
pub pasted : (h a ws : List ℕ) (m x k : ℕ) → k ≤ length ws
    → paste (h ++ (a ++ replicate m x)) (length h + length a) ws k ≡ h ++ ((a ++ take k ws) ++ replicate (m - k) x)
pasted h a ws m x k le =
    let l = h ++ (a ++ replicate m x) in
    let both : l ≡ (h ++ a) ++ replicate m x = sym (append_assoc h a (replicate m x)) in
    let long : length (h ++ a) ≡ length h + length a = length-append h a in
    let before : take (length h + length a) l ≡ h ++ a = ap (take (length h + length a)) both ∙ take_at (h ++ a) (replicate m x) (length h + length a) long in
    let behind : drop (length h + length a + k) l ≡ replicate (m - k) x =
    ap (drop (length h + length a + k)) both ∙ drop_behind (h ++ a) (replicate m x) (length h + length a) k long ∙ drop_filler k m x in
    ap₂ (λ (p q : List ℕ). (p ++ take k ws) ++ q) before behind ∙ simp append_assoc

-- ---- closing: the CRC of what was laid, taken on over the filler behind it, is the CRC of the area
end_is : (flag c : ℕ) (a fill : List ℕ) → c ≡ crc_of crc_start a → end_by flag (crc_of c fill) ≡ end_words flag (a ++ fill)
unfolding end_words crc_words
end_is flag c a fill e = ap (end_by flag) (ap (λ (x : ℕ). crc_of x fill) e ∙ sym (crc_append crc_start a fill))

pub seals : (s : System) (f v : Bool) (n : ℕ) (t : Settings) (laid : List ℕ) (held : Held t) (room : s.payload + 61 ≤ s.length) (holds : GapHolds s laid) (a : List ℕ) (c : ℕ)
    → length a ≤ area_length s.payload t.flag → area_length s.payload t.flag ≤ s.payload → c ≡ crc_of crc_start a
    → sealed s t.flag (length a) c (framed s f v n t laid (a ++ replicate (s.payload - length a) 0x200))
    ≡ line_words s f v n t laid (a ++ replicate (area_length s.payload t.flag - length a) 0x200)
unfolding sealed line_words
seals s f v n t laid held room holds a c inside short is =
    let k = area_length s.payload t.flag in
    let h = front s f v n t laid in
    let fill = a ++ replicate (s.payload - length a) 0x200 in
    let area = a ++ replicate (k - length a) 0x200 in
    let at : length h ≡ payload_at s = front_length s f v n t laid held room holds in
    let line : framed s f v n t laid fill ≡ h ++ fill = framed_front s f v n t laid fill in
    let cut : take k fill ≡ area = take_behind a k (s.payload - length a) 0x200 inside (omega arith) in
    let before : take (payload_at s + k) (framed s f v n t laid fill) ≡ h ++ area =
    ap₂ (λ (i : ℕ) (l : List ℕ). take (i + k) l) (sym at) line ∙ take-append-add h fill k ∙ ap (λ (l : List ℕ). h ++ l) cut in
    ap₂ ◌++◌ before (end_is t.flag c a (replicate (k - length a) 0x200) is)
    ∙ append_assoc h area (end_words t.flag area)
    ∙ sym (framed_front s f v n t laid (area ++ end_words t.flag area))
