-- The parts of an opened line.
-- Assumes nothing.
use mathlib.Core.Path.{◌≡◌, sym, ap, ap₂, ◌∙◌}
use mathlib.Core.Bool.{Bool, true, false}
use mathlib.Core.List.{List, ◌++◌}
use Prim.Native.Nat.{ℕ, ◌+◌, ◌-◌, ◌≤◌}
use native.Mathlib.Omega.{arith}
use lib.ListN.{length, take, drop, replicate}
use Rattle.line.specs.declared.systems.System.{System}
use Rattle.line.specs.declared.settings.Settings.{Settings}
use Rattle.line.specs.Systems.{system_of}
use Rattle.line.specs.Timing.{timing_words}
use Rattle.line.specs.Header.{header_words}
use Rattle.line.specs.Layout.{gap_words, framed}
use Rattle.line.proofs.GapLaws.{gap_none}
use Rattle.lists.proofs.Parts.{second_long}
use Rattle.writer.specs.Opening.{open_words}

-- ---- an opened line
-- the header, the gap and SAV have room behind EAV
pub header_room : (system : ℕ) (r : System) (d xs : List ℕ) → r ≡ system_of system → (system_of system).payload + 61 ≤ (system_of system).length
    → length d ≡ (system_of system).length → length xs ≡ 4
    → 53 + (r.length - r.payload - 61) + 4 ≤ length (take (length (xs ++ drop 4 d) - 4) (drop 4 (xs ++ drop 4 d)))
header_room system r d xs e h k l = rw (second_long d xs 4 (omega arith) l) (rw e (omega arith))

gap_is : (l p : ℕ) → l - p - 61 ≡ l - p - 4 - 57
gap_is l p = omega arith

payload_is : (l p k : ℕ) → p + 61 ≤ l → k ≡ l → k - 4 - 53 - (l - p - 61) - 4 ≡ p
payload_is l p k h e = omega arith

pub whole_line : (system : ℕ) (f v : Bool) (n : ℕ) (t : Settings) (r : System) (d : List ℕ) → r ≡ system_of system
    → (system_of system).payload + 61 ≤ (system_of system).length → length d ≡ (system_of system).length
    → timing_words f v true ++ (header_words n t ++ (gap_words 57 (r.length - r.payload - 61)
    ++ (timing_words f v false ++ replicate (length d - 4 - 53 - (r.length - r.payload - 61) - 4) 0x200))) ≡ open_words system f v n t
unfolding open_words framed
whole_line system f v n t r d e h k =
    let s = system_of system in
    ap (λ (x : System). timing_words f v true ++ (header_words n t ++ (gap_words 57 (x.length - x.payload - 61)
    ++ (timing_words f v false ++ replicate (length d - 4 - 53 - (x.length - x.payload - 61) - 4) 0x200)))) e
    ∙ ap₂ (λ (g p : ℕ). timing_words f v true ++ (header_words n t ++ (gap_words 57 g ++ (timing_words f v false ++ replicate p 0x200))))
    (gap_is s.length s.payload) (payload_is s.length s.payload (length d) h k)
    ∙ ap (λ (g : List ℕ). timing_words f v true ++ (header_words n t ++ (g ++ (timing_words f v false ++ replicate s.payload 0x200)))) (sym (gap_none s))
