-- The gap: how long it is whatever is laid in it, and its filler by the line's own index; and that the line check doesn't look at it.
-- Assumes nothing.
use mathlib.Core.Path.{◌≡◌, refl, sym, ap, ap₂, ◌∙◌}
use mathlib.Core.Bool.{not}
use mathlib.Core.List.{List, [], ◌∷◌, ◌++◌, append_assoc}
use Prim.Native.Nat.{ℕ, zero, suc, ◌+◌, ◌-◌, ◌<◌, ◌≤◌}
use native.Mathlib.Nat.{add-zero, add-suc, suc-add, sub-zero, zero-sub, suc-sub-suc, le_of_suc-le-suc, not-suc-le-zero}
use native.Mathlib.Omega.{arith}
use lib.ListN.{length, get_or, take, drop, length-append}
use lib.Seq.{drop-drop}
use Rattle.lists.specs.Tests.{Refusal, when, lowest_of}
use Rattle.line.specs.declared.settings.Settings.{Settings}
use Rattle.line.specs.declared.systems.System.{System}
use Rattle.line.specs.Systems.{system_of}
use Rattle.line.specs.Settings.{settings_faults}
use Rattle.line.specs.Fixed.{is_variable}
use Rattle.line.specs.Layout.{gap_at, sav_at, payload_at, gap_word, gap_words, gap_after, area_length, area_of, end_of}
use Rattle.line.specs.Check.{settings_of, head_faults, area_faults, payload_faults, faults, fits_length, line_fault, checked_from, checked_of}
use Rattle.line.proofs.HeadSeen.{SameHead, number_alike, settings_alike, head_alike}

-- ---- the filler
pub gap_length_lem : (i n : ℕ) → length (gap_words i n) ≡ n
gap_length_lem i zero = refl
gap_length_lem i (suc n) = ap suc (gap_length_lem (suc i) n)

pub gap_at_lem : (i n k : ℕ) → k < n → get_or (gap_words i n) k 0 ≡ gap_word (i + k)
gap_at_lem i zero k h = absurd (not-suc-le-zero h)
gap_at_lem i (suc n) zero h = ap gap_word (sym (add-zero i))
gap_at_lem i (suc n) (suc k) h = gap_at_lem (suc i) n k (le_of_suc-le-suc h) ∙ ap gap_word (suc-add i k ∙ sym (add-suc i k))

-- what is left of it is the filler from there on
pub gap_drop : (k i m : ℕ) → drop k (gap_words i m) ≡ gap_words (i + k) (m - k)
gap_drop zero i m = ap₂ gap_words (sym (add-zero i)) (sym (sub-zero m))
gap_drop (suc k) i zero = ap (gap_words (i + suc k)) (sym (zero-sub (suc k)))
gap_drop (suc k) i (suc m) = gap_drop k (suc i) m ∙ ap₂ gap_words (suc-add i k ∙ sym (add-suc i k)) (sym (suc-sub-suc m k))

-- ---- the gap with words laid in it
pub gap_none : (s : System) → gap_after s [] ≡ gap_words gap_at (sav_at s - gap_at)
gap_none s = ap₂ gap_words (add-zero gap_at) (sub-zero (sav_at s - gap_at))

-- as many words as the gap can hold
abbrev pub GapHolds : System → List ℕ → Type 0
GapHolds s laid = length laid ≤ sav_at s - gap_at

pub gap_long : (s : System) (laid : List ℕ) → GapHolds s laid → length (gap_after s laid) ≡ sav_at s - gap_at
gap_long s laid h =
    length-append laid (gap_words (gap_at + length laid) (sav_at s - gap_at - length laid))
    ∙ ap (λ (x : ℕ). length laid + x) (gap_length_lem (gap_at + length laid) (sav_at s - gap_at - length laid))
    ∙ omega arith

-- more words laid behind them: the filler gives way to them
pub gap_more : (s : System) (laid ws : List ℕ) → laid ++ (ws ++ drop (length ws) (gap_words (gap_at + length laid) (sav_at s - gap_at - length laid))) ≡ gap_after s (laid ++ ws)
gap_more s laid ws =
    let e = length-append laid ws in
    let i : gap_at + length laid + length ws ≡ gap_at + length (laid ++ ws) = omega arith in
    let k : sav_at s - gap_at - length laid - length ws ≡ sav_at s - gap_at - length (laid ++ ws) = omega arith in
    ap (λ (x : List ℕ). laid ++ (ws ++ x)) (gap_drop (length ws) (gap_at + length laid) (sav_at s - gap_at - length laid) ∙ ap₂ gap_words i k) ∙ sym (append_assoc laid ws _)

-- ---- lines that agree outside the gap
pub record Alike (s : System) (l m : List ℕ) : Type 0 where
  pub long : length l ≡ length m
  pub before : take gap_at l ≡ take gap_at m
  pub behind : drop (sav_at s) l ≡ drop (sav_at s) m

module _ (s : System) (l m : List ℕ) (a : Alike s l m) where
  head : SameHead s l m
  head = record { front = a.before; sav = ap (take 4) a.behind }

  -- all that stands from SAV on
  pub behind_alike : (i : ℕ) → sav_at s ≤ i → drop i l ≡ drop i m
  behind_alike i h = from l ∙ ap (drop (i - sav_at s)) a.behind ∙ sym (from m)
    where
      from : (x : List ℕ) → drop i x ≡ drop (i - sav_at s) (drop (sav_at s) x)
      from x = let e : i ≡ sav_at s + (i - sav_at s) = omega arith in ap (λ (k : ℕ). drop k x) e ∙ sym (drop-drop (i - sav_at s) (sav_at s) x)

  payload_alike : (mode block flag : ℕ) → payload_faults s mode block flag l ≡ payload_faults s mode block flag m
  unfolding payload_faults area_of end_of
  payload_alike mode block flag =
      ap₂ (area_faults mode (is_variable block) flag) (ap (take (area_length s.payload flag)) (behind_alike (payload_at s) (omega arith)))
      (behind_alike (payload_at s + area_length s.payload flag) (omega arith))

  pub faults_alike : (mode : ℕ) → faults s mode l ≡ faults s mode m
  unfolding faults
  faults_alike mode =
      ap₂ (λ (hs : List Refusal) (t : Settings). hs ++ (settings_faults s t ++ payload_faults s mode t.block t.flag l)) (head_alike s l m head) (settings_alike s l m head)
      ∙ ap (λ (ps : List Refusal). head_faults s m ++ (settings_faults s (settings_of m) ++ ps)) (payload_alike mode (settings_of m).block (settings_of m).flag)

  checked_alike : (n : ℕ) → checked_from n l ≡ checked_from n m
  checked_alike zero = ap₂ (λ (k : ℕ) (t : Settings). record { fault = 0; number = k; settings = t }) (number_alike s l m head) (settings_alike s l m head)
  checked_alike (suc n) = refl

-- the line check of lines that agree outside the gap is the same
module _ (system mode : ℕ) (l m : List ℕ) (a : Alike (system_of system) l m) where
  fault_unseen : line_fault system mode l ≡ line_fault system mode m
  unfolding line_fault
  fault_unseen =
      ap₂ (λ (n : ℕ) (rs : List Refusal). lowest_of (when 1 (not (fits_length system mode n)) ∷ rs)) a.long (faults_alike (system_of system) l m a mode)

  pub gap_unseen : (line_fault system mode l ≡ line_fault system mode m) × (checked_of system mode l ≡ checked_of system mode m)
  unfolding checked_of
  gap_unseen = (fault_unseen, ap (λ (n : ℕ). checked_from n l) fault_unseen ∙ checked_alike (system_of system) l m a (line_fault system mode m))
