-- Places stand one after another from payload word 0: on a fixed line the addition behind k others is laid from payload word k * size on.
-- Assumes nothing.
use Rattle.std.specs.Prelude.{Option, Some}
use mathlib.Core.Path.{◌≡◌, refl, sym, ap, ap₂, ◌∙◌}
use mathlib.Core.Bool.{false}
use mathlib.Core.List.{List}
use Prim.Native.Nat.{ℕ, zero, suc, ◌+◌, ◌-◌, ◌*◌}
use native.Mathlib.Nat.{zero-mul, suc-mul}
use native.Mathlib.Omega.{arith}
use lib.ListN.{length}
use Rattle.lists.specs.Lists.{part}
use Rattle.line.specs.declared.settings.Settings.{Settings}
use Rattle.line.specs.Systems.{system_of}
use Rattle.line.specs.Fixed.{is_variable, size_of}
use Rattle.line.specs.Layout.{payload_at}
use Rattle.course.specs.Course.{place_of}
use Rattle.writer.specs.declared.state.Writer.{Writer}
use Rattle.writer.specs.Block.{fixed_words}
use Rattle.writer.specs.Answers.{Added}
use Rattle.writer.specs.Adding.{add_fault, adding}
use Rattle.writer.specs.Filling.{piece_of}
use Rattle.writer.proofs.Keeps.{add_leaves}
use Rattle.writer.proofs.Pieces.{fixed_once}
use Rattle.writer.proofs.Stays.{fixed_size, fixed_fits}

-- k accepted additions, one after another, from a state and a line to a state and a line
pub data Additions (w : Writer) (line : List ℕ) : ℕ → Writer → List ℕ → Type 0 where
  start : Additions w line zero w line
  then : {k : ℕ} {w' : Writer} {line' : List ℕ} → Additions w line k w' line' → (kind : ℕ) (vs : List ℕ) → add_fault w' (length line') kind vs ≡ 0
      → Additions w line (suc k) (adding w' line' kind vs).state (adding w' line' kind vs).line

-- ---- one addition
module _ (w : Writer) (line : List ℕ) (kind : ℕ) (vs : List ℕ) (ok : add_fault w (length line) kind vs ≡ 0) (fixed : is_variable w.settings.block ≡ false) where
  -- the next place is one size on
  next_place : (adding w line kind vs).state.place ≡ Some (place_of w.place + size_of w.settings.block)
  next_place =
      ap (λ (x : Added). x.state.place) (add_leaves w line kind vs ok)
      ∙ ap (λ (k : ℕ). Some (place_of w.place + k)) (fixed_fits w line kind vs ok fixed ∙ fixed_size w line kind vs ok fixed)

  kept_settings : (adding w line kind vs).state.settings ≡ w.settings
  kept_settings = ap (λ (x : Added). x.state.settings) (add_leaves w line kind vs ok)

  kept_system : (adding w line kind vs).state.system ≡ w.system
  kept_system = ap (λ (x : Added). x.state.system) (add_leaves w line kind vs ok)

  -- the block's words stand at the place
  laid_here : part (payload_at (system_of w.system) + place_of w.place) (size_of w.settings.block) (adding w line kind vs).line ≡ fixed_words w.mode kind vs
  unfolding piece_of
  laid_here =
      let e : place_of (adding w line kind vs).state.place - place_of w.place ≡ size_of w.settings.block = ap (λ (p : Option ℕ). place_of p - place_of w.place) next_place ∙ omega arith in
      ap (λ (n : ℕ). part (payload_at (system_of w.system) + place_of w.place) n (adding w line kind vs).line) (sym e) ∙ (fixed_once w line kind vs ok fixed).1

-- ---- additions on a line that is just opened
-- what k additions leave: the settings and system of the line, and its place k sizes on
pub record Filled (w : Writer) (k : ℕ) (w' : Writer) : Type 0 where
  pub settings : w'.settings ≡ w.settings
  pub system : w'.system ≡ w.system
  pub place : place_of w'.place ≡ k * size_of w.settings.block

filled_next : (w w' : Writer) (line : List ℕ) (k kind : ℕ) (vs : List ℕ) → is_variable w.settings.block ≡ false → add_fault w' (length line) kind vs ≡ 0
    → Filled w k w' → Filled w (suc k) (adding w' line kind vs).state
filled_next w w' line k kind vs fixed ok f =
    let v : is_variable w'.settings.block ≡ false = ap (λ (t : Settings). is_variable t.block) f.settings ∙ fixed in
    let size : size_of w'.settings.block ≡ size_of w.settings.block = ap (λ (t : Settings). size_of t.block) f.settings in
    let on : place_of (adding w' line kind vs).state.place ≡ place_of w'.place + size_of w'.settings.block = ap place_of (next_place w' line kind vs ok v) in
    let more = suc-mul k (size_of w.settings.block) in
    record {
      settings = kept_settings w' line kind vs ok v ∙ f.settings;
      system = kept_system w' line kind vs ok v ∙ f.system;
      place = omega (arith, f.place);
    }

pub place_after : (w : Writer) (line : List ℕ) → w.place ≡ Some 0 → is_variable w.settings.block ≡ false
    → (k : ℕ) (w' : Writer) (line' : List ℕ) → Additions w line k w' line' → Filled w k w'
place_after w line at fixed _ _ _ start = record { settings = refl; system = refl; place = ap place_of at ∙ sym (zero-mul (size_of w.settings.block)) }
place_after w line at fixed _ _ _ (then {k} {w'} {line'} earlier kind vs ok) =
    filled_next w w' line' k kind vs fixed ok (place_after w line at fixed k w' line' earlier)

-- behind k additions on a fixed line that was at its start, the next block's words stand at payload word k * size
pub place_laid : (w : Writer) (line : List ℕ) → w.place ≡ Some 0 → is_variable w.settings.block ≡ false
    → (k : ℕ) (w' : Writer) (line' : List ℕ) → Additions w line k w' line'
    → (kind : ℕ) (vs : List ℕ) → add_fault w' (length line') kind vs ≡ 0
    → part (payload_at (system_of w.system) + k * size_of w.settings.block) (size_of w.settings.block) (adding w' line' kind vs).line ≡ fixed_words w'.mode kind vs
place_laid w line at fixed k w' line' earlier kind vs ok =
    let f = place_after w line at fixed k w' line' earlier in
    let v : is_variable w'.settings.block ≡ false = ap (λ (t : Settings). is_variable t.block) f.settings ∙ fixed in
    ap₂ (λ (s p : ℕ). part (payload_at (system_of s) + p) (size_of w.settings.block) (adding w' line' kind vs).line) (sym f.system) (sym f.place)
    ∙ ap (λ (t : Settings). part (payload_at (system_of w'.system) + place_of w'.place) (size_of t.block) (adding w' line' kind vs).line) (sym f.settings)
    ∙ laid_here w' line' kind vs ok v
