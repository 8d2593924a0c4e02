-- Places stand one after another from payload word 0: place k of a fixed line is its words from payload word k * size on.
-- Assumes nothing.
use Rattle.std.specs.Prelude.{Some}
use mathlib.Core.Path.{◌≡◌, sym, ap, ◌∙◌}
use mathlib.Core.Bool.{false}
use mathlib.Core.List.{List, []}
use Prim.Native.Nat.{ℕ, zero, suc, ◌+◌, ◌-◌, ◌*◌, ◌/◌, ◌<◌, ◌≤◌}
use native.Mathlib.Nat.{zero-mul, suc-mul, zero-add, zero-div, not-suc-le-zero, le_of_suc-le-suc}
use native.Mathlib.Omega.{arith}
use lib.ListN.{get_or, take, drop}
use lib.Seq.{drop-drop}
use Rattle.lists.specs.Lists.{part}
use Rattle.lists.proofs.Lists.{part_part}
use Rattle.line.specs.Systems.{system_of}
use Rattle.line.specs.Settings.{settings_fault}
use Rattle.line.specs.Fixed.{is_variable, places_of, size_of}
use Rattle.line.specs.Layout.{payload_at}
use Rattle.course.specs.Course.{blocks_end, misplaced}
use Rattle.course.proofs.CourseLaws.{start_placed, grid_left}
use Rattle.machine.specs.Places.{places_in}
use Rattle.reader.specs.declared.state.Reader.{Reader}
use Rattle.reader.specs.Reading.{words_from}

-- the k-th of n places
pub place_at : (size n k : ℕ) (ws : List ℕ) → k < n → get_or (places_in size n ws) k [] ≡ part (k * size) size ws
place_at size zero k ws h = absurd (not-suc-le-zero h)
place_at size (suc n) zero ws h = ap (λ (i : ℕ). part i size ws) (sym (zero-mul size))
place_at size (suc n) (suc k) ws h =
    let e = suc-mul k size in
    let i : size + k * size ≡ suc k * size = omega arith in
    place_at size n k (drop size ws) (le_of_suc-le-suc h) ∙ ap (take size) (drop-drop (k * size) size ws ∙ ap (λ (j : ℕ). drop j ws) i)

module _ (st : Reader) (line : List ℕ) (fixed : is_variable st.settings.block ≡ false) where
  -- the places that a call walks over from place q on
  abbrev walked : ℕ → List (List ℕ)
  walked q =
      let size = size_of st.settings.block in
      places_in size (places_of (system_of st.system).payload st.settings.block - q / size) (words_from st q line)

  -- the k-th of them stands k places on
  pub place_walked : (q k : ℕ) → misplaced (system_of st.system).payload st.settings.block st.settings.flag (Some q) ≡ false
      → k < places_of (system_of st.system).payload st.settings.block - q / size_of st.settings.block
      → get_or (walked q) k [] ≡ part (payload_at (system_of st.system) + (q + k * size_of st.settings.block)) (size_of st.settings.block) line
  unfolding words_from
  place_walked q k placed h =
      let row = system_of st.system in
      let size = size_of st.settings.block in
      let end = blocks_end row.payload st.settings.block st.settings.flag in
      let g : q + suc k * size ≤ end = grid_left row.payload st.settings.block st.settings.flag q (suc k) fixed placed h in
      let e = suc-mul k size in
      let i : payload_at row + q + k * size ≡ payload_at row + (q + k * size) = omega arith in
      place_at size (places_of row.payload st.settings.block - q / size) k (words_from st q line) h
      ∙ part_part (payload_at row + q) (end - q) (k * size) size line (omega arith)
      ∙ ap (λ (j : ℕ). part j size line) i

  -- from the line's start: place k stands at payload word k * size
  pub place_stands : settings_fault st.system st.settings ≡ 0 → (k : ℕ) → k < places_of (system_of st.system).payload st.settings.block
      → get_or (walked 0) k [] ≡ part (payload_at (system_of st.system) + k * size_of st.settings.block) (size_of st.settings.block) line
  place_stands clean k h =
      let z = zero-div (size_of st.settings.block) in
      place_walked 0 k (start_placed st.system st.settings clean) (omega arith)
      ∙ ap (λ (j : ℕ). part (payload_at (system_of st.system) + j) (size_of st.settings.block) line) (zero-add (k * size_of st.settings.block))
