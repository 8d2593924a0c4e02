-- What an addition finds where neither 1 nor 2 holds: the same as `adding` asks of the writer.
-- Assumes nothing.
use Rattle.std.specs.Prelude.{Some, None}
use mathlib.Core.Path.{◌≡◌, refl, sym, ap, ap₂, ◌∙◌}
use mathlib.Core.Bool.{Bool, true, false, ◌||◌, not}
use mathlib.Core.List.{List, [], ◌∷◌}
use Prim.Native.Nat.{ℕ, ◌+◌, ◌-◌, ◌≤◌, ◌<◌, min}
use native.Mathlib.Omega.{arith}
use lib.ListN.{length, take, drop}
use borrow.Author.Tests.{not-false}
use borrow.Rule.Slice.PartMut.{put_mid}
use Rattle.lists.specs.Tests.{when, lowest_of}
use Rattle.lists.proofs.Refusals.{LowestOf, low_miss, lowest_append, lowest_clear, found_first}
use Rattle.words.specs.Crc.{crc_of}
use Rattle.blocks.specs.Laid.{laid_in, laid_on, crc_in}
use Rattle.blocks.proofs.LaidLaws.{fills, part_laid}
use Rattle.line.specs.Fixed.{is_variable, size_of}
use Rattle.line.proofs.SystemLaws.{length_most}
use Rattle.course.specs.Course.{is_at, place_of}
use Rattle.writer.specs.declared.state.Writer.{Writer}
use Rattle.writer.specs.declared.state.Laid.{Laid}
use Rattle.writer.specs.declared.state.Laid.TheVariants.{Finished, Unfinished}
use Rattle.writer.specs.declared.adding.Ground.{Ground}
use Rattle.writer.specs.declared.adding.Held.{Held}
use Rattle.writer.specs.declared.adding.Step.{Step}
use Rattle.writer.specs.State.{laid_of, impossible, end_in, moved, unfinished}
use Rattle.writer.specs.Answers.{added}
use Rattle.writer.specs.Block.{block_words, fixed_words}
use Rattle.writer.specs.Adding.{valued, ill_shaped, is_full, is_other, add_faults, add_fault, adding}
use Rattle.writer.specs.Batch.{batch_faults, batch_fault}
use Rattle.writer.specs.Ground.{held_by, Grounds, Stands, block_faults, IsStep, filled}
use Rattle.writer.proofs.FillLaws.{part_most, part_whole}
use Rattle.writer.proofs.BlockLaws.{count_variable, fixed_long}
use Rattle.writer.proofs.Refusals.{can_add}
use Rattle.writer.proofs.Calls.{Found, place_found, place_done, part_whole_done, part_cut_done}

min_second : (a b : ℕ) → b ≤ a → min a b ≡ b
min_second a b h = omega (arith, h)

min_first : (a b : ℕ) → a < b → min a b ≡ a
min_first a b h = omega (arith, h)

-- what is known of the sizes that the code works with: the place, the words laid, n, the type, the line's length
pub record Room (g : Ground) (p j n kind long : ℕ) : Type 0 where
  pub free : p < g.end
  pub within : g.start + g.end ≤ long
  pub short : long ≤ 2304
  pub laid : j < n + 7
  pub number : n ≤ 16384
  pub byte : kind < 256

-- ---- 17 to 20
abbrev fault_at : Held → ℕ → List ℕ → ℕ → ℕ → ℕ → ℕ
fault_at h kind vs mode block end =
    lowest_of
    (when 17 (not (valued mode vs))
    ∷ when 18 (ill_shaped h.place block kind (length vs))
    ∷ when 19 (is_full end h.place)
    ∷ when 20 (not (is_at h.place) || is_other h.rest kind (length vs))
    ∷ [])

pub block_fault : (w : Writer) (g : Ground) (h : Held) (kind : ℕ) (vs : List ℕ) → Grounds w g → lowest_of (block_faults g h kind vs) ≡ fault_at h kind vs w.mode w.settings.block (end_in w)
block_fault w g h kind vs k =
    ap (λ (x : ℕ). fault_at h kind vs x g.block g.end) k.mode
    ∙ ap (λ (x : ℕ). fault_at h kind vs w.mode x g.end) k.block
    ∙ ap (λ (x : ℕ). fault_at h kind vs w.mode w.settings.block x) k.end

-- 1 and 2 come first
pub early_fault : (w : Writer) (long kind : ℕ) (vs : List ℕ) (n : ℕ) → n ≡ batch_fault w long → (n ≡ 0 → ⊥) → n ≡ add_fault w long kind vs
unfolding add_fault batch_fault
early_fault w long kind vs n e h =
    let behind =
    when 17 (not (valued w.mode vs))
    ∷ when 18 (ill_shaped w.place w.settings.block kind (length vs))
    ∷ when 19 (is_full (end_in w) w.place)
    ∷ when 20 (not (is_at w.place) || is_other w.rest kind (length vs))
    ∷ [] in
    e ∙ sym (lowest_append (batch_faults w long) behind refl ∙ found_first (lowest_of (batch_faults w long)) (lowest_of behind) (λ z. h (e ∙ z)))

-- ---- where neither 1 nor 2 holds
pub stands_in : (w : Writer) (g : Ground) (h : Held) (long : ℕ) → batch_fault w long ≡ 0 → Grounds w g → held_by w h ≡ w → Stands w g h long
unfolding batch_fault
stands_in w g h long e k same =
    let c = lowest_clear (batch_faults w long) refl e in
    record { grounds = k; fits = not-false _ c.0; possible = ap impossible same ∙ c.1.0 }

-- what a step leaves, as a single call's
pub step_told : {w : Writer} {g : Ground} {h : Held} (line : List ℕ) (kind : ℕ) (vs : List ℕ) (s : Step) (line' : List ℕ) → Stands w g h (length line)
    → held_by w h ≡ w → IsStep g h line kind vs s line' → (a : Laid) (st : Writer) → a ≡ s.answer → st ≡ held_by w s.held → added a st line' ≡ adding w line kind vs
step_told {w} {g} {h} line kind vs s line' k same step a st ea es =
    ap₂ (λ (x : Laid) (y : Writer). added x y line') ea es ∙ step w k ∙ ap (λ (v : Writer). adding v line kind vs) same

module _ {w : Writer} {g : Ground} {h : Held} {long : ℕ} (s : Stands w g h long) where
  pub fault_by : (kind : ℕ) (vs : List ℕ) → lowest_of (block_faults g h kind vs) ≡ add_fault (held_by w h) long kind vs
  unfolding add_fault
  fault_by kind vs =
      let l : LowestOf (add_faults (held_by w h) long kind vs) (lowest_of (block_faults g h kind vs)) =
      low_miss 1 (ap not s.fits) (low_miss 2 s.possible (record { is = block_fault w g h kind vs s.grounds })) in
      l.is

  pub varies_by : {v : Bool} → is_variable g.block ≡ v → is_variable w.settings.block ≡ v
  varies_by e = sym (ap is_variable s.grounds.block) ∙ e

  pub size_by : g.size ≡ size_of g.block
  size_by = s.grounds.size ∙ sym (ap size_of s.grounds.block)

module _ {w : Writer} {g : Ground} {h : Held} (line : List ℕ) (s : Stands w g h (length line)) (kind : ℕ) (vs : List ℕ) (clear : lowest_of (block_faults g h kind vs) ≡ 0) where
  clear_in : add_fault (held_by w h) (length line) kind vs ≡ 0
  clear_in = sym (fault_by s kind vs) ∙ clear

  -- ---- a place of a fixed line
  pub place_stands : is_variable g.block ≡ false → (p : ℕ) → p ≡ place_of h.place → Found (held_by w h) line kind vs p 0 (length vs + 1) (length vs + 1) (g.start + p)
  place_stands v p hp = place_found (held_by w h) line kind vs clear_in (varies_by s v) p (g.start + p) hp (ap (λ (x : ℕ). x + p) s.grounds.start)

  -- ---- a variable line: what there is room for
  pub room_by : is_variable g.block ≡ true → (p j : ℕ) → p ≡ place_of h.place → j ≡ laid_of h.rest → Room g p j (length vs) kind (length line)
  room_by v p j hp hj =
      let can = can_add (held_by w h) line kind vs clear_in in
      let end = s.grounds.end in
      let start = s.grounds.start in
      record {
        free = omega (arith, can.room, end, hp);
        within = omega (arith, can.end, end, start, can.fit.long, can.fit.row.room);
        short = omega (arith, can.fit.long, length_most w.system);
        laid = omega (arith, can.left, hj, count_variable w.settings.block (length vs) (varies_by s v));
        number = can.number;
        byte = can.byte;
      }

  part_stands : is_variable g.block ≡ true → (p j k : ℕ) → p ≡ place_of h.place → j ≡ laid_of h.rest
      → k ≡ min (g.end - p) (length vs + 7 - j) → Found (held_by w h) line kind vs p j (length vs + 7 - j) k (g.start + p)
  part_stands v p j k hp hj hk =
      record {
        clear = clear_in;
        place = hp;
        laid = hj;
        left = ap (λ (x : ℕ). x - j) (sym (count_variable w.settings.block (length vs) (varies_by s v)));
        now = hk ∙ ap (λ (x : ℕ). min (x - p) (length vs + 7 - j)) s.grounds.end;
        index = ap (λ (x : ℕ). x + p) s.grounds.start;
      }

  -- all that is left of the block is laid, or what fits
  module _ (v : is_variable g.block ≡ true) (p j : ℕ) (hp : p ≡ place_of h.place) (hj : j ≡ laid_of h.rest) (ys : List ℕ) (c : ℕ) (hc : c ≡ crc_of h.crc ys) where
    words_by : (m a k : ℕ) → m ≡ w.mode → ys ≡ take (length (take (a + k - a) (drop a line))) (drop j (block_words m kind vs))
        → ys ≡ take (length (take (a + k - a) (drop a line))) (drop j (block_words w.mode kind vs))
    words_by m a k e hy = hy ∙ ap (λ (x : ℕ). take (length (take (a + k - a) (drop a line))) (drop j (block_words x kind vs))) e

    pub whole_laid : length vs + 7 - j ≤ g.end - p
        → ys ≡ take (length (take (g.start + p + (length vs + 7 - j) - (g.start + p)) (drop (g.start + p) line))) (drop j (block_words g.mode kind vs))
        → added Finished (moved w (Some (p + (length vs + 7 - j))) None c) (put_mid (g.start + p) (g.start + p + (length vs + 7 - j) - (g.start + p)) line ys) ≡ adding (held_by w h) line kind vs
    whole_laid fits hy =
        part_whole_done (part_stands v p j (length vs + 7 - j) hp hj (sym (min_second (g.end - p) (length vs + 7 - j) fits))) (varies_by s v) ys c
        (words_by g.mode (g.start + p) (length vs + 7 - j) s.grounds.mode hy) hc

    pub cut_laid : g.end - p < length vs + 7 - j
        → ys ≡ take (length (take (g.start + p + (g.end - p) - (g.start + p)) (drop (g.start + p) line))) (drop j (block_words g.mode kind vs))
        → added Unfinished (moved w (Some (p + (g.end - p))) (unfinished kind (length vs) (j + (g.end - p))) c) (put_mid (g.start + p) (g.start + p + (g.end - p) - (g.start + p)) line ys) ≡ adding (held_by w h) line kind vs
    cut_laid less hy =
        part_cut_done (part_stands v p j (g.end - p) hp hj (sym (min_first (g.end - p) (length vs + 7 - j) less))) (varies_by s v) less ys c
        (words_by g.mode (g.start + p) (g.end - p) s.grounds.mode hy) hc

-- a place of a fixed line, filled
pub place_step : {g : Ground} {h : Held} (line : List ℕ) (kind : ℕ) (vs : List ℕ) → lowest_of (block_faults g h kind vs) ≡ 0 → is_variable g.block ≡ false
    → (p : ℕ) → p ≡ place_of h.place → (ys : List ℕ) (c : ℕ) → ys ≡ fixed_words g.mode kind vs → c ≡ crc_of h.crc ys
    → (s : Step) → s ≡ filled (p + (length vs + 1)) c
    → IsStep g h line kind vs s (put_mid (g.start + p) (g.start + p + (length vs + 1) - (g.start + p)) line ys)
place_step {g} {h} line kind vs clear v p hp ys c e hc s is w k =
    ap (λ (x : Step). added x.answer (held_by w x.held) (put_mid (g.start + p) (g.start + p + (length vs + 1) - (g.start + p)) line ys)) is
    ∙ place_done (place_stands line k kind vs clear v p hp) (varies_by k v) ys c _ (e ∙ ap (λ (m : ℕ). fixed_words m kind vs) k.grounds.mode) hc refl

-- ---- the words that fill the part of a line that is lent to be filled
pub part_filled : (line : List ℕ) (a k mode kind j c r : ℕ) (vs ys : List ℕ) → j < length vs + 7 → k ≤ length vs + 7 - j
    → let out = take (a + k - a) (drop a line) in let ws = drop j (block_words mode kind vs) in
    (ys ≡ laid_on ws out) × (r ≡ crc_of c ys) → (ys ≡ take (length out) ws) × (r ≡ crc_of c ys)
part_filled line a k mode kind j c r vs ys some few laid =
    let most = part_most line a k in
    (laid.0 ∙ part_laid mode kind j vs (take (a + k - a) (drop a line)) (omega (arith, some, few, most)), laid.1)

pub place_filled : (line : List ℕ) (a mode kind c r : ℕ) (vs ys : List ℕ) → a + (length vs + 1) ≤ length line
    → let out = take (a + (length vs + 1) - a) (drop a line) in
    (ys ≡ laid_in (fixed_words mode kind vs) out) × (r ≡ crc_in c (fixed_words mode kind vs) out) → (ys ≡ fixed_words mode kind vs) × (r ≡ crc_of c ys)
place_filled line a mode kind c r vs ys within laid =
    fills (fixed_words mode kind vs) (take (a + (length vs + 1) - a) (drop a line)) c r ys
    (fixed_long mode kind vs ∙ sym (part_whole line a (length vs + 1) within)) laid
