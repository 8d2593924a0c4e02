-- What the calls leave is what the definitions say.
-- Assumes nothing.
use Rattle.std.specs.Prelude.{Some, None, Option}
use mathlib.Core.Path.{◌≡◌, refl, sym, ap, ap₂, ◌∙◌}
use mathlib.Core.Bool.{true, false}
use mathlib.Core.List.{List, [], ◌++◌, append-nil}
use Prim.Native.Nat.{ℕ, ◌+◌, ◌-◌, ◌≤◌, ◌<◌, min}
use native.Mathlib.Omega.{arith}
use lib.Dec.{eqb}
use lib.ListN.{length, take, drop, length-drop}
use lib.Seq.{take_all, paste}
use borrow.Author.Tests.{eq-eqb, ne_eqb}
use borrow.Rule.Slice.PartMut.{put_mid}
use Rattle.lists.specs.Tests.{pick}
use Rattle.lists.proofs.Tests.{pick_true, pick_false}
use Rattle.words.specs.Crc.{crc_start, crc_of}
use Rattle.line.specs.declared.systems.System.{System}
use Rattle.line.specs.Systems.{system_of}
use Rattle.line.specs.Fixed.{is_variable}
use Rattle.line.specs.Layout.{payload_at, area_length}
use Rattle.course.specs.Course.{place_of}
use Rattle.writer.specs.declared.state.Writer.{Writer}
use Rattle.writer.specs.declared.state.Laid.{Laid}
use Rattle.writer.specs.declared.state.Laid.TheVariants.{Refused as NotLaid, Finished, Unfinished}
use Rattle.writer.specs.declared.state.Answer.TheVariants.{Refused, Done}
use Rattle.writer.specs.Answers.{left, Added, added}
use Rattle.writer.specs.State.{laid_of, end_in, moved, unfinished}
use Rattle.writer.specs.Block.{block_words, fixed_words, words_in}
use Rattle.writer.specs.Adding.{add_fault, todo, fitting, adding}
use Rattle.writer.specs.Closing.{close_fault, sealed, closing}
use Rattle.writer.proofs.FillLaws.{mid_paste, part_whole}
use Rattle.writer.proofs.BlockLaws.{words_variable, words_fixed, fixed_long, count, count_fixed, count_between, words_long}
use Rattle.line.proofs.SystemLaws.{payload_most, length_most}
use Rattle.writer.proofs.Refusals.{CanAdd, can_add}
use Rattle.writer.proofs.Stays.{fixed_whole, fixed_room}
use Rattle.writer.specs.declared.state.Part.{Part}

-- ---- closing
-- with another flag nothing is written
pub seal_none : (s : System) (flag place c : ℕ) (d : List ℕ) → (flag ≡ 1 → ⊥) → s.payload + 61 ≤ s.length → s.length ≡ length d → d ≡ sealed s flag place c d
unfolding sealed area_length
seal_none s flag place c d other room long =
    let all = pick_false (s.payload - 2) s.payload (ne_eqb flag 1 other) in
    let whole : length d ≤ payload_at s + s.payload = omega arith in
    sym
    (ap₂ (λ (x : ℕ) (r : List ℕ). take (payload_at s + x) d ++ r) all (pick_false _ [] (ne_eqb flag 1 other))
    ∙ append-nil _
    ∙ take_all (payload_at s + s.payload) d whole)

module _ (w : Writer) (line : List ℕ) (fault : ℕ) (is : fault ≡ close_fault w (length line)) where
  pub close_refused : (fault ≡ 0 → ⊥) → left (Refused fault) w line ≡ closing w line
  unfolding closing
  close_refused h = ap (λ (n : ℕ). left (Refused n) w line) is ∙ sym (pick_false _ _ (ne_eqb _ _ (λ e. h (is ∙ e))))

  pub close_done : fault ≡ 0 → (st : Writer) (l : List ℕ) → st ≡ moved w None w.rest crc_start
      → l ≡ sealed (system_of w.system) w.settings.flag (place_of w.place) w.crc line → left Done st l ≡ closing w line
  unfolding closing
  close_done h st l s e = ap₂ (left Done) s e ∙ sym (pick_true _ _ (eq-eqb _ _ (sym is ∙ h)))

-- ---- adding
pub add_refused : (w : Writer) (line : List ℕ) (kind : ℕ) (vs : List ℕ) (fault : ℕ) → fault ≡ add_fault w (length line) kind vs → (fault ≡ 0 → ⊥)
    → added (NotLaid fault) w line ≡ adding w line kind vs
unfolding adding
add_refused w line kind vs fault is h = ap (λ (n : ℕ). added (NotLaid n) w line) is ∙ sym (pick_false _ _ (ne_eqb _ _ (λ e. h (is ∙ e))))

-- the sizes that the code works with: place, words laid, words left, words to lay now, index in the line
pub record Found (w : Writer) (line : List ℕ) (kind : ℕ) (vs : List ℕ) (p j rest k a : ℕ) : Type 0 where
  pub clear : add_fault w (length line) kind vs ≡ 0
  pub place : p ≡ place_of w.place
  pub laid : j ≡ laid_of w.rest
  pub left : rest ≡ count w.settings.block (length vs) - j
  pub now : k ≡ min (end_in w - p) rest
  pub index : a ≡ payload_at (system_of w.system) + p

-- their bounds
pub record Sizes (p j k a kind n long total : ℕ) : Type 0 where
  pub within : a + k ≤ long
  pub short : long ≤ 2304
  pub ends : p + k ≤ 1920
  pub laid : j + k ≤ total
  pub few : total ≤ 16391
  pub byte : kind < 256
  pub number : n ≤ 16384

-- what is left, by the code's sizes
abbrev leaves : Writer → List ℕ → ℕ → List ℕ → ℕ → ℕ → ℕ → ℕ → ℕ → Added
leaves w line kind vs p j rest k a =
    added (pick (eqb k rest) Finished Unfinished)
    (moved w (Some (p + k)) (pick (eqb k rest) None (unfinished kind (length vs) (j + k))) (crc_of w.crc (take k (drop j (words_in w.settings.block w.mode kind vs)))))
    (paste line a (drop j (words_in w.settings.block w.mode kind vs)) k)

module _ {w : Writer} {line : List ℕ} {kind : ℕ} {vs : List ℕ} {p j rest k a : ℕ} (f : Found w line kind vs p j rest k a) where
  can : CanAdd w line kind vs
  can = can_add w line kind vs f.clear

  rest_is : rest ≡ length (todo w kind vs)
  rest_is =
      f.left
      ∙ ap₂ ◌-◌ (sym (words_long w.settings.block w.mode kind vs)) f.laid
      ∙ sym (length-drop (laid_of w.rest) (words_in w.settings.block w.mode kind vs))

  within : a + k ≤ length line
  within = omega (arith, f.place, f.now, f.index, can.fit.long, can.fit.row.room, can.room, can.end)

  pub sizes : Sizes p j k a kind (length vs) (length line) (count w.settings.block (length vs))
  sizes =
      record {
        within = within;
        short = omega (arith, can.fit.long, length_most w.system);
        ends = omega (arith, f.place, f.now, can.room, can.end, payload_most w.system);
        laid = omega (arith, f.laid, f.left, f.now, can.left);
        few = omega (arith, can.number, (count_between w.settings.block (length vs)).1);
        byte = can.byte;
        number = can.number;
      }

  -- the words that are to lay now
  enough : k ≤ length (drop j (words_in w.settings.block w.mode kind vs))
  enough = omega (arith, f.now, f.left, length-drop j (words_in w.settings.block w.mode kind vs), words_long w.settings.block w.mode kind vs)

  pasted : (ys : List ℕ) → ys ≡ take (length (take (a + k - a) (drop a line))) (drop j (words_in w.settings.block w.mode kind vs))
      → put_mid a (a + k - a) line ys ≡ paste line a (drop j (words_in w.settings.block w.mode kind vs)) k
  pasted ys hy = mid_paste line (drop j (words_in w.settings.block w.mode kind vs)) ys a k within hy

  add_done : (ys : List ℕ) (after : Option Part) (c : ℕ) (answer : Laid) (st : Writer)
      → ys ≡ take (length (take (a + k - a) (drop a line))) (drop j (words_in w.settings.block w.mode kind vs))
      → after ≡ pick (eqb k rest) None (unfinished kind (length vs) (j + k)) → c ≡ crc_of w.crc (take k (drop j (words_in w.settings.block w.mode kind vs)))
      → answer ≡ pick (eqb k rest) Finished Unfinished
      → st ≡ moved w (Some (p + k)) after c → added answer st (put_mid a (a + k - a) line ys) ≡ adding w line kind vs
  unfolding adding
  add_done ys after c answer st hy hr taken ht hs =
      let ws = todo w kind vs in
      let q = place_of w.place in
      let i = laid_of w.rest in
      let g = leaves w line kind vs in
      let some : k ≡ fitting w ws = f.now ∙ ap₂ (λ (x y : ℕ). min (end_in w - x) y) f.place rest_is in
      let there = pasted ys hy in
      let first : added answer st (put_mid a (a + k - a) line ys) ≡ g p j rest k a = rw (hs, ht, hr, taken, there) in
      first
      ∙ ap (λ (x : ℕ). g x j rest k a) f.place
      ∙ ap (λ (x : ℕ). g q x rest k a) f.laid
      ∙ ap (λ (x : ℕ). g q i x k a) rest_is
      ∙ ap (λ (x : ℕ). g q i (length ws) x a) some
      ∙ ap (λ (x : ℕ). g q i (length ws) (fitting w ws) x) (f.index ∙ ap (λ (x : ℕ). payload_at (system_of w.system) + x) f.place)
      ∙ sym (pick_true _ _ (eq-eqb _ _ f.clear))

-- ---- adding in a variable line
-- the words laid, and the CRC over them
part_by : {w : Writer} {line : List ℕ} {kind : ℕ} {vs : List ℕ} {p j rest k a : ℕ} → Found w line kind vs p j rest k a
    → is_variable w.settings.block ≡ true → (ys : List ℕ) (after : Option Part) (c : ℕ) (answer : Laid) (st : Writer)
    → ys ≡ take (length (take (a + k - a) (drop a line))) (drop j (block_words w.mode kind vs))
    → after ≡ pick (eqb k rest) None (unfinished kind (length vs) (j + k)) → c ≡ crc_of w.crc ys
    → answer ≡ pick (eqb k rest) Finished Unfinished → st ≡ moved w (Some (p + k)) after c
    → added answer st (put_mid a (a + k - a) line ys) ≡ adding w line kind vs
part_by {w} {line} {kind} {vs} {p} {j} {rest} {k} {a} f v ys after c answer st e hr hc =
    let words : ys ≡ take (length (take (a + k - a) (drop a line))) (drop j (words_in w.settings.block w.mode kind vs)) =
    e ∙ ap (λ (l : List ℕ). take (length (take (a + k - a) (drop a line))) (drop j l)) (sym (words_variable w.settings.block w.mode kind vs v)) in
    add_done f ys after c answer st words hr
    (hc ∙ ap (crc_of w.crc) (words ∙ ap (λ (n : ℕ). take n (drop j (words_in w.settings.block w.mode kind vs))) (part_whole line a k (sizes f).within)))

-- all that is left of the block
pub part_whole_done : {w : Writer} {line : List ℕ} {kind : ℕ} {vs : List ℕ} {p j k a : ℕ} → Found w line kind vs p j k k a → is_variable w.settings.block ≡ true
    → (ys : List ℕ) (c : ℕ) → ys ≡ take (length (take (a + k - a) (drop a line))) (drop j (block_words w.mode kind vs)) → c ≡ crc_of w.crc ys
    → added Finished (moved w (Some (p + k)) None c) (put_mid a (a + k - a) line ys) ≡ adding w line kind vs
part_whole_done {w} {line} {kind} {vs} {p} {j} {k} {a} f v ys c e hc =
    let all = eq-eqb k k refl in
    part_by f v ys None c Finished _ e (sym (pick_true None (unfinished kind (length vs) (j + k)) all)) hc (sym (pick_true Finished Unfinished all)) refl

-- and where the line is full before
pub part_cut_done : {w : Writer} {line : List ℕ} {kind : ℕ} {vs : List ℕ} {p j rest k a : ℕ} → Found w line kind vs p j rest k a → is_variable w.settings.block ≡ true
    → k < rest → (ys : List ℕ) (c : ℕ) → ys ≡ take (length (take (a + k - a) (drop a line))) (drop j (block_words w.mode kind vs)) → c ≡ crc_of w.crc ys
    → added Unfinished (moved w (Some (p + k)) (unfinished kind (length vs) (j + k)) c) (put_mid a (a + k - a) line ys) ≡ adding w line kind vs
part_cut_done {w} {line} {kind} {vs} {p} {j} {rest} {k} {a} f v less ys c e hc =
    let some = ne_eqb k rest (λ z. omega (arith, less, z)) in
    part_by f v ys (unfinished kind (length vs) (j + k)) c Unfinished _ e (sym (pick_false None (unfinished kind (length vs) (j + k)) some)) hc
    (sym (pick_false Finished Unfinished some)) refl

-- ---- adding in a fixed line: all words of the block are laid now
pub place_found : (w : Writer) (line : List ℕ) (kind : ℕ) (vs : List ℕ) → add_fault w (length line) kind vs ≡ 0 → is_variable w.settings.block ≡ false
    → (p a : ℕ) → p ≡ place_of w.place → a ≡ payload_at (system_of w.system) + p → Found w line kind vs p 0 (length vs + 1) (length vs + 1) a
place_found w line kind vs clear v p a hp ha =
    let few = fixed_room w line kind vs clear v in
    record {
      clear = clear;
      place = hp;
      laid = sym (ap laid_of (fixed_whole w line kind vs clear v));
      left = omega (arith, count_fixed w.settings.block (length vs) v);
      now = omega (arith, few, hp);
      index = ha;
    }

pub place_done : {w : Writer} {line : List ℕ} {kind : ℕ} {vs : List ℕ} {p a : ℕ} → Found w line kind vs p 0 (length vs + 1) (length vs + 1) a
    → is_variable w.settings.block ≡ false → (ys : List ℕ) (c : ℕ) (st : Writer) → ys ≡ fixed_words w.mode kind vs
    → c ≡ crc_of w.crc ys
    → st ≡ moved w (Some (p + (length vs + 1))) None c → added Finished st (put_mid a (a + (length vs + 1) - a) line ys) ≡ adding w line kind vs
place_done {w} {line} {kind} {vs} {p} {a} f v ys c st e hc hs =
    let all = words_fixed w.settings.block w.mode kind vs v in
    let many = part_whole line a (length vs + 1) (sizes f).within in
    let long = fixed_long w.mode kind vs in
    let k = length (take (a + (length vs + 1) - a) (drop a line)) in
    let whole = eq-eqb (length vs + 1) (length vs + 1) refl in
    let words = e ∙ sym (take_all k (fixed_words w.mode kind vs) (omega (arith, many, long))) ∙ ap (take k) (sym all) in
    add_done f ys None c Finished st words
    (sym (pick_true None (unfinished kind (length vs) (0 + (length vs + 1))) whole))
    (hc ∙ ap (crc_of w.crc) (words ∙ ap (λ (n : ℕ). take n (words_in w.settings.block w.mode kind vs)) many)) (sym (pick_true Finished Unfinished whole)) hs
