-- A small block of a fixed line: laid into a place of its own, its words go back to the line.
-- Assumes nothing.
use mathlib.Core.Path.{◌≡◌, sym, ap, ap₂, ◌∙◌}
use mathlib.Core.Bool.{true, false, not}
use mathlib.Core.List.{List, ◌++◌, append_assoc}
use mathlib.Core.Logic.{⊎_elim}
use Prim.Native.Nat.{ℕ, ◌+◌, ◌-◌, ◌*◌, ◌/◌, ◌%◌, ◌≤◌, ◌<◌, min}
use native.Mathlib.Nat.{le_refl}
use native.Mathlib.Omega.{arith}
use lib.ListN.{length, take, drop, length-take, length-drop, length-replicate, length-append}
use lib.Seq.{paste, take-take, take_at, drop_at, length-take-le, length-paste}
use borrow.Author.Tests.{eq-eqb, eqb-true}
use borrow.Rule.Slice.PartMut.{put_mid}
use Rattle.lists.proofs.Tests.{pick_true, and_true}
use Rattle.course.specs.Course.{place_of}
use Rattle.line.specs.Systems.{system_of}
use Rattle.line.specs.Fixed.{is_variable}
use Rattle.line.specs.Layout.{payload_at}
use Rattle.octets.specs.Bytes.{words_of, bytes_of, is_even}
use Rattle.octets.proofs.BytesLaws.{length_words}
use Rattle.octets.proofs.PartLaws.{given_back}
use Rattle.blocks.specs.Laid.{laid_in}
use Rattle.blocks.proofs.Lengths.{fixed_long}
use Rattle.blocks.proofs.LaidLaws.{laid_all}
use Rattle.writer.specs.declared.state.Writer.{Writer}
use Rattle.writer.specs.declared.state.Laid.{Laid}
use Rattle.writer.specs.Answers.{Added, added}
use Rattle.writer.specs.Adding.{add_fault, adding}
use Rattle.writer.specs.Filling.{piece_of}
use Rattle.writer.specs.Placing.{zeros, placing}
use Rattle.writer.proofs.Keeps.{add_stays}
use Rattle.writer.proofs.Pieces.{fixed_once}
use Rattle.writer.proofs.Writing.{either}
use Rattle.bytewriter.specs.Bytewise.{add_bytes}
use Rattle.bytewriter.proofs.Over.{pasted_over, at, on}
use Rattle.bytewriter.proofs.Calls.{add_over, add_moves}
use Rattle.bytewriter.proofs.Unlent.{out_added}

-- ---- lengths
room_in : (k : ℕ) (out l : List ℕ) → take k out ≡ take k l → k ≤ length l → k ≤ length out
room_in k out l e h =
    let a = length-take k out in
    let b = length-take k l in
    let c = ap length e in
    omega (arith, a, b, c, h)

behind_in : (p b a n : ℕ) → p + a ≤ n → b ≤ a → a - b ≤ n - (p + b)
behind_in p b a n h k = omega (arith, h, k)

pub front_in : (k : ℕ) (ws rest : List ℕ) → length ws ≡ k → k ≤ length (ws ++ rest)
front_in k ws rest e = omega (arith, length-append ws rest, e)

-- ---- words of a place, gone back to a line of bytes
module _ (line place : List ℕ) (a k : ℕ) (even : is_even line ≡ true) (back : bytes_of (words_of line) ≡ line) (room : a + k ≤ length (words_of line)) (enough : k ≤ length place) where
  abbrev whole : List ℕ
  whole = paste (words_of line) a place k

  again : take k (drop a (paste (words_of line) a place k)) ≡ take k place
  again =
      ap (λ (r : List ℕ). take k (drop a r)) (append_assoc (take a (words_of line)) (take k place) (drop (a + k) (words_of line)))
      ∙ ap (take k) (drop_at (take a (words_of line)) (take k place ++ drop (a + k) (words_of line)) a (length-take-le a (words_of line) (omega (arith, room))))
      ∙ take_at (take k place) (drop (a + k) (words_of line)) k (length-take-le k place enough)

  pub place_back : (xs ys : List ℕ) (m : ℕ) → m ≡ 2 * (a + k) - 2 * a → xs ≡ take k place
      → ys ≡ paste (take m (drop (2 * a) line)) 0 (bytes_of xs) (2 * min (length xs) (length (take m (drop (2 * a) line)) / 2))
      → put_mid (2 * a) m line ys ≡ bytes_of (paste (words_of line) a place k)
  place_back xs ys m em ex e =
      let long = length-paste (words_of line) a place k room enough in
      let words = length_words line in
      let two = eqb-true (length line % 2) 0 even in
      given_back line whole xs ys a k m back (omega (arith, long, words, two)) (omega (arith, long, room)) em (ex ∙ sym again) e
      ∙ ap bytes_of (pasted_over (words_of line) (words_of line) place a k (omega (arith, room)) enough)

-- ---- what `placing` laid is what the addition to a line lays
module _ (w : Writer) (long kind : ℕ) (vs place : List ℕ) (fixed : is_variable w.settings.block ≡ false) (size : length place ≡ length vs + 1) where
  abbrev x : Added
  x = adding w (zeros long) kind vs

  place_is : placing w long kind vs place ≡ added x.answer x.state (laid_in (piece_of w (zeros long) kind vs) place)
  unfolding placing
  place_is = pick_true _ _ (and_true (ap not fixed) (eq-eqb (length place) (length vs + 1) size))

  -- of the place, the words from the place before to the place after
  piece_there : take (on w x.state) (placing w long kind vs place).line ≡ take (on w x.state) (drop (at w) x.line)
  unfolding piece_of
  piece_there = ap (λ (z : Added). take (on w x.state) z.line) place_is ∙ ⊎_elim laid kept (either (add_fault w (length (zeros long)) kind vs))
    where
      laid : add_fault w (length (zeros long)) kind vs ≡ 0 → take (on w x.state) (laid_in (piece_of w (zeros long) kind vs) place) ≡ take (on w x.state) (drop (at w) x.line)
      laid ok =
          let words = (fixed_once w (zeros long) kind vs ok fixed).1 in
          ap (take (on w x.state)) (laid_all _ place (ap length words ∙ fixed_long w.mode kind vs ∙ sym size))
          ∙ take-take (on w x.state) (on w x.state) (drop (at w) x.line) (le_refl _)

      kept : (add_fault w (length (zeros long)) kind vs ≡ 0 → ⊥) → take (on w x.state) (laid_in (piece_of w (zeros long) kind vs) place) ≡ take (on w x.state) (drop (at w) x.line)
      kept h =
          let none : on w x.state ≡ 0 = ap (λ (z : Added). on w z.state) (add_stays w (zeros long) kind vs h) ∙ omega arith in
          ap (λ (n : ℕ). take n (laid_in (piece_of w (zeros long) kind vs) place)) none ∙ sym (ap (λ (n : ℕ). take n (drop (at w) x.line)) none)

  -- as the code finds it
  module _ (answer : Laid) (state : Writer) (out : List ℕ) (e : added answer state out ≡ placing w long kind vs place) where
    state_is : state ≡ x.state
    state_is = ap (λ (z : Added). z.state) (e ∙ place_is)

    out_is : take (on w state) out ≡ take (on w x.state) (drop (at w) x.line)
    out_is = ap₂ (λ (s : Writer) (l : List ℕ). take (on w s) l) state_is (ap (λ (z : Added). z.line) e) ∙ piece_there

    module _ (s b a : ℕ) (es : s ≡ payload_at (system_of w.system)) (eb : b ≡ place_of w.place) (ea : a ≡ place_of state.place) where
      -- what was laid lies in the line, and in the place
      pub small_in : b < a → (s + a ≤ long) × (a - b ≤ length out)
      small_in h =
          let m = add_moves w kind vs (zeros long) in
          let there = ap (λ (v : Writer). place_of v.place) state_is in
          let zero = length-replicate {A = ℕ} long 0 in
          let inn = m.within (omega (arith, h, eb, ea, there)) in
          let k : on w state ≡ on w x.state = ap (on w) state_is in
          let there_in : on w x.state ≤ length (drop (at w) x.line) =
          rw (length-drop (at w) x.line) (rw m.long (behind_in (payload_at (system_of w.system)) (place_of w.place) (place_of x.state.place) (length (zeros long)) inn m.forward)) in
          let room = room_in (on w x.state) out (drop (at w) x.line) (ap (λ (n : ℕ). take n out) (sym k) ∙ out_is) there_in in
          let many : a - b ≡ on w x.state = ap₂ ◌-◌ ea eb ∙ k in
          (omega (arith, inn, zero, es, ea, there), rw many room)

      -- with it gone back the call is the one on the line's words
      pub small_given : (line values line' : List ℕ) → is_even line ≡ true → is_even values ≡ true → long ≡ length line / 2 → vs ≡ words_of values
          → line' ≡ bytes_of (paste (words_of line) (s + b) out (a - b)) → added answer state line' ≡ add_bytes w line kind values
      unfolding add_bytes
      small_given line values line' even-line even-values el ev el' =
          let y = words_of line in
          let same : length (zeros long) ≡ length y = length-replicate {A = ℕ} long 0 ∙ el ∙ sym (length_words line) in
          let spot : s + b ≡ at w = ap₂ ◌+◌ es eb in
          let many : a - b ≡ on w state = ap₂ ◌-◌ ea eb in
          let over = add_over w kind vs (zeros long) y same in
          let k : on w state ≡ on w x.state = ap (on w) state_is in
          let laid : paste y (s + b) out (a - b) ≡ paste y (at w) (drop (at w) x.line) (on w x.state) =
          ap₂ (λ (i n : ℕ). paste y i out n) spot many
          ∙ ap₂ (λ (l : List ℕ) (n : ℕ). (take (at w) y ++ l) ++ drop (at w + n) y) out_is k in
          ap₂ (λ (r : Laid) (v : Writer). added r v line') (ap (λ (z : Added). z.answer) (e ∙ place_is)) state_is
          ∙ ap (added x.answer x.state) (el' ∙ ap bytes_of laid)
          ∙ sym (ap out_added (ap (adding w y kind) (sym ev) ∙ over))
          ∙ sym (pick_true _ _ (and_true even-line even-values))
