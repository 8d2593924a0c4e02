-- Each call from its parts: a line of zeros as long was lent to the writer, and what was laid on it went back over the line's words.
-- Assumes nothing.
use mathlib.Core.Path.{◌≡◌, refl, sym, ap, ◌∙◌, subst}
use mathlib.Core.Bool.{Bool, true}
use mathlib.Core.List.{List, ◌++◌}
use Prim.Native.Nat.{ℕ, ◌+◌, ◌-◌, ◌*◌, ◌/◌, ◌%◌, ◌≤◌, ◌<◌}
use native.Mathlib.Omega.{arith}
use lib.ListN.{length, take, drop, length-append}
use lib.Seq.{paste, take_at, length-take-le}
use borrow.Author.Tests.{leb-true, eqb-true}
use Rattle.lists.proofs.Tests.{pick_true, both_true, and_true}
use Rattle.course.specs.Course.{place_of}
use Rattle.line.specs.declared.settings.Settings.{Settings}
use Rattle.line.specs.Systems.{system_of}
use Rattle.line.specs.Layout.{gap_at, payload_at}
use Rattle.octets.specs.Bytes.{words_of, bytes_of, is_even}
use Rattle.octets.proofs.BytesLaws.{length_words}
use Rattle.writer.specs.declared.state.Writer.{Writer}
use Rattle.writer.specs.declared.state.Answer.{Answer}
use Rattle.writer.specs.declared.state.Answer.TheVariants.{Refused, Done}
use Rattle.writer.specs.declared.state.Laid.{Laid}
use Rattle.writer.specs.declared.batch.Stop.{Stop}
use Rattle.writer.specs.Answers.{Left, left, Added, added}
use Rattle.writer.specs.Opening.{opening}
use Rattle.writer.specs.Adding.{adding}
use Rattle.writer.specs.Packing.{packing}
use Rattle.writer.specs.Closing.{closing}
use Rattle.writer.specs.Batch.{Batched, batched, batching}
use Rattle.bytewriter.specs.Laid.{done_in}
use Rattle.bytewriter.specs.Bytewise.{open_bytes, add_bytes, many_bytes, pack_bytes, close_bytes}
use Rattle.bytewriter.proofs.Over.{Moves}
use Rattle.bytewriter.proofs.Calls.{opens, open_over, adds, add_over, add_moves, packs, pack_over, pack_within, behind, closes, close_over, close_within}
use Rattle.bytewriter.proofs.Lists.{lays, batch_over, batch_moves}
use Rattle.bytewriter.proofs.Unlent.{lent, out, out_added, out_batched}

-- ---- a line that is lent
module _ (line : List ℕ) (is : lent line ≡ true) where
  pub even_in : is_even line ≡ true
  even_in = (both_true (is_even line) _ is).0

  pub most_in : length line / 2 ≤ 2304
  most_in = let short = leb-true (length line) 4608 (both_true (is_even line) _ is).1 in omega arith

  -- the part of an array that is lent for it
  pub zeros_in : (arr : List ℕ) → length arr ≡ 2304 → length line / 2 ≡ length (take (length line / 2) arr)
  zeros_in arr e = let m = most_in in sym (length-take-le (length line / 2) arr (omega arith))

  twice_in : 2 * (length line / 2) ≡ length line
  twice_in = let even = eqb-true (length line % 2) 0 even_in in omega arith

-- the line, the array, its part as the call left it, and what lies behind that part
pub record Given (line arr words : List ℕ) : Type 0 where
  pub is : lent line ≡ true
  pub size : length arr ≡ 2304
  pub kept : length words ≡ length (take (length line / 2) arr)

module _ {line arr words : List ℕ} (g : Given line arr words) where
  words_long : length words ≡ length line / 2
  words_long = g.kept ∙ sym (zeros_in line g.is arr g.size)

  pub zeros_long : length (take (length line / 2) arr) ≡ length (words_of line)
  zeros_long = sym (zeros_in line g.is arr g.size) ∙ sym (length_words line)

  module _ (rest : List ℕ) where
    pub part_in : length line / 2 ≤ length (words ++ rest)
    part_in = omega (arith, length-append words rest, words_long)

    pub part_is : take (length line / 2) (words ++ rest) ≡ words
    part_is = take_at words rest (length line / 2) words_long

    pub part_long : length line / 2 ≡ length (take (length line / 2) (words ++ rest))
    part_long = sym (ap length part_is ∙ words_long)

    pub line_long : length line ≡ 2 * length (take (length line / 2) (words ++ rest))
    line_long = sym (twice_in line g.is) ∙ ap (λ (n : ℕ). 2 * n) part_long

-- what goes back, by other names
went : (y : List ℕ) {x x' : List ℕ} {s s' b b' a a' : ℕ} → x ≡ x' → s ≡ s' → b ≡ b' → a ≡ a' → paste y (s + b) (drop (s + b) x) (a - b) ≡ paste y (s' + b') (drop (s' + b') x') (a' - b')
went y ex es eb ea = cc

done_most : (a : Answer) (n : ℕ) → done_in a n ≤ n
done_most (Refused k) n = omega arith
done_most Done n = omega arith

-- ---- the calls: what was laid lies in the part, and with it gone back the call is the one on the line's words
module _ {line arr words : List ℕ} (g : Given line arr words) (rest : List ℕ) (w : Writer) where
  abbrev zeros : List ℕ
  zeros = take (length line / 2) arr

  abbrev part : List ℕ
  part = take (length line / 2) (words ++ rest)

  abbrev back : List ℕ → ℕ → ℕ → ℕ → Type 0
  back line' s b a = line' ≡ bytes_of (paste (words_of line) (s + b) (drop (s + b) part) (a - b))

  long : length part ≡ length zeros
  long = ap length (part_is g rest) ∙ g.kept

  module _ (f v : Bool) (n : ℕ) (t : Settings) (answer : Answer) (state : Writer) (e : left answer state words ≡ opening w f v n t zeros) (a : ℕ) (ea : a ≡ done_in answer (length line / 2)) where
    pub open_in : 0 + a ≤ length part
    open_in = omega (arith, part_long g rest, done_most answer (length line / 2), ea)

    pub open_given : (line' : List ℕ) → back line' 0 0 a → left answer state line' ≡ open_bytes w f v n t line
    unfolding open_bytes
    open_given line' el =
        let y = words_of line in
        let is : opening w f v n t y ≡ opens y (length zeros) (left answer state words) =
        open_over w f v n t zeros y (zeros_long g) (sym (ap (λ (z : Left). length z.line) e) ∙ g.kept) ∙ ap (opens y (length zeros)) (sym e) in
        let laid : a ≡ done_in answer (length zeros) = ea ∙ ap (done_in answer) (zeros_in line g.is arr g.size) in
        ap (left answer state) (el ∙ ap bytes_of (went y {s = 0} {b = 0} (part_is g rest) refl refl laid)) ∙ sym (ap out is) ∙ sym (pick_true _ _ (even_in line g.is))

  module _ (answer : Answer) (state : Writer) (e : left answer state words ≡ closing w zeros) (s a : ℕ) (es : s ≡ length line / 2 - behind w) (ea : a ≡ done_in answer (behind w)) where
    starts : s ≡ length zeros - behind w
    starts = es ∙ ap (λ (n : ℕ). n - behind w) (zeros_in line g.is arr g.size)

    pub close_in : 0 < a → s + a ≤ length part
    close_in h =
        let inn : 0 < done_in answer (behind w) → length zeros - behind w + done_in answer (behind w) ≤ length zeros =
        subst (λ (z : Left). 0 < done_in z.answer (behind w) → length zeros - behind w + done_in z.answer (behind w) ≤ length zeros) (sym e) (close_within w zeros) in
        omega (arith, inn (omega (arith, h, ea)), starts, ea, long)

    pub close_given : (line' : List ℕ) → back line' s 0 a → left answer state line' ≡ close_bytes w line
    unfolding close_bytes
    close_given line' el =
        let y = words_of line in
        let is : closing w y ≡ closes w y (length zeros) (left answer state words) = close_over w zeros y (zeros_long g) ∙ ap (closes w y (length zeros)) (sym e) in
        ap (left answer state) (el ∙ ap bytes_of (went y {b = 0} (part_is g rest) starts refl ea)) ∙ sym (ap out is) ∙ sym (pick_true _ _ (even_in line g.is))

  module _ (did second : ℕ) (values : List ℕ) (answer : Answer) (state : Writer) (e : left answer state words ≡ packing w zeros did second (words_of values)) where
    pub pack_in : w.used < state.used → gap_at + state.used ≤ length part
    pack_in h =
        let inn : w.used < state.used → gap_at + state.used ≤ length zeros =
        subst (λ (z : Left). w.used < z.state.used → gap_at + z.state.used ≤ length zeros) (sym e) (pack_within w did second (words_of values) zeros) in
        omega (arith, inn h, long)

    pub pack_given : is_even values ≡ true → (line' : List ℕ) → back line' gap_at w.used state.used → left answer state line' ≡ pack_bytes w line did second values
    unfolding pack_bytes
    pack_given even line' el =
        let y = words_of line in
        let is : packing w y did second (words_of values) ≡ packs w y (left answer state words) = pack_over w did second (words_of values) zeros y (zeros_long g) ∙ ap (packs w y) (sym e) in
        ap (left answer state) (el ∙ ap bytes_of (went y {s = gap_at} {b = w.used} {a = state.used} (part_is g rest) refl refl refl))
        ∙ sym (ap out is)
        ∙ sym (pick_true _ _ (and_true (even_in line g.is) even))

  -- where the words between two places stand
  module _ (state : Writer) (s b a : ℕ) (es : s ≡ payload_at (system_of w.system)) (eb : b ≡ place_of w.place) (ea : a ≡ place_of state.place) where
    moves_in : Moves w zeros state words → b < a → s + a ≤ length part
    moves_in m h = omega (arith, m.within (omega (arith, h, eb, ea)), es, ea, long)

    module _ (kind : ℕ) (values : List ℕ) (answer : Laid) (e : added answer state words ≡ adding w zeros kind (words_of values)) where
      pub add_in : b < a → s + a ≤ length part
      add_in h = moves_in (subst (λ (z : Added). Moves w zeros z.state z.line) (sym e) (add_moves w kind (words_of values) zeros)) h

      pub add_given : is_even values ≡ true → (line' : List ℕ) → back line' s b a → added answer state line' ≡ add_bytes w line kind values
      unfolding add_bytes
      add_given even line' el =
          let y = words_of line in
          let is : adding w y kind (words_of values) ≡ adds w y (added answer state words) = add_over w kind (words_of values) zeros y (zeros_long g) ∙ ap (adds w y) (sym e) in
          ap (added answer state) (el ∙ ap bytes_of (went y (part_is g rest) es eb ea)) ∙ sym (ap out_added is) ∙ sym (pick_true _ _ (and_true (even_in line g.is) even))

    module _ (blocks : List ℕ) (finished : ℕ) (stop : Stop) (e : batched finished stop state words ≡ batching w zeros (words_of blocks)) where
      pub many_in : b < a → s + a ≤ length part
      many_in h = moves_in (subst (λ (z : Batched). Moves w zeros z.state z.line) (sym e) (batch_moves w zeros (words_of blocks))) h

      pub many_given : is_even blocks ≡ true → (line' : List ℕ) → back line' s b a → batched finished stop state line' ≡ many_bytes w line blocks
      unfolding many_bytes
      many_given even line' el =
          let y = words_of line in
          let is : batching w y (words_of blocks) ≡ lays w y (batched finished stop state words) = batch_over w zeros (words_of blocks) y (zeros_long g) ∙ ap (lays w y) (sym e) in
          ap (batched finished stop state) (el ∙ ap bytes_of (went y (part_is g rest) es eb ea)) ∙ sym (ap out_batched is) ∙ sym (pick_true _ _ (and_true (even_in line g.is) even))
