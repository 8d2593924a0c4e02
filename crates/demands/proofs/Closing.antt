-- A line that is open can be closed: at once, or, where an unfinished block has a word left on it, after one more addition of that block, which
-- finishes the block or fills the line.
-- Assumes nothing.
use Rattle.std.specs.Prelude.{Some, Option, None}
use Prim.Native.Nat.{ℕ, ◌+◌, ◌-◌, ◌≤◌, ◌<◌, min}
use mathlib.Core.Bool.{Bool, true, false, ◌&&◌, not}
use mathlib.Core.List.{List, [], ◌∷◌}
use mathlib.Core.Path.{◌≡◌, refl, sym, ap, ap₂, ◌∙◌}
use native.Mathlib.Omega.{arith}
use lib.Dec.{eqb, ltb}
use lib.ListN.{length, replicate, length-replicate}
use lib.Seq.{length-paste}
use borrow.Author.Tests.{eq-eqb, eqb-false, le-leb, le-ltb, lt-ltb, ltb-false}
use Rattle.lists.specs.Tests.{pick}
use Rattle.lists.proofs.Tests.{or_right, or_false, false_or, and_true, true_false}
use Rattle.words.specs.Modes.{values}
use Rattle.line.specs.Systems.{system_of}
use Rattle.line.specs.Fixed.{is_variable, size_of}
use Rattle.line.specs.Layout.{payload_at}
use Rattle.line.specs.Check.{fits_length}
use Rattle.course.specs.Course.{is_at, place_of}
use Rattle.writer.specs.declared.state.Writer.{Writer}
use Rattle.writer.specs.State.{most, is_part, laid_of, misshapen, impossible, end_in, unfinished}
use Rattle.writer.specs.Answers.{Left, Added}
use Rattle.writer.specs.Adding.{valued, ill_shaped, is_full, is_other, add_fault, todo, fitting, adding}
use Rattle.writer.specs.Filling.{piece_of, filled, adds}
use Rattle.writer.proofs.Keeps.{add_leaves, close_leaves}
use Rattle.writer.proofs.Legal.{each_filler}
use Rattle.writer.proofs.Refusals.{Begun, begun, can_add}
use Rattle.writer.proofs.Stays.{add_possible}
use Rattle.demands.specs.Writable.{TypeHeld, Closable}
use Rattle.demands.proofs.DeskCloses.{varied_by}
use Rattle.demands.proofs.Unrefused.{adds_clear, closes_clear, shape_by}
use Rattle.writer.specs.declared.state.Part.{Part}

-- a value 0 fits each mode
zero_fits : (b : Bool) → 0 < pick b 256 512
unfolding pick
zero_fits true = omega arith
zero_fits false = omega arith

zeros_fit : (mode n : ℕ) → valued mode (replicate n 0) ≡ true
unfolding valued values
zeros_fit mode n = each_filler (λ (v : ℕ). ltb v (values mode)) n 0 (lt-ltb 0 (values mode) (zero_fits (eqb mode 8)))

-- what is left behind k words: no block, or no word
left_none : (b : Bool) (end p k left kind n j : ℕ) → eqb k left ≡ b → p < end → k ≡ min (end - p) left
    → (is_part (pick b None (unfinished kind n j)) && not (is_full end (Some (p + k)))) ≡ false
unfolding pick
left_none true end p k left kind n j e h m = refl
left_none false end p k left kind n j e h m = ap not (le-leb end (p + k) (omega (arith, h, m, eqb-false k left e)))

module _ (w : Writer) (line : List ℕ) (fit : fits_length w.system w.mode (length line) ≡ true) (possible : impossible w ≡ false) (at : is_at w.place ≡ true) where
  at_once : (is_part w.rest && not (is_full (end_in w) w.place)) ≡ false → Closable w line
  at_once may =
      record {
        last = w;
        full = line;
        pieces = [];
        calls = filled;
        done = ap (λ (y : Left). y.answer) (close_leaves w line (closes_clear w (length line) fit possible at may));
      }

  -- ---- the block lent again, its values all 0: only its type and length are compared
  module _ (kind n j : ℕ) (r : w.rest ≡ unfinished kind n j) (small : kind ≤ 0xFF) (space : is_full (end_in w) w.place ≡ false) where
    vs : List ℕ
    vs = replicate n 0

    long : length vs ≡ n
    unfolding vs
    long = length-replicate {A = ℕ} n 0

    now_begun : Begun w
    now_begun = begun w possible (or_right (is_part w.rest) (is_at w.place) at)

    few : n ≤ most
    few = ltb-false most n (or_false (ltb most n) _ (ap misshapen (sym r) ∙ now_begun.shaped)).0

    variable : is_variable w.settings.block ≡ true
    variable = varied_by (is_part w.rest) _ now_begun.course.varied (ap is_part r)

    shape : ill_shaped w.place w.settings.block kind (length vs) ≡ false
    unfolding ill_shaped
    shape =
        false_or (le-ltb most (length vs) (omega (arith, few, long)))
        (false_or (le-ltb 255 kind small)
        (shape_by (is_variable w.settings.block) (is_at w.place) (eqb (length vs + 1) (size_of w.settings.block)) (eqb kind 0) (λ v. absurd (true_false (sym variable ∙ v)))))

    same : is_other w.rest kind (length vs) ≡ false
    same = ap (λ (x : Option Part). is_other x kind (length vs)) r ∙ ap not (and_true (eq-eqb kind kind refl) (eq-eqb n (length vs) (sym long)))

    clear : add_fault w (length line) kind vs ≡ 0
    unfolding vs
    clear = adds_clear w (length line) kind vs fit possible (zeros_fit w.mode n) shape space at same

    abbrev k : ℕ
    k = fitting w (todo w kind vs)

    abbrev x : Added
    x = adding w line kind vs

    line_long : length (adding w line kind vs).line ≡ length line
    line_long =
        let a = can_add w line kind vs clear in
        ap (λ (y : Added). length y.line) (add_leaves w line kind vs clear)
        ∙ length-paste line (payload_at (system_of w.system) + place_of w.place) (todo w kind vs) k (omega (arith, a.room, a.end, a.fit.long, a.fit.row.room)) (omega arith)

    fit_still : fits_length x.state.system x.state.mode (length x.line) ≡ true
    fit_still =
        ap (λ (y : Added). fits_length y.state.system y.state.mode (length x.line)) (add_leaves w line kind vs clear)
        ∙ ap (fits_length w.system w.mode) line_long ∙ fit

    may_close : (is_part x.state.rest && not (is_full (end_in x.state) x.state.place)) ≡ false
    may_close =
        ap (λ (y : Added). is_part y.state.rest && not (is_full (end_in y.state) y.state.place)) (add_leaves w line kind vs clear)
        ∙ left_none (eqb k (length (todo w kind vs))) (end_in w) (place_of w.place) k (length (todo w kind vs)) kind (length vs) (laid_of w.rest + k) refl
        (can_add w line kind vs clear).room refl

    after_one : Closable w line
    after_one =
        record {
          last = x.state;
          full = x.line;
          pieces = piece_of w line kind vs ∷ [];
          calls = adds kind vs filled;
          done =
              ap (λ (y : Left). y.answer)
              (close_leaves x.state x.line
              (closes_clear x.state (length x.line) fit_still (add_possible w line kind vs possible) (ap (λ (y : Added). is_at y.state.place) (add_leaves w line kind vs clear)) may_close));
        }

  pub can_be_closed : TypeHeld w.rest → Closable w line
  can_be_closed h = by w.rest refl h
    where
      room_or : (kind n j : ℕ) → w.rest ≡ unfinished kind n j → kind ≤ 0xFF → (b : Bool) → is_full (end_in w) w.place ≡ b → Closable w line
      room_or kind n j r small true e = at_once (ap₂ (λ (y : Option Part) (b : Bool). is_part y && not b) r e)
      room_or kind n j r small false e = after_one kind n j r small e

      by : (r : Option Part) → w.rest ≡ r → TypeHeld r → Closable w line
      by None r small = at_once (ap (λ (y : Option Part). is_part y && not (is_full (end_in w) w.place)) r)
      by (Some p) r small = room_or p.kind p.count p.laid r small (is_full (end_in w) w.place) refl
