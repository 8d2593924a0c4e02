-- A possible state stays possible, whatever is called and however it is answered: answer 2 never follows from a fresh writer.
-- Assumes nothing.
use Rattle.std.specs.Prelude.{Option, Some, None}
use mathlib.Core.Path.{◌≡◌, refl, sym, ap, ap₂, ◌∙◌, subst}
use mathlib.Core.Bool.{Bool, true, false, ◌&&◌, ◌||◌, not}
use mathlib.Core.List.{List}
use Prim.Native.Nat.{ℕ, ◌+◌, ◌-◌, ◌*◌, ◌^◌, ◌≤◌, ◌<◌, min}
use native.Mathlib.Nat.{one-mul}
use native.Mathlib.Omega.{arith}
use lib.Dec.{T, eqb, ltb}
use lib.ListN.{length, get_or, take, drop, length-drop}
use borrow.Author.Tests.{eqb-true, eqb-false, eq-eqb, le-leb, lt-leb, le-ltb, ltb-false, not-false}
use Rattle.lists.specs.Tests.{pick}
use Rattle.lists.proofs.Tests.{true_false, or_right, or_false, false_or, both_true, and_true, pick_true, pick_elim}
use Rattle.lists.proofs.Refusals.{given_holds}
use Rattle.words.specs.Crc.{crc_start, crc_of}
use Rattle.words.proofs.CrcLaws.{crc_lt}
use Rattle.line.specs.declared.settings.Settings.{Settings}
use Rattle.line.specs.Systems.{system_of}
use Rattle.line.specs.Fixed.{size_of, is_variable}
use Rattle.line.specs.Settings.{settings_faults}
use Rattle.course.specs.Course.{is_at, place_of, misplaced, impossible_after}
use Rattle.course.proofs.CourseLaws.{at_place, start_placed, begins, variable_placed, grid_next, grid_room}
use Rattle.writer.specs.declared.state.Writer.{Writer}
use Rattle.writer.specs.declared.state.Answer.{Answer}
use Rattle.writer.specs.declared.state.Answer.TheVariants.{Refused, Done}
use Rattle.writer.specs.declared.state.Laid.{Laid}
use Rattle.writer.specs.declared.state.Laid.TheVariants.{Refused as NotLaid, Finished, Unfinished}
use Rattle.packets.specs.Listing.{gap_length}
use Rattle.writer.specs.State.{most, is_part, laid_of, fresh, misshapen, overlong, overfull, impossible, end_in, moved, open_state, used_to, unfinished}
use Rattle.writer.specs.Packing.{pack_faults, pack_fault, packing}
use Rattle.writer.proofs.Packs.{can_pack}
use Rattle.writer.specs.Block.{words_in}
use Rattle.writer.specs.Answers.{answer_numbers, laid_numbers, Left, left, Added, added}
use Rattle.writer.specs.Opening.{open_faults, open_fault, opening}
use Rattle.writer.specs.Adding.{ill_shaped, is_other, add_faults, add_fault, todo, fitting, adding}
use Rattle.writer.specs.Closing.{close_faults, close_fault, closing}
use Rattle.writer.proofs.BlockLaws.{words_variable, words_fixed, block_long, fixed_long}
use Rattle.writer.proofs.Refusals.{Begun, begun, possible_by, can_open, CanAdd, can_add, can_close}
use Rattle.writer.specs.declared.state.Part.{Part}

-- another place, rest and CRC in a line that is begun
moved_begun : (w : Writer) (p : Option ℕ) (r : Option Part) (c : ℕ) → Begun w → misplaced (system_of w.system).payload w.settings.block w.settings.flag p ≡ false
    → (is_part r && not (is_variable w.settings.block)) ≡ false → misshapen r ≡ false → overlong c ≡ false → Begun (moved w p r c)
moved_begun w p r c b x y z u =
    let h = b.course in
    record {
      course = record { number = h.number; numbered = h.numbered; range = h.range; clean = h.clean; placed = x; varied = y };
      shaped = z;
      short = u;
      gapped = b.gapped;
    }

-- ---- opening: an unfinished block stays, with the same settings
parts_of : (w : Writer) → impossible w ≡ false
    → (impossible_after w.system w.last w.settings w.place (is_part w.rest) ≡ false) × (misshapen w.rest ≡ false)
unfolding impossible
parts_of w e = let h = or_false _ (misshapen w.rest || (overlong w.crc || overfull w.system w.used)) e in (h.0, (or_false (misshapen w.rest) _ h.1).0)

open_begun : (w : Writer) (n : ℕ) (t : Settings) (long : ℕ) → open_fault w n t long ≡ 0 → Begun (open_state w n t)
open_begun w n t long ok =
    let o = can_open w n t long ok in
    let range = ap not (and_true (le-leb 1 n o.one) (le-leb n _ o.last)) in
    let kept = parts_of w o.state in
    let part = is_part w.rest in
    record {
      course = begins w.system w.last w.settings t w.place (Some 0) part part n kept.0 range o.clean (start_placed w.system t o.clean) (λ e. (e, (o.goes e).0));
      shaped = kept.1;
      short = refl;
      gapped = le-ltb (gap_length (system_of w.system)) 0 (omega arith);
    }

pub open_possible : (w : Writer) (f v : Bool) (n : ℕ) (t : Settings) (line : List ℕ) → impossible w ≡ false → impossible (opening w f v n t line).state ≡ false
unfolding opening
open_possible w f v n t line e =
    pick_elim (λ (x : Left). impossible x.state ≡ false) (eqb (open_fault w n t (length line)) 0)
    (λ h. possible_by (open_state w n t) (open_begun w n t (length line) (eqb-true _ _ h))) (λ h. e)

-- ---- closing
pub close_possible : (w : Writer) (line : List ℕ) → impossible w ≡ false → impossible (closing w line).state ≡ false
unfolding closing
close_possible w line e =
    pick_elim (λ (x : Left). impossible x.state ≡ false) (eqb (close_fault w (length line)) 0)
    (λ h.
    let c = can_close w line (eqb-true _ _ h) in
    let b = begun w e (or_right (is_part w.rest) (is_at w.place) c.begun) in
    possible_by (moved w None w.rest crc_start) (moved_begun w None w.rest crc_start b refl b.course.varied b.shaped refl))
    (λ h. e)

-- ---- a fresh writer
pub fresh_possible : (system mode : ℕ) → impossible (fresh system mode) ≡ false
unfolding impossible
fresh_possible system mode = le-ltb (gap_length (system_of system)) 0 (omega arith)

-- answer 2 is of an impossible state alone
module _ (w : Writer) (possible : impossible w ≡ false) where
  not_given : (impossible w || false) ≡ true → ⊥
  not_given e = true_false (sym e ∙ false_or possible refl)

  pub open_never_2 : (n : ℕ) (t : Settings) (long : ℕ) → open_fault w n t long ≡ 2 → ⊥
  unfolding open_fault settings_faults
  open_never_2 n t long e = not_given (given_holds 2 (open_faults w n t long) e (λ z. omega arith))

  pub add_never_2 : (long kind : ℕ) (vs : List ℕ) → add_fault w long kind vs ≡ 2 → ⊥
  unfolding add_fault
  add_never_2 long kind vs e = not_given (given_holds 2 (add_faults w long kind vs) e (λ z. omega arith))

  pub pack_never_2 : (long : ℕ) (vs : List ℕ) → pack_fault w long vs ≡ 2 → ⊥
  unfolding pack_fault
  pack_never_2 long vs e = not_given (given_holds 2 (pack_faults w long vs) e (λ z. omega arith))

  pub close_never_2 : (long : ℕ) → close_fault w long ≡ 2 → ⊥
  unfolding close_fault
  close_never_2 long e = not_given (given_holds 2 (close_faults w long) e (λ z. omega arith))

-- ---- what an accepted addition finds
fixed_by_lem : (p : Option ℕ) (block kind n : ℕ) → is_at p ≡ true → is_variable block ≡ false → ill_shaped p block kind n ≡ false → n + 1 ≡ size_of block
unfolding ill_shaped
fixed_by_lem p block kind n o v e =
    let a = (or_false (ltb 255 kind) _ (or_false (ltb most n) _ e).1).1 in
    let b : (not (eqb (n + 1) (size_of block)) || eqb kind 0) ≡ false =
    sym (ap₂ (λ (x y : Bool). (x && not y) && (not (eqb (n + 1) (size_of block)) || eqb kind 0)) o v) ∙ a in
    eqb-true _ _ (not-false _ (or_false (not (eqb (n + 1) (size_of block))) _ b).0)

laid_most : (r : Option Part) (kind n : ℕ) → misshapen r ≡ false → is_other r kind n ≡ false → laid_of r ≤ n + 6
laid_most None kind n e o = omega arith
laid_most (Some p) kind n e o =
    let a = or_false (ltb p.laid 1) (ltb (p.count + 6) p.laid) (or_false (ltb most p.count) _ e).1 in
    let b = eqb-true p.count n (both_true (eqb p.kind kind) (eqb p.count n) (not-false _ o)).1 in
    omega (arith, ltb-false (p.count + 6) p.laid a.1, b)

whole_by : (r : Option Part) (v : Bool) → (is_part r && not v) ≡ false → v ≡ false → r ≡ None
whole_by None v e h = refl
whole_by (Some p) true e h = absurd (subst T h tt)
whole_by (Some p) false e h = absurd (subst T e tt)

-- an unfinished block: 1 to n+6 words laid
part_range : (end p long n j k : ℕ) → p < end → long ≡ n + 7 - j → j ≤ n + 6 → k ≡ min (end - p) long → (k ≡ long → ⊥) → (1 ≤ j + k) × (j + k ≤ n + 6)
part_range end p long n j k a b c d e = (omega arith, omega arith)

rest_after : (b : Bool) (kind n j : ℕ) → n ≤ most → (b ≡ false → (1 ≤ j) × (j ≤ n + 6)) → misshapen (pick b None (unfinished kind n j)) ≡ false
unfolding pick
rest_after true kind n j m h = refl
rest_after false kind n j m h = false_or (le-ltb most n m) (false_or (le-ltb j 1 (h refl).0) (le-ltb (n + 6) j (h refl).1))

varied_any : (r : Option Part) (v : Bool) → v ≡ true → (is_part r && not v) ≡ false
varied_any None v e = refl
varied_any (Some p) v e = ap not e

-- what a CRC is taken on to has 18 bits
is_register : (c : ℕ) (ws : List ℕ) → overlong (crc_of c ws) ≡ false
is_register c ws = lt-leb (2 ^ 18) (crc_of c ws) (crc_lt c ws)

-- ---- the state after an accepted addition
module _ (w : Writer) (line : List ℕ) (kind : ℕ) (vs : List ℕ) (ok : add_fault w (length line) kind vs ≡ 0) where
  abbrev block : ℕ
  block = w.settings.block

  abbrev ws : List ℕ
  ws = todo w kind vs

  abbrev k : ℕ
  k = fitting w (todo w kind vs)

  abbrev rest' : Option Part
  rest' = pick (eqb (fitting w (todo w kind vs)) (length (todo w kind vs))) None (unfinished kind (length vs) (laid_of w.rest + fitting w (todo w kind vs)))

  abbrev crc' : ℕ
  crc' = crc_of w.crc (take (fitting w (todo w kind vs)) (todo w kind vs))

  adds : CanAdd w line kind vs
  adds = can_add w line kind vs ok

  pub at_adding : Begun w
  at_adding = begun w adds.state (or_right (is_part w.rest) (is_at w.place) adds.begun)

  pub free : place_of w.place < end_in w
  free = adds.room

  -- a variable line: the place is within the area, and what is left of the block is of 1 to n+6 words laid
  variable_long : is_variable w.settings.block ≡ true → length ws ≡ length vs + 7 - laid_of w.rest
  variable_long v =
      length-drop (laid_of w.rest) (words_in block w.mode kind vs)
      ∙ ap (λ (x : ℕ). x - laid_of w.rest) (ap length (words_variable block w.mode kind vs v) ∙ block_long w.mode kind vs)

  pub part_laid : is_variable w.settings.block ≡ true → (fitting w (todo w kind vs) ≡ length (todo w kind vs) → ⊥)
      → (1 ≤ laid_of w.rest + fitting w (todo w kind vs)) × (laid_of w.rest + fitting w (todo w kind vs) ≤ length vs + 6)
  part_laid v h =
      part_range (end_in w) (place_of w.place) (length ws) (length vs) (laid_of w.rest) k free (variable_long v)
      (laid_most w.rest kind (length vs) at_adding.shaped adds.same) refl h

  variable_after : is_variable w.settings.block ≡ true → Begun (moved w (Some (place_of w.place + k)) rest' crc')
  variable_after v =
      moved_begun w _ rest' crc' at_adding (variable_placed (system_of w.system).payload block w.settings.flag (place_of w.place + k) v (let f = free in omega arith))
      (varied_any rest' (is_variable block) v)
      (rest_after (eqb k (length ws)) kind (length vs) (laid_of w.rest + k) adds.number
      (λ e. part_laid v (eqb-false _ _ e)))
      (is_register w.crc _)

  -- a fixed line: the block is laid whole, up to the next place
  pub fixed_whole : is_variable w.settings.block ≡ false → w.rest ≡ None
  fixed_whole v = whole_by w.rest (is_variable block) at_adding.course.varied v

  pub fixed_size : is_variable w.settings.block ≡ false → length ws ≡ size_of block
  fixed_size v =
      ap (λ (r : Option Part). length (drop (laid_of r) (words_in block w.mode kind vs))) (fixed_whole v)
      ∙ ap length (words_fixed block w.mode kind vs v)
      ∙ fixed_long w.mode kind vs
      ∙ fixed_by_lem w.place block kind (length vs) adds.begun v adds.shape

  at_grid : misplaced (system_of w.system).payload w.settings.block w.settings.flag (Some (place_of w.place)) ≡ false
  at_grid =
      subst (λ (x : Option ℕ). misplaced (system_of w.system).payload block w.settings.flag x ≡ false) (at_place w.place adds.begun) at_adding.course.placed

  fixed_next : is_variable w.settings.block ≡ false → place_of w.place + size_of block ≤ end_in w
  fixed_next v = grid_room (system_of w.system).payload block w.settings.flag (place_of w.place) v at_grid free

  pub fixed_room : is_variable w.settings.block ≡ false → place_of w.place + (length vs + 1) ≤ end_in w
  fixed_room v = let a = fixed_next v in let b = fixed_by_lem w.place block kind (length vs) adds.begun v adds.shape in omega arith

  pub fixed_fits : is_variable w.settings.block ≡ false → fitting w (todo w kind vs) ≡ length (todo w kind vs)
  fixed_fits v = let a = fixed_next v in let b = fixed_size v in omega arith

  fixed_after : is_variable w.settings.block ≡ false → Begun (moved w (Some (place_of w.place + k)) rest' crc')
  fixed_after v =
      let all = fixed_fits v in
      let one = one-mul (size_of block) in
      let next : place_of w.place + k ≡ place_of w.place + 1 * size_of block = ap (λ (x : ℕ). place_of w.place + x) (all ∙ fixed_size v ∙ sym one) in
      let whole : rest' ≡ None = pick_true _ _ (eq-eqb _ _ all) in
      moved_begun w _ rest' crc' at_adding
      (subst (λ (x : ℕ). misplaced (system_of w.system).payload block w.settings.flag (Some x) ≡ false) (sym next)
      (grid_next (system_of w.system).payload block w.settings.flag (place_of w.place) 1 v at_grid
      (subst (λ (x : ℕ). place_of w.place + x ≤ end_in w) (sym one) (fixed_next v))))
      (ap (λ (r : Option Part). is_part r && not (is_variable block)) whole)
      (ap misshapen whole)
      (is_register w.crc _)

  add_begun : Begun (moved w (Some (place_of w.place + k)) rest' crc')
  add_begun = go (is_variable block) refl
    where
      go : (b : Bool) → is_variable block ≡ b → Begun (moved w (Some (place_of w.place + k)) rest' crc')
      go true v = variable_after v
      go false v = fixed_after v

pub add_possible : (w : Writer) (line : List ℕ) (kind : ℕ) (vs : List ℕ) → impossible w ≡ false → impossible (adding w line kind vs).state ≡ false
unfolding adding
add_possible w line kind vs e =
    pick_elim (λ (x : Added). impossible x.state ≡ false) (eqb (add_fault w (length line) kind vs) 0)
    (λ h. possible_by _ (add_begun w line kind vs (eqb-true _ _ h))) (λ h. e)

-- ---- a packet
pub pack_possible : (w : Writer) (line : List ℕ) (did second : ℕ) (vs : List ℕ) → impossible w ≡ false → impossible (packing w line did second vs).state ≡ false
unfolding packing
pack_possible w line did second vs e =
    pick_elim (λ (x : Left). impossible x.state ≡ false) (eqb (pack_fault w (length line) vs) 0)
    (λ h.
    let c = can_pack w line vs (eqb-true _ _ h) in
    let b = begun w e (or_right (is_part w.rest) (is_at w.place) c.begun) in
    possible_by (used_to w (w.used + (length vs + 7)))
    (record { course = b.course; shaped = b.shaped; short = b.short; gapped = le-ltb (gap_length (system_of w.system)) (w.used + (length vs + 7)) c.room }))
    (λ h. e)

-- ---- any calls, from a fresh writer on
pub data Reached (system mode : ℕ) : Writer → Type 0 where
  starts : Reached system mode (fresh system mode)
  opens : {w : Writer} (f v : Bool) (n : ℕ) (t : Settings) (line : List ℕ) → Reached system mode w → Reached system mode (opening w f v n t line).state
  lays : {w : Writer} (line : List ℕ) (kind : ℕ) (vs : List ℕ) → Reached system mode w → Reached system mode (adding w line kind vs).state
  packs : {w : Writer} (line : List ℕ) (did second : ℕ) (vs : List ℕ) → Reached system mode w → Reached system mode (packing w line did second vs).state
  shuts : {w : Writer} (line : List ℕ) → Reached system mode w → Reached system mode (closing w line).state

pub reached_possible : (system mode : ℕ) (w : Writer) → Reached system mode w → impossible w ≡ false
reached_possible system mode w starts = fresh_possible system mode
reached_possible system mode _ (opens {w} f v n t line r) = open_possible w f v n t line (reached_possible system mode w r)
reached_possible system mode _ (lays {w} line kind vs r) = add_possible w line kind vs (reached_possible system mode w r)
reached_possible system mode _ (packs {w} line did second vs r) = pack_possible w line did second vs (reached_possible system mode w r)
reached_possible system mode _ (shuts {w} line r) = close_possible w line (reached_possible system mode w r)

-- so answer 2 is given to none of them
pub record Never2 (w : Writer) : Type 0 where
  pub by_opening : (f v : Bool) (n : ℕ) (t : Settings) (line : List ℕ) → (opening w f v n t line).answer ≡ Refused 2 → ⊥
  pub by_adding : (line : List ℕ) (kind : ℕ) (vs : List ℕ) → (adding w line kind vs).answer ≡ NotLaid 2 → ⊥
  pub by_packing : (line : List ℕ) (did second : ℕ) (vs : List ℕ) → (packing w line did second vs).answer ≡ Refused 2 → ⊥
  pub by_closing : (line : List ℕ) → (closing w line).answer ≡ Refused 2 → ⊥

refused_is : (b : Bool) (s w : Writer) (l line : List ℕ) (n k : ℕ) → (pick b (left Done s l) (left (Refused n) w line)).answer ≡ Refused k → n ≡ k
unfolding pick
refused_is true s w l line n k e = absurd (omega (arith, ap (λ (a : Answer). length (answer_numbers a)) e))
refused_is false s w l line n k e = ap (λ (a : Answer). get_or (answer_numbers a) 0 0) e

not_is : (b f : Bool) (s w : Writer) (l line : List ℕ) (n k : ℕ) → (pick b (added (pick f Finished Unfinished) s l) (added (NotLaid n) w line)).answer ≡ NotLaid k → n ≡ k
unfolding pick
not_is true true s w l line n k e = absurd (omega (arith, ap (λ (a : Laid). length (laid_numbers a)) e))
not_is true false s w l line n k e = absurd (omega (arith, ap (λ (a : Laid). length (laid_numbers a)) e))
not_is false f s w l line n k e = ap (λ (a : Laid). get_or (laid_numbers a) 0 0) e

pub never_2 : (w : Writer) → impossible w ≡ false → Never2 w
unfolding opening adding packing closing
never_2 w p = record {
  by_opening = λ f v n t line e. open_never_2 w p n t (length line) (refused_is _ _ _ _ _ (open_fault w n t (length line)) 2 e);
  by_adding = λ line kind vs e. add_never_2 w p (length line) kind vs (not_is _ _ _ _ _ _ (add_fault w (length line) kind vs) 2 e);
  by_packing = λ line did second vs e. pack_never_2 w p (length line) vs (refused_is _ _ _ _ _ (pack_fault w (length line) vs) 2 e);
  by_closing = λ line e. close_never_2 w p (length line) (refused_is _ _ _ _ _ (close_fault w (length line)) 2 e);
}

pub fresh_never_2 : (system mode : ℕ) (w : Writer) → Reached system mode w → Never2 w
fresh_never_2 system mode w r = never_2 w (reached_possible system mode w r)
