-- Laws of lists of blocks: what entries a list has, and what is left behind each of them.
-- Assumes nothing.
use mathlib.Core.Path.{◌≡◌, refl, sym, ap, ap₂, ◌∙◌, subst}
use mathlib.Core.Bool.{Bool, true, false, ◌&&◌}
use mathlib.Core.List.{List, [], ◌∷◌}
use Prim.Native.Nat.{ℕ, zero, suc, ◌+◌, ◌-◌, ◌≤◌, ◌<◌}
use native.Mathlib.Numerals.{add-one}
use native.Mathlib.Omega.{arith}
use lib.Dec.{eqb, leb, eqb-suc-zero}
use lib.ListN.{length, get_or, take, drop, length-drop, drop_of_length-le}
use lib.Seq.{drop-cons, drop-drop}
use borrow.Author.Tests.{eq-eqb, ne_eqb, leb-true, leb-false}
use Rattle.lists.specs.Tests.{pick}
use Rattle.lists.proofs.Tests.{pick_true, pick_false}
use Rattle.line.specs.Check.{fits_length}
use Rattle.writer.specs.declared.state.Writer.{Writer}
use Rattle.writer.specs.declared.state.Laid.{Laid}
use Rattle.writer.specs.declared.state.Laid.TheVariants.{Refused as NotLaid, Finished, Unfinished as PartLaid}
use Rattle.writer.specs.declared.adding.Ground.{Ground}
use Rattle.writer.specs.declared.adding.Held.{Held}
use Rattle.writer.specs.declared.adding.Step.{Step}
use Rattle.writer.specs.declared.batch.Run.{Run}
use Rattle.writer.specs.declared.batch.Stop.TheVariants.{All, Unfinished, Refused}
use Rattle.writer.specs.State.{impossible}
use Rattle.writer.specs.Answers.{laid_numbers, Added, added}
use Rattle.writer.specs.Numbers.{all_fits, laid_by}
use Rattle.writer.specs.Adding.{add_fault, adding}
use Rattle.writer.specs.Batch.{Entry, whole, broken, entries_in, entries_of, stop_numbers, Batched, batched, behind, lay_all, batch_fault, batching, stop_by, stops_at, batch_by}
use Rattle.writer.specs.Ground.{held_by, Stands, IsStep, ran, IsRun, entry_end}
use Rattle.writer.proofs.NumberLaws.{add_numbers}
use Rattle.writer.proofs.Stays.{add_possible}

-- ---- the entries of a list: as many steps as there are words are enough
enough : (f g : ℕ) (ws : List ℕ) → length ws ≤ f → length ws ≤ g → entries_in f ws ≡ entries_in g ws
unfolding entries_in
enough zero zero ws a b = refl
enough zero (suc g) [] a b = refl
enough zero (suc g) (k ∷ ws) a b = absurd (omega arith)
enough (suc f) zero [] a b = refl
enough (suc f) zero (k ∷ ws) a b = absurd (omega arith)
enough (suc f) (suc g) [] a b = refl
enough (suc f) (suc g) (k ∷ []) a b = refl
enough (suc f) (suc g) (k ∷ n ∷ ws) a b =
    let short = length-drop n ws in
    ap (λ (es : List Entry). pick (leb n (length ws)) (whole k (take n ws) ∷ es) (broken ∷ [])) (enough f g (drop n ws) (omega (arith, short, a)) (omega (arith, short, b)))

pub entries_none : entries_of [] ≡ []
unfolding entries_of
entries_none = refl

pub entries_one : (k : ℕ) → entries_of (k ∷ []) ≡ broken ∷ []
unfolding entries_of
entries_one k = refl

pub entries_more : (k n : ℕ) (ws : List ℕ) → entries_of (k ∷ n ∷ ws) ≡ pick (leb n (length ws)) (whole k (take n ws) ∷ entries_of (drop n ws)) (broken ∷ [])
unfolding entries_of
entries_more k n ws =
    let short = length-drop n ws in
    ap (λ (es : List Entry). pick (leb n (length ws)) (whole k (take n ws) ∷ es) (broken ∷ [])) (enough (suc (length ws)) (length (drop n ws)) (drop n ws) (omega (arith, short)) (omega arith))

-- ---- the entry at a place of the list
pub record IsWhole (ws : List ℕ) (at e : ℕ) : Type 0 where
  pub head : at + 2 ≤ e
  pub within : e ≤ length ws
  pub is : entries_of (drop at ws) ≡ whole (get_or ws at 0) (take (e - (at + 2)) (drop (at + 2) ws)) ∷ entries_of (drop e ws)

data Cut (ws : List ℕ) (at : ℕ) : ℕ → Type 0 where
  cut_off : entries_of (drop at ws) ≡ broken ∷ [] → Cut ws at 0
  cut_out : (e : ℕ) → IsWhole ws at e → Cut ws at e

module _ (ws : List ℕ) (at : ℕ) (more : at < length ws) where
  abbrev n : ℕ
  n = get_or ws (at + 1) 0

  lone : length ws - at < 2 → entries_of (drop at ws) ≡ broken ∷ []
  lone h =
      ap entries_of (drop-cons ws at 0 more ∙ ap (λ (l : List ℕ). get_or ws at 0 ∷ l) (drop_of_length-le ws {i = suc at} (omega (arith, h))))
      ∙ entries_one (get_or ws at 0)

  two_heads : at + 1 < length ws → drop at ws ≡ get_or ws at 0 ∷ get_or ws (at + 1) 0 ∷ drop (at + 2) ws
  two_heads h =
      let second : suc at < length ws = omega (arith, h) in
      let third : suc (suc at) ≡ at + 2 = omega arith in
      drop-cons ws at 0 more
      ∙ ap (λ (l : List ℕ). get_or ws at 0 ∷ l) (drop-cons ws (suc at) 0 second ∙ ap₂ (λ (i j : ℕ). get_or ws i 0 ∷ drop j ws) (sym (add-one at)) third)

  two_or_more : at + 1 < length ws
      → entries_of (drop at ws)
      ≡ pick (leb (get_or ws (at + 1) 0) (length ws - at - 2)) (whole (get_or ws at 0) (take (get_or ws (at + 1) 0) (drop (at + 2) ws)) ∷ entries_of (drop (at + 2 + get_or ws (at + 1) 0) ws)) (broken ∷ [])
  two_or_more h =
      let left : length (drop (at + 2) ws) ≡ length ws - at - 2 = length-drop (at + 2) ws ∙ omega arith in
      ap entries_of (two_heads h)
      ∙ entries_more (get_or ws at 0) n (drop (at + 2) ws)
      ∙ ap₂ (λ (b : Bool) (es : List Entry). pick b (whole (get_or ws at 0) (take n (drop (at + 2) ws)) ∷ es) (broken ∷ [])) (ap (leb n) left) (ap entries_of (drop-drop n (at + 2) ws))

  cut_by : (a b : Bool) → leb 2 (length ws - at) ≡ a → leb (get_or ws (at + 1) 0) (length ws - at - 2) ≡ b → Cut ws at (pick (a && b) (at + 2 + get_or ws (at + 1) 0) 0)
  unfolding pick
  cut_by true true p q =
      let two = leb-true 2 (length ws - at) p in
      let all = leb-true n (length ws - at - 2) q in
      let many : n ≡ at + 2 + n - (at + 2) = omega arith in
      cut_out (at + 2 + n)
      (record {
        head = omega arith;
        within = omega (arith, two, all);
        is = two_or_more (omega (arith, two)) ∙ pick_true _ _ q ∙ ap (λ (k : ℕ). whole (get_or ws at 0) (take k (drop (at + 2) ws)) ∷ entries_of (drop (at + 2 + n) ws)) many;
      })
  cut_by true false p q = let two = leb-true 2 (length ws - at) p in cut_off (two_or_more (omega (arith, two)) ∙ pick_false _ _ q)
  cut_by false b p q = cut_off (lone (leb-false 2 (length ws - at) p))

  cut : Cut ws at (entry_end at ws)
  unfolding entry_end
  cut = cut_by (leb 2 (length ws - at)) (leb n (length ws - at - 2)) refl refl

  broken_by : (e : ℕ) → Cut ws at e → e ≡ 0 → entries_of (drop at ws) ≡ broken ∷ []
  broken_by _ (cut_off x) z = x
  broken_by _ (cut_out e x) z = absurd (omega (arith, x.head, z))

  whole_by : (e : ℕ) → Cut ws at e → (e ≡ 0 → ⊥) → IsWhole ws at e
  whole_by _ (cut_off x) h = absurd (h refl)
  whole_by _ (cut_out e x) h = x

  pub broken_at : (e : ℕ) → e ≡ entry_end at ws → e ≡ 0 → entries_of (drop at ws) ≡ broken ∷ []
  broken_at e is z = broken_by (entry_end at ws) cut (sym is ∙ z)

  pub whole_at : (e : ℕ) → e ≡ entry_end at ws → (e ≡ 0 → ⊥) → IsWhole ws at e
  whole_at e is h = subst (IsWhole ws at) (sym is) (whole_by (entry_end at ws) cut (λ z. h (is ∙ z)))

-- ---- the loop over a list: what is left of it, on what is held now, gives what all of it gives
pub record Laying (g : Ground) (h₀ : Held) (line₀ blocks : List ℕ) (h : Held) (line : List ℕ) (at done : ℕ) : Type 0 where
  pub within : at ≤ length blocks
  pub few : done ≤ at
  pub same : length line ≡ length line₀
  pub stands : (w : Writer) → Stands w g h₀ (length line₀) → Stands w g h (length line)
  pub so : (w : Writer) → Stands w g h₀ (length line₀) → lay_all (held_by w h) line done (entries_of (drop at blocks)) ≡ lay_all (held_by w h₀) line₀ 0 (entries_of blocks)

pub laying_start : (g : Ground) (h : Held) (line blocks : List ℕ) → Laying g h line blocks h line 0 0
laying_start g h line blocks = record { within = omega arith; few = omega arith; same = refl; stands = λ w s. s; so = λ w s. refl }

pub run_is : {g : Ground} {h : Held} (line blocks : List ℕ) (x r : Run) (line' : List ℕ) → r ≡ x → IsRun g h line blocks x line' → IsRun g h line blocks r line'
run_is line blocks x r line' e k w s = ap (λ (y : Run). batched y.finished y.stop (held_by w y.held) line') e ∙ k w s

module _ {g : Ground} {h₀ : Held} {line₀ blocks : List ℕ} {h : Held} {line : List ℕ} {at done : ℕ} (l : Laying g h₀ line₀ blocks h line at done) where
  pub all_laid : length blocks ≤ at → IsRun g h₀ line₀ blocks (ran done All h) line
  unfolding lay_all
  all_laid none w s = sym (ap (lay_all (held_by w h) line done) (ap entries_of (drop_of_length-le blocks {i = at} none) ∙ entries_none)) ∙ l.so w s

  pub breaks_off : at < length blocks → (e : ℕ) → e ≡ entry_end at blocks → e ≡ 0 → IsRun g h₀ line₀ blocks (ran done (Refused 28) h) line
  unfolding lay_all
  breaks_off more e is z w s = sym (ap (lay_all (held_by w h) line done) (broken_at blocks at more e is z)) ∙ l.so w s

  -- behind an entry
  module _ (e : ℕ) (x : IsWhole blocks at e) (t : Step) (line' : List ℕ) (step : IsStep g h line (get_or blocks at 0) (take (e - (at + 2)) (drop (at + 2) blocks)) t line') where
    abbrev left : Writer → Batched
    left w = lay_all (held_by w t.held) line' (suc done) (entries_of (drop e blocks))

    stands_now : (w : Writer) → Stands w g h₀ (length line₀) → Stands w g h (length line)
    stands_now w s = l.stands w s

    behind_it : (w : Writer) → Stands w g h₀ (length line₀) → behind t.answer (added t.answer (held_by w t.held) line') done (left w) ≡ lay_all (held_by w h₀) line₀ 0 (entries_of blocks)
    unfolding lay_all
    behind_it w s =
        ap (λ (y : Added). behind y.answer y done (lay_all y.state y.line (suc done) (entries_of (drop e blocks)))) (step w (stands_now w s))
        ∙ sym (ap (lay_all (held_by w h) line done) x.is)
        ∙ l.so w s

    by_answer : (a : Laid) → t.answer ≡ a → (w : Writer) → Stands w g h₀ (length line₀) → behind a (added a (held_by w t.held) line') done (left w) ≡ lay_all (held_by w h₀) line₀ 0 (entries_of blocks)
    by_answer a e w s = sym (ap (λ (b : Laid). behind b (added b (held_by w t.held) line') done (left w)) e) ∙ behind_it w s

    pub stops_refused : (k : ℕ) → t.answer ≡ NotLaid k → IsRun g h₀ line₀ blocks (ran done (Refused k) t.held) line'
    stops_refused k a w s = by_answer (NotLaid k) a w s

    pub stops_unfinished : t.answer ≡ PartLaid → IsRun g h₀ line₀ blocks (ran done Unfinished t.held) line'
    stops_unfinished a w s = by_answer PartLaid a w s

    stands_then : length line' ≡ length line → (w : Writer) → Stands w g h (length line) → Stands w g t.held (length line')
    stands_then same w s =
        record {
          grounds = s.grounds;
          fits = ap (fits_length w.system w.mode) same ∙ s.fits;
          possible =
              ap (λ (y : Added). impossible y.state) (step w s)
              ∙ add_possible (held_by w h) line (get_or blocks at 0) (take (e - (at + 2)) (drop (at + 2) blocks)) s.possible;
        }

    pub goes_on : t.answer ≡ Finished → length line' ≡ length line → Laying g h₀ line₀ blocks t.held line' e (done + 1)
    goes_on a same =
        record {
          within = x.within;
          few = omega (arith, l.few, x.head);
          same = same ∙ l.same;
          stands = λ w s. stands_then same w (stands_now w s);
          so = λ w s. ap (λ (k : ℕ). lay_all (held_by w t.held) line' k (entries_of (drop e blocks))) (add-one done) ∙ by_answer Finished a w s;
        }

-- ---- a whole call
pub batch_refused : (w : Writer) (line blocks : List ℕ) (fault : ℕ) → fault ≡ batch_fault w (length line) → (fault ≡ 0 → ⊥)
    → batched 0 (Refused fault) w line ≡ batching w line blocks
unfolding batching
batch_refused w line blocks fault is h =
    ap (λ (n : ℕ). batched 0 (Refused n) w line) is ∙ sym (pick_false (lay_all w line 0 (entries_of blocks)) _ (ne_eqb _ _ (λ e. h (is ∙ e))))

pub batch_laid : (w : Writer) (line blocks : List ℕ) → batch_fault w (length line) ≡ 0 → batching w line blocks ≡ lay_all w line 0 (entries_of blocks)
unfolding batching
batch_laid w line blocks e = pick_true _ (batched 0 (Refused (batch_fault w (length line))) w line) (eq-eqb _ _ e)

pub batch_done : {w : Writer} {g : Ground} {h : Held} (line blocks : List ℕ) (r : Run) (line' : List ℕ) → Stands w g h (length line) → held_by w h ≡ w → batch_fault w (length line) ≡ 0
    → IsRun g h line blocks r line' → (st : Writer) → st ≡ held_by w r.held → batched r.finished r.stop st line' ≡ batching w line blocks
batch_done {w} {g} {h} line blocks r line' s same clear run st e =
    ap (λ (x : Writer). batched r.finished r.stop x line') e
    ∙ run w s
    ∙ ap (λ (v : Writer). lay_all v line 0 (entries_of blocks)) same
    ∙ sym (batch_laid w line blocks clear)

-- ---- the numbers of why it stopped
differ : {A : Type 0} {k l : List ℕ} → k ≡ l → (length k ≡ length l → ⊥) → A
differ e h = absurd (h (ap length e))

second : {k l : List ℕ} → k ≡ l → get_or k 1 0 ≡ get_or l 1 0
second e = ap (λ (x : List ℕ). get_or x 1 0) e

stop_by_lem : (a : Laid) (n : ℕ) (fits : Bool) (x : Added) (done : ℕ) (later : Batched) (ns : List ℕ) → laid_numbers a ≡ laid_by n fits → stop_numbers later.stop ≡ ns
    → stop_numbers (behind a x done later).stop ≡ stop_by n fits ns
unfolding pick
stop_by_lem (NotLaid k) zero fits x done later ns e h = differ e (λ z. omega (arith, z))
stop_by_lem (NotLaid k) (suc n) fits x done later ns e h = e
stop_by_lem Finished zero true x done later ns e h = h
stop_by_lem Finished zero false x done later ns e h = absurd (omega (arith, second e))
stop_by_lem Finished (suc n) fits x done later ns e h = differ e (λ z. omega (arith, z))
stop_by_lem PartLaid zero true x done later ns e h = absurd (omega (arith, second e))
stop_by_lem PartLaid zero false x done later ns e h = refl
stop_by_lem PartLaid (suc n) fits x done later ns e h = differ e (λ z. omega (arith, z))

lay_numbers : (es : List Entry) (w : Writer) (line : List ℕ) (done : ℕ) → stop_numbers (lay_all w line done es).stop ≡ stops_at w line es
unfolding lay_all stops_at
lay_numbers [] w line done = refl
lay_numbers (broken ∷ es) w line done = refl
lay_numbers (whole kind vs ∷ es) w line done =
    let x = adding w line kind vs in
    stop_by_lem x.answer (add_fault w (length line) kind vs) (all_fits w kind vs) x done (lay_all x.state x.line (suc done) es) (stops_at x.state x.line es)
    (add_numbers w line kind vs) (lay_numbers es x.state x.line (suc done))

numbers_by : (n : ℕ) (y : Batched) (w : Writer) (line ns : List ℕ) → stop_numbers y.stop ≡ ns → stop_numbers (pick (eqb n 0) y (batched 0 (Refused n) w line)).stop ≡ batch_by n ns
numbers_by zero y w line ns h = ap (λ (x : Batched). stop_numbers x.stop) (pick_true y (batched 0 (Refused 0) w line) refl) ∙ h
numbers_by (suc n) y w line ns h = ap (λ (x : Batched). stop_numbers x.stop) (pick_false y (batched 0 (Refused (suc n)) w line) (eqb-suc-zero n))

pub batch_numbers : (w : Writer) (line blocks : List ℕ) → stop_numbers (batching w line blocks).stop ≡ batch_by (batch_fault w (length line)) (stops_at w line (entries_of blocks))
unfolding batching
batch_numbers w line blocks =
    numbers_by (batch_fault w (length line)) (lay_all w line 0 (entries_of blocks)) w line (stops_at w line (entries_of blocks)) (lay_numbers (entries_of blocks) w line 0)

pub batches_numbered : (w : Writer) (line blocks : List ℕ) (x : Batched) → x ≡ batching w line blocks
    → (x ≡ batching w line blocks) × (stop_numbers x.stop ≡ batch_by (batch_fault w (length line)) (stops_at w line (entries_of blocks)))
batches_numbered w line blocks x e = (e, ap (λ (y : Batched). stop_numbers y.stop) e ∙ batch_numbers w line blocks)
