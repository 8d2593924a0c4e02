-- Laws of a reading call: what is lent to the walk, and what the call then tells.
-- Assumes nothing.
use Rattle.std.specs.Prelude.{Some}
use mathlib.Core.Path.{◌≡◌, refl, sym, ap, ap₂, ◌∙◌}
use mathlib.Core.Bool.{Bool, true, false, ◌&&◌, not}
use mathlib.Core.List.{List, [], ◌∷◌}
use Prim.Native.Nat.{ℕ, ◌+◌, ◌-◌, ◌*◌, ◌/◌, ◌≤◌}
use native.Mathlib.Omega.{arith}
use lib.Dec.{eqb}
use lib.ListN.{length, take, drop}
use lib.Seq.{take_all, take-take, drop-drop}
use borrow.Author.Tests.{eqb-true, ne_eqb, not-false}
use Rattle.lists.specs.Tests.{pick, when}
use Rattle.lists.proofs.Tests.{both_true, pick_true, pick_false}
use Rattle.lists.proofs.Refusals.{low_hit}
use Rattle.line.specs.declared.systems.System.{System}
use Rattle.line.specs.Systems.{system_of, is_system}
use Rattle.line.specs.Fixed.{is_variable, places_of, size_of}
use Rattle.line.specs.Layout.{payload_at}
use Rattle.line.specs.Check.{fits_length}
use Rattle.line.proofs.SystemLaws.{fitting, payload_most, length_most}
use Rattle.line.proofs.SettingsLaws.{block_passes}
use Rattle.line.proofs.AreaLaws.{area_most}
use Rattle.course.specs.Course.{blocks_end}
use Rattle.course.proofs.CourseLaws.{end_in_area, placed_end, grid_left, grid_some, grid_count, whole_small}
use Rattle.reader.specs.declared.state.Reader.{Reader}
use Rattle.reader.specs.State.{impossible_in}
use Rattle.machine.specs.Walk.{Walk, walk_of}
use Rattle.machine.specs.Places.{places_in, walk_places, walk_fixed}
use Rattle.machine.proofs.PlaceLaws.{fixed_walk}
use Rattle.machine.proofs.Cut.{drop_take}
use Rattle.reader.specs.Reading.{reply, words_from, walk_from, read_fault_in, reading_in}
use Rattle.reader.specs.Within.{walk_to}
use Rattle.reader.specs.declared.state.Event.TheVariants.{Refused}
use Rattle.reader.proofs.Ready.{ReadyIn, ready, at_q, words_long}
use Rattle.reader.proofs.Stays.{Goes}

-- the words from a place further on
pub words_next : (st : Reader) (q k : ℕ) (line : List ℕ) → words_from st (q + k) line ≡ drop k (words_from st q line)
unfolding words_from
words_next st q k line =
    let a = payload_at (system_of st.system) in
    let e = blocks_end (system_of st.system).payload st.settings.block st.settings.flag in
    let long : e - (q + k) ≡ e - q - k = omega arith in
    let first : a + (q + k) ≡ a + q + k = omega arith in
    ap₂ (λ (n i : ℕ). take n (drop i line)) long first
    ∙ ap (take (e - q - k)) (sym (drop-drop k (a + q) line))
    ∙ sym (drop_take k (e - q) (drop (a + q) line))

-- blocks end in the payload
pub end_small : {c : ℕ} (st : Reader) (q : ℕ) (line room : List ℕ) → st.place ≡ Some q → ReadyIn c st line room
    → blocks_end (system_of st.system).payload st.settings.block st.settings.flag ≤ 1920
unfolding fits_length
end_small st q line room at r =
    let known : is_system st.system ≡ true = (both_true (is_system st.system) _ r.fit).0 in
    let area = end_in_area st.system st.settings known (eqb-true _ 0 (not-false _ (at_q st q line room at r).clean)) in
    omega (arith, area, area_most (system_of st.system).payload st.settings.flag, payload_most st.system)

module _ {c : ℕ} (st : Reader) (q : ℕ) (line room : List ℕ) (at : st.place ≡ Some q) (r : ReadyIn c st line room) (s : System) (row : s ≡ system_of st.system) where
  pub payload_in : s.payload ≤ s.length
  payload_in = rw row (omega (arith, (fitting st.system st.mode line r.fit).row.room))

  -- the part that is lent: from index a + q to a + e
  pub record Span (a e : ℕ) : Type 0 where
    pub ends : a + e ≤ length line
    pub inside : q ≤ e
    pub small : length line ≤ 2304
    pub words : take (a + e - (a + q)) (drop (a + q) line) ≡ take (e - q) (words_from st q line)

  pub span : (e : ℕ) → q ≤ e → e ≤ blocks_end (system_of st.system).payload st.settings.block st.settings.flag → Span (s.length - s.payload) e
  unfolding words_from fits_length
  span e low high =
      let known : is_system st.system ≡ true = (both_true (is_system st.system) _ r.fit).0 in
      let f = fitting st.system st.mode line r.fit in
      let b = at_q st q line room at r in
      let area = end_in_area st.system st.settings known (eqb-true _ 0 (not-false _ b.clean)) in
      let most = area_most (system_of st.system).payload st.settings.flag in
      let end = blocks_end (system_of st.system).payload st.settings.block st.settings.flag in
      let first : s.length - s.payload ≡ payload_at (system_of st.system) = ap (λ (x : System). x.length - x.payload) row in
      let long : s.length - s.payload + e - (s.length - s.payload + q) ≡ e - q = omega arith in
      record {
        ends = rw first (omega (arith, high, area, most, f.row.room, f.long));
        inside = low;
        small = omega (arith, f.long, length_most st.system);
        words = ap₂ (λ (n i : ℕ). take n (drop i line)) long (ap (λ (x : ℕ). x + q) first) ∙ sym (take-take (e - q) (end - q) (drop (payload_at (system_of st.system) + q) line) (omega (arith, high)));
      }

  -- the places of a fixed line that are left
  pub record Grid (size : ℕ) : Type 0 where
    pub one : 1 ≤ size
    pub count : length (words_from st q line) / size ≡ places_of (system_of st.system).payload st.settings.block - q / size
    pub fits : (places_of (system_of st.system).payload st.settings.block - q / size) * size ≤ length (words_from st q line)

  pub grid : is_variable st.settings.block ≡ false → (size : ℕ) → size ≡ size_of st.settings.block → Grid size
  unfolding fits_length
  grid v size is =
      let known : is_system st.system ≡ true = (both_true (is_system st.system) _ r.fit).0 in
      let b = at_q st q line room at r in
      let p = (system_of st.system).payload in
      let block = st.settings.block in
      let flag = st.settings.flag in
      let left = grid_left p block flag q (places_of p block - q / size_of block) v b.placed (omega arith) in
      rw is
      (record {
        one = (grid_some p block flag q v b.placed).0;
        count = ap (λ (n : ℕ). n / size_of block) (words_long st q line room at r) ∙ grid_count p block flag q v b.placed;
        fits = omega (arith, words_long st q line room at r, left);
      })

  -- a fixed block fits the room
  pub block_fits : 1920 ≤ c → is_variable st.settings.block ≡ false → size_of st.settings.block ≤ length room
  unfolding fits_length
  block_fits wide v =
      let known : is_system st.system ≡ true = (both_true (is_system st.system) _ r.fit).0 in
      let clean = eqb-true _ 0 (not-false _ (at_q st q line room at r).clean) in
      let p = (system_of st.system).payload in
      let flag = st.settings.flag in
      let area = end_in_area st.system st.settings known clean in
      omega (arith, whole_small p st.settings.block flag v (block_passes st.system st.settings clean), area, area_most p flag, payload_most st.system, r.long, wide)

  -- the place after a walk is within the payload
  pub next_small : (x : Walk) → Goes c st q x → q + x.answer.taken ≤ 1920
  next_small x g =
      omega (arith, placed_end (system_of st.system).payload st.settings.block st.settings.flag (q + x.answer.taken) g.placed, end_small st q line room at r)

-- ---- a walk to where blocks end is the walk from place q on
module _ {c : ℕ} (st : Reader) (q : ℕ) (line room : List ℕ) (at : st.place ≡ Some q) (r : ReadyIn c st line room) (wide : 1920 ≤ c) where
  pub whole_walk : (e : ℕ) → e ≡ blocks_end (system_of st.system).payload st.settings.block st.settings.flag → walk_to e st q line room ≡ walk_from st q line room
  unfolding walk_to walk_from
  whole_walk e is =
      let block = st.settings.block in
      let ws = words_from st q line in
      let size = size_of block in
      let all : take (e - q) ws ≡ ws = take_all (e - q) ws (omega (arith, words_long st q line room at r, is)) in
      ap (λ (l : List ℕ). pick (is_variable block) (walk_of st.mode st.phase l room) (walk_fixed st.mode st.phase size l room)) all
      ∙ go (is_variable block) refl
    where
      go : (b : Bool) → is_variable st.settings.block ≡ b →
          let size = size_of st.settings.block in
          let ws = words_from st q line in
          pick b (walk_of st.mode st.phase ws room) (walk_fixed st.mode st.phase size ws room)
          ≡ pick b (walk_of st.mode st.phase ws room)
          (walk_places st.mode st.phase (places_in size (places_of (system_of st.system).payload st.settings.block - q / size) ws) room)
      go true v = pick_true _ _ refl ∙ sym (pick_true _ _ refl)
      go false v =
          let size = size_of st.settings.block in
          let ws = words_from st q line in
          let row = system_of st.system in
          let g = grid st q line room at r row refl v size refl in
          pick_false _ _ refl
          ∙ fixed_walk st.mode st.phase size ws room g.one (omega (arith, block_fits st q line room at r row refl wide v))
          ∙ ap (λ (n : ℕ). walk_places st.mode st.phase (places_in size n ws) room) g.count
          ∙ sym (pick_false _ _ refl)

-- ---- which of 1 and 2 the tests give
module _ (c : ℕ) (st : Reader) (long room : ℕ) where
  pub fault_1 : (fits_length st.system st.mode long && eqb room c) ≡ false → 1 ≡ read_fault_in c st long room
  unfolding read_fault_in
  fault_1 e = (low_hit 1 {rs = when 2 (impossible_in c st) ∷ []} (ap not e)).is

-- no fault 1 or 2: the capacity is the room's own length
pub own_capacity : (c : ℕ) (st : Reader) (line room : List ℕ) → read_fault_in c st (length line) (length room) ≡ 0
    → (length room ≡ c) × (read_fault_in (length room) st (length line) (length room) ≡ 0)
own_capacity c st line room e =
    let long = (ready c st line room e).long in
    (long, ap (λ (n : ℕ). read_fault_in n st (length line) (length room)) long ∙ e)

-- ---- what the call tells
module _ (c : ℕ) (st : Reader) (line room : List ℕ) (fault : ℕ) (is : fault ≡ read_fault_in c st (length line) (length room)) where
  pub read_refused : (fault ≡ 0 → ⊥) → reply (record { event = Refused fault false; state = st }) room ≡ reading_in c st line room
  unfolding reading_in
  read_refused h =
      ap (λ (n : ℕ). reply (record { event = Refused n false; state = st }) room) is
      ∙ sym (pick_false _ _ (ap (λ (n : ℕ). eqb n 0) (sym is) ∙ ne_eqb fault 0 h))
