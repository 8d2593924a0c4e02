-- The walk under an allowance: it meets what the walk without one meets; or that walk goes no further; or it goes on from where this one stopped.
-- Assumes nothing.
use Rattle.std.specs.Prelude.{Some}
use mathlib.Core.Path.{◌≡◌, refl, sym, ap, ap₂, ◌∙◌, subst}
use mathlib.Core.Bool.{Bool, true, false}
use mathlib.Core.List.{List, ◌++◌}
use mathlib.Core.Logic.{⊎_elim}
use Prim.Native.Nat.{ℕ, suc, ◌+◌, ◌-◌, ◌*◌, ◌/◌, ◌≤◌, ◌<◌, min}
use native.Mathlib.Nat.{suc-mul, mul-le-mul_right, le_of_mul-le-mul_right, add-mul-div_right, mul-div_cancel, mod-add-div', mod-lt}
use native.Mathlib.Omega.{arith}
use lib.ListN.{length, take, drop, length-take, take-append-drop}
use lib.Seq.{take_all, length-take-le}
use Rattle.lists.specs.Tests.{pick}
use Rattle.lists.proofs.Tests.{pick_true, pick_false, lt_or_le}
use Rattle.line.specs.Systems.{system_of}
use Rattle.line.specs.Fixed.{is_variable, places_of, size_of}
use Rattle.course.specs.Course.{blocks_end, misplaced}
use Rattle.course.proofs.CourseLaws.{grid_left, grid_next, grid_room, grid_count, grid_some}
use Rattle.machine.specs.declared.phase.Phase.{Phase}
use Rattle.machine.specs.Walk.{Walk, past, is_nothing, walk_of, taken_on}
use Rattle.machine.specs.Places.{places_in, walk_places, walk_fixed}
use Rattle.machine.proofs.WalkLaws.{goes, stops, walk_append, on_by}
use Rattle.machine.proofs.PlaceLaws.{fixed_walk}
use Rattle.machine.proofs.Kept.{walk_kept, places_along}
use Rattle.machine.proofs.Cut.{walk_all, places_all, places_append, take_places, take_all_places, drop_places, front_places}
use Rattle.reader.specs.declared.state.Reader.{Reader}
use Rattle.reader.specs.Reading.{becomes, words_from, walk_from}
use Rattle.reader.specs.Within.{unit_of, walk_within, walk_to}
use Rattle.reader.proofs.Ready.{ReadyIn, at_q, in_end, words_long}
use Rattle.reader.proofs.Stays.{Goes, variable_goes, fixed_goes}
use Rattle.reader.proofs.ReadLaws.{words_next, grid, block_fits}
use Rattle.reader.proofs.Ends.{end_in}

-- ---- what counts as one
pub unit_variable : (block : ℕ) → is_variable block ≡ true → unit_of block ≡ 1
unfolding unit_of
unit_variable block v = pick_true _ _ v

pub unit_fixed : (block : ℕ) → is_variable block ≡ false → unit_of block ≡ size_of block
unfolding unit_of
unit_fixed block v = pick_false _ _ v

-- the places that are left
abbrev pub left_of : Reader → ℕ → ℕ
left_of st q = places_of (system_of st.system).payload st.settings.block - q / size_of st.settings.block

-- they stand up to where blocks end
whole_rest : (s n w : ℕ) → 1 ≤ s → w / s ≡ n → w < suc n * s
whole_rest s n w one e = omega (arith, mod-add-div' w s, mod-lt w one, ap (λ (k : ℕ). k * s) e, suc-mul n s)

pub grid_end : (p block flag q : ℕ) → is_variable block ≡ false → misplaced p block flag (Some q) ≡ false
    → q + (places_of p block - q / size_of block) * size_of block ≡ blocks_end p block flag
grid_end p block flag q v e =
    let n = places_of p block - q / size_of block in
    let size = size_of block in
    let most = grid_left p block flag q n v e (omega arith) in
    let next = grid_next p block flag q n v e most in
    let rest = whole_rest size n (blocks_end p block flag - q) (grid_some p block flag q v e).0 (grid_count p block flag q v e) in
    ⊎_elim (λ (h : q + n * size < blocks_end p block flag). absurd (omega (arith, grid_room p block flag (q + n * size) v next h, rest, suc-mul n size)))
    (λ (h : blocks_end p block flag ≤ q + n * size). omega (arith, h, most)) (lt_or_le (q + n * size) (blocks_end p block flag))

-- ---- a walk that was cut
-- where the reader stands behind a walk from place q
abbrev pub stands : Reader → ℕ → Walk → Reader
stands st q x = becomes st st.last st.settings (Some (q + x.answer.taken)) x.answer.phase

pub record Cuts (c a : ℕ) (st : Reader) (q : ℕ) (line room : List ℕ) (x : Walk) : Type 0 where
  pub count : ℕ
  pub one : 1 ≤ unit_of st.settings.block
  pub whole : x.answer.taken ≡ count * unit_of st.settings.block
  pub at_most : count ≤ a
  pub some : is_nothing x.answer.met ≡ false → 1 ≤ count
  pub room_long : length x.room ≡ length room
  pub stays : Goes c st q x
  -- something was met: the walk without allowance meets it too
  pub stop : is_nothing x.answer.met ≡ false → walk_from st q line room ≡ x
  -- nothing, and there is allowance left: that walk goes no further, because blocks end here
  pub ends : is_nothing x.answer.met ≡ true → (count ≡ a → ⊥) → (walk_from st q line room ≡ x) × (q + x.answer.taken ≡ end_in st)
  -- nothing, and all of it is used up: that walk goes on from here
  pub on : is_nothing x.answer.met ≡ true → count ≡ a
      → walk_from st q line room ≡ past x.answer.taken (walk_from (stands st q x) (q + x.answer.taken) line x.room)

-- a place before which the walk that is lent the words up to it stops
pub record Far (a : ℕ) (st : Reader) (q : ℕ) (line room : List ℕ) (far : ℕ) : Type 0 where
  pub low : q ≤ far
  pub high : far ≤ end_in st
  pub walk : walk_to far st q line room ≡ walk_within a st q line room

words_same : (st : Reader) (q i : ℕ) (x : Walk) (line : List ℕ) → words_from (stands st q x) i line ≡ words_from st i line
unfolding words_from
words_same st q i x line = refl

module _ {c : ℕ} (a : ℕ) (st : Reader) (q : ℕ) (line room : List ℕ) (at : st.place ≡ Some q) (r : ReadyIn c st line room) where
  abbrev block : ℕ
  block = st.settings.block

  -- by words
  variable_cuts : is_variable st.settings.block ≡ true → Cuts c a st q line room (walk_of st.mode st.phase (take a (words_from st q line)) room)
  unfolding walk_from
  variable_cuts v =
      let ws = words_from st q line in
      let walks : Phase → List ℕ → List ℕ → Walk = λ p l m. walk_of st.mode p l m in
      let x = walk_of st.mode st.phase (take a ws) room in
      let unit = unit_variable block v in
      let k = walk_kept st.mode st.phase (take a ws) room in
      let cut = length-take a ws in
      let long = words_long st q line room at r in
      let end = in_end st q line room at r in
      let by_one : x.answer.taken ≡ x.answer.taken * 1 = omega arith in
      let whole : walk_from st q line room ≡ walks st.phase ws room = pick_true _ _ v in
      let joined : walk_from st q line room ≡ taken_on st.mode (drop a ws) x =
      whole ∙ ap (λ (l : List ℕ). walks st.phase l room) (sym (take-append-drop a ws)) ∙ walk_append st.mode st.phase (take a ws) (drop a ws) room in
      record {
        count = x.answer.taken;
        one = omega (arith, unit);
        whole = by_one ∙ ap (λ (u : ℕ). x.answer.taken * u) (sym unit);
        at_most = omega (arith, k.at_most, cut);
        some = k.at_least;
        room_long = k.room_long;
        stays = variable_goes st q line room at r v (take a ws) (omega (arith, cut, long, end));
        stop = λ e. joined ∙ stops x.answer.met _ _ e;
        ends = λ e h.
            let all = walk_all st.mode st.phase (take a ws) room e in
            (whole ∙ ap (λ (l : List ℕ). walks st.phase l room) (sym (take_all a ws (omega (arith, all, cut, h)))), omega (arith, all, cut, long, end, h));
        on = λ e h.
            joined
            ∙ goes x.answer.met _ _ e
            ∙ ap (λ (l : List ℕ). past x.answer.taken (walks x.answer.phase l x.room))
            (ap (λ (n : ℕ). drop n ws) (sym h) ∙ sym (words_next st q x.answer.taken line) ∙ sym (words_same st q (q + x.answer.taken) x line))
            ∙ ap (past x.answer.taken) (sym (pick_true _ _ v));
      }

  -- by places, of which k are walked over: as many as the allowance lets, or all that are left
  module _ (wide : 1920 ≤ c) (v : is_variable st.settings.block ≡ false) where
    fixed_by_lem : (k : ℕ) → k ≤ left_of st q → k ≤ a → ((k ≡ a → ⊥) → k ≡ left_of st q)
        → take a (places_in (size_of st.settings.block) (left_of st q) (words_from st q line)) ≡ places_in (size_of st.settings.block) k (words_from st q line)
        → Cuts c a st q line room (walk_places st.mode st.phase (places_in (size_of st.settings.block) k (words_from st q line)) room)
    unfolding walk_from
    fixed_by_lem k few most last front =
        let size = size_of block in
        let n = left_of st q in
        let ws = words_from st q line in
        let walks : Phase → List (List ℕ) → List ℕ → Walk = λ p l m. walk_places st.mode p l m in
        let x = walk_places st.mode st.phase (places_in size k ws) room in
        let unit = unit_fixed block v in
        let g = grid st q line room at r (system_of st.system) refl v size refl in
        let fits : k * size ≤ length ws = omega (arith, mul-le-mul_right size few, g.fits) in
        let j = places_along st.mode st.phase size k ws room fits in
        let full : is_nothing x.answer.met ≡ true → j.count ≡ k =
        λ e. let all = places_all st.mode st.phase size k ws room fits e in
        let low : k ≤ j.count = le_of_mul-le-mul_right (omega (arith, all, j.whole)) g.one in
        omega (arith, low, j.at_most) in
        let whole : walk_from st q line room ≡ walks st.phase (places_in size n ws) room = pick_false _ _ v in
        let rest = drop a (places_in size n ws) in
        let joined : walk_from st q line room ≡ on_by (λ p l. walks p rest l) x =
        whole
        ∙ ap (λ (l : List (List ℕ)). walks st.phase l room) (sym (take-append-drop a (places_in size n ws)) ∙ ap (λ (l : List (List ℕ)). l ++ rest) front)
        ∙ places_append st.mode st.phase (places_in size k ws) rest room in
        record {
          count = j.count;
          one = omega (arith, unit, g.one);
          whole = j.whole ∙ ap (λ (u : ℕ). j.count * u) (sym unit);
          at_most = omega (arith, j.at_most, most);
          some = j.at_least;
          room_long = j.room_long (omega (arith, block_fits st q line room at r (system_of st.system) refl wide v));
          stays = fixed_goes st q line room at r v k few;
          stop = λ e. joined ∙ stops x.answer.met _ _ e;
          ends = λ e h.
              let all : k ≡ n = last (λ z. h (full e ∙ z)) in
              let took : x.answer.taken ≡ n * size = j.whole ∙ ap (λ (i : ℕ). i * size) (full e ∙ all) in (
                whole ∙ ap (λ (i : ℕ). walks st.phase (places_in size i ws) room) (sym all),
                ap (λ (i : ℕ). q + i) took ∙ grid_end (system_of st.system).payload block st.settings.flag q v (at_q st q line room at r).placed,
              );
          on = λ e h.
              let took : x.answer.taken ≡ a * size = j.whole ∙ ap (λ (i : ℕ). i * size) h in
              let by : (q + x.answer.taken) / size ≡ q / size + a = ap (λ (i : ℕ). (q + i) / size) took ∙ add-mul-div_right q a g.one in
              let left : n - a ≡ left_of st (q + x.answer.taken) = omega (arith, by) in
              joined
              ∙ goes x.answer.met _ _ e
              ∙ ap (λ (l : List (List ℕ)). past x.answer.taken (walks x.answer.phase l x.room))
              (drop_places size a n ws
              ∙ ap₂ (places_in size) left
              (ap (λ (i : ℕ). drop i ws) (sym took) ∙ sym (words_next st q x.answer.taken line) ∙ sym (words_same st q (q + x.answer.taken) x line)))
              ∙ ap (past x.answer.taken) (sym (pick_false _ _ v));
        }

    fixed_cuts : Cuts c a st q line room (walk_places st.mode st.phase (take a (places_in (size_of st.settings.block) (left_of st q) (words_from st q line))) room)
    fixed_cuts =
        let size = size_of block in
        let n = left_of st q in
        let ws = words_from st q line in
        let back : (k : ℕ) → (front : take a (places_in size n ws) ≡ places_in size k ws) → Cuts c a st q line room (walk_places st.mode st.phase (places_in size k ws) room)
        → Cuts c a st q line room (walk_places st.mode st.phase (take a (places_in size n ws)) room) =
        λ k front y. subst (λ (l : List (List ℕ)). Cuts c a st q line room (walk_places st.mode st.phase l room)) (sym front) y in
        ⊎_elim
        (λ (h : a < n). back a (take_places size a n ws (omega arith)) (fixed_by_lem a (omega arith) (omega arith) (λ z. absurd (z refl)) (take_places size a n ws (omega arith))))
        (λ (h : n ≤ a). back n (take_all_places size a n ws h) (fixed_by_lem n (omega arith) h (λ z. refl) (take_all_places size a n ws h)))
        (lt_or_le a n)

  pub cuts : 1920 ≤ c → Cuts c a st q line room (walk_within a st q line room)
  unfolding walk_within
  cuts wide = go (is_variable block) refl
    where
      go : (b : Bool) → is_variable block ≡ b
          → Cuts c a st q line room (pick (is_variable block) (walk_of st.mode st.phase (take a (words_from st q line)) room) (walk_places st.mode st.phase (take a (places_in (size_of block) (left_of st q) (words_from st q line))) room))
      go true v = subst (Cuts c a st q line room) (sym (pick_true _ _ v)) (variable_cuts v)
      go false v = subst (Cuts c a st q line room) (sym (pick_false _ _ v)) (fixed_cuts wide v)

  -- ---- which part of the line is lent
  module _ (wide : 1920 ≤ c) (far : ℕ) (is : far ≡ q + min a ((end_in st - q) / unit_of st.settings.block) * unit_of st.settings.block) where
    variable_far : is_variable st.settings.block ≡ true → Far a st q line room far
    unfolding walk_to walk_within
    variable_far v =
        let ws = words_from st q line in
        let w = end_in st - q in
        let by : far ≡ q + min a (w / 1) * 1 = is ∙ ap (λ (u : ℕ). q + min a (w / u) * u) (unit_variable block v) in
        let long = words_long st q line room at r in
        let cut : take (far - q) ws ≡ take a ws =
        ⊎_elim (λ (h : a < w). let e : far - q ≡ a = omega (arith, by) in ap (λ (n : ℕ). take n ws) e)
        (λ (h : w ≤ a). take_all (far - q) ws (omega (arith, by, long)) ∙ sym (take_all a ws (omega (arith, long)))) (lt_or_le a w) in
        record {
          low = omega (arith, by);
          high = omega (arith, by, in_end st q line room at r);
          walk = pick_true _ _ v ∙ ap (λ (l : List ℕ). walk_of st.mode st.phase l room) cut ∙ sym (pick_true _ _ v);
        }

    fixed_far : is_variable st.settings.block ≡ false → Far a st q line room far
    unfolding walk_to walk_within
    fixed_far v =
        let ws = words_from st q line in
        let w = end_in st - q in
        let size = size_of block in
        let n = left_of st q in
        let k = min a n in
        let g = grid st q line room at r (system_of st.system) refl v size refl in
        let placed = (at_q st q line room at r).placed in
        let count : w / size ≡ n = grid_count (system_of st.system).payload block st.settings.flag q v placed in
        let by : far ≡ q + k * size = is ∙ ap (λ (u : ℕ). q + min a (w / u) * u) (unit_fixed block v) ∙ ap (λ (m : ℕ). q + min a m * size) count in
        let few : k ≤ n = omega arith in
        let fits : k * size ≤ length ws = omega (arith, mul-le-mul_right size few, g.fits) in
        let long : far - q ≡ k * size = omega (arith, by) in
        let all : length (take (k * size) ws) / size ≡ k = ap (λ (m : ℕ). m / size) (length-take-le (k * size) ws fits) ∙ mul-div_cancel k g.one in
        let front : places_in size k ws ≡ take a (places_in size n ws) =
        ⊎_elim (λ (h : a < n). let e : k ≡ a = omega arith in ap (λ (m : ℕ). places_in size m ws) e ∙ sym (take_places size a n ws (omega arith)))
        (λ (h : n ≤ a). let e : k ≡ n = omega arith in ap (λ (m : ℕ). places_in size m ws) e ∙ sym (take_all_places size a n ws h)) (lt_or_le a n) in
        record {
          low = omega (arith, by);
          high = omega (arith, by, grid_left (system_of st.system).payload block st.settings.flag q k v placed few);
          walk =
              pick_false _ _ v
              ∙ ap (λ (m : ℕ). walk_fixed st.mode st.phase size (take m ws) room) long
              ∙ fixed_walk st.mode st.phase size (take (k * size) ws) room g.one (omega (arith, block_fits st q line room at r (system_of st.system) refl wide v))
              ∙ ap (λ (l : List (List ℕ)). walk_places st.mode st.phase l room)
              (ap (λ (m : ℕ). places_in size m (take (k * size) ws)) all ∙ front_places size k (k * size) ws (omega arith) ∙ front)
              ∙ sym (pick_false _ _ v);
        }

    pub far_walk : Far a st q line room far
    far_walk = go (is_variable block) refl
      where
        go : (b : Bool) → is_variable st.settings.block ≡ b → Far a st q line room far
        go true v = variable_far v
        go false v = fixed_far v
