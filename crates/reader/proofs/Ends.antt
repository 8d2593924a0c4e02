-- A line comes to its end: each call on a begun line reports the end or moves on in the area, so a line of area A ends within A + 2 calls.
-- Assumes nothing.
use Rattle.std.specs.Prelude.{Some, None}
use mathlib.Core.Path.{◌≡◌, refl, sym, ap, ap₂, ◌∙◌, subst}
use mathlib.Core.Bool.{Bool, true, false, ◌||◌, not}
use mathlib.Core.List.{List}
use mathlib.Core.Logic.{◌⊎◌, inl, inr, ⊎_elim}
use Prim.Native.Nat.{ℕ, zero, suc, ◌+◌, ◌-◌, ◌/◌, ◌≤◌, ◌<◌}
use native.Mathlib.Omega.{arith}
use lib.Dec.{eqb}
use lib.ListN.{length}
use borrow.Author.Tests.{eqb-true, eq-eqb, not-false}
use Rattle.lists.specs.Tests.{pick}
use Rattle.lists.proofs.Tests.{true_false, or_left, or_right, both_true, and_true, pick_true, pick_false}
use Rattle.line.specs.declared.settings.Settings.{Settings}
use Rattle.line.specs.Systems.{system_of, is_system}
use Rattle.line.specs.Fixed.{is_variable, places_of, size_of}
use Rattle.line.specs.Layout.{area_length}
use Rattle.line.specs.Check.{number_of, settings_of, fits_length, fits, line_fault}
use Rattle.line.proofs.AreaLaws.{area_most}
use Rattle.course.specs.Course.{blocks_end}
use Rattle.course.proofs.CourseLaws.{end_in_area, grid_left}
use Rattle.machine.specs.declared.phase.Phase.{Phase}
use Rattle.machine.specs.declared.step.Met.{Met}
use Rattle.machine.specs.declared.step.Met.TheVariants.{Nothing, Whole, Lost}
use Rattle.reader.specs.declared.state.Reader.{Reader}
use Rattle.reader.specs.declared.state.Event.TheVariants.{End}
use Rattle.machine.specs.Walk.{Walk, is_nothing, walk_of}
use Rattle.machine.specs.Places.{places_in, walk_places}
use Rattle.reader.specs.Reading.{Reply, reply, refused, begun, words_from, walk_from, told_by, read_fault_in, reading_in}
use Rattle.reader.specs.Lending.{is_last, ends_within_in}
use Rattle.machine.proofs.Kept.{walk_kept, places_along, places_some}
use Rattle.reader.proofs.Ready.{ReadyIn, ready, at_q, in_end, words_long}
use Rattle.reader.proofs.ReadLaws.{grid, block_fits}
use Rattle.reader.proofs.Stays.{read_possible}
use Rattle.reader.proofs.Accepts.{by_place, accepts, refuses}

-- ---- no fault 1 or 2, from what it says
pub unfaulted : {c : ℕ} (st : Reader) (line room : List ℕ) → ReadyIn c st line room → read_fault_in c st (length line) (length room) ≡ 0
unfolding read_fault_in
unfaulted {c} st line room r =
    pick_false _ _ (ap not (and_true {a = fits st.system st.mode line} r.fit (eq-eqb (length room) c r.long))) ∙ pick_false _ _ r.state

-- where blocks end in the line that a state has begun
abbrev pub end_in : Reader → ℕ
end_in st = blocks_end (system_of st.system).payload st.settings.block st.settings.flag

-- ---- a walk from place q on
record Walks (q end : ℕ) (room : List ℕ) (x : Walk) : Type 0 where
  room_long : length x.room ≡ length room
  at_most : q + x.answer.taken ≤ end
  at_least : is_nothing x.answer.met ≡ false → 1 ≤ x.answer.taken

module _ (c : ℕ) (wide : 1920 ≤ c) (st : Reader) (q : ℕ) (line room : List ℕ) (at : st.place ≡ Some q) (r : ReadyIn c st line room) where
  abbrev block : ℕ
  block = st.settings.block

  abbrev payload : ℕ
  payload = (system_of st.system).payload

  variable_walks : Walks q (end_in st) room (walk_of st.mode st.phase (words_from st q line) room)
  variable_walks =
      let k = walk_kept st.mode st.phase (words_from st q line) room in
      record { room_long = k.room_long; at_most = omega (arith, k.at_most, words_long st q line room at r, in_end st q line room at r); at_least = k.at_least }

  fixed_walks : is_variable st.settings.block ≡ false
      → Walks q (end_in st) room
      (walk_places st.mode st.phase (places_in (size_of st.settings.block) (places_of (system_of st.system).payload st.settings.block - q / size_of st.settings.block) (words_from st q line)) room)
  fixed_walks v =
      let size = size_of block in
      let n = places_of payload block - q / size in
      let g = grid st q line room at r (system_of st.system) refl v size refl in
      let k = places_along st.mode st.phase size n (words_from st q line) room g.fits in
      record {
        room_long = k.room_long (omega (arith, block_fits st q line room at r (system_of st.system) refl wide v));
        at_most = omega (arith, k.whole, grid_left payload block st.settings.flag q k.count v (at_q st q line room at r).placed k.at_most);
        at_least = places_some st.mode st.phase size n (words_from st q line) room g.fits g.one;
      }

  walks : Walks q (end_in st) room (walk_from st q line room)
  unfolding walk_from
  walks = go (is_variable block) refl
    where
      go : (b : Bool) → is_variable block ≡ b
          → Walks q (end_in st) room (pick (is_variable block) (walk_of st.mode st.phase (words_from st q line) room) (walk_places st.mode st.phase (places_in (size_of block) (places_of payload block - q / size_of block) (words_from st q line)) room))
      go true v = subst (Walks q (end_in st) room) (sym (pick_true _ _ v)) variable_walks
      go false v = subst (Walks q (end_in st) room) (sym (pick_false _ _ v)) (fixed_walks v)

-- ---- a call on a begun line
-- the line's end, or a place further on
pub record Ended (x : Reply) : Type 0 where
  pub event : x.told.event ≡ End
  pub place : x.told.state.place ≡ None

pub record Further (q end : ℕ) (x : Reply) : Type 0 where
  pub next : ℕ
  pub event : is_last x.told.event ≡ false
  pub place : x.told.state.place ≡ Some next
  pub beyond : q < next
  pub within : next ≤ end

-- what every call on a line keeps, accepted or gone on with
pub record Same (st : Reader) (room : List ℕ) (x : Reply) : Type 0 where
  pub system : x.told.state.system ≡ st.system
  pub mode : x.told.state.mode ≡ st.mode
  pub room_long : length x.room ≡ length room

pub record Stands (st : Reader) (q end : ℕ) (room : List ℕ) (x : Reply) : Type 0 where
  pub same : Same st room x
  pub settings : x.told.state.settings ≡ st.settings
  pub moved : Ended x ⊎ Further q end x

pub record Moves (c : ℕ) (st : Reader) (q : ℕ) (line room : List ℕ) (x : Reply) : Type 0 where
  pub stands : Stands st q (end_in st) room x
  pub fit : read_fault_in c x.told.state (length line) (length x.room) ≡ 0

stands_by : (st : Reader) (q end taken : ℕ) (p : Phase) (met : Met) (room left : List ℕ) → length left ≡ length room → q + taken ≤ end → (is_nothing met ≡ false → 1 ≤ taken)
    → Stands st q end room (reply (told_by st (q + taken) p met) left)
stands_by st q end taken p Nothing room left l a b =
    record { same = record { system = refl; mode = refl; room_long = l }; settings = refl; moved = inl (record { event = refl; place = refl }) }
stands_by st q end taken p (Whole k n) room left l a b =
    record {
      same = record { system = refl; mode = refl; room_long = l };
      settings = refl;
      moved = inr (record { next = q + taken; event = refl; place = refl; beyond = omega (arith, b refl); within = a });
    }
stands_by st q end taken p (Lost n) room left l a b =
    record {
      same = record { system = refl; mode = refl; room_long = l };
      settings = refl;
      moved = inr (record { next = q + taken; event = refl; place = refl; beyond = omega (arith, b refl); within = a });
    }

-- no fault 1 or 2 again, of the same line or another one as long: the state stays possible
fit_again : (c : ℕ) (st : Reader) (line room : List ℕ) → read_fault_in c st (length line) (length room) ≡ 0 → Same st room (reading_in c st line room)
    → read_fault_in c (reading_in c st line room).told.state (length line) (length (reading_in c st line room).room) ≡ 0
fit_again c st line room fit s =
    let r = ready c st line room fit in
    unfaulted (reading_in c st line room).told.state line (reading_in c st line room).room
    (record { fit = ap₂ (λ (i j : ℕ). fits i j line) s.system s.mode ∙ r.fit; long = s.room_long ∙ r.long; state = read_possible c st line room r.state })

pub call_moves : (c : ℕ) → 1920 ≤ c → (st : Reader) (q : ℕ) (line room : List ℕ) → read_fault_in c st (length line) (length room) ≡ 0 → st.place ≡ Some q → Moves c st q line room (reading_in c st line room)
call_moves c wide st q line room fit at =
    let w = walks c wide st q line room at (ready c st line room fit) in
    let x = walk_from st q line room in
    let s = subst (Stands st q (end_in st) room) (sym (by_place c st line room (Some q) fit at))
    (stands_by st q (end_in st) x.answer.taken x.answer.phase x.answer.met room x.room w.room_long w.at_most w.at_least) in
    record { stands = s; fit = fit_again c st line room fit s.same }

-- ---- the first of several calls: it is the line's last, or a later one is
last_ends : (c : ℕ) (n : ℕ) (st : Reader) (line room : List ℕ) (x : Reply) → reading_in c st line room ≡ x → is_last x.told.event ≡ true → ends_within_in c (suc n) st line room ≡ true
last_ends c n st line room x is e = or_left _ _ (ap (λ (y : Reply). is_last y.told.event) is ∙ e)

later_ends : (c : ℕ) (n : ℕ) (st : Reader) (line room : List ℕ) → ends_within_in c n (reading_in c st line room).told.state line (reading_in c st line room).room ≡ true → ends_within_in c (suc n) st line room ≡ true
later_ends c n st line room e = or_right (is_last (reading_in c st line room).told.event) _ e

-- ---- from a place on
-- a place further on is nearer to the same end
nearer : (c : ℕ) (st : Reader) (q n : ℕ) (line room : List ℕ) → Moves c st q line room (reading_in c st line room) → (f : Further q (end_in st) (reading_in c st line room)) → end_in st - q < suc n
    → end_in (reading_in c st line room).told.state - f.next < n
nearer c st q n line room m f h =
    let same : end_in (reading_in c st line room).told.state ≡ end_in st =
    ap₂ (λ (k : ℕ) (t : Settings). blocks_end (system_of k).payload t.block t.flag) m.stands.same.system m.stands.settings in
    omega (arith, same, f.beyond, f.within)

ends_by : (c : ℕ) → 1920 ≤ c → (n : ℕ) (st : Reader) (q : ℕ) (line room : List ℕ) → read_fault_in c st (length line) (length room) ≡ 0 → st.place ≡ Some q → end_in st - q < n → ends_within_in c n st line room ≡ true
ends_by c wide zero st q line room fit at h = absurd (omega arith)
ends_by c wide (suc n) st q line room fit at h =
    let x = reading_in c st line room in
    let m = call_moves c wide st q line room fit at in
    ⊎_elim (λ (e : Ended (reading_in c st line room)). last_ends c n st line room (reading_in c st line room) refl (ap is_last e.event))
    (λ (f : Further q (end_in st) (reading_in c st line room)). later_ends c n st line room (ends_by c wide n x.told.state f.next line x.room m.fit f.place (nearer c st q n line room m f h)))
    m.stands.moved

pub rest_ends : (c : ℕ) → 1920 ≤ c → (st : Reader) (q : ℕ) (line room : List ℕ) → read_fault_in c st (length line) (length room) ≡ 0 → st.place ≡ Some q → ends_within_in c (end_in st - q + 1) st line room ≡ true
rest_ends c wide st q line room fit at = ends_by c wide (end_in st - q + 1) st q line room fit at (omega arith)

-- ---- a whole line
-- what a line begun leaves: the line's start, and its settings
pub record Starts (st : Reader) (line room : List ℕ) (x : Reply) : Type 0 where
  pub same : Same st room x
  pub settings : x.told.state.settings ≡ settings_of line
  pub place : x.told.state.place ≡ Some 0

pub begun_starts : (st : Reader) (line room : List ℕ) → Starts st line room (reply (begun st (number_of line) (settings_of line)) room)
unfolding begun
begun_starts st line room = record { same = record { system = refl; mode = refl; room_long = refl }; settings = refl; place = refl }

-- blocks end in the area
pub in_area : (c : ℕ) (st : Reader) (q : ℕ) (line room : List ℕ) → read_fault_in c st (length line) (length room) ≡ 0 → st.place ≡ Some q → end_in st ≤ area_length (system_of st.system).payload st.settings.flag
unfolding fits_length
in_area c st q line room fit at =
    let r = ready c st line room fit in
    end_in_area st.system st.settings (both_true (is_system st.system) _ r.fit).0 (eqb-true _ 0 (not-false _ (at_q st q line room at r).clean))

module _ (c : ℕ) (wide : 1920 ≤ c) (st : Reader) (line room : List ℕ) (at : st.place ≡ None) where
  abbrev area : ℕ
  area = area_length (system_of st.system).payload (settings_of line).flag

  begun_ends : read_fault_in c st (length line) (length room) ≡ 0 → line_fault st.system st.mode line ≡ 0
      → ends_within_in c (suc (suc (area_length (system_of st.system).payload (settings_of line).flag))) st line room ≡ true
  begun_ends fit e =
      let x = reading_in c st line room in
      let s = subst (Starts st line room) (sym (accepts c st line room fit at e)) (begun_starts st line room) in
      let again = fit_again c st line room fit s.same in
      let same : area_length (system_of x.told.state.system).payload x.told.state.settings.flag ≡ area =
      ap₂ (λ (k : ℕ) (t : Settings). area_length (system_of k).payload t.flag) s.same.system s.settings in
      later_ends c (suc area) st line room (ends_by c wide (suc area) x.told.state 0 line x.room again s.place (omega (arith, same, in_area c x.told.state 0 line x.room again s.place)))

  fit_ends : read_fault_in c st (length line) (length room) ≡ 0 → (n : ℕ) → line_fault st.system st.mode line ≡ n
      → ends_within_in c (suc (suc (area_length (system_of st.system).payload (settings_of line).flag))) st line room ≡ true
  fit_ends fit zero is = begun_ends fit is
  fit_ends fit (suc n) is = last_ends c (suc area) st line room (reply (refused st (suc n)) room) (refuses c st line room fit at (suc n) is (λ z. omega arith)) refl

  -- 1 and 2 are refusals as well
  any_ends : (b : Bool) → eqb (read_fault_in c st (length line) (length room)) 0 ≡ b
      → ends_within_in c (suc (suc (area_length (system_of st.system).payload (settings_of line).flag))) st line room ≡ true
  unfolding reading_in
  any_ends true e = fit_ends (eqb-true _ 0 e) _ refl
  any_ends false e = last_ends c (suc area) st line room _ (pick_false _ _ e) refl

pub line_ends : (c : ℕ) → 1920 ≤ c → (st : Reader) (line room : List ℕ) → st.place ≡ None
    → ends_within_in c (area_length (system_of st.system).payload (settings_of line).flag + 2) st line room ≡ true
line_ends c wide st line room at =
    let a = area_length (system_of st.system).payload (settings_of line).flag in
    let two : a + 2 ≡ suc (suc a) = omega arith in
    ap (λ (n : ℕ). ends_within_in c n st line room) two ∙ any_ends c wide st line room at _ refl

-- ---- more calls
pub ends_more : (c n m : ℕ) (st : Reader) (line room : List ℕ) → n ≤ m → ends_within_in c n st line room ≡ true → ends_within_in c m st line room ≡ true
ends_more c zero m st line room h e = absurd (true_false (sym e))
ends_more c (suc n) zero st line room h e = absurd (omega arith)
ends_more c (suc n) (suc m) st line room h e = go (is_last (reading_in c st line room).told.event) (λ z. ends_more c n m _ line _ (omega arith) z) e
  where
    go : (b : Bool) → (ends_within_in c n (reading_in c st line room).told.state line (reading_in c st line room).room ≡ true
        → ends_within_in c m (reading_in c st line room).told.state line (reading_in c st line room).room ≡ true)
        → (b || ends_within_in c n (reading_in c st line room).told.state line (reading_in c st line room).room) ≡ true
        → (b || ends_within_in c m (reading_in c st line room).told.state line (reading_in c st line room).room) ≡ true
    go true k e = refl
    go false k e = k e

-- no line needs more than P + 2
pub payload_ends : (c : ℕ) → 1920 ≤ c → (st : Reader) (line room : List ℕ) → st.place ≡ None → ends_within_in c ((system_of st.system).payload + 2) st line room ≡ true
payload_ends c wide st line room at =
    let p = (system_of st.system).payload in
    let flag = (settings_of line).flag in
    ends_more c (area_length p flag + 2) (p + 2) st line room (omega (arith, area_most p flag)) (line_ends c wide st line room at)
