-- A line lent until its end is reported: an accepted one, call by call, tells what the run over its area says; a refused one is refused at once.
-- So the calls do to the reader what the line does to an ear (Ear.antt).
-- Assumes nothing.
use Rattle.std.specs.Prelude.{Option, Some, None}
use mathlib.Core.Path.{◌≡◌, refl, sym, ap, ap₂, ◌∙◌, subst}
use mathlib.Core.Bool.{Bool, true, false}
use mathlib.Core.List.{List, [], ◌∷◌, ◌++◌}
use Prim.Native.Nat.{ℕ, zero, suc, ◌+◌, ◌-◌, ◌*◌, ◌/◌, ◌≤◌}
use native.Mathlib.Nat.{suc-mul, add-zero, zero-div, add-mul-div_right}
use native.Mathlib.Omega.{arith}
use lib.Dec.{eqb, eqb-suc-zero}
use lib.ListN.{length, take, drop, length-drop}
use lib.Seq.{length-take-le, drop-length}
use Rattle.lists.specs.Tests.{pick}
use Rattle.lists.proofs.Tests.{true_false, pick_true, pick_false}
use Rattle.line.specs.declared.settings.Settings.{Settings}
use Rattle.line.specs.Systems.{system_of}
use Rattle.line.specs.Fixed.{is_variable, places_of, size_of}
use Rattle.line.specs.Layout.{payload_at}
use Rattle.line.specs.Check.{number_of, settings_of, fits, line_fault}
use Rattle.course.specs.Course.{blocks_end}
use Rattle.machine.specs.declared.phase.Phase.{Phase}
use Rattle.machine.specs.declared.step.Met.{Met}
use Rattle.machine.specs.declared.step.Met.TheVariants.{Nothing, Whole, Lost}
use Rattle.reader.specs.declared.state.Reader.{Reader}
use Rattle.reader.specs.declared.state.Event.TheVariants.{Refused}
use Rattle.machine.specs.Walk.{Walk, is_nothing, walk_of}
use Rattle.machine.specs.Places.{places_in, walk_places}
use Rattle.machine.proofs.Cut.{drop_places}
use Rattle.reader.specs.State.{impossible}
use Rattle.reader.specs.Reading.{Reply, reply, becomes, goes_on, begun, words_from, walk_from, told_by, read_fault, reading, reading_in}
use Rattle.reader.specs.Lending.{is_last}
use Rattle.reader.proofs.AtCapacity.{Ready, ready, read_possible, by_place, accepts, refuses, unfaulted, call_moves}
use Rattle.reader.proofs.ReadLaws.{grid, words_next}
use Rattle.reader.proofs.Ends.{Same}
use Rattle.demands.specs.Hearing.{Heard, is_refused, is_end, heard_of, hear, Lends, last, more}
use Rattle.demands.proofs.Run.{Now, now, met_heard, run_to, run_out, places_to, places_out}
use Rattle.demands.proofs.LineRun.{left_out, left_to, block_part, area_out, area_to}
use Rattle.demands.proofs.Ear.{Ear, Input, own, refusal, as_reader, heard_of_input, ear_after}
use Rattle.demands.proofs.DeskOk.{AllLong}
use Rattle.demands.proofs.WalkRun.{Runs, walk_runs, Passes, places_pass}

-- ---- the words from a place on, and from a place further on
drop_all : {A : Type 0} (n : ℕ) (l : List A) → n ≡ length l → drop n l ≡ []
drop_all {A} n l e = ap {B = List A} (λ (k : ℕ). drop k l) e ∙ drop-length l

-- from the line's start on
pub words_first : (st : Reader) (line : List ℕ) → words_from st 0 line ≡ block_part st.system st.settings line
unfolding words_from
words_first st line =
    let a = payload_at (system_of st.system) in
    let e = blocks_end (system_of st.system).payload st.settings.block st.settings.flag in
    let long : e - 0 ≡ e = omega arith in
    ap₂ (λ (n i : ℕ). take n (drop i line)) long (add-zero a)

-- ---- places one after another
pub places_long : (size n : ℕ) (ws : List ℕ) → n * size ≤ length ws → AllLong size (places_in size n ws)
places_long size zero ws h = tt
places_long size (suc n) ws h =
    let next = suc-mul n size in
    let rest : n * size ≤ length (drop size ws) = rw (length-drop size ws) (omega arith) in
    (length-take-le size ws (omega arith), places_long size n (drop size ws) rest)

pub places_count : (size n : ℕ) (ws : List ℕ) → length (places_in size n ws) ≡ n
places_count size zero ws = refl
places_count size (suc n) ws = ap suc (places_count size n (drop size ws))

-- ---- the area from a place on, to its end
-- the places that are left
abbrev pub places_left : Reader → ℕ → ℕ
places_left st q = places_of (system_of st.system).payload st.settings.block - q / size_of st.settings.block

unfoldable pub rest_out : Reader → ℕ → List ℕ → List ℕ → List Heard
rest_out st q line room = left_out st.mode st.settings.block (places_left st q) (now st.phase room) (words_from st q line)

unfoldable pub rest_to : Reader → ℕ → List ℕ → List ℕ → Now
rest_to st q line room = left_to st.mode st.settings.block (places_left st q) (now st.phase room) (words_from st q line)

-- ---- one walk: its report, and the area from the place behind it
pub record Left (mode block n : ℕ) (q : Now) (ws : List ℕ) (x : Walk) (m : ℕ) (vs : List ℕ) : Type 0 where
  pub out : left_out mode block n q ws ≡ met_heard x.answer.met x.room ++ left_out mode block m (now x.answer.phase x.room) vs
  pub to : left_to mode block n q ws ≡ left_to mode block m (now x.answer.phase x.room) vs
  pub none : is_nothing x.answer.met ≡ true → left_out mode block m (now x.answer.phase x.room) vs ≡ []
  pub still : is_nothing x.answer.met ≡ true → left_to mode block m (now x.answer.phase x.room) vs ≡ now x.answer.phase x.room

variable_left : (mode block n m : ℕ) (p : Phase) (room ws vs : List ℕ) → is_variable block ≡ true → vs ≡ drop (walk_of mode p ws room).answer.taken ws
    → Left mode block n (now p room) ws (walk_of mode p ws room) m vs
unfolding left_out left_to
variable_left mode block n m p room ws vs v e =
    let x = walk_of mode p ws room in
    let k : Runs mode p ws room (walk_of mode p ws room) = walk_runs mode p ws room in
    let after : Now = now x.answer.phase x.room in
    let all : is_nothing x.answer.met ≡ true → vs ≡ [] = λ z. e ∙ drop_all x.answer.taken ws (k.all z) in
    record {
      out = pick_true _ _ v ∙ k.out ∙ ap {B = List Heard} (λ (l : List ℕ). met_heard x.answer.met x.room ++ run_out mode after l) (sym e)
          ∙ ap {B = List Heard} (λ (l : List Heard). met_heard x.answer.met x.room ++ l) (sym (pick_true _ _ v));
      to = pick_true _ _ v ∙ k.to ∙ ap (λ (l : List ℕ). run_to mode after l) (sym e) ∙ sym (pick_true _ _ v);
      none = λ z. pick_true _ _ v ∙ ap (λ (l : List ℕ). run_out mode after l) (all z);
      still = λ z. pick_true _ _ v ∙ ap (λ (l : List ℕ). run_to mode after l) (all z);
    }

-- a walk over n places that took k of them
fixed_left : (mode block n m k : ℕ) (p : Phase) (room ws vs : List ℕ) (x : Walk) → is_variable block ≡ false
    → (c : Passes mode p (places_in (size_of block) n ws) room x) → k ≡ c.count → m ≡ n - k → vs ≡ drop (k * size_of block) ws
    → Left mode block n (now p room) ws x m vs
unfolding left_out left_to
fixed_left mode block n m k p room ws vs x v c is left e =
    let size = size_of block in
    let xs = places_in size n ws in
    let rest : drop c.count xs ≡ places_in size m vs =
    ap (λ (j : ℕ). drop j xs) (sym is) ∙ drop_places size k n ws ∙ ap₂ (places_in size) (sym left) (sym e) in
    let all : is_nothing x.answer.met ≡ true → places_in size m vs ≡ [] =
    λ z. sym rest ∙ drop_all c.count xs (c.all z) in
    record {
      out = pick_false _ _ v ∙ c.out ∙ ap {B = List Heard} (λ (l : List (List ℕ)). met_heard x.answer.met x.room ++ places_out mode x.room l) rest
          ∙ ap {B = List Heard} (λ (l : List Heard). met_heard x.answer.met x.room ++ l) (sym (pick_false _ _ v));
      to = pick_false _ _ v ∙ ap₂ now (sym c.phase) (c.to ∙ ap (λ (l : List (List ℕ)). places_to mode x.room l) rest) ∙ sym (pick_false _ _ v);
      none = λ z. pick_false _ _ v ∙ ap (λ (l : List (List ℕ)). places_out mode x.room l) (all z);
      still = λ z. pick_false _ _ v ∙ ap (λ (l : List (List ℕ)). now x.answer.phase (places_to mode x.room l)) (all z);
    }

-- where a reader stands behind a walk from place q
abbrev moved : Reader → ℕ → Walk → Reader
moved st q x = becomes st st.last st.settings (Some (q + x.answer.taken)) x.answer.phase

record Goes (st : Reader) (q : ℕ) (line room : List ℕ) (x : Walk) : Type 0 where
  out : rest_out st q line room ≡ met_heard x.answer.met x.room ++ rest_out (moved st q x) (q + x.answer.taken) line x.room
  to : rest_to st q line room ≡ rest_to (moved st q x) (q + x.answer.taken) line x.room
  none : is_nothing x.answer.met ≡ true → rest_out (moved st q x) (q + x.answer.taken) line x.room ≡ []
  still : is_nothing x.answer.met ≡ true → rest_to (moved st q x) (q + x.answer.taken) line x.room ≡ now x.answer.phase x.room

module _ (st : Reader) (q : ℕ) (line room : List ℕ) where
  abbrev block : ℕ
  block = st.settings.block

  goes_by : (x : Walk)
      → Left st.mode st.settings.block (places_left st q) (now st.phase room) (words_from st q line) x
      (places_left st (q + x.answer.taken)) (words_from st (q + x.answer.taken) line)
      → Goes st q line room x
  unfolding rest_out rest_to words_from
  goes_by x l = record { out = l.out; to = l.to; none = l.none; still = l.still }

  module _ (at : st.place ≡ Some q) (r : Ready st line room) where
    variable_goes : is_variable st.settings.block ≡ true → Goes st q line room (walk_of st.mode st.phase (words_from st q line) room)
    variable_goes v =
        let x = walk_of st.mode st.phase (words_from st q line) room in
        goes_by x (variable_left st.mode block (places_left st q) _ st.phase room (words_from st q line) _ v (words_next st q x.answer.taken line))

    fixed_goes : is_variable st.settings.block ≡ false
        → Goes st q line room (walk_places st.mode st.phase (places_in (size_of st.settings.block) (places_left st q) (words_from st q line)) room)
    fixed_goes v =
        let size = size_of block in
        let n = places_left st q in
        let ws = words_from st q line in
        let xs = places_in size n ws in
        let x = walk_places st.mode st.phase xs room in
        let c = places_pass st.mode st.phase xs room in
        let g = grid st q line room at r (system_of st.system) refl v size refl in
        let took : x.answer.taken ≡ c.count * size = c.taken size (places_long size n ws g.fits) in
        let by : (q + x.answer.taken) / size ≡ q / size + c.count = ap (λ (j : ℕ). (q + j) / size) took ∙ add-mul-div_right q c.count g.one in
        let left : places_left st (q + x.answer.taken) ≡ n - c.count = omega (arith, by) in
        goes_by x
        (fixed_left st.mode block n _ c.count st.phase room ws _ x v c refl left (words_next st q x.answer.taken line ∙ ap (λ (j : ℕ). drop j ws) took))

    walk_goes : Goes st q line room (walk_from st q line room)
    unfolding walk_from
    walk_goes = go (is_variable block) refl
      where
        go : (b : Bool) → is_variable block ≡ b
            → Goes st q line room
            (pick (is_variable block) (walk_of st.mode st.phase (words_from st q line) room) (walk_places st.mode st.phase (places_in (size_of block) (places_left st q) (words_from st q line)) room))
        go true v = subst (Goes st q line room) (sym (pick_true _ _ v)) (variable_goes v)
        go false v = subst (Goes st q line room) (sym (pick_false _ _ v)) (fixed_goes v)

-- ---- the calls from place q of a begun line to its end
pub record Rest (st : Reader) (q : ℕ) (line room : List ℕ) (hs : List Heard) (st' : Reader) (room' : List ℕ) : Type 0 where
  pub heard : hs ≡ rest_out st q line room ++ (is_end ∷ [])
  pub state : st' ≡ becomes st st.last st.settings None (rest_to st q line room).phase
  pub room_is : room' ≡ (rest_to st q line room).room

abbrev heard_by : Reply → Heard
heard_by z = heard_of z.told.event z.told.state.settings z.room

module _ (st : Reader) (q : ℕ) (line room : List ℕ) (x : Walk) (g : Goes st q line room x) where
  -- the last call: nothing was met, so nothing is left
  last_step : (met : Met) → x.answer.met ≡ met → is_last (told_by st (q + x.answer.taken) x.answer.phase met).event ≡ true
      → Rest st q line room (heard_by (reply (told_by st (q + x.answer.taken) x.answer.phase met) x.room) ∷ [])
      (told_by st (q + x.answer.taken) x.answer.phase met).state x.room
  last_step Nothing e h =
      let z : is_nothing x.answer.met ≡ true = ap is_nothing e in
      let out : rest_out st q line room ≡ [] = g.out ∙ ap₂ (λ (m : Met) (l : List Heard). met_heard m x.room ++ l) e (g.none z) in
      let to : rest_to st q line room ≡ now x.answer.phase x.room = g.to ∙ g.still z in
      record {
        heard = ap {B = List Heard} (λ (l : List Heard). l ++ (is_end ∷ [])) (sym out);
        state = ap (λ (n : Now). becomes st st.last st.settings None n.phase) (sym to);
        room_is = ap (λ (n : Now). n.room) (sym to);
      }
  last_step (Whole k n) e h = absurd (true_false (sym h))
  last_step (Lost n) e h = absurd (true_false (sym h))

  more_by : (met : Met) (hs : List Heard) (st' : Reader) (room' : List ℕ) → x.answer.met ≡ met → (h : Heard) → met_heard met x.room ≡ h ∷ []
      → Rest (moved st q x) (q + x.answer.taken) line x.room hs st' room' → Rest st q line room (h ∷ hs) st' room'
  more_by met hs st' room' e h is f =
      let first : met_heard x.answer.met x.room ≡ h ∷ [] = ap (λ (m : Met). met_heard m x.room) e ∙ is in
      let out : rest_out st q line room ≡ h ∷ rest_out (moved st q x) (q + x.answer.taken) line x.room =
      g.out ∙ ap {B = List Heard} (λ (l : List Heard). l ++ rest_out (moved st q x) (q + x.answer.taken) line x.room) first in
      record {
        heard = ap {B = List Heard} (λ (l : List Heard). h ∷ l) f.heard ∙ ap {B = List Heard} (λ (l : List Heard). l ++ (is_end ∷ [])) (sym out);
        state = f.state ∙ ap (λ (n : Now). becomes st st.last st.settings None n.phase) (sym g.to);
        room_is = f.room_is ∙ ap (λ (n : Now). n.room) (sym g.to);
      }

  -- a call that is not the last: those that follow go on behind the walk
  more_step : (met : Met) (hs : List Heard) (st' : Reader) (room' : List ℕ) → x.answer.met ≡ met
      → is_last (told_by st (q + x.answer.taken) x.answer.phase met).event ≡ false
      → ((i : ℕ) → (told_by st (q + x.answer.taken) x.answer.phase met).state.place ≡ Some i
      → Rest (told_by st (q + x.answer.taken) x.answer.phase met).state i line x.room hs st' room')
      → Rest st q line room (heard_by (reply (told_by st (q + x.answer.taken) x.answer.phase met) x.room) ∷ hs) st' room'
  more_step Nothing hs st' room' e h k = absurd (true_false h)
  more_step (Whole j n) hs st' room' e h k = more_by (Whole j n) hs st' room' e _ refl (k (q + x.answer.taken) refl)
  more_step (Lost n) hs st' room' e h k = more_by (Lost n) hs st' room' e _ refl (k (q + x.answer.taken) refl)

module _ (st : Reader) (q : ℕ) (line room : List ℕ) (fit : read_fault st (length line) (length room) ≡ 0) (at : st.place ≡ Some q) where
  abbrev walked : Walk
  walked = walk_from st q line room

  rest_last : is_last (reading st line room).told.event ≡ true
      → Rest st q line room (hear st line room ∷ []) (reading st line room).told.state (reading st line room).room
  rest_last h =
      subst (λ (z : Reply). is_last z.told.event ≡ true → Rest st q line room (heard_by z ∷ []) z.told.state z.room) (sym (by_place st line room (Some q) fit at))
      (last_step st q line room walked (walk_goes st q line room at (ready st line room fit)) walked.answer.met refl) h

  rest_more : (hs : List Heard) (st' : Reader) (room' : List ℕ) → is_last (reading st line room).told.event ≡ false
      → ((i : ℕ) → (reading st line room).told.state.place ≡ Some i → Rest (reading st line room).told.state i line (reading st line room).room hs st' room')
      → Rest st q line room (hear st line room ∷ hs) st' room'
  rest_more hs st' room' h k =
      subst (λ (z : Reply). is_last z.told.event ≡ false → ((i : ℕ) → z.told.state.place ≡ Some i → Rest z.told.state i line z.room hs st' room')
      → Rest st q line room (heard_by z ∷ hs) st' room') (sym (by_place st line room (Some q) fit at))
      (more_step st q line room walked (walk_goes st q line room at (ready st line room fit)) walked.answer.met hs st' room' refl) h k

pub from_place : (line : List ℕ) (st : Reader) (room : List ℕ) (hs : List Heard) (st' : Reader) (room' : List ℕ) → Lends line st room hs st' room'
    → (q : ℕ) → st.place ≡ Some q → read_fault st (length line) (length room) ≡ 0 → Rest st q line room hs st' room'
from_place line st room hs st' room' (last h) q at fit = rest_last st q line room fit at h
from_place line st room hs st' room' (more {hs = ks} h k) q at fit =
    rest_more st q line room fit at ks st' room' h (λ i f. from_place line _ _ ks st' room' k i f (call_moves st q line room fit at).fit)

-- ---- a line from its start on
-- all places are left, and all words
all_left : (st : Reader) → places_left st 0 ≡ places_of (system_of st.system).payload st.settings.block
all_left st = omega (arith, zero-div (size_of st.settings.block))

rest_out_lem : (st : Reader) (line room : List ℕ)
    → rest_out st 0 line room ≡ area_out (system_of st.system).payload st.mode st.settings (now st.phase room) (block_part st.system st.settings line)
unfolding rest_out
rest_out_lem st line room =
    ap₂ (λ (n : ℕ) (ws : List ℕ). left_out st.mode st.settings.block n (now st.phase room) ws) (all_left st) (words_first st line)

rest_to_lem : (st : Reader) (line room : List ℕ)
    → rest_to st 0 line room ≡ area_to (system_of st.system).payload st.mode st.settings (now st.phase room) (block_part st.system st.settings line)
unfolding rest_to
rest_to_lem st line room =
    ap₂ (λ (n : ℕ) (ws : List ℕ). left_to st.mode st.settings.block n (now st.phase room) ws) (all_left st) (words_first st line)

-- a reader with no line begun, as an ear
abbrev pub ear_of : Reader → List ℕ → Ear
ear_of st room = record { last = st.last; settings = st.settings; phase = st.phase; room = room }

-- the calls on a line do what the line does to the ear
pub record Takes (st : Reader) (room : List ℕ) (i : Input) (hs : List Heard) (st' : Reader) (room' : List ℕ) : Type 0 where
  pub heard : hs ≡ heard_of_input st.system st.mode (ear_of st room) i
  pub state : st' ≡ as_reader st.system st.mode (ear_after st.system st.mode (ear_of st room) i)
  pub room_is : room' ≡ (ear_after st.system st.mode (ear_of st room) i).room

-- begun, and then the calls from the line's start to its end
begun_hears : (st : Reader) (n : ℕ) (t : Settings) (line room : List ℕ) (hs : List Heard) (st' : Reader) (room' : List ℕ)
    → ((i : ℕ) → (begun st n t).state.place ≡ Some i → Rest (begun st n t).state i line room hs st' room')
    → Takes st room (own n t (block_part st.system t line)) (heard_by (reply (begun st n t) room) ∷ hs) st' room'
unfolding begun goes_on
begun_hears st n t line room hs st' room' k =
    let f = k 0 refl in
    let first : Reader = (begun st n t).state in
    let told : Heard = heard_by (reply (begun st n t) room) in
    record {
      heard = ap {B = List Heard} (λ (l : List Heard). told ∷ l) (f.heard ∙ ap {B = List Heard} (λ (l : List Heard). l ++ (is_end ∷ [])) (rest_out_lem first line room));
      state = f.state ∙ ap (λ (x : Now). becomes st first.last t None x.phase) (rest_to_lem first line room);
      room_is = f.room_is ∙ ap (λ (x : Now). x.room) (rest_to_lem first line room);
    }

begun_goes : (st : Reader) (n : ℕ) (t : Settings) → is_last (begun st n t).event ≡ false
unfolding begun
begun_goes st n t = refl

-- what a begun line's first call keeps
begun_same : (st : Reader) (n : ℕ) (t : Settings) (room : List ℕ) → Same st room (reply (begun st n t) room)
unfolding begun
begun_same st n t room = record { system = refl; mode = refl; room_long = refl }

-- ---- every call that is not refused with 1 or 2 keeps the system, the mode and the room's length; so the next one is not refused so either
shut_same : (st : Reader) (line room : List ℕ) → read_fault st (length line) (length room) ≡ 0 → st.place ≡ None → (k : ℕ) → line_fault st.system st.mode line ≡ k
    → Same st room (reading st line room)
shut_same st line room fit at zero e = subst (Same st room) (sym (accepts st line room fit at e)) (begun_same st (number_of line) (settings_of line) room)
shut_same st line room fit at (suc k) e =
    subst (Same st room) (sym (refuses st line room fit at (suc k) e (λ z. omega arith))) (record { system = refl; mode = refl; room_long = refl })

same_by : (st : Reader) (line room : List ℕ) → read_fault st (length line) (length room) ≡ 0 → (p : Option ℕ) → st.place ≡ p → Same st room (reading st line room)
same_by st line room fit None at = shut_same st line room fit at (line_fault st.system st.mode line) refl
same_by st line room fit (Some q) at = (call_moves st q line room fit at).stands.same

pub call_same : (st : Reader) (line room : List ℕ) → read_fault st (length line) (length room) ≡ 0 → Same st room (reading st line room)
call_same st line room fit = same_by st line room fit st.place refl

pub fit_next : (st : Reader) (line room : List ℕ) → read_fault st (length line) (length room) ≡ 0
    → read_fault (reading st line room).told.state (length line) (length (reading st line room).room) ≡ 0
fit_next st line room fit =
    let r = ready st line room fit in
    let s = call_same st line room fit in
    unfaulted (reading st line room).told.state line (reading st line room).room
    (record { fit = ap₂ (λ (i j : ℕ). fits i j line) s.system s.mode ∙ r.fit; long = s.room_long ∙ r.long; state = read_possible st line room r.state })

-- ---- an accepted line
module _ (st : Reader) (line room : List ℕ) (fit : read_fault st (length line) (length room) ≡ 0) (at : st.place ≡ None)
    (ok : line_fault st.system st.mode line ≡ 0) where
  abbrev number : ℕ
  number = number_of line

  abbrev settings : Settings
  settings = settings_of line

  accepted_last : is_last (reading st line room).told.event ≡ true → ⊥
  accepted_last h =
      true_false (sym h ∙ ap (λ (z : Reply). is_last z.told.event) (accepts st line room fit at ok) ∙ begun_goes st number settings)

  accepted_more : (hs : List Heard) (st' : Reader) (room' : List ℕ)
      → ((i : ℕ) → (reading st line room).told.state.place ≡ Some i → Rest (reading st line room).told.state i line (reading st line room).room hs st' room')
      → Takes st room (own (number_of line) (settings_of line) (block_part st.system (settings_of line) line)) (hear st line room ∷ hs) st' room'
  accepted_more hs st' room' k =
      subst (λ (z : Reply). ((i : ℕ) → z.told.state.place ≡ Some i → Rest z.told.state i line z.room hs st' room')
      → Takes st room (own number settings (block_part st.system settings line)) (heard_by z ∷ hs) st' room') (sym (accepts st line room fit at ok))
      (begun_hears st number settings line room hs st' room') k

pub hears : (st : Reader) (line room : List ℕ) (hs : List Heard) (st' : Reader) (room' : List ℕ) → read_fault st (length line) (length room) ≡ 0 → st.place ≡ None
    → line_fault st.system st.mode line ≡ 0 → Lends line st room hs st' room'
    → Takes st room (own (number_of line) (settings_of line) (block_part st.system (settings_of line) line)) hs st' room'
hears st line room hs st' room' fit at ok (last h) = absurd (accepted_last st line room fit at ok h)
hears st line room hs st' room' fit at ok (more {hs = ks} h k) =
    accepted_more st line room fit at ok ks st' room' (λ i f. from_place line _ _ ks st' room' k i f (fit_next st line room fit))

-- ---- a refused line
pub refuses_line : (st : Reader) (line room : List ℕ) (hs : List Heard) (st' : Reader) (room' : List ℕ) → read_fault st (length line) (length room) ≡ 0 → st.place ≡ None
    → (k : ℕ) → line_fault st.system st.mode line ≡ k → (k ≡ 0 → ⊥) → Lends line st room hs st' room' → Takes st room (refusal k) hs st' room'
refuses_line st line room hs st' room' fit at k is bad (last h) =
    subst (λ (z : Reply). Takes st room (refusal k) (heard_by z ∷ []) z.told.state z.room) (sym (refuses st line room fit at k is bad))
    (record { heard = refl; state = refl; room_is = refl })
refuses_line st line room hs st' room' fit at k is bad (more h l) =
    absurd (true_false (sym (ap (λ (z : Reply). is_last z.told.event) (refuses st line room fit at k is bad)) ∙ h))

-- ---- refused with 1 or 2: at once, and everything is left
faulted : (st : Reader) (line room : List ℕ) (k : ℕ) → read_fault st (length line) (length room) ≡ suc k
    → reading st line room ≡ reply (record { event = Refused (suc k) false; state = st }) room
unfolding reading_in
faulted st line room k e =
    pick_false _ _ (ap (λ (n : ℕ). eqb n 0) e ∙ eqb-suc-zero k) ∙ ap (λ (n : ℕ). reply (record { event = Refused n false; state = st }) room) e

pub record Leaves (st : Reader) (room : List ℕ) (k : ℕ) (hs : List Heard) (st' : Reader) (room' : List ℕ) : Type 0 where
  pub heard : hs ≡ is_refused k false ∷ []
  pub state : st' ≡ st
  pub room_is : room' ≡ room

pub leaves_line : (st : Reader) (line room : List ℕ) (hs : List Heard) (st' : Reader) (room' : List ℕ) (k : ℕ) → read_fault st (length line) (length room) ≡ suc k
    → Lends line st room hs st' room' → Leaves st room (suc k) hs st' room'
leaves_line st line room hs st' room' k e (last h) =
    subst (λ (z : Reply). Leaves st room (suc k) (heard_by z ∷ []) z.told.state z.room) (sym (faulted st line room k e))
    (record { heard = refl; state = refl; room_is = refl })
leaves_line st line room hs st' room' k e (more h l) = absurd (true_false (sym (ap (λ (z : Reply). is_last z.told.event) (faulted st line room k e)) ∙ h))

-- ---- what the calls on a line keep
pub record Keeps (st : Reader) (room : List ℕ) (st' : Reader) (room' : List ℕ) : Type 0 where
  pub system : st'.system ≡ st.system
  pub mode : st'.mode ≡ st.mode
  pub possible : impossible st' ≡ false
  pub long : length room' ≡ length room

pub lends_keep : (line : List ℕ) (st : Reader) (room : List ℕ) (hs : List Heard) (st' : Reader) (room' : List ℕ) → read_fault st (length line) (length room) ≡ 0
    → Lends line st room hs st' room' → Keeps st room st' room'
lends_keep line st room hs st' room' fit (last h) =
    let s = call_same st line room fit in
    record { system = s.system; mode = s.mode; possible = read_possible st line room (ready st line room fit).state; long = s.room_long }
lends_keep line st room hs st' room' fit (more {hs = ks} h k) =
    let s = call_same st line room fit in
    let f = lends_keep line (reading st line room).told.state (reading st line room).room ks st' room' (fit_next st line room fit) k in
    record { system = f.system ∙ s.system; mode = f.mode ∙ s.mode; possible = f.possible; long = f.long ∙ s.room_long }
