-- Laws of runs: a run taken at once is the same walk.
-- Assumes nothing.
use mathlib.Core.Path.{◌≡◌, refl, sym, ap, ap₂, ◌∙◌, subst}
use mathlib.Core.Bool.{Bool, true, false, ◌&&◌, ◌||◌, not}
use mathlib.Core.List.{List, [], ◌∷◌, ◌++◌, map}
use Prim.Native.Nat.{ℕ, zero, suc, ◌+◌, ◌-◌, ◌≤◌, ◌<◌, min}
use native.Mathlib.Nat.{add-zero, add_assoc}
use native.Mathlib.Numerals.{add-one}
use native.Mathlib.Omega.{arith}
use lib.Dec.{T, eqb, leb}
use lib.ListN.{length, get_or, take, drop, set, length-set, length-map, drop_of_length-le}
use lib.Seq.{length-take-le, take_all, drop-drop, take-suc-set, drop-set-lt, append_snoc, paste, paste-zero}
use borrow.Rule.Slice.PartMut.{put_mid}
use borrow.Author.Tests.{lt-leb, lt-ltb}
use Rattle.lists.specs.Tests.{pick}
use Rattle.lists.proofs.Tests.{pick_true, pick_false, or_false, and_none, true_false}
use Rattle.lists.proofs.Lists.{map_part}
use Rattle.lists.proofs.Loops.{next_drop, mid_paste}
use Rattle.words.specs.Modes.{value_of}
use Rattle.words.specs.Class.{class_of, is_code, is_null}
use Rattle.words.specs.declared.class.Class.{Class}
use Rattle.words.specs.declared.class.Class.TheVariants.{Byte, Other, Separator, Ending, Illegal, Null}
use Rattle.machine.specs.declared.phase.Mark.{Mark}
use Rattle.machine.specs.declared.phase.Phase.{Phase}
use Rattle.machine.specs.declared.phase.Phase.TheVariants.{Idle, Kind, First, Second, Third, Fourth, Data}
use Rattle.machine.specs.declared.step.Met.TheVariants.{Nothing}
use Rattle.machine.specs.declared.step.Step.{Step}
use Rattle.machine.specs.Phases.{is_busy}
use Rattle.machine.specs.Machine.{on, idle_step, value_step, data_step, step_of}
use Rattle.machine.specs.Walk.{Walk, past, collected_of, stored, walk_of}
use Rattle.machine.specs.Runs.{stops_by, run_of, limit_of, most_by, taken_by, ran_phase, ran_room}
use Rattle.machine.proofs.WalkLaws.{past_zero, past_past, word_goes}

-- ---- where a run ends
pub run_code : (mode w : ℕ) (ws : List ℕ) → stops_by mode w ≡ true → run_of mode (w ∷ ws) ≡ 0
unfolding run_of
run_code mode w ws e = pick_true _ _ e

pub run_word : (mode w : ℕ) (ws : List ℕ) → stops_by mode w ≡ false → run_of mode (w ∷ ws) ≡ suc (run_of mode ws)
unfolding run_of
run_word mode w ws e = pick_false _ _ e

-- a run that has a word begins with one at which no run ends
run_begins : (mode w : ℕ) (ws : List ℕ) (j : ℕ) → suc j ≤ run_of mode (w ∷ ws) → (stops_by mode w ≡ false) × (j ≤ run_of mode ws)
run_begins mode w ws j = go (stops_by mode w) refl
  where
    go : (b : Bool) → stops_by mode w ≡ b → suc j ≤ run_of mode (w ∷ ws) → (stops_by mode w ≡ false) × (j ≤ run_of mode ws)
    go true e h = absurd (omega (arith, h, run_code mode w ws e))
    go false e h = (e, omega (arith, h, run_word mode w ws e))

run_none : (mode k : ℕ) → suc k ≤ run_of mode [] → ⊥
unfolding run_of
run_none mode k h = omega arith

-- a part of the words has no longer a run than all of them, nor one longer than itself
run_by : (b : Bool) (n i j : ℕ) → (i ≤ j) × (i ≤ n) → (pick b 0 (suc i) ≤ pick b 0 (suc j)) × (pick b 0 (suc i) ≤ suc n)
unfolding pick
run_by true n i j h = (omega arith, omega arith)
run_by false n i j h = (omega (arith, h.0), omega (arith, h.1))

long_by : (b : Bool) (i n : ℕ) → i ≤ n → pick b 0 (suc i) ≤ suc n
unfolding pick
long_by true i n h = omega arith
long_by false i n h = omega arith

run_of_part : (mode n : ℕ) (ws : List ℕ) → (run_of mode (take n ws) ≤ run_of mode ws) × (run_of mode (take n ws) ≤ n)
unfolding run_of
run_of_part mode zero ws = (omega arith, omega arith)
run_of_part mode (suc n) [] = (omega arith, omega arith)
run_of_part mode (suc n) (w ∷ ws) = run_by (stops_by mode w) n (run_of mode (take n ws)) (run_of mode ws) (run_of_part mode n ws)

pub run_long : (mode : ℕ) (ws : List ℕ) → run_of mode ws ≤ length ws
unfolding run_of
run_long mode [] = omega arith
run_long mode (w ∷ ws) = long_by (stops_by mode w) (run_of mode ws) (length ws) (run_long mode ws)

-- ---- a word of a run
idle_class : (c : Class) → is_code c ≡ false → idle_step c ≡ on Idle
idle_class Byte e = refl
idle_class Other e = refl
idle_class Separator e = absurd (subst T e tt)
idle_class Ending e = absurd (subst T e tt)
idle_class Illegal e = refl
idle_class Null e = refl

idle_word : (mode room w : ℕ) → stops_by mode w ≡ false → step_of mode room Idle w ≡ on Idle
unfolding step_of
idle_word mode room w e = idle_class (class_of w) (or_false (is_code (class_of w)) (eqb mode 8 && is_null (class_of w)) e).0

pub data_class : (mode room : ℕ) (k : Mark) (n m : ℕ) (c : Class) → (is_code c || (eqb mode 8 && is_null c)) ≡ false → data_step mode room k n m c ≡ value_step false room k n m
data_class mode room k n m Byte e = refl
data_class mode room k n m Other e = refl
data_class mode room k n m Separator e = absurd (subst T e tt)
data_class mode room k n m Ending e = absurd (subst T e tt)
data_class mode room k n m Illegal e = refl
data_class mode room k n m Null e = ap (λ (b : Bool). value_step b room k n m) (alone (eqb mode 8) e)
  where
    alone : (b : Bool) → (b && true) ≡ false → b ≡ false
    alone true h = h
    alone false h = refl

-- the step of a value that is kept
abbrev pub collecting : Mark → ℕ → ℕ → Step
collecting k n m = record { phase = Data k n (m + 1); met = Nothing; keeps = true }

-- there is space for a word
pub has_space : (room n m : ℕ) → m < limit_of room n → (m < room) × ((not (eqb n 0) && leb n m) ≡ false)
unfolding limit_of pick
has_space room n m = go (eqb n 0)
  where
    go : (b : Bool) → m < pick b room (min n room) → (m < room) × ((not b && leb n m) ≡ false)
    go true h = (h, refl)
    go false h = (omega arith, lt-leb n m (omega arith))

-- a value that is not past a met count, and for which there is room
pub value_kept : (room : ℕ) (k : Mark) (n m : ℕ) → (not (eqb n 0) && leb n m) ≡ false → m < room → value_step false room k n m ≡ collecting k n m
unfolding value_step
value_kept room k n m e h =
    pick_false _ _ e ∙ pick_false _ _ (and_none (eqb n 0) (leb room m) (lt-leb room m h)) ∙ pick_false _ _ refl
    ∙ ap (λ (b : Bool). record { phase = Data k n (m + 1); met = Nothing; keeps = b }) (lt-ltb m room h)

value_word : (room : ℕ) (k : Mark) (n m : ℕ) → m < limit_of room n → value_step false room k n m ≡ collecting k n m
value_word room k n m h = let s = has_space room n m h in value_kept room k n m s.1 s.0

data_word_lem : (mode room : ℕ) (k : Mark) (n m w : ℕ) → stops_by mode w ≡ false → m < limit_of room n → step_of mode room (Data k n m) w ≡ collecting k n m
unfolding step_of
data_word_lem mode room k n m w e h = data_class mode room k n m (class_of w) e ∙ value_word room k n m h

idle_stored : (v : ℕ) (room : List ℕ) → room ≡ stored false 0 v room
unfolding stored pick
idle_stored v room = refl

data_stored : (m v : ℕ) (room : List ℕ) → set room m v ≡ stored true m v room
unfolding stored pick
data_stored m v room = refl

one_more : (j : ℕ) → 1 + j ≡ suc j
one_more j = omega arith

-- ---- j words of a run, idle
idle_run : (mode j : ℕ) (ws room : List ℕ) → j ≤ run_of mode ws → walk_of mode Idle ws room ≡ past j (walk_of mode Idle (drop j ws) room)
idle_run mode zero ws room h = sym (past_zero (walk_of mode Idle ws room))
idle_run mode (suc j) [] room h = absurd (run_none mode j h)
idle_run mode (suc j) (w ∷ ws) room h =
    let b = run_begins mode w ws j h in
    word_goes mode Idle w ws room (on Idle) (sym (idle_word mode (length room) w b.0)) room (idle_stored (value_of mode w) room) refl
    ∙ ap (past 1) (idle_run mode j ws room b.1)
    ∙ past_past 1 j (walk_of mode Idle (drop j ws) room)
    ∙ ap (λ (n : ℕ). past n (walk_of mode Idle (drop j ws) room)) (one_more j)

-- ---- j words of a run, of a block's data
-- one value stored, then j more behind it
paste_behind : (room vs : List ℕ) (m v j : ℕ) → m < length room → paste (set room m v) (m + 1) vs j ≡ paste room m (v ∷ vs) (suc j)
paste_behind room vs m v j h =
    let e : m + 1 + j ≡ m + suc j = omega arith in
    ap₂ (λ (a b : List ℕ). a ++ take j vs ++ b)
    (ap (λ (n : ℕ). take n (set room m v)) (add-one m) ∙ take-suc-set room m v h)
    (drop-set-lt (m + 1 + j) room m v (omega arith) ∙ ap (λ (n : ℕ). drop n room) e)
    ∙ ap (λ (a : List ℕ). a ++ drop (m + suc j) room) (append_snoc (take m room) v (take j vs))

data_run : (mode : ℕ) (k : Mark) (n j m : ℕ) (ws room : List ℕ) → j ≤ run_of mode ws → j ≤ limit_of (length room) n - m
    → walk_of mode (Data k n m) ws room ≡ past j (walk_of mode (Data k n (m + j)) (drop j ws) (paste room m (map (value_of mode) ws) j))
data_run mode k n zero m ws room h s =
    ap₂ (λ (x : ℕ) (r : List ℕ). walk_of mode (Data k n x) ws r) (sym (add-zero m)) (paste-zero room m (map (value_of mode) ws)) ∙ sym (past_zero _)
data_run mode k n (suc j) m [] room h s = absurd (run_none mode j h)
data_run mode k n (suc j) m (w ∷ ws) room h s =
    let b = run_begins mode w ws j h in
    let v = value_of mode w in
    let more : m < limit_of (length room) n = omega arith in
    let long : length (set room m v) ≡ length room = length-set room m v in
    let left : j ≤ limit_of (length (set room m v)) n - (m + 1) = rw long (omega arith) in
    word_goes mode (Data k n m) w ws room (collecting k n m) (sym (data_word_lem mode (length room) k n m w b.0 more)) (set room m v) (data_stored m v room) refl
    ∙ ap (past 1) (data_run mode k n j (m + 1) ws (set room m v) b.1 left)
    ∙ past_past 1 j _
    ∙ ap₂ (λ (i : ℕ) (x : Walk). past i x) (one_more j)
    (ap₂ (λ (i : ℕ) (r : List ℕ). walk_of mode (Data k n i) (drop j ws) r) (add_assoc m 1 j ∙ ap (λ (i : ℕ). m + i) (one_more j)) (paste_behind room (map (value_of mode) ws) m v j (has_space (length room) n m more).0))

-- ---- a run taken at once
no_run : (mode k : ℕ) → k ≡ run_of mode [] → k ≡ 0
unfolding run_of
no_run mode k e = e

none : (mode : ℕ) (p : Phase) (ws room : List ℕ) (k : ℕ) → k ≡ run_of mode [] → walk_of mode p ws room ≡ past k (walk_of mode p (drop k ws) room)
none mode p ws room k e = rw (no_run mode k e) (sym (past_zero (walk_of mode p ws room)))

pub run_taken : (mode : ℕ) (p : Phase) (ws room : List ℕ) (k : ℕ) → k ≡ taken_by mode p (length room) ws
    → walk_of mode p ws room ≡ past k (walk_of mode (ran_phase p k) (drop k ws) (ran_room mode p ws k room))
run_taken mode Idle ws room k e = idle_run mode k ws room (omega (arith, e, (run_of_part mode (length ws) ws).0))
run_taken mode Kind ws room k e = none mode Kind ws room k e
run_taken mode (First t) ws room k e = none mode (First t) ws room k e
run_taken mode (Second t a) ws room k e = none mode (Second t a) ws room k e
run_taken mode (Third t a b) ws room k e = none mode (Third t a b) ws room k e
run_taken mode (Fourth t a b c) ws room k e = none mode (Fourth t a b c) ws room k e
run_taken mode (Data t n m) ws room k e =
    let x = run_of_part mode (min (length ws) (limit_of (length room) n - m)) ws in
    data_run mode t n k m ws room (omega (arith, e, x.0)) (omega (arith, e, x.1))

-- ---- the loop that finds a run's end
pub run_next : (mode : ℕ) (ws : List ℕ) (i : ℕ) → i < length ws → stops_by mode (get_or ws i 0) ≡ false → i + 1 + run_of mode (drop (i + 1) ws) ≡ i + run_of mode (drop i ws)
run_next mode ws i h e = let r = ap (run_of mode) (next_drop ws i h) ∙ run_word mode (get_or ws i 0) (drop (i + 1) ws) e in omega (arith, r)

pub run_found : (mode : ℕ) (ws : List ℕ) (i : ℕ) → i < length ws → stops_by mode (get_or ws i 0) ≡ true → i ≡ i + run_of mode (drop i ws)
run_found mode ws i h e = let r = ap (run_of mode) (next_drop ws i h) ∙ run_code mode (get_or ws i 0) (drop (i + 1) ws) e in omega (arith, r)

pub run_out : (mode : ℕ) (ws : List ℕ) (i : ℕ) → length ws ≤ i → i ≡ i + run_of mode (drop i ws)
unfolding run_of
run_out mode ws i h = let r = ap (run_of mode) (drop_of_length-le ws h) in omega (arith, r)

-- one search behind another
pub run_behind : (mode : ℕ) (ws : List ℕ) (a b n : ℕ) → a + run_of mode (drop a ws) ≡ n → b + run_of mode (drop b (drop a ws)) ≡ run_of mode (drop a ws)
    → a + b + run_of mode (drop (a + b) ws) ≡ n
run_behind mode ws a b n e f = let d = ap (run_of mode) (drop-drop b a ws) in omega (arith, e, f, d)

-- ---- sizes
-- what a phase takes are words that there are, and they fit into the room behind those collected
pub most_within : (p : Phase) (room long : ℕ) → most_by p room long ≤ long
most_within Idle room long = omega arith
most_within Kind room long = omega arith
most_within (First t) room long = omega arith
most_within (Second t a) room long = omega arith
most_within (Third t a b) room long = omega arith
most_within (Fourth t a b c) room long = omega arith
most_within (Data t n m) room long = omega arith

pub taken_within : (mode : ℕ) (p : Phase) (room : ℕ) (ws : List ℕ) → taken_by mode p room ws ≤ length ws
taken_within mode p room ws = omega (arith, (run_of_part mode (most_by p room (length ws)) ws).1, most_within p room (length ws))

pub end_in_room : (room n : ℕ) → limit_of room n ≤ room
unfolding limit_of pick
end_in_room room n = go (eqb n 0)
  where
    go : (b : Bool) → pick b room (min n room) ≤ room
    go true = omega arith
    go false = omega arith

-- so much a phase takes again, of as many words
pub most_again : (mode : ℕ) (p : Phase) (room : ℕ) (ws : List ℕ) (k : ℕ) → k ≡ taken_by mode p room ws → most_by p room k ≡ k
most_again mode Idle room ws k e = refl
most_again mode Kind room ws k e = sym (no_run mode k e)
most_again mode (First t) room ws k e = sym (no_run mode k e)
most_again mode (Second t a) room ws k e = sym (no_run mode k e)
most_again mode (Third t a b) room ws k e = sym (no_run mode k e)
most_again mode (Fourth t a b c) room ws k e = sym (no_run mode k e)
most_again mode (Data t n m) room ws k e = let x = run_of_part mode (min (length ws) (limit_of room n - m)) ws in omega (arith, e, x.1)

-- the number collected stays below any bound of the room
pub most_small : (t : Mark) (n m room k bound : ℕ) → m < bound → room < bound → m + most_by (Data t n m) room k < bound
most_small t n m room k bound low high = omega (arith, end_in_room room n)

pub run_fits : (mode : ℕ) (p : Phase) (room : ℕ) (ws : List ℕ) (k : ℕ) → k ≡ taken_by mode p room ws → is_busy p ≡ true → (k ≡ 0 → ⊥) → collected_of p + k ≤ room
run_fits mode Idle room ws k e busy some = absurd (true_false (sym busy))
run_fits mode Kind room ws k e busy some = absurd (some (no_run mode k e))
run_fits mode (First t) room ws k e busy some = absurd (some (no_run mode k e))
run_fits mode (Second t a) room ws k e busy some = absurd (some (no_run mode k e))
run_fits mode (Third t a b) room ws k e busy some = absurd (some (no_run mode k e))
run_fits mode (Fourth t a b c) room ws k e busy some = absurd (some (no_run mode k e))
run_fits mode (Data t n m) room ws k e busy some =
    let x = run_of_part mode (min (length ws) (limit_of room n - m)) ws in
    omega (arith, e, some, x.1, end_in_room room n)

-- ---- parts lent for a run
pub front_long : (k : ℕ) (l : List ℕ) → k ≤ length l → k ≡ length (take k l)
front_long k l h = sym (length-take-le k l h)

-- the room with the values of words behind its first m
pub put_mid_lem : (mode m : ℕ) (ws room ys : List ℕ) → ys ≡ map (value_of mode) ws → put_mid m (m + length ws - m) room ys ≡ paste room m (map (value_of mode) ws) (length ws)
put_mid_lem mode m ws room ys e =
    mid_paste room (map (value_of mode) ws) ys m (length ws) (e ∙ sym (take_all (length ws) (map (value_of mode) ws) (omega (arith, length-map ws (value_of mode)))))

-- and of the first k of the words
ran_front : (mode k m : ℕ) (ws room : List ℕ) → k ≤ length ws
    → paste room m (map (value_of mode) (take k ws)) (length (take k ws)) ≡ paste room m (map (value_of mode) ws) k
ran_front mode k m ws room h =
    let long : length (take k ws) ≡ k = length-take-le k ws h in
    let same : take k (map (value_of mode) (take k ws)) ≡ take k (map (value_of mode) ws) =
    take_all k (map (value_of mode) (take k ws)) (omega (arith, length-map (take k ws) (value_of mode), long)) ∙ map_part (value_of mode) 0 k ws in
    ap (paste room m (map (value_of mode) (take k ws))) long ∙ ap (λ (l : List ℕ). take m room ++ l ++ drop (m + k) room) same

-- ---- the room behind a run
-- idle keeps nothing
pub idle_ran : (mode : ℕ) (p : Phase) (ws room : List ℕ) (k : ℕ) → is_busy p ≡ false → (p ≡ ran_phase p k) × (room ≡ ran_room mode p ws k room)
idle_ran mode Idle ws room k e = (refl, refl)
idle_ran mode Kind ws room k e = (refl, refl)
idle_ran mode (First t) ws room k e = (refl, refl)
idle_ran mode (Second t a) ws room k e = (refl, refl)
idle_ran mode (Third t a b) ws room k e = (refl, refl)
idle_ran mode (Fourth t a b c) ws room k e = (refl, refl)
idle_ran mode (Data t n m) ws room k e = absurd (true_false e)

-- every other phase but data has taken no word
none_kept : (mode m : ℕ) (ws room : List ℕ) (k : ℕ) → k ≡ run_of mode [] → paste room m (map (value_of mode) ws) k ≡ room
none_kept mode m ws room k e = ap (paste room m (map (value_of mode) ws)) (no_run mode k e) ∙ sym (paste-zero room m (map (value_of mode) ws))

pasted : (mode : ℕ) (p : Phase) (ws room : List ℕ) (k : ℕ) → k ≡ taken_by mode p (length room) ws → is_busy p ≡ true → paste room (collected_of p) (map (value_of mode) ws) k ≡ ran_room mode p ws k room
pasted mode Idle ws room k e busy = absurd (true_false (sym busy))
pasted mode Kind ws room k e busy = none_kept mode 0 ws room k e
pasted mode (First t) ws room k e busy = none_kept mode 0 ws room k e
pasted mode (Second t a) ws room k e busy = none_kept mode 0 ws room k e
pasted mode (Third t a b) ws room k e busy = none_kept mode 0 ws room k e
pasted mode (Fourth t a b c) ws room k e busy = none_kept mode 0 ws room k e
pasted mode (Data t n m) ws room k e busy = refl

pub ran_kept : (mode : ℕ) (p : Phase) (ws room : List ℕ) (k : ℕ) → k ≡ taken_by mode p (length room) ws → is_busy p ≡ true
    → paste room (collected_of p) (map (value_of mode) (take k ws)) (length (take k ws)) ≡ ran_room mode p ws k room
ran_kept mode p ws room k e busy =
    ran_front mode k (collected_of p) ws room (omega (arith, e, taken_within mode p (length room) ws)) ∙ pasted mode p ws room k e busy
