-- A whole head taken at once is the machine's own six steps: each of its words reports nothing and keeps nothing.
-- Assumes nothing.
use mathlib.Core.Path.{◌≡◌, refl, sym, ap, ◌∙◌, subst}
use mathlib.Core.Bool.{Bool, true, false, ◌&&◌, not}
use mathlib.Core.List.{List, [], ◌∷◌}
use Prim.Native.Nat.{ℕ, ◌+◌, ◌*◌, ◌%◌, ◌≤◌, ◌<◌}
use native.Mathlib.Omega.{arith}
use lib.Dec.{T, eqb, leb}
use Rattle.std.specs.List.{fold}
use Rattle.std.proofs.Math.Bool.{and_assoc, and-true}
use lib.ListN.{length, get_or, take, drop}
use borrow.Author.Tests.{leb-true, eqb-true, le-ltb, le-leb, lt-leb, not-true}
use Rattle.lists.specs.Tests.{pick}
use Rattle.lists.specs.Lists.{each}
use Rattle.lists.proofs.Tests.{pick_false, both_true, and_none}
use Rattle.words.specs.Forms.{is_byte}
use Rattle.words.specs.Modes.{value_of}
use Rattle.words.specs.Class.{class_of, separator}
use Rattle.words.specs.declared.class.Class.TheVariants.{Byte, Separator}
use Rattle.words.proofs.ClassLaws.{class_byte}
use Rattle.machine.specs.declared.phase.Mark.{Mark}
use Rattle.machine.specs.declared.phase.Mark.TheVariants.{Typed}
use Rattle.machine.specs.declared.phase.Phase.{Phase}
use Rattle.machine.specs.declared.phase.Phase.TheVariants.{Idle, Kind, First, Second, Third, Fourth, Data}
use Rattle.machine.specs.Machine.{on, counted, step_by, step_of}
use Rattle.machine.specs.Phases.{is_busy}
use Rattle.machine.specs.Walk.{Walk, past, collected_of, stored, walk_of}
use Rattle.machine.specs.Heads.{count_at, head_stands, head_of, head_taken, head_phase}
use Rattle.machine.proofs.StepLaws.{step_classed}
use Rattle.machine.proofs.WalkLaws.{past_zero, past_past, word_goes}

-- ---- a test of each word
pub folded_each : (ok : Bool) (ws : List ℕ) → fold (λ (b : Bool) (w : ℕ). b && is_byte w) ok ws ≡ (ok && each is_byte ws)
folded_each ok [] = sym (and-true ok)
folded_each ok (w ∷ ws) = folded_each (ok && is_byte w) ws ∙ and_assoc ok (is_byte w) (each is_byte ws)

-- ---- a word that only leads from one phase to another
nothing_stored : (m v : ℕ) (room : List ℕ) → room ≡ stored false m v room
unfolding stored pick
nothing_stored m v room = refl

leads : (mode : ℕ) (p q : Phase) (w : ℕ) (ws room : List ℕ) → step_of mode (length room) p w ≡ on q → walk_of mode p (w ∷ ws) room ≡ past 1 (walk_of mode q ws room)
leads mode p q w ws room e = word_goes mode p w ws room (on q) (sym e) room (nothing_stored (collected_of p) (value_of mode w) room) refl

-- and k words more behind it
leads_on : (mode : ℕ) (p q : Phase) (w : ℕ) (ws room : List ℕ) (k : ℕ) (x : Walk) → step_of mode (length room) p w ≡ on q → walk_of mode q ws room ≡ past k x
    → walk_of mode p (w ∷ ws) room ≡ past (1 + k) x
leads_on mode p q w ws room k x e f = leads mode p q w ws room e ∙ ap (past 1) f ∙ past_past 1 k x

-- a word in byte form, by its phase
byte_step : (mode room : ℕ) (p : Phase) (w : ℕ) → is_byte w ≡ true → step_of mode room p w ≡ step_by mode room p Byte (w % 256)
byte_step mode room p w b = sym (step_classed mode room p w Byte (sym (class_byte w b)))

-- a count of at most the room's length
count_fits : (room : ℕ) (k : Mark) (n : ℕ) → n ≤ room → counted room k n ≡ on (Data k n 0)
unfolding counted
count_fits room k n h = pick_false _ _ (le-ltb room n h)

separator_class : (w : ℕ) → w ≡ separator → Separator ≡ class_of w
unfolding class_of is_byte pick
separator_class w e = sym (ap class_of e)

-- ---- the six steps
head_steps : (mode : ℕ) (a b c d e f : ℕ) (ws room : List ℕ) → a ≡ separator → is_byte b ≡ true → is_byte c ≡ true → is_byte d ≡ true → is_byte e ≡ true → is_byte f ≡ true
    → c % 256 + d % 256 * 256 + e % 256 * 65536 + f % 256 * 16777216 ≤ length room
    → walk_of mode Idle (a ∷ b ∷ c ∷ d ∷ e ∷ f ∷ ws) room
    ≡ past 6 (walk_of mode (Data (Typed (b % 256)) (c % 256 + d % 256 * 256 + e % 256 * 65536 + f % 256 * 16777216) 0) ws room)
head_steps mode a b c d e f ws room ha hb hc hd he hf fits =
    let long = length room in
    let k = Typed (b % 256) in
    leads_on mode Idle Kind a _ room 5 _ (sym (step_classed mode long Idle a Separator (separator_class a ha)))
    (leads_on mode Kind (First k) b _ room 4 _ (byte_step mode long Kind b hb)
    (leads_on mode (First k) (Second k (c % 256)) c _ room 3 _ (byte_step mode long (First k) c hc)
    (leads_on mode (Second k (c % 256)) (Third k (c % 256) (d % 256)) d _ room 2 _ (byte_step mode long (Second k (c % 256)) d hd)
    (leads_on mode (Third k (c % 256) (d % 256)) (Fourth k (c % 256) (d % 256) (e % 256)) e _ room 1 _ (byte_step mode long (Third k (c % 256) (d % 256)) e he)
    (leads mode (Fourth k (c % 256) (d % 256) (e % 256)) _ f ws room
    (byte_step mode long (Fourth k (c % 256) (d % 256) (e % 256)) f hf ∙ count_fits long k _ fits))))))

-- ---- a head that stands
pub head_long : (room : ℕ) (ws : List ℕ) → head_stands room ws ≡ true → 6 ≤ length ws
unfolding head_stands
head_long room ws h = leb-true 6 (length ws) (both_true (leb 6 (length ws)) _ h).0

short : (room : ℕ) (ws : List ℕ) {A : Type 0} → head_stands room ws ≡ true → length ws ≤ 5 → A
short room ws h few = absurd (omega (arith, head_long room ws h))

head_parts : (mode : ℕ) (a b c d e f : ℕ) (ws room : List ℕ) → head_stands (length room) (a ∷ b ∷ c ∷ d ∷ e ∷ f ∷ ws) ≡ true
    → walk_of mode Idle (a ∷ b ∷ c ∷ d ∷ e ∷ f ∷ ws) room
    ≡ past 6 (walk_of mode (Data (Typed (b % 256)) (c % 256 + d % 256 * 256 + e % 256 * 65536 + f % 256 * 16777216) 0) ws room)
unfolding head_stands
head_parts mode a b c d e f ws room h =
    let s = both_true (leb 6 (length (a ∷ b ∷ c ∷ d ∷ e ∷ f ∷ ws))) _ h in
    let x = both_true (eqb a separator) _ s.1 in
    let y = both_true (each is_byte (b ∷ c ∷ d ∷ e ∷ f ∷ [])) _ x.1 in
    let hb = both_true (is_byte b) _ y.0 in
    let hc = both_true (is_byte c) _ hb.1 in
    let hd = both_true (is_byte d) _ hc.1 in
    let he = both_true (is_byte e) _ hd.1 in
    let hf = both_true (is_byte f) true he.1 in
    head_steps mode a b c d e f ws room (eqb-true a separator x.0) hb.0 hc.0 hd.0 he.0 hf.0 (leb-true _ (length room) y.1)

head_taken_lem : (mode : ℕ) (ws room : List ℕ) → head_stands (length room) ws ≡ true
    → walk_of mode Idle ws room ≡ past 6 (walk_of mode (Data (Typed (get_or ws 1 0 % 256)) (count_at ws) 0) (drop 6 ws) room)
head_taken_lem mode [] room h = short (length room) [] h (omega arith)
head_taken_lem mode (a ∷ []) room h = short (length room) (a ∷ []) h (omega arith)
head_taken_lem mode (a ∷ b ∷ []) room h = short (length room) (a ∷ b ∷ []) h (omega arith)
head_taken_lem mode (a ∷ b ∷ c ∷ []) room h = short (length room) (a ∷ b ∷ c ∷ []) h (omega arith)
head_taken_lem mode (a ∷ b ∷ c ∷ d ∷ []) room h = short (length room) (a ∷ b ∷ c ∷ d ∷ []) h (omega arith)
head_taken_lem mode (a ∷ b ∷ c ∷ d ∷ e ∷ []) room h = short (length room) (a ∷ b ∷ c ∷ d ∷ e ∷ []) h (omega arith)
head_taken_lem mode (a ∷ b ∷ c ∷ d ∷ e ∷ f ∷ ws) room h = head_parts mode a b c d e f ws room h

-- ---- the tests in their order
module _ (room : ℕ) (ws : List ℕ) where
  pub head_short : length ws < 6 → head_stands room ws ≡ false
  unfolding head_stands
  head_short h = ap (λ (b : Bool). b && (eqb (get_or ws 0 0) separator && (each is_byte (take 5 (drop 1 ws)) && leb (count_at ws) room))) (lt-leb 6 (length ws) h)

  module _ (p : Phase) where
    pub head_not : head_stands room ws ≡ false → head_of room p ws ≡ false
    unfolding head_of
    head_not e = and_none (not (is_busy p)) (head_stands room ws) e

    pub head_none : head_of room p ws ≡ false → (0 ≡ head_taken room p ws) × (p ≡ head_phase room p ws)
    head_none e = (sym (pick_false _ _ e), sym (pick_false _ _ e))

-- ---- taken or not
pub head_within : (room : ℕ) (p : Phase) (ws : List ℕ) → head_taken room p ws ≤ length ws
unfolding head_of pick
head_within room p ws = go (head_of room p ws) refl
  where
    go : (t : Bool) → head_of room p ws ≡ t → pick t 6 0 ≤ length ws
    go true e = head_long room ws (both_true (not (is_busy p)) (head_stands room ws) e).1
    go false e = omega arith

idle_phase : (p : Phase) → is_busy p ≡ false → p ≡ Idle
idle_phase Idle e = refl
idle_phase Kind e = absurd (subst T e tt)
idle_phase (First k) e = absurd (subst T e tt)
idle_phase (Second k x) e = absurd (subst T e tt)
idle_phase (Third k x y) e = absurd (subst T e tt)
idle_phase (Fourth k x y z) e = absurd (subst T e tt)
idle_phase (Data k n m) e = absurd (subst T e tt)

pub head_led : (mode : ℕ) (p : Phase) (ws room : List ℕ)
    → walk_of mode p ws room ≡ past (head_taken (length room) p ws) (walk_of mode (head_phase (length room) p ws) (drop (head_taken (length room) p ws) ws) room)
unfolding head_of pick
head_led mode p ws room = go (head_of (length room) p ws) refl
  where
    D : Phase
    D = Data (Typed (get_or ws 1 0 % 256)) (count_at ws) 0

    go : (t : Bool) → head_of (length room) p ws ≡ t → walk_of mode p ws room ≡ past (pick t 6 0) (walk_of mode (pick t D p) (drop (pick t 6 0) ws) room)
    go true e =
        let b = both_true (not (is_busy p)) (head_stands (length room) ws) e in
        ap (λ (q : Phase). walk_of mode q ws room) (idle_phase p (not-true _ b.0)) ∙ head_taken_lem mode ws room b.1
    go false e = sym (past_zero (walk_of mode p ws room))

-- ---- a head by its own six words
-- the words behind them are not asked
abbrev pub six_of : List ℕ → List ℕ
six_of ws = get_or ws 0 0 ∷ get_or ws 1 0 ∷ get_or ws 2 0 ∷ get_or ws 3 0 ∷ get_or ws 4 0 ∷ get_or ws 5 0 ∷ []

stands_alone : (room : ℕ) (ws : List ℕ) → 6 ≤ length ws → head_stands room (six_of ws) ≡ head_stands room ws
unfolding head_stands
stands_alone room [] h = absurd (omega arith)
stands_alone room (a ∷ []) h = absurd (omega arith)
stands_alone room (a ∷ b ∷ []) h = absurd (omega arith)
stands_alone room (a ∷ b ∷ c ∷ []) h = absurd (omega arith)
stands_alone room (a ∷ b ∷ c ∷ d ∷ []) h = absurd (omega arith)
stands_alone room (a ∷ b ∷ c ∷ d ∷ e ∷ []) h = absurd (omega arith)
stands_alone room (a ∷ b ∷ c ∷ d ∷ e ∷ f ∷ ws) h =
    let ok = eqb a separator && (each is_byte (b ∷ c ∷ d ∷ e ∷ f ∷ []) && leb (count_at (a ∷ b ∷ c ∷ d ∷ e ∷ f ∷ [])) room) in
    ap (λ (x : Bool). x && ok) (sym (le-leb 6 (length (a ∷ b ∷ c ∷ d ∷ e ∷ f ∷ ws)) h))

pub head_six : (room : ℕ) (p : Phase) (ws : List ℕ) → 6 ≤ length ws
    → (head_taken room p (six_of ws) ≡ head_taken room p ws) × (head_phase room p (six_of ws) ≡ head_phase room p ws)
unfolding head_of
head_six room p ws h =
    let e = ap (λ (b : Bool). not (is_busy p) && b) (stands_alone room ws h) in
    (ap (λ (b : Bool). pick b 6 0) e, ap (λ (b : Bool). pick b (Data (Typed (get_or ws 1 0 % 256)) (count_at ws) 0) p) e)
