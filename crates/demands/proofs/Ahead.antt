-- What holds between a writer's desk and an ear that every line closed so far has come to, each kept, removed or replaced.
-- `keeps i` tells whether line i is kept; `cap` is the room's length.
-- Assumes nothing.
use Rattle.std.specs.Prelude.{Option, Some, None}
use Prim.Native.Nat.{ℕ, suc, ◌≤◌}
use mathlib.Core.Bool.{Bool, true, false, ◌&&◌, not}
use mathlib.Core.List.{List, [], ◌∷◌, ◌++◌, map}
use mathlib.Core.Path.{◌≡◌}
use native.Mathlib.Omega.{arith}
use lib.ListN.{length}
use Rattle.line.specs.Systems.{system_of}
use Rattle.line.specs.Fixed.{is_variable}
use Rattle.course.specs.Course.{is_at}
use Rattle.writer.specs.State.{most, is_part}
use Rattle.writer.specs.Opening.{is_next}
use Rattle.writer.specs.Filling.{joined}
use Rattle.machine.specs.declared.phase.Phase.TheVariants.{Idle}
use Rattle.machine.specs.Phases.{is_busy}
use Rattle.reader.specs.Jump.{jump_from}
use Rattle.demands.specs.Sending.{Call, opens, adds, packs, closes, Block, Piece, Sent, Desk, joined_pieces}
use Rattle.demands.specs.Hearing.{Heard, is_refused, is_begun, is_block, is_end}
use Rattle.demands.specs.Damage.{Fate, kept, removed, replaced, is_kept, all_on, survivors}
use Rattle.demands.proofs.Run.{Now, now, idle, run_to, run_out, places_to, places_out}
use Rattle.demands.proofs.Ear.{Ear, goes_on_in, start_now}

abbrev pub blocks_heard : List Block → List Heard
blocks_heard bs = map is_block bs

-- ---- the machine and an unfinished block
-- the machine stands behind the words of these pieces
pub record Behind (mode cap : ℕ) (ps : List Piece) (q : Now) : Type 0 where
  pub from : List ℕ
  pub from_long : length from ≡ cap
  pub is : q ≡ run_to mode (idle from) (joined_pieces ps)

-- behind what was laid, if all of it was kept; idle, if something was lost
pub record Matches (mode cap : ℕ) (keeps : ℕ → Bool) (ps : List Piece) (q : Now) : Type 0 where
  pub long : length q.room ≡ cap
  pub whole : all_on keeps ps ≡ true → Behind mode cap ps q
  pub lost : all_on keeps ps ≡ false → q.phase ≡ Idle

-- ---- inside an open line that is kept: the ear starts on its area in q
pub record ByWords (mode cap : ℕ) (keeps : ℕ → Bool) (d : Desk) (q : Now) : Type 0 where
  pub heard : run_out mode q (joined d.now.pieces) ≡ blocks_heard (survivors keeps d.now.blocks)
  pub matches : Matches mode cap keeps d.pieces (run_to mode q (joined d.now.pieces))

pub record ByPlaces (mode cap : ℕ) (keeps : ℕ → Bool) (d : Desk) (q : Now) : Type 0 where
  pub heard : places_out mode q.room d.now.pieces ≡ blocks_heard (survivors keeps d.now.blocks)
  pub phase : q.phase ≡ Idle
  pub long : length (places_to mode q.room d.now.pieces) ≡ cap

pub record Inside (mode cap : ℕ) (keeps : ℕ → Bool) (d : Desk) (q : Now) : Type 0 where
  pub by_words : is_variable d.now.settings.block ≡ true → ByWords mode cap keeps d q
  pub by_places : is_variable d.now.settings.block ≡ false → ByPlaces mode cap keeps d q

-- ---- between two lines
-- there is a last number
abbrev pub is_known : Option ℕ → Bool
is_known None = false
is_known (Some x) = true

-- Behind a kept line, with all of an unfinished block kept. `told`: calls may move the writer's last number, so that it is not the ear's.
pub record Stands (told : Bool) (d : Desk) (e : Ear) : Type 0 where
  pub known : is_known e.last ≡ true
  pub last : told ≡ false → e.last ≡ d.writer.last
  pub settings : e.settings ≡ d.writer.settings

-- `gone`: lines were removed since the last line that came
pub record Between (mode cap : ℕ) (keeps : ℕ → Bool) (told : Bool) (d : Desk) (e : Ear) (gone : Bool) : Type 0 where
  pub here : gone ≡ false → Matches mode cap keeps d.pieces (now e.phase e.room)
  pub same : gone ≡ false → is_part d.writer.rest ≡ true → all_on keeps d.pieces ≡ true → Stands told d e
  pub away : gone ≡ true → is_part d.writer.rest ≡ true → all_on keeps d.pieces ≡ false

-- the last number, if there is one, is a line's
abbrev pub Numbered : ℕ → Option ℕ → Type 0
Numbered lines None = Unit {0}
Numbered lines (Some x) = (1 ≤ x) × (x ≤ lines)

pub record Listens (lines cap : ℕ) (e : Ear) : Type 0 where
  pub long : length e.room ≡ cap
  pub numbered : Numbered lines e.last

-- lines removed before this one are noticed; and where the writer's last number does not tell it, this one has the next number if none was removed
abbrev pub Noted : ℕ → Bool → Option ℕ → Bool → ℕ → Type 0
Noted lines told before gone n = (gone ≡ true → is_next lines before n ≡ false) × (told ≡ true → gone ≡ false → is_known before ≡ true → is_next lines before n ≡ true)

pub record Ahead (system mode cap : ℕ) (keeps : ℕ → Bool) (told gone : Bool) (d : Desk) (e : Ear) : Type 0 where
  pub listens : Listens (system_of system).lines cap e
  pub between : d.writer.place ≡ None → Between mode cap keeps told d e gone
  pub inside : is_at d.writer.place ≡ true → keeps d.closed ≡ true → Noted (system_of system).lines told e.last gone d.now.number
      → Inside mode cap keeps d (start_now system mode e d.now.number d.now.settings)
  pub none_dropped : is_at d.writer.place ≡ true → Noted (system_of system).lines told e.last gone d.now.number → gone ≡ false → (is_busy e.phase && not (goes_on_in system mode e d.now.number d.now.settings)) ≡ false
  pub missing : keeps d.closed ≡ false → (p : ℕ) → d.writer.place ≡ Some p → 1 ≤ p → is_part d.writer.rest ≡ true → all_on keeps d.pieces ≡ false

-- ---- the room is long enough for each block that a call still to come may add
abbrev pub RoomFor : ℕ → Call → Type 0
RoomFor cap (opens f v n t held lent) = Unit {0}
RoomFor cap (adds kind vs) = length vs ≤ most → length vs ≤ cap
RoomFor cap (packs did second p q vs) = Unit {0}
RoomFor cap closes = Unit {0}

pub room_for : (cap : ℕ) → most ≤ cap → (c : Call) → RoomFor cap c
room_for cap h (opens f v n t held lent) = tt
room_for cap h (adds kind vs) = λ l. omega (arith, l, h)
room_for cap h (packs did second p q vs) = tt
room_for cap h closes = tt

-- ---- the fates of the lines still to come
abbrev pub Agrees : (ℕ → Bool) → ℕ → List Fate → Type 0
Agrees keeps i [] = Unit {0}
Agrees keeps i (f ∷ fs) = (keeps i ≡ is_kept f) × Agrees keeps (suc i) fs

-- a line behind removed ones does not have the next number
abbrev pub Noticed : ℕ → Bool → Option ℕ → Bool → List Fate → List Sent → Type 0
Noticed lines told before gone [] ss = Unit {0}
Noticed lines told before gone (f ∷ fs) [] = Unit {0}
Noticed lines told before gone (kept ∷ fs) (s ∷ ss) = Noted lines told before gone s.number × Noticed lines told (Some s.number) false fs ss
Noticed lines told before gone (removed ∷ fs) (s ∷ ss) = Noticed lines told before true fs ss
Noticed lines told before gone (replaced ws ∷ fs) (s ∷ ss) = Noticed lines told None false fs ss

-- ---- what is heard: of each line kept, that it is begun, with nothing dropped unless lines were removed before it, then the surviving blocks
-- finished on it, then its end; of each line replaced, a refusal with 3 to 16
pub data Tells (lines : ℕ) (keeps : ℕ → Bool) : Option ℕ → Bool → List Fate → List Sent → List Heard → Type 0 where
  nothing_more : {before : Option ℕ} {gone : Bool} {fs : List Fate} → Tells lines keeps before gone fs [] []
  one_kept : {before : Option ℕ} {gone : Bool} {fs : List Fate} {s : Sent} {ss : List Sent} {hs : List Heard} (dropped : Bool) → (gone ≡ false → dropped ≡ false)
      → Tells lines keeps (Some s.number) false fs ss hs
      → Tells lines keeps before gone (kept ∷ fs) (s ∷ ss)
      (is_begun s.number (jump_from lines before s.number) dropped s.settings ∷ (blocks_heard (survivors keeps s.blocks) ++ (is_end ∷ hs)))
  one_removed : {before : Option ℕ} {gone : Bool} {fs : List Fate} {s : Sent} {ss : List Sent} {hs : List Heard}
      → Tells lines keeps before true fs ss hs → Tells lines keeps before gone (removed ∷ fs) (s ∷ ss) hs
  one_replaced : {before : Option ℕ} {gone : Bool} {ws : List ℕ} {fs : List Fate} {s : Sent} {ss : List Sent} {hs : List Heard} (k : ℕ) (dropped : Bool) → 3 ≤ k
      → Tells lines keeps None false fs ss hs → Tells lines keeps before gone (replaced ws ∷ fs) (s ∷ ss) (is_refused k dropped ∷ hs)
