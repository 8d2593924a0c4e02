-- A jump and what a reading call reports have the numbers that the state, the line and the room say.
-- Assumes nothing.
use Rattle.std.specs.Prelude.{Option, Some, None}
use mathlib.Core.Path.{◌≡◌, refl, sym, ap, ap₂, ◌∙◌}
use mathlib.Core.Bool.{Bool, true, false, ◌&&◌, not}
use mathlib.Core.List.{List, [], ◌∷◌}
use Prim.Native.Nat.{ℕ, zero, suc}
use native.Mathlib.Omega.{arith}
use lib.Dec.{eqb, eqb-suc-zero}
use lib.IntN.{ℤ, pos}
use lib.ListN.{length}
use Rattle.lists.specs.Tests.{pick}
use Rattle.lists.proofs.Tests.{pick_true, pick_false}
use Rattle.line.specs.declared.settings.Settings.{Settings}
use Rattle.line.specs.Systems.{system_of}
use Rattle.line.specs.Check.{number_of, settings_of, line_fault, checked_from, checked_of}
use Rattle.machine.specs.declared.phase.Phase.{Phase}
use Rattle.machine.specs.declared.phase.Mark.TheVariants.{Typed, Nulled}
use Rattle.machine.specs.declared.phase.Phase.TheVariants.{Idle, Kind, First, Second, Third, Fourth, Data}
use Rattle.machine.specs.declared.step.Met.{Met}
use Rattle.machine.specs.declared.step.Met.TheVariants.{Nothing, Whole, Lost}
use Rattle.machine.specs.Phases.{is_busy, met_numbers}
use Rattle.reader.specs.declared.state.Reader.{Reader}
use Rattle.reader.specs.declared.state.Event.TheVariants.{Refused}
use Rattle.reader.specs.declared.state.Told.{Told}
use Rattle.reader.specs.Jump.{jump_from, jump_numbers}
use Rattle.reader.specs.Events.{event_numbers}
use Rattle.reader.specs.Reading.{Reply, reply, refused, goes_on, begun, starts, told_by, walk_from, read_fault, read_from, reading_in, reading}
use Rattle.reader.specs.Numbers.{jump_by, is_open, refused_by, begun_by, start_by, later_by, place_by, read_by}
use Rattle.reader.proofs.Accepts.{begins_by, refuses_by}

-- ---- the jump
pub jump_numbers_lem : (lines : ℕ) (last : Option ℕ) (n : ℕ) → jump_numbers (jump_from lines last n) ≡ jump_by lines last n
jump_numbers_lem lines None n = refl
jump_numbers_lem lines (Some x) n = refl

-- ---- an open phase is one whose number is not 0
open_is : (p : Phase) → is_busy p ≡ is_open p
open_is Idle = refl
open_is Kind = refl
open_is (First (Typed k)) = refl
open_is (Second (Typed k) a) = refl
open_is (Third (Typed k) a b) = refl
open_is (Fourth (Typed k) a b c) = refl
open_is (Data (Typed k) n m) = refl
open_is (First Nulled) = refl
open_is (Second Nulled a) = refl
open_is (Third Nulled a b) = refl
open_is (Fourth Nulled a b c) = refl
open_is (Data Nulled n m) = refl

-- ---- no line begun
begun_numbers : (st : Reader) (n : ℕ) (t : Settings) → event_numbers (begun st n t).event
    ≡ begun_by n (is_open st.phase && not (goes_on st n t)) (jump_by (system_of st.system).lines st.last n)
unfolding begun
begun_numbers st n t =
    ap₂ (λ (b : Bool) (j : List ℤ). begun_by n (b && not (goes_on st n t)) j) (open_is st.phase) (jump_numbers_lem (system_of st.system).lines st.last n)

pub refuse_numbered : (st : Reader) (n : ℕ) (x : Told) → x ≡ refused st n → (x ≡ refused st n) × (event_numbers x.event ≡ refused_by n (is_open st.phase))
refuse_numbered st n x e = (e, ap (λ (y : Told). event_numbers y.event) e ∙ ap (refused_by n) (open_is st.phase))

start_by_lem : (st : Reader) (line : List ℕ) (n : ℕ) → event_numbers (starts st (checked_from n line)).event
    ≡ pick (eqb n 0) (begun_by (number_of line) (is_open st.phase && not (goes_on st (number_of line) (settings_of line))) (jump_by (system_of st.system).lines st.last (number_of line))) (refused_by n (is_open st.phase))
start_by_lem st line zero =
    ap (λ (x : Told). event_numbers x.event) (begins_by st line 0 refl) ∙ begun_numbers st (number_of line) (settings_of line) ∙ sym (pick_true _ _ refl)
start_by_lem st line (suc n) =
    ap (λ (x : Told). event_numbers x.event) (refuses_by st line (suc n) (λ e. omega arith)) ∙ ap (refused_by (suc n)) (open_is st.phase) ∙ sym (pick_false _ _ (eqb-suc-zero n))

pub start_numbers : (st : Reader) (line : List ℕ) → event_numbers (starts st (checked_of st.system st.mode line)).event ≡ start_by st line
unfolding checked_of start_by
start_numbers st line = start_by_lem st line (line_fault st.system st.mode line)

pub start_numbered : (st : Reader) (line : List ℕ) (x : Told) → x ≡ starts st (checked_of st.system st.mode line)
    → (x ≡ starts st (checked_of st.system st.mode line)) × (event_numbers x.event ≡ start_by st line)
start_numbered st line x e = (e, ap (λ (y : Told). event_numbers y.event) e ∙ start_numbers st line)

-- ---- a line begun
pub later_numbers : (st : Reader) (q : ℕ) (p : Phase) (met : Met) → event_numbers (told_by st q p met).event ≡ later_by (met_numbers met)
unfolding later_by pick
later_numbers st q p Nothing = refl
later_numbers st q p (Whole k n) = refl
later_numbers st q p (Lost n) = refl

-- ---- the call
place_numbers : (p : Option ℕ) (st : Reader) (line room : List ℕ) → event_numbers (read_from p st line room).told.event ≡ place_by p st line room
place_numbers None st line room = start_numbers st line
place_numbers (Some q) st line room = later_numbers st _ _ (walk_from st q line room).answer.met

call_by : (n : ℕ) (st : Reader) (room : List ℕ) (x : Reply) (l : List ℤ) → event_numbers x.told.event ≡ l
    → event_numbers (pick (eqb n 0) x (reply (record { event = Refused n false; state = st }) room)).told.event ≡ pick (eqb n 0) l (pos 0 ∷ pos n ∷ pos 0 ∷ [])
call_by n st room x l e = go (eqb n 0)
  where
    go : (t : Bool) → event_numbers (pick t x (reply (record { event = Refused n false; state = st }) room)).told.event ≡ pick t l (pos 0 ∷ pos n ∷ pos 0 ∷ [])
    go true = ap (λ (y : Reply). event_numbers y.told.event) (pick_true x _ refl) ∙ e ∙ sym (pick_true l _ refl)
    go false = ap (λ (y : Reply). event_numbers y.told.event) (pick_false x _ refl) ∙ sym (pick_false l _ refl)

pub read_numbers : (st : Reader) (line room : List ℕ) → event_numbers (reading st line room).told.event ≡ read_by st line room
unfolding reading_in read_by
read_numbers st line room =
    call_by (read_fault st (length line) (length room)) st room (read_from st.place st line room) (place_by st.place st line room) (place_numbers st.place st line room)

pub reads_numbered : (st : Reader) (line room : List ℕ) (x : Reply) → x ≡ reading st line room → (x ≡ reading st line room) × (event_numbers x.told.event ≡ read_by st line room)
reads_numbered st line room x e = (e, ap (λ (y : Reply). event_numbers y.told.event) e ∙ read_numbers st line room)
