-- The walk: the word machine over words one after another, to the first report or to the words' end.
-- Assumes nothing.
use Rattle.std.specs.Prelude.{ℕ, ◌+◌, Bool, true, false, List, [], ◌∷◌, length, set}
use Rattle.lists.specs.Tests.{pick}
use Rattle.words.specs.Modes.{value_of}
use Rattle.machine.specs.declared.phase.Phase.{Phase}
use Rattle.machine.specs.declared.phase.Phase.TheVariants.{Idle, Kind, First, Second, Third, Fourth, Data}
use Rattle.machine.specs.declared.step.Met.{Met}
use Rattle.machine.specs.declared.step.Met.TheVariants.{Nothing, Whole, Lost}
use Rattle.machine.specs.declared.walk.Walked.{Walked}
use Rattle.machine.specs.Machine.{step_of}

-- what a walk leaves: the phase, what was met and how many words were taken; and the room
pub record Walk : Type 0 where
  pub answer : Walked
  pub room : List ℕ

abbrev pub leaves : Walked → List ℕ → Walk
leaves x room = record { answer = x; room = room }

abbrev pub walked_to : Phase → Met → ℕ → List ℕ → Walk
walked_to p met n room = leaves (record { phase = p; met = met; taken = n }) room

-- n words were taken before
abbrev pub past : ℕ → Walk → Walk
past n x = walked_to x.answer.phase x.answer.met (n + x.answer.taken) x.room

-- a walk stops where something is met, and else goes on
abbrev pub unless : Met → Walk → Walk → Walk
unless Nothing stop on = on
unless (Whole k n) stop on = stop
unless (Lost n) stop on = stop

abbrev pub is_nothing : Met → Bool
is_nothing Nothing = true
is_nothing (Whole k n) = false
is_nothing (Lost n) = false

-- the number collected
abbrev pub collected_of : Phase → ℕ
collected_of Idle = 0
collected_of Kind = 0
collected_of (First k) = 0
collected_of (Second k a) = 0
collected_of (Third k a b) = 0
collected_of (Fourth k a b c) = 0
collected_of (Data k n m) = m

-- Collected values fill the room from 0; no other place in it changes.
unfoldable pub stored : Bool → ℕ → ℕ → List ℕ → List ℕ
stored keeps m v room = pick keeps (set room m v) room

unfoldable pub walk_of : ℕ → Phase → List ℕ → List ℕ → Walk
walk_of mode p [] room = walked_to p Nothing 0 room
walk_of mode p (w ∷ ws) room =
    let s = step_of mode (length room) p w in
    let r = stored s.keeps (collected_of p) (value_of mode w) room in
    let on = walk_of mode s.phase ws r in
    unless s.met (walked_to s.phase s.met 1 r) (past 1 on)

-- a walk taken on over more words, unless it has stopped
abbrev pub taken_on : ℕ → List ℕ → Walk → Walk
taken_on mode ws x = unless x.answer.met x (past x.answer.taken (walk_of mode x.answer.phase ws x.room))
