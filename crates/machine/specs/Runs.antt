-- Runs of words that a phase takes with no report. No promise of a walk cites this; those of what the walks share do.
-- Assumes nothing.
use Rattle.std.specs.Prelude.{ℕ, suc, ◌+◌, ◌-◌, min, Bool, ◌&&◌, ◌||◌, List, [], ◌∷◌, map, eqb, leb, ltb, length, take}
use Rattle.std.proofs.Math.Seq.{paste}
use Rattle.lists.specs.Tests.{pick}
use Rattle.words.specs.Modes.{value_of}
use Rattle.words.specs.Class.{class_of, is_code, is_null}
use Rattle.machine.specs.declared.phase.Phase.{Phase}
use Rattle.machine.specs.declared.phase.Phase.TheVariants.{Idle, Kind, First, Second, Third, Fourth, Data}

-- a run ends at 309h and 30Ah, and in 8-bit mode at 100h
abbrev pub stops_by : ℕ → ℕ → Bool
stops_by mode w = is_code (class_of w) || (eqb mode 8 && is_null (class_of w))

-- one of the 200h numbers from low on
abbrev pub is_from : ℕ → ℕ → Bool
is_from low w = leb low w && ltb w (low + 0x200)

-- a plain word, at which none ends, is one of those from 101h on, in 9-bit mode from 100h on
abbrev pub plain_by : ℕ → ℕ → Bool
plain_by mode = is_from (pick (eqb mode 8) 0x101 0x100)

-- how many words stand before the first at which a run ends
unfoldable pub run_of : ℕ → List ℕ → ℕ
run_of mode [] = 0
run_of mode (w ∷ ws) = let on = run_of mode ws in pick (stops_by mode w) 0 (suc on)

-- how many data words a block may have: up to the count, if it is stated, and to the room's end
unfoldable pub limit_of : ℕ → ℕ → ℕ
limit_of room n = pick (eqb n 0) room (min n room)

-- how many of so many words a phase takes at once, if no run ends among them: idle all, data as many as there is space for
abbrev pub most_by : Phase → ℕ → ℕ → ℕ
most_by Idle room long = long
most_by Kind room long = 0
most_by (First k) room long = 0
most_by (Second k a) room long = 0
most_by (Third k a b) room long = 0
most_by (Fourth k a b c) room long = 0
most_by (Data k n m) room long = min long (limit_of room n - m)

-- how many words a phase takes at once
abbrev pub taken_by : ℕ → Phase → ℕ → List ℕ → ℕ
taken_by mode p room ws = run_of mode (take (most_by p room (length ws)) ws)

-- the phase and the room after k words of a run
abbrev pub ran_phase : Phase → ℕ → Phase
ran_phase Idle j = Idle
ran_phase Kind j = Kind
ran_phase (First k) j = First k
ran_phase (Second k a) j = Second k a
ran_phase (Third k a b) j = Third k a b
ran_phase (Fourth k a b c) j = Fourth k a b c
ran_phase (Data k n m) j = Data k n (m + j)

abbrev pub ran_room : ℕ → Phase → List ℕ → ℕ → List ℕ → List ℕ
ran_room mode Idle ws j room = room
ran_room mode Kind ws j room = room
ran_room mode (First k) ws j room = room
ran_room mode (Second k a) ws j room = room
ran_room mode (Third k a b) ws j room = room
ran_room mode (Fourth k a b c) ws j room = room
ran_room mode (Data k n m) ws j room = paste room m (map (value_of mode) ws) j
