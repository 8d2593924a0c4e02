-- The listing of a line's gap: the whole answer, and what is lent for the list.
-- Assumes nothing.
use Rattle.std.specs.Prelude.{ℕ, ◌-◌, ◌&&◌, not, List, ◌∷◌, ◌++◌, eqb, length, drop}
use Rattle.lists.specs.Tests.{pick, Refusal, when, lowest_of}
use Rattle.lists.specs.Lists.{part}
use Rattle.line.specs.declared.systems.System.{System}
use Rattle.line.specs.Systems.{system_of}
use Rattle.line.specs.Layout.{gap_at, sav_at}
use Rattle.line.specs.Check.{fits, faults}
use Rattle.packets.specs.declared.list.Listed.{Listed}
use Rattle.packets.specs.Packet.{packed, flat}
use Rattle.packets.specs.Gap.{Found, list_in}

-- the words between header and SAV
abbrev pub gap_length : System → ℕ
gap_length s = sav_at s - gap_at

unfoldable pub gap_of : System → List ℕ → List ℕ
gap_of s line = part gap_at (gap_length s) line

-- what the listing leaves: the answer, and the words lent for the list
pub record Outcome : Type 0 where
  pub answer : Listed
  pub out : List ℕ

abbrev pub outcome : Listed → List ℕ → Outcome
outcome a o = record { answer = a; out = o }

-- 1: unknown system or mode, line not L long, or out not as long as the gap; then the line check's 3 to 16
abbrev pub list_faults : ℕ → ℕ → List ℕ → ℕ → List Refusal
list_faults system mode line room = when 1 (not (fits system mode line && eqb room (gap_length (system_of system)))) ∷ faults (system_of system) mode line

unfoldable pub list_fault : ℕ → ℕ → List ℕ → ℕ → ℕ
list_fault system mode line room = lowest_of (list_faults system mode line room)

-- no packet listed
abbrev pub none_listed : ℕ → ℕ → Listed
none_listed fault stop = record { fault = fault; packets = 0; words = 0; gap = 0; stop = stop }

-- the packets flat at the start of out, the rest of it unchanged; a bad packet's number stands apart, in stop
abbrev pub listed_of : Found → List ℕ → Outcome
listed_of x out =
    let ps = x.packets in
    outcome (record { fault = 0; packets = length ps; words = length (flat ps); gap = length (packed ps); stop = x.stop }) (flat ps ++ drop (length (flat ps)) out)

-- a refusal leaves out
unfoldable pub listing : ℕ → ℕ → List ℕ → List ℕ → Outcome
listing system mode line out =
    let fault = list_fault system mode line (length out) in
    pick (eqb fault 0) (listed_of (list_in (gap_of (system_of system) line)) out) (outcome (none_listed fault 0) out)
