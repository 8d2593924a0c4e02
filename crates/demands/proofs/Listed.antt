-- What is listed of a sent line is what was laid in its gap; and what is listed of any accepted line is the first words of its gap.
-- Assumes nothing.
use mathlib.Core.Path.{◌≡◌, sym, ap, ◌∙◌}
use mathlib.Core.Bool.{true}
use mathlib.Core.List.{List, [], ◌++◌}
use Prim.Native.Nat.{ℕ, ◌+◌, ◌-◌}
use lib.ListN.{length}
use Rattle.line.specs.Systems.{system_of}
use Rattle.line.specs.Layout.{gap_at, sav_at, end_words, line_words}
use Rattle.line.specs.declared.check.Checked.{Checked}
use Rattle.line.specs.Check.{line_fault}
use Rattle.packets.specs.Packet.{packed}
use Rattle.packets.specs.Gap.{Found, list_in}
use Rattle.packets.specs.Listing.{gap_length, gap_of, listed_of}
use Rattle.packets.proofs.ListLaws.{list_back, list_there, filler_none}
use Rattle.packets.proofs.ListingLaws.{checked_fault, list_done}
use Rattle.writer.specs.Closing.{closing}
use Rattle.writer.specs.Filling.{area_from}
use Rattle.writer.proofs.Packs.{framed_gap}
use Rattle.demands.specs.All.{All}
use Rattle.demands.specs.Sending.{Call, Sent, Desk, with, sent_by}
use Rattle.demands.specs.Demand2.{IsListed, Relists}
use Rattle.demands.proofs.DeskOk.{DeskOk}
use Rattle.demands.proofs.Outcomes.{Closes}
use Rattle.demands.proofs.DeskCloses.{closes_say}
use Rattle.demands.proofs.DeskDoes.{Does, is_quiet, is_opened, is_finished, is_unfinished, is_closed}
use Rattle.demands.proofs.DeskLaws.{along}

-- ---- any accepted line
pub relists : (system mode : ℕ) (line out : List ℕ) → line_fault system mode line ≡ 0 → length out ≡ gap_length (system_of system) → Relists system mode line out
relists system mode line out clean long =
    let x = list_in (gap_of (system_of system) line) in
    record { packets = x.packets; stop = x.stop; listed = list_done system mode line out long clean; again = list_back (gap_of (system_of system) line) }

-- ---- a line that is closed
module _ (system mode : ℕ) where
  closed_listed : (d : Desk) → Closes system mode d → IsListed system mode (with d.now d.now.pieces d.now.blocks (closing d.writer d.now.words).line)
  unfolding line_words
  closed_listed d c out long =
      let s = system_of system in
      let line = (closing d.writer d.now.words).line in
      let laid = packed d.now.packets in
      let area = area_from s.payload d.now.settings.flag d.now.pieces in
      let clean : line_fault system mode line ≡ 0 = sym (checked_fault system mode line []) ∙ ap (λ (x : Checked). x.fault) c.accepts.checked in
      let gap = ap (gap_of s) c.is ∙ framed_gap s d.now.f d.now.v d.now.number d.now.settings c.held laid (area ++ end_words d.now.settings.flag area) c.holds in
      let list = ap list_in gap ∙ list_there d.now.packets _ c.sound (filler_none (gap_at + length laid) (sav_at s - gap_at - length laid)) in
      list_done system mode line out long clean ∙ ap (λ (x : Found). listed_of x out) list

  listed_by : (d : Desk) (c : Call) (d' : Desk) (ts : List Sent) → Does true d c d' ts → DeskOk system mode d → DeskOk system mode d' → (cs : List Call) (ss : List Sent)
      → All (IsListed system mode) ss → All (IsListed system mode) (ts ++ ss)
  listed_by d c _ _ (is_quiet w qs ws q) dk k cs ss more = more
  listed_by d _ _ _ (is_opened f v n t held lent e) dk k cs ss more = more
  listed_by d _ _ _ (is_finished kind vs clear e) dk k cs ss more = more
  listed_by d _ _ _ (is_unfinished kind vs clear e) dk k cs ss more = more
  listed_by d _ _ _ (is_closed e) dk k cs ss more = (closed_listed d (closes_say system mode d dk e), more)

  pub listed_hold : (cs : List Call) (d : Desk) → DeskOk system mode d → All (IsListed system mode) (sent_by d cs)
  listed_hold = along system mode true (λ (d : Desk) (cs : List Call) (ss : List Sent). All (IsListed system mode) ss) (λ d. tt) listed_by
