-- READING UNDER AN ALLOWANCE, proved: the statement is specs/Allowed.antt.
-- Assumes nothing.
use Prim.Native.Nat.{ℕ}
use mathlib.Core.Bool.{false}
use mathlib.Core.Path.{◌≡◌, refl, sym, ap, subst}
use lib.ListN.{length}
use Prim.Native.Nat.{◌+◌, ◌≤◌}
use Rattle.reader.specs.declared.state.Reader.{Reader}
use Rattle.reader.specs.declared.state.Event.TheVariants.{Refused}
use Rattle.reader.specs.State.{impossible}
use Rattle.reader.specs.Reading.{Reply}
use Rattle.reader.proofs.AtCapacity.{fresh_possible, read_possible, never_2, payload_ends}
use Rattle.demands.specs.Allowed.{Reached, is_fresh, reads, slices, Allowed}
use Rattle.demands.proofs.Demand2Holds.{demand_2}
use Rattle.demands.proofs.Demand3Holds.{demand_3}
use Rattle.demands.proofs.WithinCalls.{telling, pausing, moves, stays_possible, refused_first, opens, pauses_at_once, above_area, left_shut}
use Rattle.demands.proofs.WithinCourses.{lends_all, reads_all, pauses_by, served_by}
use Rattle.demands.proofs.Longest.{longest}

-- from a fresh reader on no state is impossible
reached_possible : (system mode : ℕ) (st : Reader) → Reached system mode st → impossible st ≡ false
reached_possible system mode _ is_fresh = fresh_possible system mode
reached_possible system mode _ (reads {st} line room r) = read_possible st line room (reached_possible system mode st r)
reached_possible system mode _ (slices {st} a line room r) = stays_possible a st line room (reached_possible system mode st r)

pub allowed : Allowed
allowed = record {
  refused = refused_first;
  none = pauses_at_once;
  opening = opens;
  used = λ a st line room e. (pausing a st line room e).1;
  met = λ a st line room e h at on. (telling a st line room e h).met at on;
  ended = λ a st q line room h at. let k = (telling a st line room _ h).ended q at refl in (sym k.0, k.1);
  moved = λ a st q next line room at to. moves a st line room q next at to;
  told = λ a st line room e h. (telling a st line room e h).same;
  paused = λ a st line room e. (pausing a st line room e).0.same;
  lends = lends_all;
  lines = reads_all;
  heard = λ system mode cs room long als hs st' room' r. demand_2.heard system mode cs room long hs (record { st' = st'; room' = room'; reads_to = reads_all als _ room _ hs st' room' r });
  handed = λ system mode cs fs x room long als hs st' room' r.
      demand_3.handed system mode cs fs x room long hs (record { st' = st'; room' = room'; reads_to = reads_all als _ room _ hs st' room' r });
  pauses = λ line al st room hs st' room' at some k. let n = pauses_by line al st room hs st' room' some k in subst (λ (m : ℕ). length al ≤ length hs + m) (left_shut st line at) n;
  served = λ line al st room hs st' room' at some k few.
      served_by line al st room hs st' room' some k (subst (λ (m : ℕ). length hs + m ≤ length al) (sym (left_shut st line at)) few);
  enough = above_area;
  possible = stays_possible;
  never_2 = λ system mode st r a line room d h.
      never_2 st (reached_possible system mode st r) line room d (ap (λ (x : Reply). x.told.event) (telling a st line room (Refused 2 d) h).same);
  calls = payload_ends;
  longest = longest;
}
