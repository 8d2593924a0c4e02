-- The reader doesn't look at the gap: lines that agree outside it are read alike, by every call, in every state and with every room.
-- Assumes nothing.
use Rattle.std.specs.Prelude.{Option, Some, None}
use mathlib.Core.Path.{◌≡◌, ap, ap₂}
use mathlib.Core.Bool.{false}
use mathlib.Core.List.{List}
use Prim.Native.Nat.{ℕ, ◌+◌, ◌-◌, ◌/◌}
use native.Mathlib.Omega.{arith}
use lib.Dec.{eqb}
use lib.ListN.{length, take}
use Rattle.lists.specs.Tests.{pick}
use Rattle.line.specs.declared.check.Checked.{Checked}
use Rattle.line.specs.Systems.{system_of}
use Rattle.line.specs.Fixed.{is_variable, places_of, size_of}
use Rattle.line.specs.Layout.{payload_at}
use Rattle.line.proofs.GapLaws.{Alike, behind_alike, gap_unseen}
use Rattle.course.specs.Course.{blocks_end}
use Rattle.machine.specs.Walk.{walk_of}
use Rattle.machine.specs.Places.{places_in, walk_places}
use Rattle.reader.specs.declared.state.Reader.{Reader}
use Rattle.reader.specs.declared.state.Event.TheVariants.{Refused}
use Rattle.reader.specs.State.{capacity}
use Rattle.reader.specs.Reading.{Reply, reply, starts, words_from, walk_from, goes_from, read_fault_in, read_from, reading_in, reading}

module _ (st : Reader) (l m room : List ℕ) (a : Alike (system_of st.system) l m) where
  words_alike : (q : ℕ) → words_from st q l ≡ words_from st q m
  unfolding words_from
  words_alike q =
      let row = system_of st.system in
      ap (take (blocks_end row.payload st.settings.block st.settings.flag - q)) (behind_alike row l m a (payload_at row + q) (omega arith))

  from_alike : (p : Option ℕ) → read_from p st l room ≡ read_from p st m room
  unfolding walk_from
  from_alike None = ap (λ (c : Checked). reply (starts st c) room) (gap_unseen st.system st.mode l m a).1
  from_alike (Some q) =
      let size = size_of st.settings.block in
      let left = places_of (system_of st.system).payload st.settings.block - q / size in
      ap
      (λ (ws : List ℕ). goes_from st q (pick (is_variable st.settings.block) (walk_of st.mode st.phase ws room) (walk_places st.mode st.phase (places_in size left ws) room)))
      (words_alike q)

  pub unread_in : (c : ℕ) → reading_in c st l room ≡ reading_in c st m room
  unfolding reading_in
  unread_in c =
      ap₂
      (λ (n : ℕ) (x : Reply).
      pick (eqb (read_fault_in c st n (length room)) 0) x (reply (record { event = Refused (read_fault_in c st n (length room)) false; state = st }) room))
      a.long (from_alike st.place)

  -- the same event, state and room
  pub gap_unread : reading st l room ≡ reading st m room
  gap_unread = unread_in capacity
