-- A reader's state that is possible and of bytes is held, and so is what a reading call leaves of it, with an allowance or without, whatever is lent.
-- Assumes nothing.
use Rattle.std.specs.Prelude.{Option, Some, None}
use Prim.Native.Nat.{ℕ, ◌+◌, ◌/◌}
use mathlib.Core.Bool.{true, false}
use mathlib.Core.List.{List}
use mathlib.Core.Path.{◌≡◌, refl, ap, ◌∙◌}
use lib.Dec.{eqb}
use lib.ListN.{length, take}
use Rattle.lists.proofs.Tests.{pick_elim}
use Rattle.line.specs.Settings.{small}
use Rattle.line.specs.Fixed.{is_variable}
use Rattle.line.specs.Check.{checked_of}
use Rattle.machine.specs.declared.phase.Phase.{Phase}
use Rattle.machine.specs.declared.step.Met.{Met}
use Rattle.machine.specs.declared.step.Met.TheVariants.{Nothing, Whole, Lost}
use Rattle.machine.specs.Phases.{is_busy}
use Rattle.machine.specs.Walk.{Walk}
use Rattle.machine.specs.Places.{walk_places}
use Rattle.reader.specs.declared.state.Reader.{Reader}
use Rattle.reader.specs.declared.state.Told.{Told}
use Rattle.reader.specs.declared.within.Within.{Within}
use Rattle.reader.specs.State.{capacity, fresh, impossible}
use Rattle.reader.specs.Reading.{Reply, goes_on, begun, starts, words_from, walk_from, told_by, read_fault_in, read_from, reading_in, reading}
use Rattle.reader.specs.Within.{Sliced, is_pause, unit_of, walk_within, goes_within, within_from, within_in, within}
use Rattle.reader.proofs.Ready.{phase_of}
use Rattle.reader.proofs.AtCapacity.{course_of, fresh_possible, read_possible}
use Rattle.demands.proofs.WithinCalls.{stays_possible}
use Rattle.images.specs.Held.{HeldReader}
use Rattle.hosted.proofs.CourseHeld.{last_by, place_by_lem}
use Rattle.hosted.proofs.SettingsHeld.{Octets, zero_octets, checked_octets}
use Rattle.hosted.proofs.PhaseHeld.{of_bytes, phase_by_lem, walk_bytes, places_phase}

-- system, mode, settings, type and count bytes are bytes
pub record OfBytes (st : Reader) : Type 0 where
  pub system_byte : small st.system ≡ true
  pub mode_byte : small st.mode ≡ true
  pub settings : Octets st.settings
  pub phase : of_bytes st.phase ≡ true

pub held_by : (st : Reader) → OfBytes st → impossible st ≡ false → HeldReader st
held_by st b p =
    let c = course_of st p in
    record {
      system_byte = b.system_byte;
      mode_byte = b.mode_byte;
      last_held = last_by st.system st.last st.settings st.place (is_busy st.phase) c;
      place_held = place_by_lem st.system st.last st.settings st.place (is_busy st.phase) c;
      phase_held = phase_by_lem st.phase b.phase (phase_of capacity st p);
      code_byte = b.settings.code_byte;
      aai_byte = b.settings.aai_byte;
      settings_held = b.settings.held;
    }

-- ---- a line's start
start_bytes_lem : (st : Reader) (line : List ℕ) → OfBytes st → OfBytes (starts st (checked_of st.system st.mode line)).state
unfolding starts begun
start_bytes_lem st line b =
    let c = checked_of st.system st.mode line in
    pick_elim (λ (x : Told). OfBytes x.state) (eqb c.fault 0)
    (λ h.
    record {
      system_byte = b.system_byte;
      mode_byte = b.mode_byte;
      settings = checked_octets st.system st.mode line;
      phase = pick_elim (λ (p : Phase). of_bytes p ≡ true) (goes_on st c.number c.settings) (λ g. b.phase) (λ g. refl);
    })
    (λ h. record { system_byte = b.system_byte; mode_byte = b.mode_byte; settings = b.settings; phase = refl })

-- ---- a line begun
abbrev Walked : Walk → Type 0
Walked x = of_bytes x.answer.phase ≡ true

module _ (st : Reader) (b : OfBytes st) where
  told_bytes : (i : ℕ) (p : Phase) (met : Met) → of_bytes p ≡ true → OfBytes (told_by st i p met).state
  told_bytes i p Nothing e = record { system_byte = b.system_byte; mode_byte = b.mode_byte; settings = b.settings; phase = e }
  told_bytes i p (Whole k n) e = record { system_byte = b.system_byte; mode_byte = b.mode_byte; settings = b.settings; phase = e }
  told_bytes i p (Lost n) e = record { system_byte = b.system_byte; mode_byte = b.mode_byte; settings = b.settings; phase = e }

  places_bytes : (xs : List (List ℕ)) (room : List ℕ) → Walked (walk_places st.mode st.phase xs room)
  places_bytes xs room = ap of_bytes (places_phase st.mode st.phase xs room) ∙ b.phase

  from_bytes : (q : ℕ) (line room : List ℕ) → Walked (walk_from st q line room)
  unfolding walk_from
  from_bytes q line room =
      pick_elim Walked (is_variable st.settings.block) (λ h. walk_bytes st.mode st.phase (words_from st q line) room b.phase) (λ h. places_bytes _ room)

  under_bytes : (a q : ℕ) (line room : List ℕ) → Walked (walk_within a st q line room)
  unfolding walk_within
  under_bytes a q line room =
      pick_elim Walked (is_variable st.settings.block) (λ h. walk_bytes st.mode st.phase (take a (words_from st q line)) room b.phase) (λ h. places_bytes _ room)

  goes_bytes : (a q : ℕ) (x : Walk) → Walked x → OfBytes (goes_within a st q x).answer.state
  unfolding goes_within
  goes_bytes a q x e =
      pick_elim (λ (y : Within). OfBytes y.state) (is_pause a (x.answer.taken / unit_of st.settings.block) x)
      (λ h. record { system_byte = b.system_byte; mode_byte = b.mode_byte; settings = b.settings; phase = e })
      (λ h. told_bytes (q + x.answer.taken) x.answer.phase x.answer.met e)

  -- ---- by the place
  read_from_lem : (p : Option ℕ) (line room : List ℕ) → OfBytes (read_from p st line room).told.state
  read_from_lem None line room = start_bytes_lem st line b
  read_from_lem (Some q) line room = let x = walk_from st q line room in told_bytes (q + x.answer.taken) x.answer.phase x.answer.met (from_bytes q line room)

  under_from : (p : Option ℕ) (a : ℕ) (line room : List ℕ) → OfBytes (within_from p a st line room).answer.state
  under_from None a line room = start_bytes_lem st line b
  under_from (Some q) a line room = goes_bytes a q (walk_within a st q line room) (under_bytes a q line room)

  -- ---- the calls
  read_bytes_lem : (line room : List ℕ) → OfBytes (reading st line room).told.state
  unfolding reading_in
  read_bytes_lem line room =
      pick_elim (λ (x : Reply). OfBytes x.told.state) (eqb (read_fault_in capacity st (length line) (length room)) 0) (λ h. read_from_lem st.place line room) (λ h. b)

  within_bytes_lem : (a : ℕ) (line room : List ℕ) → OfBytes (within a st line room).answer.state
  unfolding within_in
  within_bytes_lem a line room =
      pick_elim (λ (x : Sliced). OfBytes x.answer.state) (eqb (read_fault_in capacity st (length line) (length room)) 0)
      (λ h. pick_elim (λ (x : Sliced). OfBytes x.answer.state) (eqb a 0) (λ z. b) (λ z. under_from st.place a line room)) (λ h. b)

-- ---- possible too
pub record Sound (st : Reader) : Type 0 where
  pub bytes : OfBytes st
  pub possible : impossible st ≡ false

pub sound_held : {st : Reader} → Sound st → HeldReader st
sound_held {st} s = held_by st s.bytes s.possible

pub fresh_sound : (system mode : ℕ) → small system ≡ true → small mode ≡ true → Sound (fresh system mode)
fresh_sound system mode s m = record { bytes = record { system_byte = s; mode_byte = m; settings = zero_octets; phase = refl }; possible = fresh_possible system mode }

pub read_sound : (st : Reader) (line room : List ℕ) → Sound st → Sound (reading st line room).told.state
read_sound st line room s = record { bytes = read_bytes_lem st s.bytes line room; possible = read_possible st line room s.possible }

pub within_sound : (a : ℕ) (st : Reader) (line room : List ℕ) → Sound st → Sound (within a st line room).answer.state
within_sound a st line room s = record { bytes = within_bytes_lem st s.bytes a line room; possible = stays_possible a st line room s.possible }
