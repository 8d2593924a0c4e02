-- A writer's state that is possible and of bytes is held, and so is what a call leaves of it, whatever is lent.
-- Assumes nothing.
use Rattle.std.specs.Prelude.{Option, Some, None}
use Prim.Native.Nat.{ℕ, ◌+◌, ◌^◌}
use mathlib.Core.Bool.{Bool, true, false}
use mathlib.Core.List.{List}
use mathlib.Core.Path.{◌≡◌, refl}
use native.Mathlib.Omega.{arith}
use lib.Dec.{eqb, ltb}
use lib.ListN.{length}
use borrow.Author.Tests.{eqb-true, lt-ltb, ltb-false, leb-false}
use Rattle.lists.proofs.Tests.{and_true, or_false, pick_elim}
use Rattle.line.specs.declared.settings.Settings.{Settings}
use Rattle.line.specs.Settings.{small}
use Rattle.line.proofs.SystemLaws.{length_most}
use Rattle.course.specs.Course.{impossible_after}
use Rattle.writer.specs.declared.state.Writer.{Writer}
use Rattle.writer.specs.State.{most, is_part, fresh, misshapen, overlong, overfull, impossible}
use Rattle.writer.specs.Answers.{Left, Added}
use Rattle.writer.specs.Opening.{open_fault, opening}
use Rattle.writer.specs.Adding.{add_fault, adding}
use Rattle.writer.specs.Packing.{pack_fault, packing}
use Rattle.writer.specs.Closing.{close_fault, closing}
use Rattle.writer.proofs.Refusals.{can_add}
use Rattle.writer.proofs.Stays.{fresh_possible, open_possible, add_possible, pack_possible, close_possible}
use Rattle.fields.specs.Widths.{four, two}
use Rattle.writerimages.specs.Held.{HeldWriter, held_rest}
use Rattle.hosted.proofs.CourseHeld.{last_by, place_by_lem}
use Rattle.hosted.proofs.SettingsHeld.{Octets, zero_octets}
use Rattle.writer.specs.declared.state.Part.{Part}

-- an unfinished block's type is a byte
abbrev byte_rest : Option Part → Bool
byte_rest None = true
byte_rest (Some p) = small p.kind

pub record OfBytes (w : Writer) : Type 0 where
  pub system_byte : small w.system ≡ true
  pub mode_byte : small w.mode ≡ true
  pub settings : Octets w.settings
  pub rest : byte_rest w.rest ≡ true

-- ---- what the rule of the impossible bounds
rest_by_lem : (r : Option Part) → byte_rest r ≡ true → misshapen r ≡ false → held_rest r ≡ true
rest_by_lem None e h = refl
rest_by_lem (Some p) e h =
    let x = or_false (ltb most p.count) _ h in
    let few = ltb-false most p.count x.0 in
    let laid = ltb-false (p.count + 6) p.laid (or_false (ltb p.laid 1) (ltb (p.count + 6) p.laid) x.1).1 in
    and_true e (and_true (lt-ltb p.count (2 ^ 16) (omega (arith, few))) (lt-ltb p.laid (2 ^ 16) (omega (arith, few, laid))))

crc_by : (c : ℕ) → overlong c ≡ false → four c ≡ true
crc_by c e = let h = leb-false (2 ^ 18) c e in lt-ltb c (2 ^ 32) (omega (arith, h))

used_by : (system n : ℕ) → overfull system n ≡ false → two n ≡ true
used_by system n e = let h = ltb-false _ n e in let l = length_most system in lt-ltb n (2 ^ 16) (omega (arith, h, l))

pub held_by : (w : Writer) → OfBytes w → impossible w ≡ false → HeldWriter w
unfolding impossible
held_by w b p =
    let course = or_false (impossible_after w.system w.last w.settings w.place (is_part w.rest)) _ p in
    let shape = or_false (misshapen w.rest) _ course.1 in
    let more = or_false (overlong w.crc) _ shape.1 in
    record {
      system_byte = b.system_byte;
      mode_byte = b.mode_byte;
      last_held = last_by w.system w.last w.settings w.place (is_part w.rest) course.0;
      place_held = place_by_lem w.system w.last w.settings w.place (is_part w.rest) course.0;
      rest_held = rest_by_lem w.rest b.rest shape.0;
      crc_held = crc_by w.crc more.0;
      used_held = used_by w.system w.used more.1;
      code_byte = b.settings.code_byte;
      aai_byte = b.settings.aai_byte;
      settings_held = b.settings.held;
    }

-- ---- the calls
module _ (w : Writer) (b : OfBytes w) where
  open_bytes_lem : (f v : Bool) (n : ℕ) (t : Settings) (line : List ℕ) → Octets t → OfBytes (opening w f v n t line).state
  unfolding opening
  open_bytes_lem f v n t line o =
      pick_elim (λ (x : Left). OfBytes x.state) (eqb (open_fault w n t (length line)) 0)
      (λ h. record { system_byte = b.system_byte; mode_byte = b.mode_byte; settings = o; rest = b.rest }) (λ h. b)

  add_bytes_lem : (line : List ℕ) (kind : ℕ) (vs : List ℕ) → OfBytes (adding w line kind vs).state
  unfolding adding
  add_bytes_lem line kind vs =
      pick_elim (λ (x : Added). OfBytes x.state) (eqb (add_fault w (length line) kind vs) 0)
      (λ h.
      let byte = (can_add w line kind vs (eqb-true _ _ h)).byte in
      record {
        system_byte = b.system_byte;
        mode_byte = b.mode_byte;
        settings = b.settings;
        rest = pick_elim (λ (r : Option Part). byte_rest r ≡ true) _ (λ e. refl) (λ e. lt-ltb kind 256 byte);
      })
      (λ h. b)

  pack_bytes_lem : (line : List ℕ) (did second : ℕ) (vs : List ℕ) → OfBytes (packing w line did second vs).state
  unfolding packing
  pack_bytes_lem line did second vs =
      pick_elim (λ (x : Left). OfBytes x.state) (eqb (pack_fault w (length line) vs) 0)
      (λ h. record { system_byte = b.system_byte; mode_byte = b.mode_byte; settings = b.settings; rest = b.rest }) (λ h. b)

  close_bytes_lem : (line : List ℕ) → OfBytes (closing w line).state
  unfolding closing
  close_bytes_lem line =
      pick_elim (λ (x : Left). OfBytes x.state) (eqb (close_fault w (length line)) 0)
      (λ h. record { system_byte = b.system_byte; mode_byte = b.mode_byte; settings = b.settings; rest = b.rest }) (λ h. b)

-- ---- possible too
pub record Sound (w : Writer) : Type 0 where
  pub bytes : OfBytes w
  pub possible : impossible w ≡ false

pub sound_held : {w : Writer} → Sound w → HeldWriter w
sound_held {w} s = held_by w s.bytes s.possible

pub fresh_sound : (system mode : ℕ) → small system ≡ true → small mode ≡ true → Sound (fresh system mode)
fresh_sound system mode s m = record { bytes = record { system_byte = s; mode_byte = m; settings = zero_octets; rest = refl }; possible = fresh_possible system mode }

pub open_sound : (w : Writer) (f v : Bool) (n : ℕ) (t : Settings) (line : List ℕ) → Octets t → Sound w → Sound (opening w f v n t line).state
open_sound w f v n t line o s = record { bytes = open_bytes_lem w s.bytes f v n t line o; possible = open_possible w f v n t line s.possible }

pub add_sound : (w : Writer) (line : List ℕ) (kind : ℕ) (vs : List ℕ) → Sound w → Sound (adding w line kind vs).state
add_sound w line kind vs s = record { bytes = add_bytes_lem w s.bytes line kind vs; possible = add_possible w line kind vs s.possible }

pub pack_sound : (w : Writer) (line : List ℕ) (did second : ℕ) (vs : List ℕ) → Sound w → Sound (packing w line did second vs).state
pack_sound w line did second vs s = record { bytes = pack_bytes_lem w s.bytes line did second vs; possible = pack_possible w line did second vs s.possible }

pub close_sound : (w : Writer) (line : List ℕ) → Sound w → Sound (closing w line).state
close_sound w line s = record { bytes = close_bytes_lem w s.bytes line; possible = close_possible w line s.possible }
