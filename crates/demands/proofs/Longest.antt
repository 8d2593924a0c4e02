-- A line that takes P + 2 calls: a reader that awaits a type behind line 1 is lent line 2, with the same settings and an area of P times 309h. It is begun, the open
-- phase is kept, each word drops what the one before began, and then comes the end. Shown for every P.
-- Assumes nothing.
use Rattle.std.specs.Prelude.{Some, None}
use Prim.Native.Nat.{ℕ, zero, suc, ◌+◌, ◌-◌, ◌≤◌}
use mathlib.Core.Bool.{Bool, true, false, ◌&&◌, ◌||◌}
use mathlib.Core.List.{List, []}
use mathlib.Core.Path.{◌≡◌, refl, sym, ap, ap₂, ◌∙◌, subst}
use native.Mathlib.Omega.{arith}
use lib.Dec.{eqb, lit<, lit≤}
use borrow.Author.Tests.{eqb-true, ltb-true, eq-eqb}
use lib.ListN.{length, drop, replicate, length-replicate}
use Rattle.lists.specs.Tests.{pick}
use Rattle.lists.proofs.Lists.{drop_filler}
use Rattle.words.specs.Forms.{is_byte, is_data}
use Rattle.words.specs.Class.{class_of}
use Rattle.words.specs.Modes.{is_mode}
use Rattle.line.specs.declared.settings.Settings.{Settings}
use Rattle.line.specs.declared.check.Checked.{Checked}
use Rattle.line.specs.Systems.{system_of, is_system}
use Rattle.line.specs.Fixed.{block_refused}
use Rattle.line.specs.Settings.{Held, settings_faults, settings_fault, same_settings}
use Rattle.line.specs.Layout.{area_length, line_words, area_of}
use Rattle.line.specs.Check.{legal, fits_length, line_fault, checked_from, checked_of}
use Rattle.line.proofs.Lines.{Accepted, accepted}
use Rattle.course.specs.Course.{next_number, blocks_end}
use Rattle.machine.specs.declared.phase.Phase.TheVariants.{Idle, Kind}
use Rattle.machine.specs.Machine.{again, step_of}
use Rattle.machine.specs.Walk.{stored, walk_of}
use Rattle.machine.proofs.WalkLaws.{word_stops}
use Rattle.writer.proofs.Legal.{each_filler}
use Rattle.reader.specs.declared.state.Reader.{Reader}
use Rattle.reader.specs.declared.state.Event.TheVariants.{Drop}
use Rattle.reader.specs.State.{capacity, impossible_in, impossible}
use Rattle.reader.specs.Jump.{folded}
use Rattle.reader.specs.Reading.{Reply, reply, becomes, goes_on, begun, starts, words_from, walk_from, goes_from, read_fault, reading}
use Rattle.reader.specs.Lending.{is_last, ends_within}
use Rattle.reader.proofs.ReadLaws.{words_next}
use Rattle.reader.proofs.AtCapacity.{ready, unfaulted, by_place, read_possible, call_moves, payload_ends}
use Rattle.demands.specs.Allowed.{Longest}
use Rattle.demands.proofs.LineLends.{words_first}

-- the one step: in an open phase 309h is drop 1 and then type awaited
again_step : (mode room : ℕ) → again ≡ step_of mode room Kind 0x309
unfolding step_of class_of is_byte is_data pick
again_step mode room = refl

-- a variable line of that code, flag 00h
settings : ℕ → Settings
settings code = record { code = code; aai = 0; destination = replicate 16 0; source = replicate 16 0; block = 0xC1; flag = 0; reserved = replicate 5 0 }

held : (code : ℕ) → Held (settings code)
unfolding settings
held code = record { to = refl; from = refl; five = refl; to_bytes = refl; from_bytes = refl; five_bytes = refl; block_byte = lit< tt; flag_byte = lit< tt }

-- what is asked of the four systems alone
record Fits (system : ℕ) : Type 0 where
  two : 2 ≤ (system_of system).lines
  clean : settings_fault system (settings (system_of system).code) ≡ 0
  possible : (mode : ℕ) → impossible (record { system = system; mode = mode; last = Some 1; settings = settings (system_of system).code; place = None; phase = Kind }) ≡ false
  goes : (mode : ℕ) → goes_on (record { system = system; mode = mode; last = Some 1; settings = settings (system_of system).code; place = None; phase = Kind }) 2 (settings (system_of system).code) ≡ true

fits_all : (system : ℕ) → is_system system ≡ true → Fits system
unfolding is_system settings settings_fault settings_faults block_refused impossible_in goes_on same_settings next_number folded pick
fits_all zero e = record { two = lit≤ tt; clean = refl; possible = λ m. refl; goes = λ m. refl }
fits_all (suc zero) e = record { two = lit≤ tt; clean = refl; possible = λ m. refl; goes = λ m. refl }
fits_all (suc (suc zero)) e = record { two = lit≤ tt; clean = refl; possible = λ m. refl; goes = λ m. refl }
fits_all (suc (suc (suc zero))) e = record { two = lit≤ tt; clean = refl; possible = λ m. refl; goes = λ m. refl }
fits_all (suc (suc (suc (suc n)))) e = let h = ltb-true (suc (suc (suc (suc n)))) 4 e in absurd (omega arith)

separators_legal : (mode : ℕ) → is_mode mode ≡ true → legal mode true 0x309 ≡ true
unfolding is_mode legal is_byte is_data pick
separators_legal mode m = go (eqb mode 8) refl
  where
    go : (b : Bool) → eqb mode 8 ≡ b → legal mode true 0x309 ≡ true
    go true e = subst (λ (k : ℕ). legal k true 0x309 ≡ true) (sym (eqb-true mode 8 e)) refl
    go false e = subst (λ (k : ℕ). legal k true 0x309 ≡ true) (sym (eqb-true mode 9 (sym (ap (λ (b : Bool). b || eqb mode 9) e) ∙ m))) refl

-- the fault that the line check gives is the one that it found
fault_from : (n : ℕ) (l : List ℕ) → (checked_from n l).fault ≡ n
fault_from zero l = refl
fault_from (suc n) l = refl

module _ (system mode : ℕ) (known : is_system system ≡ true) (moded : is_mode mode ≡ true) where
  f : Fits system
  f = fits_all system known

  abbrev t : Settings
  t = settings (system_of system).code

  abbrev p : ℕ
  p = (system_of system).payload

  abbrev st : Reader
  st = record { system = system; mode = mode; last = Some 1; settings = settings (system_of system).code; place = None; phase = Kind }

  abbrev line : List ℕ
  line = line_words (system_of system) false false 2 (settings (system_of system).code) [] (replicate (system_of system).payload 0x309)

  abbrev room : List ℕ
  room = replicate capacity 0

  -- ---- the line is accepted
  built : Accepted system mode 2 (settings (system_of system).code) (replicate (system_of system).payload 0x309)
      (line_words (system_of system) false false 2 (settings (system_of system).code) [] (replicate (system_of system).payload 0x309))
  unfolding settings area_length pick
  built =
      accepted system mode false false 2 t [] (replicate p 0x309) (omega arith)
      (record {
        known = known;
        moded = moded;
        one = omega arith;
        most = f.two;
        held = held (system_of system).code;
        clean = f.clean;
        fills = length-replicate p 0x309;
        legals = each_filler (legal mode true) p 0x309 (separators_legal mode moded);
      })

  no_fault : line_fault system mode (line_words (system_of system) false false 2 (settings (system_of system).code) [] (replicate (system_of system).payload 0x309)) ≡ 0
  unfolding checked_of
  no_fault = sym (fault_from (line_fault system mode line) line) ∙ ap (λ (c : Checked). c.fault) built.checked

  fit : read_fault st (length line) (length room) ≡ 0
  unfolding fits_length
  fit =
      unfaulted st line room
      (record { fit = ap₂ ◌&&◌ known (ap₂ ◌&&◌ moded (eq-eqb (length line) (system_of system).length built.long)); long = length-replicate {A = ℕ} capacity 0; state = f.possible mode })

  -- ---- the calls on it
  abbrev at : ℕ → Reader
  at q = becomes st (Some 2) t (Some q) Kind

  first_call : reading st line room ≡ reply (record { event = (begun st 2 t).event; state = at 0 }) room
  unfolding starts begun pick
  first_call =
      by_place st line room None fit refl
      ∙ ap (λ (c : Checked). reply (starts st c) room) built.checked
      ∙ ap (λ (b : Bool). reply (record { event = (begun st 2 t).event; state = becomes st (Some 2) t (Some 0) (pick b Kind Idle) }) room) (f.goes mode)

  words : (q n : ℕ) → q + n ≡ (system_of system).payload → words_from (at q) q line ≡ replicate n 0x309
  unfolding settings area_of blocks_end pick
  words q n e =
      let z : q ≡ 0 + q = omega arith in
      let left : p - q ≡ n = omega arith in
      ap (λ (i : ℕ). words_from (at q) i line) z
      ∙ words_next (at q) 0 q line
      ∙ ap (drop q) (words_first (at q) line ∙ built.area_back)
      ∙ drop_filler q p 0x309
      ∙ ap (λ (k : ℕ). replicate k 0x309) left

  -- each word drops what the one before began
  next_call : (q n : ℕ) → q + suc n ≡ (system_of system).payload → read_fault (at q) (length line) (length room) ≡ 0
      → reading (at q) line room ≡ reply (record { event = Drop 1; state = at (q + 1) }) room
  unfolding walk_from settings stored pick
  next_call q n e ok =
      by_place (at q) line room (Some q) ok refl
      ∙ ap (goes_from (at q) q)
      (ap (λ (ws : List ℕ). walk_of mode Kind ws room) (words q (suc n) e)
      ∙ word_stops mode Kind 0x309 (replicate n 0x309) room again (again_step mode (length room)) room refl refl)

  not_yet : (n q : ℕ) → q + n ≡ (system_of system).payload → read_fault (at q) (length line) (length room) ≡ 0 → ends_within n (at q) line room ≡ false
  not_yet zero q e ok = refl
  not_yet (suc n) q e ok =
      let call = next_call q n e ok in
      let again_ok = subst (λ (x : Reply). read_fault x.told.state (length line) (length x.room) ≡ 0) call (call_moves (at q) q line room ok refl).fit in
      ap (λ (x : Reply). is_last x.told.event || ends_within n x.told.state line x.room) call
      ∙ not_yet n (q + 1) (omega (arith, e)) again_ok

  pub longest : Longest system mode
  unfolding begun
  longest =
      let one : p + 1 ≡ suc p = omega arith in
      let r = ready st line room fit in
      let begun_ok = unfaulted (at 0) line room
      (record { fit = r.fit; long = r.long; state = ap (λ (x : Reply). impossible x.told.state) (sym first_call) ∙ read_possible st line room r.state }) in
      record {
        st = st;
        line = line;
        room = room;
        of_system = refl;
        of_mode = refl;
        possible = f.possible mode;
        shut = refl;
        accepted = no_fault;
        long = length-replicate {A = ℕ} capacity 0;
        then = payload_ends st line room refl;
        not_before =
            ap (λ (n : ℕ). ends_within n st line room) one
            ∙ ap (λ (x : Reply). is_last x.told.event || ends_within p x.told.state line x.room) first_call
            ∙ not_yet p 0 (omega arith) begun_ok;
      }
