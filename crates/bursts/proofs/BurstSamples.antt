-- Bursts in the first three words of an area of filler, in every system: one after which the answer is 15, one with 16, and in 9-bit mode one of 19
-- bits after which the line passes: bits 7, 20, 21 and 25 of the area are G, 19 bits long, and leave the CRC and every form as they were.
-- Assumes nothing.
use mathlib.Core.Path.{◌≡◌, refl, sym, ap, ap₂, ◌∙◌}
use mathlib.Core.Bool.{Bool, true, false, ◌&&◌, not}
use mathlib.Core.List.{List, [], ◌∷◌}
use mathlib.Core.Logic.{◌⊎◌, inl, inr, ⊎_elim}
use Prim.Native.Nat.{ℕ, ◌+◌, ◌-◌}
use native.Mathlib.Omega.{arith}
use lib.Dec.{eqb, ltb, lit<, lit≤}
use lib.ListN.{length, get_or, take, drop, replicate, length-replicate}
use borrow.Author.Tests.{eq-eqb}
use Rattle.lists.specs.Tests.{pick, lowest_of}
use Rattle.lists.specs.Lists.{each}
use Rattle.lists.proofs.Tests.{false_or, pick_elim, pick_true, pick_false}
use Rattle.lists.proofs.Refusals.{clear_lowest}
use Rattle.lists.proofs.Lists.{eq_same}
use Rattle.words.specs.Forms.{is_byte, is_data, byte_word}
use Rattle.words.specs.Modes.{is_mode}
use Rattle.words.specs.Crc.{crc_start, low_bits, bits_of, crc_bit, crc_bits, crc_of, register_words, crc_words}
use Rattle.words.proofs.CrcLaws.{crc_append}
use Rattle.line.specs.declared.settings.Settings.{Settings}
use Rattle.line.specs.declared.systems.System.{System}
use Rattle.line.specs.Systems.{system_of, is_system}
use Rattle.line.specs.Fixed.{is_variable, block_refused}
use Rattle.line.specs.Settings.{Held, settings_faults, settings_fault}
use Rattle.line.specs.Layout.{area_length, end_words, line_words, area_of, end_of}
use Rattle.line.specs.Check.{legal, settings_of, area_faults, line_fault}
use Rattle.line.proofs.SystemLaws.{Sound, sound}
use Rattle.line.proofs.Headers.{crc_formed}
use Rattle.line.proofs.Lines.{Buildable, Accepted, accepted}
use Rattle.writer.proofs.Legal.{each_filler, byte_legal, filler_legal}
use Rattle.demands.proofs.EndLine.{Found, found}
use Rattle.bursts.specs.Burst.{Hit}
use Rattle.bursts.specs.Bursts.{Answered}
use Rattle.bursts.proofs.AreaAlone.{asked, end_is, by_area}
use Rattle.bursts.proofs.BurstLaws.{passed, same_fit, never_passes}
use Rattle.bursts.proofs.AreaChanged.{changed, Changed, is_changed}

-- ---- three words and filler
three : ℕ → ℕ → ℕ → ℕ → List ℕ
three p x y z = x ∷ y ∷ z ∷ replicate (p - 5) 0x200

-- a word of ten bits
abbrev ten : ℕ → Bool
ten w = ltb w 0x400

three_each : (f : ℕ → Bool) (p x y z : ℕ) → f x ≡ true → f y ≡ true → f z ≡ true → f 0x200 ≡ true → each f (three p x y z) ≡ true
unfolding three
three_each f p x y z a b c d = ap₂ ◌&&◌ a (ap₂ ◌&&◌ b (ap₂ ◌&&◌ c (each_filler f (p - 5) 0x200 d)))

three_long : (s : System) (x y z : ℕ) → Sound s → length (three s.payload x y z) ≡ area_length s.payload 1
unfolding three area_length pick
three_long s x y z row =
    let e = length-replicate {A = ℕ} (s.payload - 5) 0x200 in
    ⊎_elim (λ r. omega (arith, e, r)) (λ r. omega (arith, e, r)) row.rates

-- bits 7, 20, 21 and 25 leave the CRC as it was, whatever stands behind the three words
three_same : crc_of crc_start (0x280 ∷ 0x200 ∷ 0x223 ∷ []) ≡ crc_of crc_start (0x200 ∷ 0x200 ∷ 0x200 ∷ [])
unfolding crc_of crc_bits crc_bit bits_of low_bits
three_same = refl

same_crc : (p : ℕ) → crc_words (three p 0x280 0x200 0x223) ≡ crc_words (three p 0x200 0x200 0x200)
unfolding three crc_words
same_crc p =
    let r : List ℕ = replicate (p - 5) 0x200 in
    ap register_words
    (crc_append crc_start (0x280 ∷ 0x200 ∷ 0x223 ∷ []) r ∙ ap (λ (c : ℕ). crc_of c r) three_same ∙ sym (crc_append crc_start (0x200 ∷ 0x200 ∷ 0x200 ∷ []) r))

-- 000h is in no form
none_legal : (mode : ℕ) → legal mode true 0x000 ≡ false
unfolding legal is_byte is_data
none_legal mode = false_or (pick_elim (λ (b : Bool). b ≡ false) (eqb mode 8) (λ e. refl) (λ e. refl)) refl

sixteen_by : (c : Bool) → let n : ℕ = pick c 16 0 in (n ≡ 15) ⊎ (n ≡ 16) → n ≡ 16
unfolding pick
sixteen_by true h = refl
sixteen_by false h = ⊎_elim (λ e. absurd (omega (arith, e))) (λ e. absurd (omega (arith, e))) h

-- ---- the line
settings : System → Settings
settings s = record { code = s.code; aai = 0; destination = replicate 16 0; source = replicate 16 0; block = 0xC1; flag = 1; reserved = replicate 5 0 }

held : (s : System) → Held (settings s)
unfolding settings
held s = record { to = refl; from = refl; five = refl; to_bytes = refl; from_bytes = refl; five_bytes = refl; block_byte = lit< tt; flag_byte = lit< tt }

clean : (system : ℕ) → settings_fault system (settings (system_of system)) ≡ 0
unfolding settings settings_fault settings_faults block_refused
clean system =
    clear_lowest (settings_faults (system_of system) (settings (system_of system))) (ap not (eq-eqb (system_of system).code _ refl), (refl, (refl, (refl, tt))))

module _ (system mode : ℕ) (known : is_system system ≡ true) (moded : is_mode mode ≡ true) where
  row : Sound (system_of system)
  row = sound system known

  filler : List ℕ
  filler = three (system_of system).payload 0x200 0x200 0x200

  buildable : Buildable system mode 1 (settings (system_of system)) filler
  unfolding settings filler
  buildable = record {
    known = known;
    moded = moded;
    one = lit≤ tt;
    most = row.one;
    held = held (system_of system);
    clean = clean system;
    fills = three_long (system_of system) 0x200 0x200 0x200 row;
    legals = let ok = filler_legal mode true in three_each (legal mode true) (system_of system).payload 0x200 0x200 0x200 ok ok ok ok;
  }

  line : List ℕ
  line = line_words (system_of system) false false 1 (settings (system_of system)) [] filler

  takes : Accepted system mode 1 (settings (system_of system)) filler line
  unfolding line
  takes = accepted system mode false false 1 (settings (system_of system)) [] filler (omega arith) buildable

  is : Found system mode 1 (settings (system_of system)) line
  is = found system mode 1 (settings (system_of system)) line takes.checked

  guarded : (settings_of line).flag ≡ 1
  unfolding settings
  guarded = ap (λ (t : Settings). t.flag) is.settings

  area_is : area_of (system_of system) 1 line ≡ filler
  unfolding settings
  area_is = takes.area_back

  -- three other words
  module _ (x y z : ℕ) where
    other : List ℕ
    other = three (system_of system).payload x y z

    line' : List ℕ
    line' = changed (system_of system) line other

    is_other : Changed (system_of system) line other line'
    unfolding line' other
    is_other = is_changed (system_of system) line other (omega (arith, row.room)) takes.long (three_long (system_of system) x y z row)

    hit : (width start : ℕ) → (bits_of other ≡ bits_of filler → ⊥) → take start (bits_of other) ≡ take start (bits_of filler)
        → drop (start + width) (bits_of other) ≡ drop (start + width) (bits_of filler) → each ten other ≡ true → Hit system mode width line line'
    hit width start some front back tens =
        let a = ap bits_of area_is in
        let b = ap bits_of is_other.area_is in
        record {
          accepted = is.clear;
          guarded = guarded;
          burst = record {
            some = λ e. some (sym b ∙ e ∙ a);
            start = start;
            same_before = ap (take start) b ∙ front ∙ sym (ap (take start) a);
            same_behind = ap (drop (start + width)) b ∙ back ∙ sym (ap (drop (start + width)) a);
            long = is_other.long;
            before = is_other.before;
            behind = is_other.behind;
            ten = ap (each ten) is_other.area_is ∙ tens;
          };
        }

    -- 15 and 16 alone decide
    answer : line_fault system mode line' ≡ lowest_of (area_faults mode true 1 other (end_of (system_of system) 1 line))
    unfolding asked settings
    answer =
        same_fit system mode line line' is.clear is_other.long
        ∙ by_area (system_of system) mode line (passed system mode line is.clear).clear guarded row.room line' is_other.before
        ∙ ap₂ (λ (a e : List ℕ). lowest_of (asked mode line a e)) is_other.area_is is_other.behind
        ∙ ap (λ (t : Settings). lowest_of (area_faults mode (is_variable t.block) 1 other (end_of (system_of system) 1 line))) is.settings

  -- the CRC words
  end_crc : end_of (system_of system) 1 line ≡ crc_words filler
  end_crc = end_is (system_of system) mode line (passed system mode line is.clear).clear guarded ∙ ap crc_words area_is

  end_formed : each is_data (end_of (system_of system) 1 line) ≡ true
  end_formed = ap (each is_data) end_crc ∙ crc_formed filler

  -- B9 of the first word: 000h
  pub fifteen : Answered system mode 18 15
  unfolding area_faults other filler three bits_of low_bits
  fifteen = record {
    line = line;
    line' = line' 0x000 0x200 0x200;
    hit = hit 0x000 0x200 0x200 18 0 (λ e. let n : ◌≡◌ {A = ℕ} 0 1 = ap (λ (l : List ℕ). get_or l 9 0) e in omega (arith, n)) refl refl
        (three_each ten (system_of system).payload 0x000 0x200 0x200 refl refl refl refl);
    answer =
        answer 0x000 0x200 0x200
        ∙ pick_true 15 _ (ap (λ (b : Bool). not ((b && each (legal mode true) (0x200 ∷ 0x200 ∷ replicate ((system_of system).payload - 5) 0x200)) && each is_data (end_of (system_of system) 1 line))) (none_legal mode));
  }

  -- B0 and B1 of the first word: 203h, which is in byte form too
  pub sixteen : Answered system mode 18 16
  unfolding area_faults other filler three bits_of low_bits byte_word
  sixteen =
      let h = hit 0x203 0x200 0x200 18 0 (λ e. let n : ◌≡◌ {A = ℕ} 1 0 = ap (λ (l : List ℕ). get_or l 0 0) e in omega (arith, n)) refl refl
      (three_each ten (system_of system).payload 0x203 0x200 0x200 refl refl refl refl) in
      let ok = filler_legal mode true in
      let legals = three_each (legal mode true) (system_of system).payload 0x203 0x200 0x200 (byte_legal mode true 3) ok ok ok in
      let is_16 = answer 0x203 0x200 0x200 ∙ pick_false 15 _ (ap₂ (λ (a b : Bool). not (a && b)) legals end_formed) in
      record {
        line = line;
        line' = line' 0x203 0x200 0x200;
        hit = h;
        answer =
            is_16 ∙ sixteen_by _ (⊎_elim (λ e. inl (sym is_16 ∙ e)) (λ e. inr (sym is_16 ∙ e)) (never_passes (omega arith) system mode line (line' 0x203 0x200 0x200) h));
      }

-- bits 7, 20, 21 and 25: B7 of the first word, and B0, B1 and B5 of the third
pub passing : (system : ℕ) → is_system system ≡ true → Answered system 9 19 0
unfolding area_faults end_words other filler three bits_of low_bits legal is_data is_mode pick
passing system known =
    let p = (system_of system).payload in
    let end = end_crc system 9 known refl ∙ sym (same_crc p) in
    record {
      line = line system 9 known refl;
      line' = line' system 9 known refl 0x280 0x200 0x223;
      hit = hit system 9 known refl 0x280 0x200 0x223 19 7 (λ e. let n : ◌≡◌ {A = ℕ} 1 0 = ap (λ (l : List ℕ). get_or l 7 0) e in omega (arith, n)) refl refl
          (three_each ten p 0x280 0x200 0x223 refl refl refl refl);
      answer =
          answer system 9 known refl 0x280 0x200 0x223
          ∙ clear_lowest (area_faults 9 true 1 (three p 0x280 0x200 0x223) (end_of (system_of system) 1 (line system 9 known refl))) (
            ap₂ (λ (a b : Bool). not (a && b)) (three_each (legal 9 true) p 0x280 0x200 0x223 refl refl refl refl) (end_formed system 9 known refl),
            (ap not (eq_same _ _ end), tt),
          );
    }
