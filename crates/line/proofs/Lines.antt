-- Whole lines: an accepted header written again gives the same 53 words; and a line built by the definition from a number 1..N,
-- settings without fault, any words that the gap can hold and an area of legal words has no fault and reads back, in every system and mode and with both flags.
-- Assumes nothing.
use mathlib.Core.Path.{◌≡◌, refl, sym, ap, ap₂, ◌∙◌, subst}
use mathlib.Core.Bool.{Bool, true, false, ◌&&◌, not}
use mathlib.Core.List.{List, [], ◌++◌, map}
use Prim.Native.Nat.{ℕ, ◌+◌, ◌-◌, ◌≤◌}
use native.Mathlib.Nat.{add-zero}
use native.Mathlib.Omega.{arith}
use lib.Dec.{eqb}
use lib.ListN.{length, take, drop, length-append}
use lib.Seq.{drop_at}
use borrow.Author.Tests.{eqb-true, eq-eqb, ltb-false, not-false}
use Rattle.lists.specs.Tests.{pick}
use Rattle.lists.specs.Lists.{part, each}
use Rattle.lists.proofs.Refusals.{Clear, lowest_clear, clear_lowest, clear_append, clear_split}
use Rattle.lists.proofs.Lists.{part_front, part_behind, drop_behind, eq_same}
use Rattle.words.specs.Forms.{byte_word, is_data}
use Rattle.words.specs.Modes.{is_mode}
use Rattle.words.specs.Crc.{crc_words}
use Rattle.line.specs.declared.settings.Settings.{Settings}
use Rattle.line.specs.declared.systems.System.{System}
use Rattle.line.specs.Systems.{system_of, is_system}
use Rattle.line.specs.Timing.{timing_words}
use Rattle.line.specs.Fixed.{is_variable}
use Rattle.line.specs.Settings.{Held, settings_faults, settings_fault}
use Rattle.line.specs.Header.{header_words}
use Rattle.line.specs.Layout.{gap_at, sav_at, payload_at, gap_after, area_length, end_words, framed, line_words, area_of, end_of}
use Rattle.line.specs.Check.{legal, number_of, settings_of, head_faults, area_faults, payload_faults, faults, fits_length, fits, line_faults, line_fault, checked_from, checked_of}
use Rattle.line.proofs.SystemLaws.{Sound, sound, fitting}
use Rattle.line.proofs.CheckLaws.{settings_rising, check_rising}
use Rattle.line.proofs.GapLaws.{GapHolds, gap_long}
use Rattle.line.proofs.Headers.{head_again, five_again, five_laid, header_length_lem, crc_formed, ReadBack, head_back}

-- of an accepted line: it has a whole head, in which 3 to 9 find no fault
head_of : (system mode : ℕ) (line : List ℕ) → line_fault system mode line ≡ 0 → (57 ≤ length line) × Clear (head_faults (system_of system) line)
unfolding line_fault faults
head_of system mode line e =
    let c = lowest_clear (line_faults system mode line) (check_rising system mode line) e in
    let k = fitting system mode line (not-false _ c.0) in
    (omega (arith, k.row.room, k.long), (clear_split (head_faults (system_of system) line) _ c.1).0)

-- demand 2's last part: an accepted header written again gives the same 53 words
pub written_again : (system mode : ℕ) (line : List ℕ) → line_fault system mode line ≡ 0 → part 4 53 line ≡ header_words (number_of line) (settings_of line)
written_again system mode line e = let k = head_of system mode line e in head_again line k.0 (system_of system) k.1

-- and its five reserved words are the byte form of the five bytes that are read, whatever these are
pub five_stand : (system mode : ℕ) (line : List ℕ) → line_fault system mode line ≡ 0 → map byte_word (settings_of line).reserved ≡ part 49 5 line
five_stand system mode line e = let k = head_of system mode line e in five_again line k.0 (system_of system) k.1

-- ---- six pieces, one after another
pub record Six : Type 0 where
  pub eav : List ℕ
  pub header : List ℕ
  pub gap : List ℕ
  pub sav : List ℕ
  pub area : List ℕ
  pub end : List ℕ
  pub eav_long : length eav ≡ 4
  pub header_long : length header ≡ 53
  pub sav_long : length sav ≡ 4

abbrev whole : Six → List ℕ
whole x = x.eav ++ (x.header ++ (x.gap ++ (x.sav ++ (x.area ++ x.end))))

module _ (x : Six) where
  -- what lies behind the gap
  behind : (k i : ℕ) → i ≡ 4 + (53 + (length x.gap + k)) → drop i (whole x) ≡ drop k (x.sav ++ (x.area ++ x.end))
  behind k i e =
      ap (λ (j : ℕ). drop j (whole x)) e
      ∙ drop_behind x.eav (x.header ++ (x.gap ++ (x.sav ++ (x.area ++ x.end)))) 4 (53 + (length x.gap + k)) x.eav_long
      ∙ drop_behind x.header (x.gap ++ (x.sav ++ (x.area ++ x.end))) 53 (length x.gap + k) x.header_long
      ∙ drop_behind x.gap (x.sav ++ (x.area ++ x.end)) (length x.gap) k refl

  at_eav : part 0 4 (whole x) ≡ x.eav
  at_eav = part_front x.eav _ 4 x.eav_long

  at_header : part 4 53 (whole x) ≡ x.header
  at_header = part_behind x.eav _ 4 0 53 x.eav_long ∙ part_front x.header _ 53 x.header_long

  at_sav : (i : ℕ) → i ≡ 57 + length x.gap → part i 4 (whole x) ≡ x.sav
  at_sav i e = ap (take 4) (behind 0 i (omega arith)) ∙ part_front x.sav _ 4 x.sav_long

  at_area : (i n : ℕ) → i ≡ 61 + length x.gap → n ≡ length x.area → part i n (whole x) ≡ x.area
  at_area i n e l = ap (take n) (behind 4 i (omega arith) ∙ drop_at x.sav (x.area ++ x.end) 4 x.sav_long) ∙ part_front x.area x.end n (sym l)

  at_end : (i : ℕ) → i ≡ 61 + length x.gap + length x.area → drop i (whole x) ≡ x.end
  at_end i e =
      behind (4 + length x.area) i (omega arith)
      ∙ drop_behind x.sav (x.area ++ x.end) 4 (length x.area) x.sav_long
      ∙ drop_at x.area x.end (length x.area) refl

  long_whole : length (whole x) ≡ 61 + length x.gap + length x.area + length x.end
  long_whole =
      let a = length-append x.eav (x.header ++ (x.gap ++ (x.sav ++ (x.area ++ x.end)))) in
      let b = length-append x.header (x.gap ++ (x.sav ++ (x.area ++ x.end))) in
      let c = length-append x.gap (x.sav ++ (x.area ++ x.end)) in
      let d = length-append x.sav (x.area ++ x.end) in
      let e = length-append x.area x.end in
      omega (arith, x.eav_long, x.header_long, x.sav_long)

pub four : (f v h : Bool) → length (timing_words f v h) ≡ 4
unfolding timing_words
four f v h = refl

-- a line with any payload has the five reserved bytes that it was given at 49-53, in byte form
pub five_framed : (row : System) (f v : Bool) (n : ℕ) (s : Settings) (laid payload : List ℕ) → Held s
    → part 49 5 (framed row f v n s laid payload) ≡ map byte_word s.reserved
unfolding framed
five_framed row f v n s laid payload h =
    let behind : List ℕ = gap_after row laid ++ (timing_words f v false ++ payload) in
    let a = length-append (timing_words f v true) (header_words n s ++ behind) in
    let b = length-append (header_words n s) behind in
    let four_long = four f v true in
    let long = header_length_lem s h n in
    five_laid s h (framed row f v n s laid payload) n (omega (arith, a, b, four_long, long))
    (part_behind (timing_words f v true) (header_words n s ++ behind) 4 0 53 four_long ∙ part_front (header_words n s) behind 53 long)

-- ---- what stands behind the area: it fills the payload, and is in data form
end_by : (p : ℕ) (area : List ℕ) → 2 ≤ p → (b : Bool) → pick b (p - 2) p + length (pick b (crc_words area) []) ≡ p
unfolding pick crc_words
end_by p area two true = omega arith
end_by p area two false = add-zero p

end_length : (p flag : ℕ) (area : List ℕ) → 2 ≤ p → area_length p flag + length (end_words flag area) ≡ p
unfolding area_length end_words
end_length p flag area two = end_by p area two (eqb flag 1)

formed_by : (area : List ℕ) (b : Bool) → each is_data (pick b (crc_words area) []) ≡ true
unfolding pick
formed_by area true = crc_formed area
formed_by area false = refl

end_formed : (flag : ℕ) (area : List ℕ) → each is_data (end_words flag area) ≡ true
unfolding end_words
end_formed flag area = formed_by area (eqb flag 1)

-- ---- a line built by the definition
-- the words from which it is built: a number 1..N, settings that 10 to 13 let pass, and an area of its length of legal words
pub record Buildable (system mode n : ℕ) (s : Settings) (area : List ℕ) : Type 0 where
  pub known : is_system system ≡ true
  pub moded : is_mode mode ≡ true
  pub one : 1 ≤ n
  pub most : n ≤ (system_of system).lines
  pub held : Held s
  pub clean : settings_fault system s ≡ 0
  pub fills : length area ≡ area_length (system_of system).payload s.flag
  pub legals : each (legal mode (is_variable s.block)) area ≡ true

-- what the line check finds in it
pub record Accepted (system mode n : ℕ) (s : Settings) (area line : List ℕ) : Type 0 where
  pub long : length line ≡ (system_of system).length
  pub checked : checked_of system mode line ≡ record { fault = 0; number = n; settings = s }
  pub area_back : area_of (system_of system) s.flag line ≡ area

module _ (system mode : ℕ) (f v : Bool) (n : ℕ) (s : Settings) (laid area : List ℕ) (holds : GapHolds (system_of system) laid) (b : Buildable system mode n s area) where
  six : Six
  six = record {
    eav = timing_words f v true;
    header = header_words n s;
    gap = gap_after (system_of system) laid;
    sav = timing_words f v false;
    area = area;
    end = end_words s.flag area;
    eav_long = four f v true;
    header_long = header_length_lem s b.held n;
    sav_long = four f v false;
  }

  built : List ℕ
  built = line_words (system_of system) f v n s laid area

  built_of : built ≡ whole six
  unfolding built six line_words
  built_of = refl

  gap_is : length six.gap ≡ sav_at (system_of system) - gap_at
  unfolding six
  gap_is = gap_long (system_of system) laid holds

  area_is : length six.area ≡ area_length (system_of system).payload s.flag
  unfolding six
  area_is = b.fills

  row : Sound (system_of system)
  row = sound system b.known

  long_built : length built ≡ (system_of system).length
  unfolding six
  long_built =
      let e = end_length (system_of system).payload s.flag area row.area in
      let l = long_whole six in
      ap length built_of ∙ omega (arith, gap_is, area_is, row.room)

  area_built : area_of (system_of system) s.flag built ≡ area
  unfolding area_of six
  area_built =
      let at : payload_at (system_of system) ≡ 61 + length six.gap = omega (arith, gap_is, row.room) in
      ap (part (payload_at (system_of system)) (area_length (system_of system).payload s.flag)) built_of
      ∙ at_area six (payload_at (system_of system)) (area_length (system_of system).payload s.flag) at (sym area_is)

  end_built : end_of (system_of system) s.flag built ≡ end_words s.flag area
  unfolding end_of six
  end_built =
      let at : payload_at (system_of system) + area_length (system_of system).payload s.flag ≡ 61 + length six.gap + length six.area =
      omega (arith, gap_is, area_is, row.room) in
      ap (drop (payload_at (system_of system) + area_length (system_of system).payload s.flag)) built_of ∙ at_end six _ at

  clear_settings : Clear (settings_faults (system_of system) s)
  unfolding settings_fault
  clear_settings = lowest_clear (settings_faults (system_of system) s) (settings_rising (system_of system) s) b.clean

  read : ReadBack (system_of system) built n s
  unfolding settings_faults six
  read =
      let at : sav_at (system_of system) ≡ 57 + length six.gap = omega (arith, gap_is, row.room) in
      let code : s.code ≡ (system_of system).code = eqb-true s.code (system_of system).code (not-false _ clear_settings.0) in
      head_back (system_of system) built f v n s (omega (arith, long_built, row.room))
      (ap (part 0 4) built_of ∙ at_eav six)
      (ap (part (sav_at (system_of system)) 4) built_of ∙ at_sav six (sav_at (system_of system)) at)
      (ap (part 4 53) built_of ∙ at_header six)
      b.one b.most (omega (arith, b.most, row.lines)) b.held (omega (arith, row.code)) (omega (arith, ltb-false 1 s.aai clear_settings.1.0))

  clear_area : Clear (payload_faults (system_of system) mode s.block s.flag built)
  unfolding payload_faults area_faults
  clear_area = (
    ap not
        (ap₂ ◌&&◌ (ap (each (legal mode (is_variable s.block))) area_built ∙ b.legals) (ap (each is_data) end_built ∙ end_formed s.flag area)),
    (ap not (eq_same (end_of (system_of system) s.flag built) _ (end_built ∙ ap (end_words s.flag) (sym area_built))), tt),
  )

  clear_faults : Clear (faults (system_of system) mode built)
  unfolding faults
  clear_faults =
      clear_append (head_faults (system_of system) built) _ read.clear
      (subst (λ (t : Settings). Clear (settings_faults (system_of system) t ++ payload_faults (system_of system) mode t.block t.flag built)) (sym read.settings)
      (clear_append (settings_faults (system_of system) s) (payload_faults (system_of system) mode s.block s.flag built) clear_settings clear_area))

  fits_built : fits system mode built ≡ true
  unfolding fits_length
  fits_built = ap₂ ◌&&◌ b.known (ap₂ ◌&&◌ b.moded (eq-eqb (length built) (system_of system).length long_built))

  -- it has no fault, and reads back its number, settings and area
  pub accepted : Accepted system mode n s area (line_words (system_of system) f v n s laid area)
  unfolding checked_of line_fault built
  accepted = record {
    long = long_built;
    checked =
        ap (λ (k : ℕ). checked_from k built) (clear_lowest (line_faults system mode built) (ap not fits_built, clear_faults))
        ∙ ap₂ (λ (k : ℕ) (t : Settings). record { fault = 0; number = k; settings = t }) read.number read.settings;
    area_back = area_built;
  }
