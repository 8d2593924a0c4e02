-- The head of a line and its 53 words: what is read of a head without fault writes the same words again, and what is written reads back.
-- No word is treated singly: the header falls into parts, and a part of byte words is a list of bytes.
-- Assumes nothing.
use mathlib.Core.Path.{◌≡◌, refl, sym, ap, ap₂, ◌∙◌, subst}
use mathlib.Core.Bool.{Bool, true, false, ◌&&◌, not}
use mathlib.Core.List.{List, [], ◌∷◌, ◌++◌, map, append_assoc}
use Prim.Native.Nat.{ℕ, ◌+◌, ◌*◌, ◌/◌, ◌%◌, ◌<◌, ◌≤◌}
use native.Mathlib.Nat.{mod-eq_of_lt, mod-lt, mod-mod}
use native.Mathlib.Omega.{arith}
use lib.Dec.{eqb, leb, lit<, lit≤}
use lib.Pow.{mod-mod-pow}
use lib.ListN.{length, get_or, take, drop, length-append, length-map, length-drop, take-append-drop, get_or-map}
use lib.Seq.{take_at, drop_at, drop-cons, get_or_at, get_or-drop, take_all, drop-drop}
use borrow.Author.Tests.{eqb-true, eq-eqb, ltb-true, lt-ltb, le-leb, not-false}
use Rattle.lists.specs.Lists.{part, each}
use Rattle.lists.proofs.Tests.{both_true}
use Rattle.lists.proofs.Refusals.{Clear}
use Rattle.lists.proofs.Lists.{part_add, length_part, get_d_part, part_two, part_part, map_part, append_inj, same_eq, eq_same, each_append, map_back, each_map}
use Rattle.words.specs.Forms.{byte_word, is_byte, is_data, bit}
use Rattle.words.specs.Checksum.{checksum, sum_of}
use Rattle.words.specs.Crc.{crc_of, crc_start, crc_words}
use Rattle.words.proofs.FormLaws.{byte_back, byte_low, byte_in, data_in}
use Rattle.line.specs.declared.settings.Settings.{Settings}
use Rattle.line.specs.declared.systems.System.{System}
use Rattle.line.specs.Timing.{timing_word, timing_words}
use Rattle.line.specs.Settings.{small, Held}
use Rattle.line.specs.Header.{flag_words, id_words, number_words, settings_bytes, settings_words, summed_words, header_words}
use Rattle.line.specs.Layout.{sav_at}
use Rattle.line.specs.Check.{low, number_of, settings_of, timed, formed, crc_stands, numbered, head_faults}

-- ---- byte words as bytes
bytes_back : (ws : List ℕ) → each is_byte ws ≡ true → map byte_word (map low ws) ≡ ws
bytes_back = map_back byte_word low is_byte byte_back

bytes_low : (bs : List ℕ) → each small bs ≡ true → map low (map byte_word bs) ≡ bs
bytes_low = map_back low byte_word small (λ v e. byte_low v (ltb-true v 256 e))

bytes_in : (bs : List ℕ) → each small bs ≡ true → each is_byte (map byte_word bs) ≡ true
bytes_in = each_map byte_word is_byte small (λ v e. byte_in v (ltb-true v 256 e))

-- ---- the 53 words, part by part
pub record Parts (line : List ℕ) (n : ℕ) (s : Settings) : Type 0 where
  pub first : part 4 6 line ≡ flag_words ++ id_words
  pub number : part 10 2 line ≡ number_words n
  pub line_crc : part 12 2 line ≡ crc_words (part 7 5 line)
  pub settings : part 14 40 line ≡ settings_words s
  pub header_crc : part 54 2 line ≡ crc_words (part 14 40 line)
  pub sum : part 56 1 line ≡ checksum (part 7 49 line) ∷ []

module _ (line : List ℕ) (n : ℕ) (s : Settings) (long : 57 ≤ length line) where
  -- the words that the checksum covers fall into four parts
  summed_parts : part 7 49 line ≡ part 7 5 line ++ (part 12 2 line ++ (part 14 40 line ++ part 54 2 line))
  summed_parts =
      part_add 7 5 44 line
      ∙ ap (λ (x : List ℕ). part 7 5 line ++ x) (part_add 12 2 42 line ∙ ap (λ (x : List ℕ). part 12 2 line ++ x) (part_add 14 40 2 line))

  all_parts : part 4 53 line ≡ part 4 3 line ++ (part 7 49 line ++ part 56 1 line)
  all_parts = part_add 4 3 50 line ∙ ap (λ (x : List ℕ). part 4 3 line ++ x) (part_add 7 49 1 line)

  pub joined : Parts line n s → part 4 53 line ≡ header_words n s
  unfolding header_words summed_words
  joined p =
      let six = append_inj (part 4 3 line) flag_words (part 7 3 line) id_words (length_part 4 3 line (omega arith)) (sym (part_add 4 3 3 line) ∙ p.first) in
      let ids : part 7 5 line ≡ id_words ++ number_words n = part_add 7 3 2 line ∙ ap₂ ◌++◌ six.1 p.number in
      let summed : part 7 49 line ≡ summed_words n s =
      summed_parts
      ∙ ap₂ ◌++◌ ids
      (ap₂ ◌++◌ (p.line_crc ∙ ap crc_words ids) (ap₂ ◌++◌ p.settings (p.header_crc ∙ ap crc_words p.settings))) in
      all_parts ∙ ap₂ ◌++◌ six.0 (ap₂ ◌++◌ summed (p.sum ∙ ap (λ (x : List ℕ). checksum x ∷ []) summed))

  pub parted : length (settings_bytes s) ≡ 40 → part 4 53 line ≡ header_words n s → Parts line n s
  unfolding header_words summed_words number_words settings_words crc_words
  parted forty e =
      let words : length (settings_words s) ≡ 40 = length-map (settings_bytes s) byte_word ∙ forty in
      let ids : List ℕ = id_words ++ number_words n in
      let crc : List ℕ = crc_words (settings_words s) in
      let rest : length (settings_words s ++ crc) ≡ 42 = length-append (settings_words s) crc ∙ ap (λ (x : ℕ). x + 2) words in
      let len : length (summed_words n s) ≡ 49 = omega arith in
      let a = append_inj (part 4 3 line) flag_words _ _ (length_part 4 3 line (omega arith)) (sym all_parts ∙ e) in
      let b = append_inj (part 7 49 line) (summed_words n s) _ _ (length_part 7 49 line (omega arith) ∙ sym len) a.1 in
      let c = append_inj (part 7 5 line) ids _ _ (length_part 7 5 line (omega arith)) (sym summed_parts ∙ b.0) in
      let d = append_inj (part 12 2 line) (crc_words ids) _ _ (length_part 12 2 line (omega arith)) c.1 in
      let f = append_inj (part 14 40 line) (settings_words s) _ _ (length_part 14 40 line (omega arith) ∙ sym words) d.1 in
      let g = append_inj (part 7 3 line) id_words _ _ (length_part 7 3 line (omega arith)) (sym (part_add 7 3 2 line) ∙ c.0) in
      record {
        first = part_add 4 3 3 line ∙ ap₂ ◌++◌ a.0 g.0;
        number = g.1;
        line_crc = d.0 ∙ ap crc_words (sym c.0);
        settings = f.0;
        header_crc = f.1 ∙ ap crc_words (sym f.0);
        sum = b.1 ∙ ap (λ (x : List ℕ). checksum x ∷ []) (sym b.0);
      }

-- ---- the settings from 40 bytes
abbrev pub settings_from : List ℕ → Settings
settings_from b =
    record {
      code = get_or b 0 0 % 16;
      aai = get_or b 0 0 / 16;
      destination = part 1 16 b;
      source = part 17 16 b;
      block = get_or b 33 0;
      flag = get_or b 34 0;
      reserved = part 35 5 b;
    }

pub from_bytes : (line : List ℕ) → settings_of line ≡ settings_from (map low (part 14 40 line))
unfolding settings_of
from_bytes line =
    let b = map low (part 14 40 line) in
    let byte : (i : ℕ) → i < 40 → low (get_or line (14 + i) 0) ≡ get_or b i 0 =
    (λ i h. ap low (sym (get_d_part 14 40 i line h)) ∙ sym (get_or-map low (part 14 40 line) i 0)) in
    let bytes : (i n : ℕ) → i + n ≤ 40 → map low (part (14 + i) n line) ≡ part i n b =
    (λ i n h. ap (map low) (sym (part_part 14 40 i n line h)) ∙ map_part low i n (part 14 40 line)) in
    simp (byte 0 (lit< tt), bytes 1 16 (lit≤ tt), bytes 17 16 (lit≤ tt), byte 33 (lit< tt), byte 34 (lit< tt), bytes 35 5 (lit≤ tt))

settings_bytes_lem : (b : List ℕ) → length b ≡ 40 → get_or b 0 0 < 256 → settings_bytes (settings_from b) ≡ b
unfolding settings_bytes
settings_bytes_lem b l h =
    let cut : (a n : ℕ) → drop a b ≡ take n (drop a b) ++ drop (a + n) b =
    (λ a n. sym (ap (λ (x : List ℕ). take n (drop a b) ++ x) (sym (drop-drop n a b)) ∙ take-append-drop n (drop a b))) in
    let tail : take 5 (drop 35 b) ≡ drop 35 b = take_all 5 (drop 35 b) (simp length-drop (omega arith)) in
    let back : get_or b 33 0 ∷ get_or b 34 0 ∷ take 5 (drop 35 b) ≡ drop 33 b =
    sym (drop-cons b 33 0 (omega arith) ∙ ap (λ (x : List ℕ). get_or b 33 0 ∷ x) (drop-cons b 34 0 (omega arith) ∙ ap (λ (x : List ℕ). get_or b 34 0 ∷ x) (sym tail))) in
    let addresses : take 16 (drop 1 b) ++ (take 16 (drop 17 b) ++ drop 33 b) ≡ drop 1 b =
    sym (cut 1 16 ∙ ap (λ (x : List ℕ). take 16 (drop 1 b) ++ x) (cut 17 16)) in
    let head : get_or b 0 0 % 16 % 16 + get_or b 0 0 / 16 % 16 * 16 ≡ get_or b 0 0 = omega arith in
    ap₂ {B = List ℕ} (λ (z : ℕ) (zs : List ℕ). z ∷ zs) head
    (ap (λ (x : List ℕ). take 16 (drop 1 b) ++ (take 16 (drop 17 b) ++ x)) back ∙ addresses)
    ∙ sym (drop-cons b 0 0 (omega arith))

module _ (s : Settings) (h : Held s) where
  pub forty : length (settings_bytes s) ≡ 40
  unfolding settings_bytes
  forty =
      let a = length-append s.destination (s.source ++ (s.block ∷ s.flag ∷ s.reserved)) in
      let b = length-append s.source (s.block ∷ s.flag ∷ s.reserved) in
      omega (arith, h.to, h.from, h.five)

  pub header_length_lem : (n : ℕ) → length (header_words n s) ≡ 53
  unfolding header_words summed_words number_words settings_words crc_words
  header_length_lem n =
      let words : length (settings_words s) ≡ 40 = length-map (settings_bytes s) byte_word ∙ forty in
      let rest : length (settings_words s ++ crc_words (settings_words s)) ≡ 42 = length-append (settings_words s) (crc_words (settings_words s)) ∙ ap (λ (x : ℕ). x + 2) words in
      let all : length (summed_words n s ++ (checksum (summed_words n s) ∷ [])) ≡ length (summed_words n s) + 1 = length-append (summed_words n s) (checksum (summed_words n s) ∷ []) in
      omega arith

  all_small : each small (settings_bytes s) ≡ true
  unfolding settings_bytes
  all_small =
      ap₂ ◌&&◌ (lt-ltb (s.code % 16 + s.aai % 16 * 16) 256 (omega arith))
      (each_append small s.destination _ h.to_bytes
      (each_append small s.source _ h.from_bytes
      (ap₂ ◌&&◌ (lt-ltb s.block 256 h.block_byte) (ap₂ ◌&&◌ (lt-ltb s.flag 256 h.flag_byte) h.five_bytes))))

  -- the last five of the 40 bytes
  five_bytes_last : part 35 5 (settings_bytes s) ≡ s.reserved
  unfolding settings_bytes
  five_bytes_last =
      let rest : List ℕ = s.block ∷ s.flag ∷ s.reserved in
      let two : length (s.destination ++ s.source) ≡ 32 = length-append s.destination s.source ∙ ap₂ ◌+◌ h.to h.from in
      let past : drop 32 (s.destination ++ (s.source ++ rest)) ≡ rest =
      ap (drop 32) (sym (append_assoc s.destination s.source rest)) ∙ drop_at (s.destination ++ s.source) rest 32 two in
      ap (take 5) (sym (drop-drop 2 32 (s.destination ++ (s.source ++ rest))) ∙ ap (drop 2) past) ∙ take_all 5 s.reserved (omega (arith, h.five))

  -- in a header they stand at 49-53, in byte form
  pub five_laid : (line : List ℕ) (n : ℕ) → 57 ≤ length line → part 4 53 line ≡ header_words n s → part 49 5 line ≡ map byte_word s.reserved
  unfolding settings_words
  five_laid line n long words =
      sym (part_part 14 40 35 5 line (lit≤ tt))
      ∙ ap (part 35 5) (parted line n s long forty words).settings
      ∙ sym (map_part byte_word 35 5 (settings_bytes s))
      ∙ ap (map byte_word) five_bytes_last

  bytes_settings : s.code < 16 → s.aai < 16 → settings_from (settings_bytes s) ≡ s
  unfolding settings_bytes
  bytes_settings hc ha =
      let rest : List ℕ = s.block ∷ s.flag ∷ s.reserved in
      let two : length (s.destination ++ s.source) ≡ 32 = length-append s.destination s.source ∙ ap₂ ◌+◌ h.to h.from in
      let group : s.destination ++ (s.source ++ rest) ≡ (s.destination ++ s.source) ++ rest = sym (append_assoc s.destination s.source rest) in
      let past : drop 32 (s.destination ++ (s.source ++ rest)) ≡ rest = ap (drop 32) group ∙ drop_at (s.destination ++ s.source) rest 32 two in
      let c : s.code % 16 ≡ s.code = mod-eq_of_lt hc in
      let a : s.aai % 16 ≡ s.aai = mod-eq_of_lt ha in
      let code : (s.code % 16 + s.aai % 16 * 16) % 16 ≡ s.code = omega arith in
      let aai : (s.code % 16 + s.aai % 16 * 16) / 16 ≡ s.aai = omega arith in
      let to : take 16 (s.destination ++ (s.source ++ rest)) ≡ s.destination = take_at s.destination (s.source ++ rest) 16 h.to in
      let from : take 16 (drop 16 (s.destination ++ (s.source ++ rest))) ≡ s.source =
      ap (take 16) (drop_at s.destination (s.source ++ rest) 16 h.to) ∙ take_at s.source rest 16 h.from in
      let block : get_or (s.destination ++ (s.source ++ rest)) 32 0 ≡ s.block =
      ap (λ (x : List ℕ). get_or x 32 0) group ∙ get_or_at (s.destination ++ s.source) s.block (s.flag ∷ s.reserved) 0 32 two in
      let flag : get_or (s.destination ++ (s.source ++ rest)) 33 0 ≡ s.flag =
      sym (get_or-drop 32 (s.destination ++ (s.source ++ rest)) 1 0) ∙ ap (λ (x : List ℕ). get_or x 1 0) past in
      let five : take 5 (drop 34 (s.destination ++ (s.source ++ rest))) ≡ s.reserved = five_bytes_last in
      simp (code, aai, to, from, block, flag, five)

-- ---- read, and written again
module _ (line : List ℕ) (long : 57 ≤ length line) where
  number_again : each is_byte (part 10 2 line) ≡ true → low (get_or line 11 0) / 4 ≡ 0 → part 10 2 line ≡ number_words (number_of line)
  unfolding number_words number_of
  number_again form high =
      let x = get_or line 10 0 in
      let y = get_or line 11 0 in
      let n = x % 256 + y % 4 * 256 in
      let first : x % 256 ≡ n % 256 = omega arith in
      let inner : y % 256 ≡ y % 4 = sym (mod-eq_of_lt (omega arith)) ∙ mod-mod-pow y 6 2 in
      let outer : n / 256 ≡ y % 4 = omega arith in
      let second : y % 256 ≡ n / 256 % 4 = inner ∙ sym (ap (λ (z : ℕ). z % 4) outer ∙ mod-mod y 4) in
      sym (bytes_back (part 10 2 line) form)
      ∙ ap (λ (l : List ℕ). map byte_word (map low l)) (part_two 10 line (omega arith))
      ∙ ap₂ (λ (a b : ℕ). map byte_word (a ∷ b ∷ [])) first second

  settings_again : each is_byte (part 14 40 line) ≡ true → part 14 40 line ≡ settings_words (settings_of line)
  unfolding settings_words
  settings_again form =
      let b = map low (part 14 40 line) in
      let len : length b ≡ 40 = length-map (part 14 40 line) low ∙ length_part 14 40 line (omega arith) in
      let byte : get_or b 0 0 < 256 =
      subst (λ (x : ℕ). x < 256) (sym (get_or-map low (part 14 40 line) 0 0)) (mod-lt (get_or (part 14 40 line) 0 0) (lit< tt)) in
      sym (bytes_back (part 14 40 line) form) ∙ ap (map byte_word) (sym (ap settings_bytes (from_bytes line) ∙ settings_bytes_lem b len byte))

  -- the five reserved bytes that are read, in byte form, are the words that stand there
  pub five_again : (s : System) → Clear (head_faults s line) → map byte_word (settings_of line).reserved ≡ part 49 5 line
  unfolding head_faults formed settings_of
  five_again s k =
      let ws = part 14 40 line in
      let form = both_true (each is_byte (part 10 2 line)) _ (not-false _ k.1.1.0) in
      let form' = both_true (each is_byte ws) _ (both_true (each is_data (part 12 2 line)) _ form.1).1 in
      ap (λ (l : List ℕ). map byte_word (map low l)) (sym (part_part 14 40 35 5 line (lit≤ tt)))
      ∙ ap (map byte_word) (map_part low 35 5 ws)
      ∙ map_part byte_word 35 5 (map low ws)
      ∙ ap (part 35 5) (bytes_back ws form'.0)
      ∙ part_part 14 40 35 5 line (lit≤ tt)

  -- a head in which 3 to 9 find no fault
  pub head_again : (s : System) → Clear (head_faults s line) → part 4 53 line ≡ header_words (number_of line) (settings_of line)
  unfolding head_faults formed crc_stands numbered
  head_again s k =
      let form = both_true (each is_byte (part 10 2 line)) _ (not-false _ k.1.1.0) in
      let form' = both_true (each is_byte (part 14 40 line)) _ (both_true (each is_data (part 12 2 line)) _ form.1).1 in
      let range = both_true (leb 1 (number_of line)) _ (not-false _ k.1.1.1.1.1.1.0) in
      let high = both_true (leb (number_of line) s.lines) _ range.1 in
      joined line (number_of line) (settings_of line) long
      (record {
        first = same_eq (part 4 6 line) (flag_words ++ id_words) (not-false _ k.1.0);
        number = number_again form.0 (eqb-true (low (get_or line 11 0) / 4) 0 high.1);
        line_crc = same_eq (part 12 2 line) (crc_words (part 7 5 line)) (not-false _ k.1.1.1.1.0);
        settings = settings_again form'.0;
        header_crc = same_eq (part 54 2 line) (crc_words (part 14 40 line)) (not-false _ k.1.1.1.1.1.0);
        sum = same_eq (part 56 1 line) (checksum (part 7 49 line) ∷ []) (not-false _ k.1.1.1.0);
      })

-- ---- written, and read back
-- the fourth word of an EAV says F and V
flags_back : (f v : Bool) → (eqb (bit 8 (timing_word f v true)) 1 ≡ f) × (eqb (bit 7 (timing_word f v true)) 1 ≡ v)
unfolding timing_word mathlib.Core.Bool.xor
flags_back true true = (refl, refl)
flags_back true false = (refl, refl)
flags_back false true = (refl, refl)
flags_back false false = (refl, refl)

timed_back : (at : ℕ) (line : List ℕ) (f v : Bool) → part 0 4 line ≡ timing_words f v true → part at 4 line ≡ timing_words f v false → timed at line ≡ true
unfolding timed timing_words
timed_back at line f v eav sav =
    let w : get_or line 3 0 ≡ timing_word f v true = sym (get_d_part 0 4 3 line (lit< tt)) ∙ ap (λ (l : List ℕ). get_or l 3 0) eav in
    let f' : f ≡ eqb (bit 8 (get_or line 3 0)) 1 = sym (ap (λ (x : ℕ). eqb (bit 8 x) 1) w ∙ (flags_back f v).0) in
    let v' : v ≡ eqb (bit 7 (get_or line 3 0)) 1 = sym (ap (λ (x : ℕ). eqb (bit 7 x) 1) w ∙ (flags_back f v).1) in
    ap₂ ◌&&◌ (eq_same (part 0 4 line) _ (eav ∙ ap₂ (λ (a b : Bool). timing_words a b true) f' v'))
    (eq_same (part at 4 line) _ (sav ∙ ap₂ (λ (a b : Bool). timing_words a b false) f' v'))

pub crc_formed : (ws : List ℕ) → each is_data (crc_words ws) ≡ true
unfolding crc_words
crc_formed ws =
    let c = crc_of crc_start ws in
    ap₂ ◌&&◌ (data_in (c % 512) (mod-lt c (lit< tt))) (ap₂ ◌&&◌ (data_in (c / 512 % 512) (mod-lt (c / 512) (lit< tt))) refl)

sum_formed : (ws : List ℕ) → each is_data (checksum ws ∷ []) ≡ true
unfolding checksum
sum_formed ws = ap₂ ◌&&◌ (data_in (sum_of ws % 512) (mod-lt (sum_of ws) (lit< tt))) refl

module _ (line : List ℕ) (n : ℕ) (s : Settings) (p : Parts line n s) where
  formed_back : Held s → formed line ≡ true
  unfolding formed number_words settings_words
  formed_back h =
      ap₂ ◌&&◌
      (ap (each is_byte) p.number
      ∙ bytes_in (n % 256 ∷ n / 256 % 4 ∷ []) (ap₂ ◌&&◌ (lt-ltb (n % 256) 256 (omega arith)) (ap₂ ◌&&◌ (lt-ltb (n / 256 % 4) 256 (omega arith)) refl)))
      (ap₂ ◌&&◌ (ap (each is_data) p.line_crc ∙ crc_formed (part 7 5 line))
      (ap₂ ◌&&◌ (ap (each is_byte) p.settings ∙ bytes_in (settings_bytes s) (all_small s h))
      (ap (each is_data) (part_add 54 2 1 line)
      ∙ each_append is_data (part 54 2 line) (part 56 1 line) (ap (each is_data) p.header_crc ∙ crc_formed (part 14 40 line)) (ap (each is_data) p.sum ∙ sum_formed (part 7 49 line)))))

  second_back : low (get_or line 11 0) ≡ n / 256 % 4
  unfolding number_words
  second_back =
      ap low (sym (get_d_part 10 2 1 line (lit< tt)) ∙ ap (λ (l : List ℕ). get_or l 1 0) p.number) ∙ byte_low (n / 256 % 4) (omega arith)

  number_back : n < 1024 → number_of line ≡ n
  unfolding number_of number_words
  number_back h =
      let first : low (get_or line 10 0) ≡ n % 256 =
      ap low (sym (get_d_part 10 2 0 line (lit< tt)) ∙ ap (λ (l : List ℕ). get_or l 0 0) p.number) ∙ byte_low (n % 256) (omega arith) in
      let second : get_or line 11 0 % 4 ≡ n / 256 % 4 =
      sym (mod-mod-pow (get_or line 11 0) 6 2) ∙ ap (λ (x : ℕ). x % 4) second_back ∙ mod-mod (n / 256) 4 in
      let top : n / 256 % 4 ≡ n / 256 = mod-eq_of_lt (omega arith) in
      omega arith

  settings_back : Held s → s.code < 16 → s.aai < 16 → settings_of line ≡ s
  unfolding settings_words
  settings_back h c a = from_bytes line ∙ ap (λ (l : List ℕ). settings_from (map low l)) p.settings ∙ ap settings_from (bytes_low (settings_bytes s) (all_small s h)) ∙ bytes_settings s h c a

-- what is read of a line whose head was written
pub record ReadBack (system : System) (line : List ℕ) (n : ℕ) (s : Settings) : Type 0 where
  pub clear : Clear (head_faults system line)
  pub number : number_of line ≡ n
  pub settings : settings_of line ≡ s

pub head_back : (system : System) (line : List ℕ) (f v : Bool) (n : ℕ) (s : Settings)
    → 57 ≤ length line → part 0 4 line ≡ timing_words f v true → part (sav_at system) 4 line ≡ timing_words f v false
    → part 4 53 line ≡ header_words n s → 1 ≤ n → n ≤ system.lines → n < 1024 → Held s → s.code < 16 → s.aai < 16 → ReadBack system line n s
unfolding head_faults crc_stands numbered
head_back system line f v n s long eav sav words one most small h c a =
    let p = parted line n s long (forty s h) words in
    let number : number_of line ≡ n = number_back line n s p small in
    let high : low (get_or line 11 0) / 4 ≡ 0 = ap (λ (x : ℕ). x / 4) (second_back line n s p) ∙ omega arith in
    let range : numbered system.lines line ≡ true =
    ap₂ ◌&&◌ (ap (leb 1) number ∙ le-leb 1 n one)
    (ap₂ ◌&&◌ (ap (λ (x : ℕ). leb x system.lines) number ∙ le-leb n system.lines most) (eq-eqb _ _ high)) in
    record {
      clear = (
        ap not (timed_back (sav_at system) line f v eav sav),
        (
          ap not (eq_same (part 4 6 line) (flag_words ++ id_words) p.first),
          (
            ap not (formed_back line n s p h),
            (
              ap not (eq_same (part 56 1 line) (checksum (part 7 49 line) ∷ []) p.sum),
              (
                ap not (eq_same (part 12 2 line) (crc_words (part 7 5 line)) p.line_crc),
                (ap not (eq_same (part 54 2 line) (crc_words (part 14 40 line)) p.header_crc), (ap not range, tt)),
              ),
            ),
          ),
        ),
      );
      number = number;
      settings = settings_back line n s p h c a;
    }
