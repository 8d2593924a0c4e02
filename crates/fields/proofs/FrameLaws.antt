-- What the images of reader and writer share comes back: each field of the frame is read where it was written, and bytes give fields of their widths.
-- Assumes nothing.
use Rattle.std.specs.Prelude.{Option, Some, None}
use mathlib.Core.Path.{◌≡◌, refl, sym, ap, ap₂, ◌∙◌}
use mathlib.Core.Bool.{Bool, true}
use mathlib.Core.List.{List, [], ◌∷◌, ◌++◌, append_assoc}
use Prim.Native.Nat.{ℕ, zero, suc, ◌+◌, ◌^◌, ◌<◌, ◌≤◌}
use native.Mathlib.Omega.{arith}
use lib.ListN.{length, get_or, take, drop, length-append}
use lib.Seq.{take_at, drop_at, drop-drop, get_or-drop, take_all}
use borrow.Author.Tests.{lt-ltb, ltb-true}
use Rattle.lists.specs.Lists.{part, each}
use Rattle.lists.proofs.Lists.{length_part, get_d_part, each_at, each_all}
use Rattle.line.specs.declared.settings.Settings.{Settings}
use Rattle.line.specs.Settings.{Held, small}
use Rattle.course.specs.Course.{place_of}
use Rattle.fields.specs.Fields.{bytes_for, number_from, settings_bytes, settings_from}
use Rattle.fields.specs.Frame.{last_bytes, last_by, place_byte, place_by, framed, last_in, place_in, held_in}
use Rattle.fields.specs.Widths.{two, eight, held_last, held_place}
use Rattle.fields.proofs.NumberLaws.{length_bytes, number_bytes, number_less}

-- ---- parts of bytes are bytes
pub each_part : (f : ℕ → Bool) (a n : ℕ) (l : List ℕ) → a + n ≤ length l → each f l ≡ true → each f (part a n l) ≡ true
each_part f a n l h e = each_all f (part a n l) (λ i k. one i (omega (arith, k, length_part a n l h)))
  where
    one : (i : ℕ) → i < n → f (get_or (part a n l) i 0) ≡ true
    one i k = ap f (get_d_part a n i l k) ∙ each_at f l (a + i) (omega arith) e

-- a number of so many bytes
pub part_number : (b : List ℕ) (a k : ℕ) → each small b ≡ true → a + k ≤ length b → number_from (part a k b) < 256 ^ k
part_number b a k h l = rw (length_part a k b l) at (number_less (part a k b) (each_part small a k b l h))

-- ---- settings there and back
pub length_settings : (t : Settings) → Held t → length (settings_bytes t) ≡ 41
unfolding settings_bytes
length_settings t h = simp length-append (omega (arith, h.to, h.from, h.five))

pub settings_back : (t : Settings) → Held t → settings_from (settings_bytes t) ≡ t
unfolding settings_bytes settings_from
settings_back t h =
    let b = settings_bytes t in
    let back = t.block ∷ t.flag ∷ t.reserved in
    let at_source : drop 18 b ≡ t.source ++ back = drop_at t.destination (t.source ++ back) 16 h.to in
    let at_block : drop 34 b ≡ back = sym (drop-drop 16 18 b) ∙ ap (drop 16) at_source ∙ drop_at t.source back 16 h.from in
    let destination : part 2 16 b ≡ t.destination = take_at t.destination (t.source ++ back) 16 h.to in
    let source : part 18 16 b ≡ t.source = ap (take 16) at_source ∙ take_at t.source back 16 h.from in
    let block : get_or b 34 0 ≡ t.block = sym (get_or-drop 34 b 0 0) ∙ ap (λ (l : List ℕ). get_or l 0 0) at_block in
    let flag : get_or b 35 0 ≡ t.flag = sym (get_or-drop 34 b 1 0) ∙ ap (λ (l : List ℕ). get_or l 1 0) at_block in
    let reserved : part 36 5 b ≡ t.reserved =
    ap (take 5) (sym (drop-drop 2 34 b) ∙ ap (drop 2) at_block) ∙ take_all 5 t.reserved (omega (arith, h.five))
    in
    simp (destination, source, block, flag, reserved)

pub settings_held : (b : List ℕ) → each small b ≡ true → length b ≡ 41 → Held (settings_from b)
unfolding settings_from
settings_held b h l =
    record {
      to = length_part 2 16 b (omega arith);
      from = length_part 18 16 b (omega arith);
      five = length_part 36 5 b (omega arith);
      to_bytes = each_part small 2 16 b (omega arith) h;
      from_bytes = each_part small 18 16 b (omega arith) h;
      five_bytes = each_part small 36 5 b (omega arith) h;
      block_byte = ltb-true _ _ (each_at small b 34 (omega arith) h);
      flag_byte = ltb-true _ _ (each_at small b 35 (omega arith) h);
    }

-- ---- the frame
pub length_last : (l : Option ℕ) → length (last_bytes l) ≡ 3
unfolding bytes_for
length_last None = refl
length_last (Some x) = refl

module _ (tag system mode : ℕ) where
  pub length_framed : (l : Option ℕ) (p : Option ℕ) (kind : ℕ) (held : List ℕ) (t : Settings) → length held ≡ 21 → Held t → length (framed tag system mode l p kind held t) ≡ 80
  unfolding framed
  length_framed l p kind held t h s = simp length-append (omega (arith, length_last l, length_bytes 8 (place_of p), h, length_settings t s))

  at_last : (l : Option ℕ) (p : Option ℕ) (kind : ℕ) (held : List ℕ) (t : Settings) → held_last l ≡ true → last_in (framed tag system mode l p kind held t) ≡ l
  unfolding framed last_in bytes_for
  at_last None p kind held t h = refl
  at_last (Some x) p kind held t h = ap Some (number_bytes 2 x (ltb-true _ _ h))

  at_begun : (l : Option ℕ) (p : Option ℕ) (kind : ℕ) (held : List ℕ) (t : Settings) → get_or (framed tag system mode l p kind held t) 6 0 ≡ place_byte p
  unfolding framed bytes_for
  at_begun None p kind held t = refl
  at_begun (Some x) p kind held t = refl

  at_kind : (l : Option ℕ) (p : Option ℕ) (kind : ℕ) (held : List ℕ) (t : Settings) → get_or (framed tag system mode l p kind held t) 7 0 ≡ kind
  unfolding framed bytes_for
  at_kind None p kind held t = refl
  at_kind (Some x) p kind held t = refl

  at_place : (l : Option ℕ) (p : Option ℕ) (kind : ℕ) (held : List ℕ) (t : Settings)
      → drop 8 (framed tag system mode l p kind held t) ≡ bytes_for 8 (place_of p) ++ (held ++ (settings_bytes t ++ (0 ∷ 0 ∷ [])))
  unfolding framed bytes_for
  at_place None p kind held t = refl
  at_place (Some x) p kind held t = refl

place_back : (p : Option ℕ) → held_place p ≡ true → place_by (place_byte p) (number_from (bytes_for 8 (place_of p))) ≡ p
place_back None h = refl
place_back (Some q) h = ap Some (number_bytes 8 q (ltb-true _ _ h))

pub record FrameBack (system mode : ℕ) (l : Option ℕ) (p : Option ℕ) (kind : ℕ) (held : List ℕ) (t : Settings) (b : List ℕ) : Type 0 where
  pub system_is : get_or b 1 0 ≡ system
  pub mode_is : get_or b 2 0 ≡ mode
  pub last_is : last_in b ≡ l
  pub place_is : place_in b ≡ p
  pub kind_is : get_or b 7 0 ≡ kind
  pub held_is : held_in b ≡ held
  pub settings_is : settings_from (part 37 41 b) ≡ t

pub frame_back : (tag system mode : ℕ) (l : Option ℕ) (p : Option ℕ) (kind : ℕ) (held : List ℕ) (t : Settings) → held_last l ≡ true → held_place p ≡ true → length held ≡ 21 → Held t
    → FrameBack system mode l p kind held t (framed tag system mode l p kind held t)
unfolding framed place_in held_in
frame_back tag system mode l p kind held t hl hp hh ht =
    let b = framed tag system mode l p kind held t in
    let zeros : List ℕ = 0 ∷ 0 ∷ [] in
    let place = at_place tag system mode l p kind held t in
    let at_held : drop 16 b ≡ held ++ (settings_bytes t ++ zeros) =
    sym (drop-drop 8 8 b) ∙ ap (drop 8) place ∙ drop_at (bytes_for 8 (place_of p)) (held ++ (settings_bytes t ++ zeros)) 8 (length_bytes 8 (place_of p))
    in
    let at_settings : drop 37 b ≡ settings_bytes t ++ zeros = sym (drop-drop 21 16 b) ∙ ap (drop 21) at_held ∙ drop_at held (settings_bytes t ++ zeros) 21 hh in
    let number : part 8 8 b ≡ bytes_for 8 (place_of p) = ap (take 8) place ∙ take_at (bytes_for 8 (place_of p)) (held ++ (settings_bytes t ++ zeros)) 8 (length_bytes 8 (place_of p)) in
    record {
      system_is = refl;
      mode_is = refl;
      last_is = at_last tag system mode l p kind held t hl;
      place_is = ap₂ (λ (n : ℕ) (s : List ℕ). place_by n (number_from s)) (at_begun tag system mode l p kind held t) number ∙ place_back p hp;
      kind_is = at_kind tag system mode l p kind held t;
      held_is = ap (take 21) at_held ∙ take_at held (settings_bytes t ++ zeros) 21 hh;
      settings_is = ap settings_from (ap (take 41) at_settings ∙ take_at (settings_bytes t) zeros 41 (length_settings t ht)) ∙ settings_back t ht;
    }

-- ---- what bytes spell is of its width
last_held : (n x : ℕ) → two x ≡ true → held_last (last_by n x) ≡ true
last_held zero x h = refl
last_held (suc n) x h = h

place_held : (n x : ℕ) → eight x ≡ true → held_place (place_by n x) ≡ true
place_held zero x h = refl
place_held (suc n) x h = h

pub record FrameHeld (b : List ℕ) : Type 0 where
  pub system_byte : small (get_or b 1 0) ≡ true
  pub mode_byte : small (get_or b 2 0) ≡ true
  pub last_of : held_last (last_in b) ≡ true
  pub place_of_lem : held_place (place_in b) ≡ true
  pub held_long : length (held_in b) ≡ 21
  pub held_bytes : each small (held_in b) ≡ true
  pub code_byte : small (settings_from (part 37 41 b)).code ≡ true
  pub aai_byte : small (settings_from (part 37 41 b)).aai ≡ true
  pub settings_of_lem : Held (settings_from (part 37 41 b))

pub frame_held : (b : List ℕ) → each small b ≡ true → length b ≡ 80 → FrameHeld b
unfolding last_in place_in held_in settings_from
frame_held b h l =
    let s = part 37 41 b in
    let long : length s ≡ 41 = length_part 37 41 b (omega arith) in
    let bytes : each small s ≡ true = each_part small 37 41 b (omega arith) h in
    record {
      system_byte = each_at small b 1 (omega arith) h;
      mode_byte = each_at small b 2 (omega arith) h;
      last_of = last_held (get_or b 3 0) _ (lt-ltb _ _ (part_number b 4 2 h (omega arith)));
      place_of_lem = place_held (get_or b 6 0) _ (lt-ltb _ _ (part_number b 8 8 h (omega arith)));
      held_long = length_part 16 21 b (omega arith);
      held_bytes = each_part small 16 21 b (omega arith) h;
      code_byte = each_at small s 0 (omega arith) bytes;
      aai_byte = each_at small s 1 (omega arith) bytes;
      settings_of_lem = settings_held s bytes long;
    }

-- ---- the frame laid in three parts: in front of the place; the place and what is held of the block; the settings
pub frame_join : (tag system mode : ℕ) (l : Option ℕ) (p : Option ℕ) (kind : ℕ) (held : List ℕ) (t : Settings)
    → (tag ∷ system ∷ mode ∷ last_bytes l) ++ ((place_byte p ∷ kind ∷ (bytes_for 8 (place_of p) ++ held)) ++ (settings_bytes t ++ (0 ∷ 0 ∷ []))) ≡ framed tag system mode l p kind held t
unfolding framed
frame_join tag system mode l p kind held t =
    ap (λ (x : List ℕ). tag ∷ system ∷ mode ∷ (last_bytes l ++ (place_byte p ∷ kind ∷ x))) (append_assoc (bytes_for 8 (place_of p)) held (settings_bytes t ++ (0 ∷ 0 ∷ [])))

pub length_stand : (p : Option ℕ) (kind : ℕ) (held : List ℕ) → length held ≡ 21 → length (place_byte p ∷ kind ∷ (bytes_for 8 (place_of p) ++ held)) ≡ 31
length_stand p kind held h = simp length-append (omega (arith, length_bytes 8 (place_of p), h))
