-- A packet added: its refusals, what it finds and leaves, and the line with it in its gap.
-- Assumes nothing.
use mathlib.Core.Path.{◌≡◌, refl, sym, ap, ap₂, ◌∙◌}
use mathlib.Core.Bool.{Bool, true, false}
use mathlib.Core.List.{List, ◌++◌, append_assoc}
use Prim.Native.Nat.{ℕ, ◌+◌, ◌-◌, ◌≤◌}
use native.Mathlib.Omega.{arith}
use lib.Dec.{eqb, ltb}
use lib.ListN.{length, take, drop, length-append, length-drop}
use lib.Seq.{paste, take_all, take_at, drop-append-le, length-take-le}
use borrow.Rule.Slice.PartMut.{put_mid}
use borrow.Author.Tests.{eq-eqb, ne_eqb, eqb-true, ltb-false, not-false}
use Rattle.lists.specs.Tests.{rising}
use Rattle.lists.specs.Lists.{part, each}
use Rattle.lists.proofs.Tests.{pick_true, pick_false}
use Rattle.lists.proofs.Refusals.{lowest_clear}
use Rattle.lists.proofs.Lists.{drop_behind, part_behind, part_front}
use Rattle.lists.proofs.Loops as lent
use Rattle.line.specs.declared.systems.System.{System}
use Rattle.line.specs.declared.settings.Settings.{Settings}
use Rattle.line.specs.Systems.{system_of}
use Rattle.line.specs.Settings.{Held}
use Rattle.line.specs.Timing.{timing_words}
use Rattle.line.specs.Header.{header_words}
use Rattle.line.specs.Layout.{gap_at, sav_at, gap_words, gap_after, framed}
use Rattle.line.proofs.SystemLaws.{Fit, fitting, length_most}
use Rattle.line.proofs.GapLaws.{GapHolds, gap_length_lem, gap_long, gap_more}
use Rattle.line.proofs.Headers.{header_length_lem}
use Rattle.line.proofs.Lines.{four}
use Rattle.packets.specs.Packet.{packet_words, laid_in}
use Rattle.packets.specs.Listing.{gap_length, gap_of}
use Rattle.packets.proofs.PacketBack.{packet_long}
use Rattle.course.specs.Course.{is_at}
use Rattle.writer.specs.declared.state.Writer.{Writer}
use Rattle.writer.specs.declared.state.Answer.TheVariants.{Refused, Done}
use Rattle.writer.specs.State.{impossible, used_to}
use Rattle.writer.specs.Answers.{answer_numbers, Left, left}
use Rattle.writer.specs.Numbers.{answers_by}
use Rattle.writer.specs.Packing.{pack_faults, pack_fault, packing}
use Rattle.writer.proofs.Keeps.{done_or, kept_or}
use Rattle.writer.proofs.NumberLaws.{answer_by}

pub pack_rising : (w : Writer) (long : ℕ) (vs : List ℕ) → rising (pack_faults w long vs) ≡ true
pack_rising w long vs = refl

-- ---- what an accepted packet finds
pub record CanPack (w : Writer) (line vs : List ℕ) : Type 0 where
  pub fit : Fit w.system w.mode line
  pub state : impossible w ≡ false
  pub nine : each (λ v. ltb v 512) vs ≡ true
  pub few : length vs ≤ 255
  pub begun : is_at w.place ≡ true
  pub room : w.used + (length vs + 7) ≤ gap_length (system_of w.system)

module _ (w : Writer) (line vs : List ℕ) where
  pub can_pack : pack_fault w (length line) vs ≡ 0 → CanPack w line vs
  unfolding pack_fault
  can_pack e =
      let c = lowest_clear (pack_faults w (length line) vs) (pack_rising w (length line) vs) e in
      let d = c.1.1 in
      record {
        fit = fitting w.system w.mode line (not-false _ c.0);
        state = c.1.0;
        nine = not-false _ d.0;
        few = ltb-false 255 (length vs) d.1.0;
        begun = not-false _ d.1.1.0;
        room = ltb-false (gap_length (system_of w.system)) (w.used + (length vs + 7)) d.1.1.1.0;
      }

  -- the words that it takes lie in the line, and are few
  pub packs_in : CanPack w line vs → (57 + w.used + (length vs + 7) ≤ length line) × (w.used + (length vs + 7) ≤ 2304)
  packs_in k =
      let most = length_most w.system in
      (omega (arith, k.room, k.fit.long, k.fit.row.room), omega (arith, k.room, most))

module _ (w : Writer) (line : List ℕ) (did second : ℕ) (vs : List ℕ) where
  pub pack_clear : (packing w line did second vs).answer ≡ Done → pack_fault w (length line) vs ≡ 0
  unfolding packing
  pack_clear e = eqb-true _ _ (done_or (eqb (pack_fault w (length line) vs) 0) _ _ _ _ _ e)

  pub pack_leaves : pack_fault w (length line) vs ≡ 0
      → packing w line did second vs
      ≡ left Done (used_to w (w.used + (length vs + 7))) (paste line (gap_at + w.used) (packet_words did second vs) (length vs + 7))
  unfolding packing
  pack_leaves e = pick_true _ _ (eq-eqb _ _ e)

  pub pack_stays : (pack_fault w (length line) vs ≡ 0 → ⊥) → packing w line did second vs ≡ left (Refused (pack_fault w (length line) vs)) w line
  unfolding packing
  pack_stays h = pick_false _ _ (ne_eqb _ _ h)

  pub pack_keeps : (k : ℕ) → (packing w line did second vs).answer ≡ Refused k → ((packing w line did second vs).state ≡ w) × ((packing w line did second vs).line ≡ line)
  unfolding packing
  pack_keeps k e = kept_or (eqb (pack_fault w (length line) vs) 0) _ w _ line (pack_fault w (length line) vs) k e

  pack_numbers : answer_numbers (packing w line did second vs).answer ≡ answers_by (pack_fault w (length line) vs)
  unfolding packing
  pack_numbers = answer_by (pack_fault w (length line) vs) w _ line _

  pub packs_numbered : (x : Left) → x ≡ packing w line did second vs
      → (x ≡ packing w line did second vs) × (answer_numbers x.answer ≡ answers_by (pack_fault w (length line) vs))
  packs_numbered x e = (e, ap (λ (y : Left). answer_numbers y.answer) e ∙ pack_numbers)

  -- ---- the code's call
  pub pack_refused : (n : ℕ) → n ≡ pack_fault w (length line) vs → (n ≡ 0 → ⊥) → left (Refused n) w line ≡ packing w line did second vs
  pack_refused n e h = ap (λ (k : ℕ). left (Refused k) w line) e ∙ sym (pack_stays (λ z. h (e ∙ z)))

  pub pack_done : pack_fault w (length line) vs ≡ 0 → (st : Writer) (ys : List ℕ) → st ≡ used_to w (w.used + (length vs + 7))
      → ys ≡ laid_in did second vs (take (57 + w.used + (length vs + 7) - (57 + w.used)) (drop (57 + w.used) line))
      → left Done st (put_mid (57 + w.used) (57 + w.used + (length vs + 7) - (57 + w.used)) line ys) ≡ packing w line did second vs
  pack_done e st ys s y =
      let a = 57 + w.used in
      let k = length vs + 7 in
      let m : a + k - a ≡ k = omega arith in
      let inside = (packs_in w line vs (can_pack w line vs e)).0 in
      let long : length (take (a + k - a) (drop a line)) ≡ k =
      ap (λ (i : ℕ). length (take i (drop a line))) m ∙ length-take-le k (drop a line) (rw (length-drop a line) (omega arith)) in
      let all : take k (packet_words did second vs) ≡ packet_words did second vs = take_all k (packet_words did second vs) (omega (arith, packet_long did second vs)) in
      ap₂ (left Done) s (lent.mid_paste line (packet_words did second vs) ys a k (y ∙ pick_true _ _ (eq-eqb _ _ long) ∙ sym all)) ∙ sym (pack_leaves e)

-- ---- the line with the packet in its gap
module _ (s : System) (f v : Bool) (n : ℕ) (t : Settings) (held : Held t) (laid ws payload : List ℕ) (fits : length laid + length ws ≤ gap_length s) where
  -- what stands before the gap, and what behind it
  ahead : List ℕ
  ahead = timing_words f v true ++ header_words n t

  behind : List ℕ
  behind = timing_words f v false ++ payload

  filler : List ℕ
  filler = gap_words (gap_at + length laid) (sav_at s - gap_at - length laid)

  ahead_long : length ahead ≡ 57
  unfolding ahead
  ahead_long = let a = length-append (timing_words f v true) (header_words n t) in let b = four f v true in let c = header_length_lem t held n in omega arith

  apart : (l : List ℕ) → timing_words f v true ++ (header_words n t ++ (l ++ behind)) ≡ ahead ++ (l ++ behind)
  unfolding ahead
  apart l = sym (append_assoc (timing_words f v true) (header_words n t) (l ++ behind))

  line_is : framed s f v n t laid payload ≡ (ahead ++ laid) ++ (filler ++ behind)
  unfolding framed filler behind
  line_is =
      apart (gap_after s laid)
      ∙ ap (λ (x : List ℕ). ahead ++ x) (append_assoc laid filler behind)
      ∙ sym (append_assoc ahead laid (filler ++ behind))

  front_long : length (ahead ++ laid) ≡ gap_at + length laid
  front_long = let a = length-append ahead laid in let b = ahead_long in omega arith

  pub pasted_gap : paste (framed s f v n t laid payload) (gap_at + length laid) ws (length ws) ≡ framed s f v n t (laid ++ ws) payload
  unfolding framed filler behind
  pasted_gap =
      let k = length ws in
      let line = framed s f v n t laid payload in
      let room : k ≤ length filler = (let g = gap_length_lem (gap_at + length laid) (sav_at s - gap_at - length laid) in omega arith) in
      let before : take (gap_at + length laid) line ≡ ahead ++ laid = ap (take (gap_at + length laid)) line_is ∙ take_at (ahead ++ laid) (filler ++ behind) (gap_at + length laid) front_long in
      let after : drop (gap_at + length laid + k) line ≡ drop k filler ++ behind =
      ap (drop (gap_at + length laid + k)) line_is ∙ drop_behind (ahead ++ laid) (filler ++ behind) (gap_at + length laid) k front_long ∙ drop-append-le k filler behind room in
      let regroup : ((ahead ++ laid) ++ ws) ++ (drop k filler ++ behind) ≡ ahead ++ ((laid ++ (ws ++ drop k filler)) ++ behind) = simp append_assoc in
      ap₂ (λ (p q : List ℕ). (p ++ take k ws) ++ q) before after
      ∙ ap (λ (x : List ℕ). ((ahead ++ laid) ++ x) ++ (drop k filler ++ behind)) (take_all k ws (omega arith))
      ∙ regroup
      ∙ ap (λ (g : List ℕ). ahead ++ (g ++ behind)) (gap_more s laid ws)
      ∙ sym (apart (gap_after s (laid ++ ws)))

-- ---- what stands in the gap of a line
pub framed_gap : (s : System) (f v : Bool) (n : ℕ) (t : Settings) → Held t → (laid payload : List ℕ) → GapHolds s laid
    → gap_of s (framed s f v n t laid payload) ≡ gap_after s laid
unfolding framed gap_of
framed_gap s f v n t held laid payload holds =
    let ahead = timing_words f v true ++ header_words n t in
    let rest = timing_words f v false ++ payload in
    let long : length ahead ≡ 57 = (let a = length-append (timing_words f v true) (header_words n t) in let b = four f v true in let c = header_length_lem t held n in omega arith) in
    ap (part gap_at (gap_length s)) (sym (append_assoc (timing_words f v true) (header_words n t) (gap_after s laid ++ rest)))
    ∙ part_behind ahead (gap_after s laid ++ rest) 57 0 (gap_length s) long
    ∙ part_front (gap_after s laid) rest (gap_length s) (gap_long s laid holds)
