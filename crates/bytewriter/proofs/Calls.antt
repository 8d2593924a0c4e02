-- Each call on a line, from the same call on another line as long: what it laid there, put over this one.
-- Assumes nothing.
use mathlib.Core.Path.{◌≡◌, refl, sym, ap, ap₂, ◌∙◌, subst}
use mathlib.Core.Bool.{Bool, true, false}
use mathlib.Core.List.{List, [], ◌++◌, append-nil}
use mathlib.Core.Logic.{⊎_elim}
use Prim.Native.Nat.{ℕ, ◌+◌, ◌-◌, ◌≤◌, ◌<◌}
use native.Mathlib.Omega.{arith}
use lib.Dec.{eqb}
use lib.ListN.{length, take, drop, replicate, drop_of_length-le}
use lib.Seq.{paste, paste-zero, drop_at, take_all, length-paste, length-take-le}
use borrow.Author.Tests.{eqb-false}
use Rattle.lists.specs.Tests.{pick}
use Rattle.lists.proofs.Tests.{pick_true, pick_false}
use Rattle.words.specs.Crc.{crc_of, register_words}
use Rattle.course.specs.Course.{place_of}
use Rattle.line.specs.declared.settings.Settings.{Settings}
use Rattle.line.specs.declared.systems.System.{System}
use Rattle.line.specs.Systems.{system_of}
use Rattle.line.specs.Layout.{gap_at, payload_at, area_length}
use Rattle.packets.specs.Packet.{packet_words}
use Rattle.packets.proofs.PacketBack.{packet_long}
use Rattle.octets.proofs.PartLaws.{paste_whole}
use Rattle.writer.specs.declared.state.Writer.{Writer}
use Rattle.writer.specs.declared.state.Answer.TheVariants.{Refused, Done}
use Rattle.writer.specs.declared.state.Laid.TheVariants.{Refused as NotLaid}
use Rattle.writer.specs.State.{open_state}
use Rattle.writer.specs.Answers.{Left, left, Added, added}
use Rattle.writer.specs.Opening.{open_fault, open_words, opening}
use Rattle.writer.specs.Adding.{add_fault, todo, fitting, adding}
use Rattle.writer.specs.Packing.{pack_fault, packing}
use Rattle.writer.specs.Closing.{close_fault, sealed, closing}
use Rattle.writer.proofs.Keeps.{open_leaves, close_leaves, add_leaves, add_stays}
use Rattle.writer.proofs.Packs.{can_pack, packs_in, pack_leaves, pack_stays}
use Rattle.writer.proofs.Refusals.{can_add, can_close}
use Rattle.writer.proofs.StateLaws.{not_opened}
use Rattle.writer.proofs.Calls.{close_refused, seal_none}
use Rattle.writer.proofs.Writing.{either}
use Rattle.bytewriter.specs.Laid.{done_in}
use Rattle.bytewriter.proofs.Over.{pasted_over, paste_front, at, over, Moves, stays, over_none}

-- ---- opening writes every word
abbrev pub opens : List ℕ → ℕ → Left → Left
opens y long z = left z.answer z.state (paste y (0 + 0) (drop (0 + 0) z.line) (done_in z.answer long - 0))

pub open_over : (w : Writer) (f v : Bool) (n : ℕ) (t : Settings) (x y : List ℕ) → length x ≡ length y → length (opening w f v n t x).line ≡ length x
    → opening w f v n t y ≡ opens y (length x) (opening w f v n t x)
open_over w f v n t x y same long = ⊎_elim laid kept (either (open_fault w n t (length x)))
  where
    ys : open_fault w n t (length x) ≡ open_fault w n t (length y)
    ys = ap (open_fault w n t) same

    all : length x ≡ length x - 0
    all = omega arith

    laid : open_fault w n t (length x) ≡ 0 → opening w f v n t y ≡ opens y (length x) (opening w f v n t x)
    laid e =
        let is = open_leaves w f v n t x e in
        open_leaves w f v n t y (sym ys ∙ e)
        ∙ ap (left Done (open_state w n t))
        (sym (paste_whole y (open_words w.system f v n t) (length x) (omega (arith, same)) (omega (arith, sym (ap (λ (z : Left). length z.line) is) ∙ long)))
        ∙ ap (paste y 0 (open_words w.system f v n t)) all)
        ∙ sym (ap (opens y (length x)) is)

    kept : (open_fault w n t (length x) ≡ 0 → ⊥) → opening w f v n t y ≡ opens y (length x) (opening w f v n t x)
    kept h =
        sym (not_opened w f v n t y _ ys h)
        ∙ ap (left (Refused (open_fault w n t (length x))) w) (paste-zero y 0 x)
        ∙ ap (opens y (length x)) (not_opened w f v n t x _ refl h)

-- ---- adding
abbrev pub adds : Writer → List ℕ → Added → Added
adds w y z = added z.answer z.state (over w z.state z.line y)

module _ (w : Writer) (kind : ℕ) (vs : List ℕ) where
  abbrev k : ℕ
  k = fitting w (todo w kind vs)

  pub add_within : (x : List ℕ) → add_fault w (length x) kind vs ≡ 0 → at w + fitting w (todo w kind vs) ≤ length x
  add_within x e = let a = can_add w x kind vs e in omega (arith, a.room, a.end, a.fit.long, a.fit.row.room)

  pub add_moves : (x : List ℕ) → Moves w x (adding w x kind vs).state (adding w x kind vs).line
  add_moves x = ⊎_elim laid kept (either (add_fault w (length x) kind vs))
    where
      laid : add_fault w (length x) kind vs ≡ 0 → Moves w x (adding w x kind vs).state (adding w x kind vs).line
      laid e =
          let inn = add_within x e in
          subst (λ (z : Added). Moves w x z.state z.line) (sym (add_leaves w x kind vs e))
          (record {
            system = refl;
            forward = omega arith;
            long = length-paste x (at w) (todo w kind vs) k inn (omega arith);
            front = paste_front x (todo w kind vs) (at w) k (omega arith);
            within = λ h. omega (arith, inn);
          })

      kept : (add_fault w (length x) kind vs ≡ 0 → ⊥) → Moves w x (adding w x kind vs).state (adding w x kind vs).line
      kept h = subst (λ (z : Added). Moves w x z.state z.line) (sym (add_stays w x kind vs h)) (stays w x)

  pub add_over : (x y : List ℕ) → length x ≡ length y → adding w y kind vs ≡ adds w y (adding w x kind vs)
  add_over x y same = ⊎_elim laid kept (either (add_fault w (length x) kind vs))
    where
      ys : add_fault w (length x) kind vs ≡ add_fault w (length y) kind vs
      ys = ap (λ (n : ℕ). add_fault w n kind vs) same

      laid : add_fault w (length x) kind vs ≡ 0 → adding w y kind vs ≡ adds w y (adding w x kind vs)
      laid e =
          let inn = add_within x e in
          let many : k ≡ place_of w.place + k - place_of w.place = omega arith in
          add_leaves w y kind vs (sym ys ∙ e)
          ∙ ap (added _ _)
          (sym (pasted_over x y (todo w kind vs) (at w) k (omega arith) (omega arith))
          ∙ ap (paste y (at w) (drop (at w) (paste x (at w) (todo w kind vs) k))) many)
          ∙ sym (ap (adds w y) (add_leaves w x kind vs e))

      kept : (add_fault w (length x) kind vs ≡ 0 → ⊥) → adding w y kind vs ≡ adds w y (adding w x kind vs)
      kept h =
          add_stays w y kind vs (λ z. h (ys ∙ z))
          ∙ ap₂ (λ (n : ℕ) (l : List ℕ). added (NotLaid n) w l) (sym ys) (over_none w x y)
          ∙ sym (ap (adds w y) (add_stays w x kind vs h))

-- ---- packets
abbrev pub packs : Writer → List ℕ → Left → Left
packs w y z = left z.answer z.state (paste y (gap_at + w.used) (drop (gap_at + w.used) z.line) (z.state.used - w.used))

module _ (w : Writer) (did second : ℕ) (vs : List ℕ) where
  pub pack_within : (x : List ℕ) → w.used < (packing w x did second vs).state.used → gap_at + (packing w x did second vs).state.used ≤ length x
  pack_within x = ⊎_elim laid kept (either (pack_fault w (length x) vs))
    where
      laid : pack_fault w (length x) vs ≡ 0 → w.used < (packing w x did second vs).state.used → gap_at + (packing w x did second vs).state.used ≤ length x
      laid e =
          subst (λ (z : Left). w.used < z.state.used → gap_at + z.state.used ≤ length x) (sym (pack_leaves w x did second vs e))
          (λ h. omega (arith, (packs_in w x vs (can_pack w x vs e)).0))

      kept : (pack_fault w (length x) vs ≡ 0 → ⊥) → w.used < (packing w x did second vs).state.used → gap_at + (packing w x did second vs).state.used ≤ length x
      kept n = subst (λ (z : Left). w.used < z.state.used → gap_at + z.state.used ≤ length x) (sym (pack_stays w x did second vs n)) (λ h. absurd (omega (arith, h)))

  pub pack_over : (x y : List ℕ) → length x ≡ length y → packing w y did second vs ≡ packs w y (packing w x did second vs)
  pack_over x y same = ⊎_elim laid kept (either (pack_fault w (length x) vs))
    where
      ys : pack_fault w (length x) vs ≡ pack_fault w (length y) vs
      ys = ap (λ (n : ℕ). pack_fault w n vs) same

      laid : pack_fault w (length x) vs ≡ 0 → packing w y did second vs ≡ packs w y (packing w x did second vs)
      laid e =
          let inn = (packs_in w x vs (can_pack w x vs e)).0 in
          let m = length vs + 7 in
          let long = packet_long did second vs in
          let many : m ≡ w.used + m - w.used = omega arith in
          pack_leaves w y did second vs (sym ys ∙ e)
          ∙ ap (left Done _)
          (sym (pasted_over x y (packet_words did second vs) (gap_at + w.used) m (omega arith) (omega (arith, long)))
          ∙ ap (paste y (gap_at + w.used) (drop (gap_at + w.used) (paste x (gap_at + w.used) (packet_words did second vs) m))) many)
          ∙ sym (ap (packs w y) (pack_leaves w x did second vs e))

      kept : (pack_fault w (length x) vs ≡ 0 → ⊥) → packing w y did second vs ≡ packs w y (packing w x did second vs)
      kept h =
          let none : 0 ≡ w.used - w.used = omega arith in
          pack_stays w y did second vs (λ z. h (ys ∙ z))
          ∙ ap₂ (λ (n : ℕ) (l : List ℕ). left (Refused n) w l) (sym ys)
          (paste-zero y (gap_at + w.used) (drop (gap_at + w.used) x) ∙ ap (paste y (gap_at + w.used) (drop (gap_at + w.used) x)) none)
          ∙ sym (ap (packs w y) (pack_stays w x did second vs h))

-- ---- closing writes the words behind the area, two or none
abbrev pub behind : Writer → ℕ
behind w = pick (eqb w.settings.flag 1) 2 0

abbrev pub closes : Writer → List ℕ → ℕ → Left → Left
closes w y long z = left z.answer z.state (paste y (long - behind w + 0) (drop (long - behind w + 0) z.line) (done_in z.answer (behind w) - 0))

-- the last two words
two_over : (x y two : List ℕ) (b : ℕ) → b + 2 ≡ length x → length x ≡ length y → length two ≡ 2 → paste y b (drop b (take b x ++ two)) 2 ≡ take b y ++ two
two_over x y two b e same l =
    ap (λ (r : List ℕ). (take b y ++ take 2 r) ++ drop (b + 2) y) (drop_at (take b x) two b (length-take-le b x (omega arith)))
    ∙ ap₂ (λ (r q : List ℕ). (take b y ++ r) ++ q) (take_all 2 two (omega arith)) (drop_of_length-le y {i = b + 2} (omega arith))
    ∙ append-nil (take b y ++ two)

crc_two : (c : ℕ) → length (register_words c) ≡ 2
unfolding register_words
crc_two c = refl

sealed_one : (s : System) (flag place c : ℕ) (d : List ℕ) → eqb flag 1 ≡ true
    → sealed s flag place c d ≡ take (payload_at s + (s.payload - 2)) d ++ register_words (crc_of c (replicate (s.payload - 2 - place) 0x200))
unfolding sealed area_length
sealed_one s flag place c d t =
    ap₂ (λ (n : ℕ) (r : List ℕ). take (payload_at s + n) d ++ r) (pick_true (s.payload - 2) s.payload t)
    (pick_true _ [] t ∙ ap (λ (n : ℕ). register_words (crc_of c (replicate (n - place) 0x200))) (pick_true (s.payload - 2) s.payload t))

module _ (w : Writer) (x y : List ℕ) (same : length x ≡ length y) where
  abbrev s : System
  s = system_of w.system

  abbrev seals : List ℕ → List ℕ
  seals l = sealed (system_of w.system) w.settings.flag (place_of w.place) w.crc l

  seals_over : (b : Bool) → eqb w.settings.flag 1 ≡ b → close_fault w (length x) ≡ 0 → seals y ≡ paste y (length x - behind w) (drop (length x - behind w) (seals x)) (behind w)
  seals_over true t e =
      let f = (can_close w x e).fit in
      let two : behind w ≡ 2 = pick_true 2 0 t in
      let b : payload_at s + (s.payload - 2) ≡ length x - 2 = omega (arith, f.long, f.row.room, f.row.area) in
      let crc = register_words (crc_of w.crc (replicate (s.payload - 2 - place_of w.place) 0x200)) in
      let sx : seals x ≡ take (length x - 2) x ++ crc = sealed_one s _ _ _ x t ∙ ap (λ (n : ℕ). take n x ++ crc) b in
      let sy : seals y ≡ take (length x - 2) y ++ crc = sealed_one s _ _ _ y t ∙ ap (λ (n : ℕ). take n y ++ crc) b in
      sy
      ∙ sym (two_over x y crc (length x - 2) (omega (arith, f.long, f.row.room, f.row.area)) same (crc_two _))
      ∙ ap₂ (λ (l : List ℕ) (n : ℕ). paste y (length x - n) (drop (length x - n) l) n) (sym sx) (sym two)
  seals_over false t e =
      let f = (can_close w y (ap (close_fault w) (sym same) ∙ e)).fit in
      let none : behind w ≡ 0 = pick_false 2 0 t in
      sym (seal_none s _ _ _ y (eqb-false _ 1 t) f.row.room f.long)
      ∙ paste-zero y (length x - behind w) (drop (length x - behind w) (seals x))
      ∙ ap (paste y (length x - behind w) (drop (length x - behind w) (seals x))) (sym none)

  pub close_over : closing w y ≡ closes w y (length x) (closing w x)
  close_over = ⊎_elim laid kept (either (close_fault w (length x)))
    where
      ys : close_fault w (length x) ≡ close_fault w (length y)
      ys = ap (close_fault w) same

      start : length x - behind w ≡ length x - behind w + 0
      start = omega arith

      all : behind w ≡ behind w - 0
      all = omega arith

      laid : close_fault w (length x) ≡ 0 → closing w y ≡ closes w y (length x) (closing w x)
      laid e =
          close_leaves w y (sym ys ∙ e)
          ∙ ap (left Done _)
          (seals_over (eqb w.settings.flag 1) refl e ∙ ap₂ (λ (i n : ℕ). paste y i (drop i (seals x)) n) start all)
          ∙ sym (ap (closes w y (length x)) (close_leaves w x e))

      kept : (close_fault w (length x) ≡ 0 → ⊥) → closing w y ≡ closes w y (length x) (closing w x)
      kept h =
          sym (close_refused w y _ ys h)
          ∙ ap (left (Refused (close_fault w (length x))) w) (paste-zero y (length x - behind w + 0) (drop (length x - behind w + 0) x))
          ∙ ap (closes w y (length x)) (close_refused w x _ refl h)

few : (b : Bool) → pick b 2 0 ≤ 2
unfolding pick
few true = omega arith
few false = omega arith

pub close_within : (w : Writer) (x : List ℕ) → 0 < done_in (closing w x).answer (behind w) → length x - behind w + done_in (closing w x).answer (behind w) ≤ length x
close_within w x = ⊎_elim laid kept (either (close_fault w (length x)))
  where
    laid : close_fault w (length x) ≡ 0 → 0 < done_in (closing w x).answer (behind w) → length x - behind w + done_in (closing w x).answer (behind w) ≤ length x
    laid e =
        let f = (can_close w x e).fit in
        subst (λ (z : Left). 0 < done_in z.answer (behind w) → length x - behind w + done_in z.answer (behind w) ≤ length x) (sym (close_leaves w x e))
        (λ h. omega (arith, f.long, f.row.room, few (eqb w.settings.flag 1)))

    kept : (close_fault w (length x) ≡ 0 → ⊥) → 0 < done_in (closing w x).answer (behind w) → length x - behind w + done_in (closing w x).answer (behind w) ≤ length x
    kept n = subst (λ (z : Left). 0 < done_in z.answer (behind w) → length x - behind w + done_in z.answer (behind w) ≤ length x) (close_refused w x _ refl n) (λ h. absurd (omega (arith, h)))
