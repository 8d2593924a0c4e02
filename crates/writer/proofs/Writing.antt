-- A line opened, filled by any calls and closed is the line of the definition: what was laid, joined, stands in its area, then filler;
-- and the line check finds no fault in it.
-- Assumes nothing.
use Rattle.std.specs.Prelude.{Option, Some}
use mathlib.Core.Path.{◌≡◌, refl, sym, ap, ap₂, ◌∙◌, subst}
use mathlib.Core.Bool.{Bool, true}
use mathlib.Core.List.{List, [], ◌++◌, append_assoc, append-nil}
use mathlib.Core.Logic.{◌⊎◌, inl, inr, ⊎_elim}
use Prim.Native.Nat.{ℕ, zero, suc, ◌+◌, ◌-◌, ◌≤◌}
use native.Mathlib.Nat.{sub-zero}
use native.Mathlib.Omega.{arith}
use lib.Dec.{lit<}
use lib.ListN.{length, take, drop, replicate, length-append, length-replicate}
use lib.Seq.{paste, length-take-le, take_at, drop_at}
use Rattle.lists.specs.Lists.{part, each}
use Rattle.lists.proofs.Lists.{each_append, each_take, each_drop}
use Rattle.words.specs.Crc.{crc_start, crc_of}
use Rattle.words.specs.Modes.{is_mode}
use Rattle.words.proofs.CrcLaws.{crc_none, crc_append}
use Rattle.line.specs.declared.settings.Settings.{Settings}
use Rattle.line.specs.Systems.{system_of, is_system}
use Rattle.line.specs.Fixed.{is_variable}
use Rattle.line.specs.Settings.{Held, settings_fault}
use Rattle.line.specs.Layout.{gap_at, payload_at, area_length, framed, line_words}
use Rattle.line.specs.Check.{legal}
use Rattle.packets.specs.Packet.{packet_words, Packet, packed}
use Rattle.packets.specs.Listing.{gap_length}
use Rattle.packets.proofs.PacketBack.{packet_long}
use Rattle.packets.proofs.ListLaws.{packed_append}
use Rattle.course.specs.Course.{place_of, blocks_end}
use Rattle.line.proofs.SystemLaws.{Sound}
use Rattle.line.proofs.GapLaws.{GapHolds}
use Rattle.line.proofs.Lines.{Buildable, Accepted, accepted}
use Rattle.writer.specs.declared.state.Writer.{Writer}
use Rattle.writer.specs.declared.state.Answer.{Answer}
use Rattle.writer.specs.declared.state.Answer.TheVariants.{Refused, Done}
use Rattle.writer.specs.State.{laid_of, end_in}
use Rattle.writer.specs.Answers.{Left, Added}
use Rattle.writer.specs.Block.{words_in}
use Rattle.writer.specs.Opening.{open_words, opening}
use Rattle.writer.specs.Adding.{add_fault, todo, fitting, adding}
use Rattle.writer.specs.Packing.{packing}
use Rattle.writer.specs.Closing.{sealed, closing}
use Rattle.writer.specs.Filling.{piece_of, packed_by, packet_of, joined, Filling, filled, adds, packs, tries_opening, tries_closing, Written, area_from}
use Rattle.writer.proofs.FillLaws.{piece_law}
use Rattle.writer.proofs.Keeps.{open_clear, open_leaves, open_keeps, close_clear, close_leaves, close_keeps, add_leaves, add_stays}
use Rattle.writer.proofs.Packs.{can_pack, pack_clear, pack_leaves, pack_keeps, pasted_gap}
use Rattle.writer.proofs.Framing.{front, front_length, framed_front, pasted, seals}
use Rattle.writer.proofs.Legal.{each_filler, filler_legal, words_legal}
use Rattle.line.proofs.AreaLaws.{area_most}
use Rattle.course.proofs.CourseLaws.{end_in_area}
use Rattle.writer.proofs.Refusals.{CanOpen, can_open, can_add}

-- what holds of an open line, and of the state, while gs has been laid in its gap and a in its area
pub record Open (system mode : ℕ) (f v : Bool) (n : ℕ) (t : Settings) (gs a : List ℕ) (w : Writer) (line : List ℕ) : Type 0 where
  pub of_system : w.system ≡ system
  pub of_mode : w.mode ≡ mode
  pub of_settings : w.settings ≡ t
  pub of_place : w.place ≡ Some (length a)
  pub within : length a ≤ area_length (system_of system).payload t.flag
  pub words : each (legal mode (is_variable t.block)) a ≡ true
  pub summed : w.crc ≡ crc_of crc_start a
  pub of_used : w.used ≡ length gs
  pub holds : GapHolds (system_of system) gs
  pub is : line ≡ framed (system_of system) f v n t gs (a ++ replicate ((system_of system).payload - length a) 0x200)

-- which way a test goes
pub either : (n : ℕ) → (n ≡ 0) ⊎ (n ≡ 0 → ⊥)
either zero = inl refl
either (suc n) = inr (λ e. omega arith)

-- ---- one addition
module _ (system mode : ℕ) (f v : Bool) (n : ℕ) (t : Settings) (held : Held t) (known : is_system system ≡ true) (row : Sound (system_of system))
    (clean : settings_fault system t ≡ 0) where
  -- what the line is before the payload, and where the payload starts
  before : List ℕ → List ℕ
  before gs = front (system_of system) f v n t gs

  before_long : (gs : List ℕ) → GapHolds (system_of system) gs → length (before gs) ≡ payload_at (system_of system)
  unfolding before
  before_long gs holds = front_length (system_of system) f v n t gs held row.room holds

  ends_in : (w : Writer) → w.system ≡ system → w.settings ≡ t → end_in w ≤ area_length (system_of system).payload t.flag
  ends_in w es et =
      subst (λ (x : ℕ). x ≤ area_length (system_of system).payload t.flag)
      (sym (ap₂ (λ (s : ℕ) (u : Settings). blocks_end (system_of s).payload u.block u.flag) es et)) (end_in_area system t known clean)

  -- what was laid stands from the payload's start to the place, and the CRC is that of these words
  pub stands : (gs a : List ℕ) (w : Writer) (line : List ℕ) → Open system mode f v n t gs a w line → part (payload_at (system_of system)) (place_of w.place) line ≡ a
  unfolding before
  stands gs a w line o =
      let fill : List ℕ = replicate ((system_of system).payload - length a) 0x200 in
      ap₂ (λ (p : Option ℕ) (l : List ℕ). part (payload_at (system_of system)) (place_of p) l) o.of_place (o.is ∙ framed_front (system_of system) f v n t gs (a ++ fill))
      ∙ ap (take (length a)) (drop_at (before gs) (a ++ fill) (payload_at (system_of system)) (before_long gs o.holds))
      ∙ take_at a fill (length a) refl

  pub summed_there : (gs a : List ℕ) (w : Writer) (line : List ℕ) → Open system mode f v n t gs a w line
      → w.crc ≡ crc_of crc_start (part (payload_at (system_of system)) (place_of w.place) line)
  summed_there gs a w line o = o.summed ∙ ap (crc_of crc_start) (sym (stands gs a w line o))

  module _ (gs a : List ℕ) (w : Writer) (line : List ℕ) (o : Open system mode f v n t gs a w line) (kind : ℕ) (vs : List ℕ)
      (ok : add_fault w (length line) kind vs ≡ 0) where
    abbrev ws : List ℕ
    ws = todo w kind vs

    abbrev k : ℕ
    k = fitting w (todo w kind vs)

    place_is : place_of w.place ≡ length a
    place_is = ap place_of o.of_place

    -- what is laid
    laid : List ℕ
    laid = take (fitting w (todo w kind vs)) (todo w kind vs)

    k_most : fitting w (todo w kind vs) ≤ length (todo w kind vs)
    k_most = omega arith

    laid_long : length laid ≡ k
    unfolding laid
    laid_long = length-take-le (fitting w (todo w kind vs)) (todo w kind vs) k_most

    fits_in : length a + k ≤ area_length (system_of system).payload t.flag
    fits_in =
        let end = ends_in w o.of_system o.of_settings in
        omega (arith, place_is, (can_add w line kind vs ok).room)

    line_now : line ≡ before gs ++ (a ++ replicate ((system_of system).payload - length a) 0x200)
    unfolding before
    line_now = o.is ∙ framed_front (system_of system) f v n t gs _

    at_is : payload_at (system_of w.system) + place_of w.place ≡ length (before gs) + length a
    at_is = ap₂ (λ (s p : ℕ). payload_at (system_of s) + p) o.of_system place_is ∙ ap (λ (x : ℕ). x + length a) (sym (before_long gs o.holds))

    after_line : (adding w line kind vs).line ≡ framed (system_of system) f v n t gs ((a ++ laid) ++ replicate ((system_of system).payload - length (a ++ laid)) 0x200)
    unfolding laid before
    after_line =
        let p = (system_of system).payload in
        let long : length (a ++ laid) ≡ length a + fitting w ws = length-append a laid ∙ ap (λ (x : ℕ). length a + x) laid_long in
        let rest : p - length a - fitting w ws ≡ p - length (a ++ laid) = omega arith in
        ap (λ (x : Added). x.line) (add_leaves w line kind vs ok)
        ∙ ap₂ (λ (l : List ℕ) (i : ℕ). paste l i (todo w kind vs) (fitting w (todo w kind vs))) line_now at_is
        ∙ pasted (before gs) a (todo w kind vs) (p - length a) 0x200 (fitting w (todo w kind vs)) k_most
        ∙ ap (λ (m : ℕ). before gs ++ ((a ++ laid) ++ replicate m 0x200)) rest
        ∙ sym (framed_front (system_of system) f v n t gs _)

    after_place : (adding w line kind vs).state.place ≡ Some (length a + k)
    after_place = ap (λ (x : Added). x.state.place) (add_leaves w line kind vs ok) ∙ ap (λ (p : ℕ). Some (p + k)) place_is

    -- the CRC of what was laid before, taken on over what is laid now
    after_crc : (adding w line kind vs).state.crc ≡ crc_of crc_start (a ++ laid)
    unfolding laid
    after_crc =
        ap (λ (x : Added). x.state.crc) (add_leaves w line kind vs ok)
        ∙ ap (λ (c : ℕ). crc_of c (take (fitting w (todo w kind vs)) (todo w kind vs))) o.summed
        ∙ sym (crc_append crc_start a (take (fitting w (todo w kind vs)) (todo w kind vs)))

    long_line : length (before gs) + length a ≤ length line
    long_line =
        let p = (system_of system).payload in
        let e = ap length line_now ∙ length-append (before gs) (a ++ replicate (p - length a) 0x200) in
        let g = length-append a (replicate (p - length a) 0x200) in
        omega arith

    piece_is : piece_of w line kind vs ≡ laid
    unfolding piece_of laid
    piece_is =
        ap (λ (x : Added). take (place_of x.state.place - place_of w.place) (drop (payload_at (system_of w.system) + place_of w.place) x.line)) (add_leaves w line kind vs ok)
        ∙ piece_law line (todo w kind vs) (payload_at (system_of w.system) + place_of w.place) (place_of w.place) (fitting w (todo w kind vs)) (subst (λ (i : ℕ). i ≤ length line) (sym at_is) long_line) k_most

    laid_legal : each (legal mode (is_variable t.block)) laid ≡ true
    unfolding laid
    laid_legal =
        let x = can_add w line kind vs ok in
        let words : each (legal mode (is_variable t.block)) (words_in w.settings.block w.mode kind vs) ≡ true =
        ap₂ (λ (m : ℕ) (u : Settings). each (legal m (is_variable u.block)) (words_in w.settings.block w.mode kind vs)) (sym o.of_mode) (sym o.of_settings)
        ∙ words_legal w.settings.block w.mode kind vs x.values in
        each_take _ (fitting w (todo w kind vs)) (todo w kind vs) (each_drop _ (laid_of w.rest) (words_in w.settings.block w.mode kind vs) words)

    pub laid_on : Open system mode f v n t gs (a ++ piece_of w line kind vs) (adding w line kind vs).state (adding w line kind vs).line
    laid_on =
        let long : length (a ++ laid) ≡ length a + k = length-append a laid ∙ ap (λ (x : ℕ). length a + x) laid_long in
        subst (λ (l : List ℕ). Open system mode f v n t gs (a ++ l) (adding w line kind vs).state (adding w line kind vs).line) (sym piece_is)
        (record {
          of_system = ap (λ (x : Added). x.state.system) (add_leaves w line kind vs ok) ∙ o.of_system;
          of_mode = ap (λ (x : Added). x.state.mode) (add_leaves w line kind vs ok) ∙ o.of_mode;
          of_settings = ap (λ (x : Added). x.state.settings) (add_leaves w line kind vs ok) ∙ o.of_settings;
          of_place = after_place ∙ ap Some (sym long);
          within = subst (λ (x : ℕ). x ≤ area_length (system_of system).payload t.flag) (sym long) fits_in;
          words = each_append _ a laid o.words laid_legal;
          summed = after_crc;
          of_used = ap (λ (x : Added). x.state.used) (add_leaves w line kind vs ok) ∙ o.of_used;
          holds = o.holds;
          is = after_line;
        })

  -- ---- a refused addition lays nothing
  nothing_laid : (w : Writer) (line : List ℕ) (kind : ℕ) (vs : List ℕ) → (add_fault w (length line) kind vs ≡ 0 → ⊥)
      → (piece_of w line kind vs ≡ []) × (((adding w line kind vs).state ≡ w) × ((adding w line kind vs).line ≡ line))
  unfolding piece_of
  nothing_laid w line kind vs h =
      let e = add_stays w line kind vs h in
      let s : (adding w line kind vs).state ≡ w = ap (λ (x : Added). x.state) e in
      let z : place_of w.place - place_of w.place ≡ 0 = omega arith in (
        ap (λ (u : Writer). take (place_of u.place - place_of w.place) (drop (payload_at (system_of w.system) + place_of w.place) (adding w line kind vs).line)) s
            ∙ ap (λ (i : ℕ). take i (drop (payload_at (system_of w.system) + place_of w.place) (adding w line kind vs).line)) z,
        (s, ap (λ (x : Added). x.line) e),
      )

  step_by : (gs a : List ℕ) (w : Writer) (line : List ℕ) → Open system mode f v n t gs a w line → (kind : ℕ) (vs : List ℕ)
      → Open system mode f v n t gs (a ++ piece_of w line kind vs) (adding w line kind vs).state (adding w line kind vs).line
  step_by gs a w line o kind vs =
      ⊎_elim (λ ok. laid_on gs a w line o kind vs ok)
      (λ h.
      let e = nothing_laid w line kind vs h in
      let a' : a ≡ a ++ piece_of w line kind vs = sym (ap (λ (l : List ℕ). a ++ l) e.0 ∙ append-nil a) in
      subst (λ (l : List ℕ). Open system mode f v n t gs l (adding w line kind vs).state (adding w line kind vs).line) a'
      (subst (λ (u : Writer). Open system mode f v n t gs a u (adding w line kind vs).line) (sym e.1.0)
      (subst (λ (l : List ℕ). Open system mode f v n t gs a w l) (sym e.1.1) o)))
      (either (add_fault w (length line) kind vs))

  -- ---- a packet
  pub packs_by_lem : (gs a : List ℕ) (w : Writer) (line : List ℕ) → Open system mode f v n t gs a w line → (did second : ℕ) (vs : List ℕ)
      → (x : Answer) → (packing w line did second vs).answer ≡ x
      → Open system mode f v n t (gs ++ packed (packed_by x did second vs)) a (packing w line did second vs).state (packing w line did second vs).line
  packs_by_lem gs a w line o did second vs (Refused k) e =
      let z = pack_keeps w line did second vs k e in
      subst (λ (l : List ℕ). Open system mode f v n t l a (packing w line did second vs).state (packing w line did second vs).line) (sym (append-nil gs))
      (subst (λ (u : Writer). Open system mode f v n t gs a u (packing w line did second vs).line) (sym z.0) (subst (λ (l : List ℕ). Open system mode f v n t gs a w l) (sym z.1) o))
  packs_by_lem gs a w line o did second vs Done e =
      let ok = pack_clear w line did second vs e in
      let is = pack_leaves w line did second vs ok in
      let ws = packet_words did second vs in
      let long = packet_long did second vs in
      let room : length gs + length ws ≤ gap_length (system_of system) =
      subst (λ (x : ℕ). x ≤ gap_length (system_of system)) (ap₂ ◌+◌ o.of_used (sym long))
      (subst (λ (s : ℕ). w.used + (length vs + 7) ≤ gap_length (system_of s)) o.of_system (can_pack w line vs ok).room) in
      subst (λ (l : List ℕ). Open system mode f v n t (gs ++ l) a (packing w line did second vs).state (packing w line did second vs).line) (sym (append-nil ws))
      (record {
        of_system = ap (λ (x : Left). x.state.system) is ∙ o.of_system;
        of_mode = ap (λ (x : Left). x.state.mode) is ∙ o.of_mode;
        of_settings = ap (λ (x : Left). x.state.settings) is ∙ o.of_settings;
        of_place = ap (λ (x : Left). x.state.place) is ∙ o.of_place;
        within = o.within;
        words = o.words;
        summed = ap (λ (x : Left). x.state.crc) is ∙ o.summed;
        of_used = ap (λ (x : Left). x.state.used) is ∙ ap₂ ◌+◌ o.of_used (sym long) ∙ sym (length-append gs ws);
        holds = subst (λ (x : ℕ). x ≤ gap_length (system_of system)) (sym (length-append gs ws)) room;
        is =
            ap (λ (x : Left). x.line) is
            ∙ ap₂ (λ (u k : ℕ). paste line (gap_at + u) ws k) o.of_used (sym long)
            ∙ ap (λ (l : List ℕ). paste l (gap_at + length gs) ws (length ws)) o.is
            ∙ pasted_gap (system_of system) f v n t held gs ws (a ++ replicate ((system_of system).payload - length a) 0x200) room;
      })

  pub packet_on : (gs a : List ℕ) (w : Writer) (line : List ℕ) → Open system mode f v n t gs a w line → (did second : ℕ) (vs : List ℕ)
      → Open system mode f v n t (gs ++ packed (packet_of w line did second vs)) a (packing w line did second vs).state (packing w line did second vs).line
  packet_on gs a w line o did second vs = packs_by_lem gs a w line o did second vs (packing w line did second vs).answer refl

  -- ---- any calls
  pub filling : (gs a : List ℕ) (w : Writer) (line : List ℕ) (w' : Writer) (line' : List ℕ) (ps : List (List ℕ)) (qs : List Packet) → Filling w line w' line' ps qs
      → Open system mode f v n t gs a w line → Open system mode f v n t (gs ++ packed qs) (a ++ joined ps) w' line'
  filling gs a w line _ _ _ _ filled o =
      subst (λ (l : List ℕ). Open system mode f v n t (gs ++ []) l w line) (sym (append-nil a)) (subst (λ (l : List ℕ). Open system mode f v n t l a w line) (sym (append-nil gs)) o)
  filling gs a w line w' line' _ qs (adds {ps = ps} kind vs more) o =
      subst (λ (l : List ℕ). Open system mode f v n t (gs ++ packed qs) l w' line') (append_assoc a (piece_of w line kind vs) (joined ps))
      (filling gs (a ++ piece_of w line kind vs) _ _ w' line' ps qs more (step_by gs a w line o kind vs))
  filling gs a w line w' line' ps _ (packs {qs = qs} did second vs more) o =
      let q = packet_of w line did second vs in
      subst (λ (l : List ℕ). Open system mode f v n t l (a ++ joined ps) w' line') (append_assoc gs (packed q) (packed qs) ∙ ap (λ (l : List ℕ). gs ++ l) (sym (packed_append q qs)))
      (filling (gs ++ packed q) a _ _ w' line' ps qs more (packet_on gs a w line o did second vs))
  filling gs a w line w' line' ps qs (tries_opening f' v' n' t' k e more) o =
      let z = open_keeps w f' v' n' t' line k e in
      filling gs a _ _ w' line' ps qs more
      (subst (λ (u : Writer). Open system mode f v n t gs a u (opening w f' v' n' t' line).line) (sym z.0) (subst (λ (l : List ℕ). Open system mode f v n t gs a w l) (sym z.1) o))
  filling gs a w line w' line' ps qs (tries_closing k e more) o =
      let z = close_keeps w line k e in
      filling gs a _ _ w' line' ps qs more
      (subst (λ (u : Writer). Open system mode f v n t gs a u (closing w line).line) (sym z.0) (subst (λ (l : List ℕ). Open system mode f v n t gs a w l) (sym z.1) o))

sum_back : (a k : ℕ) → a ≤ k → a + (k - a) ≡ k
sum_back a k h = omega arith

-- ---- a line opened: nothing is laid yet
pub opened_line : (w : Writer) (f v : Bool) (n : ℕ) (t : Settings) (lent : List ℕ) → (opening w f v n t lent).answer ≡ Done
    → Open w.system w.mode f v n t [] [] (opening w f v n t lent).state (opening w f v n t lent).line
unfolding open_words
opened_line w f v n t lent done =
    let e = open_leaves w f v n t lent (open_clear w f v n t lent done) in
    record {
      of_system = ap (λ (x : Left). x.state.system) e;
      of_mode = ap (λ (x : Left). x.state.mode) e;
      of_settings = ap (λ (x : Left). x.state.settings) e;
      of_place = ap (λ (x : Left). x.state.place) e;
      within = omega arith;
      words = refl;
      summed = ap (λ (x : Left). x.state.crc) e ∙ sym (crc_none crc_start (lit< tt));
      of_used = ap (λ (x : Left). x.state.used) e;
      holds = omega arith;
      is = ap (λ (x : Left). x.line) e
          ∙ ap (λ (m : ℕ). framed (system_of w.system) f v n t [] (replicate m 0x200)) (sym (sub-zero (system_of w.system).payload));
    }

-- ---- an open line closed
module _ (system mode : ℕ) (f v : Bool) (n : ℕ) (t : Settings) (held : Held t) (known : is_system system ≡ true) (moded : is_mode mode ≡ true)
    (row : Sound (system_of system)) (clean : settings_fault system t ≡ 0) (one : 1 ≤ n) (last : n ≤ (system_of system).lines) (gs : List ℕ) (ps : List (List ℕ)) (w : Writer)
    (line : List ℕ) (o : Open system mode f v n t gs (joined ps) w line) (done : (closing w line).answer ≡ Done) where
  -- it is the line of the definition
  pub closed_line : (closing w line).line ≡ line_words (system_of system) f v n t gs (area_from (system_of system).payload t.flag ps)
  unfolding area_from
  closed_line =
      ap (λ (x : Left). x.line) (close_leaves w line (close_clear w line done))
      ∙ ap₂ (λ (s : ℕ) (u : Settings). sealed (system_of s) u.flag (place_of w.place) w.crc line) o.of_system o.of_settings
      ∙ ap₂ (λ (p : Option ℕ) (l : List ℕ). sealed (system_of system) t.flag (place_of p) w.crc l) o.of_place o.is
      ∙ seals (system_of system) f v n t gs held row.room o.holds (joined ps) w.crc o.within (area_most (system_of system).payload t.flag) o.summed

  buildable : Buildable system mode n t (area_from (system_of system).payload t.flag ps)
  unfolding area_from
  buildable =
      let k = area_length (system_of system).payload t.flag in
      record {
        known = known;
        moded = moded;
        one = one;
        most = last;
        held = held;
        clean = clean;
        fills =
            length-append (joined ps) (replicate (k - length (joined ps)) 0x200)
            ∙ ap (λ (x : ℕ). length (joined ps) + x) (length-replicate (k - length (joined ps)) 0x200)
            ∙ sum_back (length (joined ps)) k o.within;
        legals =
            each_append _ (joined ps) (replicate (k - length (joined ps)) 0x200) o.words
            (each_filler _ (k - length (joined ps)) 0x200 (filler_legal mode (is_variable t.block)));
      }

  -- and the line check of its system and mode finds no fault in it
  pub closed_accepted : Accepted system mode n t (area_from (system_of system).payload t.flag ps) (closing w line).line
  closed_accepted =
      subst (λ (l : List ℕ). Accepted system mode n t (area_from (system_of system).payload t.flag ps) l) (sym closed_line)
      (accepted system mode f v n t gs (area_from (system_of system).payload t.flag ps) o.holds buildable)

-- ---- a line opened, filled and closed
-- what it is, and that the line check of its system and mode finds no fault in it and reads back its number, settings and area
pub record Whole (w : Writer) (f v : Bool) (n : ℕ) (t : Settings) (ps : List (List ℕ)) (qs : List Packet) (line : List ℕ) : Type 0 where
  pub is : line ≡ line_words (system_of w.system) f v n t (packed qs) (area_from (system_of w.system).payload t.flag ps)
  pub fits : length (joined ps) ≤ area_length (system_of w.system).payload t.flag
  pub accepts : Accepted w.system w.mode n t (area_from (system_of w.system).payload t.flag ps) line

module _ (w : Writer) (f v : Bool) (n : ℕ) (t : Settings) (lent : List ℕ) (w' : Writer) (line : List ℕ) (ps : List (List ℕ)) (qs : List Packet) (held : Held t)
    (c : Written w f v n t lent w' line ps qs) where
  start : CanOpen w n t (length lent)
  start = can_open w n t (length lent) (open_clear w f v n t lent c.open_done)

  filled_line : Open w.system w.mode f v n t (packed qs) (joined ps) c.last c.full
  filled_line =
      filling w.system w.mode f v n t held start.known start.row start.clean [] [] _ _ c.last c.full ps qs c.calls
      (opened_line w f v n t lent c.open_done)

  pub written : Whole w f v n t ps qs line
  written =
      let law = closed_line w.system w.mode f v n t held start.known start.moded start.row start.clean start.one start.last (packed qs) ps
      c.last c.full filled_line c.close_done in
      let check = closed_accepted w.system w.mode f v n t held start.known start.moded start.row start.clean start.one start.last (packed qs) ps
      c.last c.full filled_line c.close_done in
      record {
        is = c.line_is ∙ law;
        fits = filled_line.within;
        accepts = subst (λ (l : List ℕ). Accepted w.system w.mode n t (area_from (system_of w.system).payload t.flag ps) l) (sym c.line_is) check;
      }
