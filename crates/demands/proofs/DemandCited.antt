-- Each field of the demands and of the running CRC, cited at an instance that a weaker field would not give. The types are written out: what the fields say by names of
-- specs/Demand2.antt and specs/Demand3.antt stands here in the words of the crates below, so that a weaker meaning of a name is noticed too.
-- Assumes nothing.
use Rattle.std.specs.Prelude.{Option, Some, None}
use Prim.Native.Nat.{ℕ, ◌+◌, ◌-◌, ◌≤◌, ◌<◌}
use mathlib.Core.Bool.{Bool, true, false, ◌&&◌, not}
use mathlib.Core.List.{List, [], ◌∷◌, ◌++◌, map}
use mathlib.Core.Logic.{inl, inr}
use mathlib.Core.Path.{◌≡◌, refl, sym, ap, ap₂, ◌∙◌, subst}
use native.Mathlib.Omega.{arith}
use lib.Dec.{eqb, lit<}
use lib.ListN.{length, take, drop}
use Rattle.lists.specs.Tests.{pick}
use Rattle.lists.specs.Lists.{part}
use Rattle.lists.proofs.Tests.{true_false}
use Rattle.words.specs.Crc.{crc_of}
use Rattle.words.specs.Modes.{is_mode}
use Rattle.words.proofs.CrcLaws.{crc_none}
use Rattle.line.specs.declared.settings.Settings.{Settings}
use Rattle.line.specs.Systems.{system_of, is_system}
use Rattle.line.specs.Settings.{Held, settings_fault}
use Rattle.line.specs.Fixed.{is_variable, size_of, places_of}
use Rattle.line.specs.Header.{header_words}
use Rattle.line.specs.Layout.{payload_at, area_length, line_words, area_of}
use Rattle.line.specs.Check.{number_of, settings_of, fits_length, line_fault}
use Rattle.course.specs.Course.{is_at, place_of, next_number, blocks_end}
use Rattle.machine.specs.declared.phase.Phase.{Phase}
use Rattle.machine.specs.declared.phase.Phase.TheVariants.{Idle}
use Rattle.machine.specs.Phases.{is_busy}
use Rattle.writer.specs.declared.state.Writer.{Writer}
use Rattle.writer.specs.declared.state.Answer.TheVariants.{Done}
use Rattle.writer.specs.State.{laid_of, end_in, unfinished}
use Rattle.writer.specs.Answers.{Left}
use Rattle.writer.specs.Block.{words_in}
use Rattle.writer.specs.Opening.{opening}
use Rattle.writer.specs.Adding.{add_fault}
use Rattle.writer.specs.Closing.{closing}
use Rattle.packets.specs.Packet.{Packet, packed, flat}
use Rattle.packets.specs.Listing.{gap_of, Outcome, listing}
use Rattle.writer.specs.Filling.{Filling, Written, area_from, piece_of, joined, as_laid}
use Rattle.writer.proofs.Keeps.{open_clear, open_leaves}
use Rattle.writer.proofs.Refusals.{can_open}
use Rattle.writer.proofs.Stays.{open_possible}
use Rattle.writer.proofs.Writing.{opened_line}
use Rattle.reader.specs.declared.state.Reader.{Reader}
use Rattle.reader.specs.declared.state.Event.TheVariants.{Refused, Begun}
use Rattle.reader.specs.State.{fresh}
use Rattle.reader.specs.Jump.{jump_from}
use Rattle.reader.specs.Reading.{Reply as Answered, goes_on, begun, read_fault, reading}
use Rattle.reader.specs.Lending.{is_begun_event}
use Rattle.demands.specs.All.{All}
use Rattle.demands.specs.Sending.{Call, Block, Piece, Complete, Sent, Desk, start, after, sent_fresh, blocks_of, joined_pieces}
use Rattle.demands.specs.Lent.{Unchanged, lent_fresh}
use Rattle.demands.specs.Writable.{OpenedWith, NumbersFrom, Packed, Writes, TypeHeld, Closable}
use Rattle.demands.specs.Hearing.{Heard, is_refused, is_begun, is_block, is_end, Lends, Reads, Readable, handed_out}
use Rattle.demands.specs.Damage.{Fate, remain, RefusedIfReplaced, longest_run, kept_at, survivors}
use Rattle.demands.specs.Demand2.{IsLine, IsListed, HasBlocks, StandsOn, IsPlaced, given_back}
use Rattle.demands.specs.Demand3.{Consecutive, Transmission}
use Rattle.demands.specs.Running.{desk_after}
use Rattle.demands.proofs.Unrefused.{fits_by, open_long}
use Rattle.demands.proofs.Demand2Holds.{demand_2}
use Rattle.demands.proofs.Demand3Holds.{demand_3}
use Rattle.demands.proofs.RunningHolds.{running}
use Rattle.writer.specs.declared.state.Part.{Part}

-- ---- demand 2
-- `lines`: the first line of system 1 in 8-bit mode, and the second of system 3 in 9-bit mode
pub lines_1_8 : (cs : List Call) (s : Sent) (ss : List Sent) → sent_fresh 1 8 cs ≡ s ∷ ss
    → s.words ≡ line_words (system_of 1) s.f s.v s.number s.settings (packed s.packets) (area_from 1440 s.settings.flag s.pieces)
lines_1_8 cs s ss e = (subst (All (IsLine 1)) e (demand_2.lines 1 8 cs)).0

pub lines_3_9 : (cs : List Call) (r s : Sent) (ss : List Sent) → sent_fresh 3 9 cs ≡ r ∷ s ∷ ss
    → s.words ≡ line_words (system_of 3) s.f s.v s.number s.settings (packed s.packets) (area_from 1920 s.settings.flag s.pieces)
lines_3_9 cs r s ss e = (subst (All (IsLine 3)) e (demand_2.lines 3 9 cs)).1.0

-- `any_line`: with flag 01h
pub any_line_guarded : (w : Writer) (f v : Bool) (n : ℕ) (t : Settings) (lent : List ℕ) (w' : Writer) (line : List ℕ) (ps : List (List ℕ)) (qs : List Packet) → Held t
    → t.flag ≡ 1 → Written w f v n t lent w' line ps qs → line ≡ line_words (system_of w.system) f v n t (packed qs) (area_from (system_of w.system).payload 1 ps)
any_line_guarded w f v n t lent w' line ps qs held flag c =
    demand_2.any_line w f v n t lent w' line ps qs held c
    ∙ ap (λ (x : ℕ). line_words (system_of w.system) f v n t (packed qs) (area_from (system_of w.system).payload x ps)) flag

-- `writable`: in a variable line of system 3 and 9-bit mode, from the last number on, two blocks, one of the most values that there may be
pub writes_3_9 : (t : Settings) (vs us : List ℕ) → Held t → settings_fault 3 t ≡ 0 → t.block ≡ 0xC1 → All (λ (x : ℕ). x < 512) vs → length vs ≡ 16384
    → All (λ (x : ℕ). x < 512) us → length us ≤ 16384 → Writes 3 9 true false 625 t (record { kind = 0; values = vs } ∷ record { kind = 255; values = us } ∷ [])
unfolding is_system is_mode
writes_3_9 t vs us held clean block fits long fits' long' =
    let fixed : (n k : ℕ) → is_variable t.block ≡ false → (n + 1 ≡ size_of t.block) × (1 ≤ k) = λ n k e. absurd (true_false (sym (ap is_variable block) ∙ e)) in
    demand_2.writable 3 9 true false 625 t (record { kind = 0; values = vs } ∷ record { kind = 255; values = us } ∷ []) refl refl (omega arith) (omega arith) held clean
    (record { values = fits; number = omega (arith, long); kind = omega arith; fixed = fixed (length vs) 0 }, (record { values = fits'; number = long'; kind = omega arith; fixed = fixed (length us) 255 }, tt))

-- and what that says of a list of lines: the blocks and no others, in order, on lines with the settings; 1 comes after 625
pub writes_lines : (t : Settings) (bs : List Block) (x : Writes 3 9 true false 625 t bs) (r s : Sent) (ss : List Sent) → sent_fresh 3 9 x.calls ≡ r ∷ s ∷ ss
    → (map (λ (b : Complete). b.block) (r.blocks ++ (s.blocks ++ blocks_of ss)) ≡ bs)
    × ((r.settings ≡ t) × ((s.settings ≡ t) × ((r.number ≡ 625) × (s.number ≡ 1))))
unfolding next_number pick
writes_lines t bs x r s ss e =
    let o = subst (All (OpenedWith true false t)) e x.opened in
    let n = subst (NumbersFrom 625 625) e x.numbers in
    (ap (λ (l : List Sent). map (λ (b : Complete). b.block) (blocks_of l)) (sym e) ∙ x.blocks, (o.0.1.1, (o.1.0.1.1, (n.0, n.1.0))))

-- in a fixed line of system 1 and 8-bit mode, of places of 5 words
pub writes_1_8 : (t : Settings) (vs : List ℕ) → Held t → settings_fault 1 t ≡ 0 → t.block ≡ 0x21 → All (λ (x : ℕ). x < 256) vs → length vs ≡ 4
    → Writes 1 8 false true 1 t (record { kind = 1; values = vs } ∷ [])
unfolding is_system is_mode size_of
writes_1_8 t vs held clean block fits long =
    demand_2.writable 1 8 false true 1 t (record { kind = 1; values = vs } ∷ []) refl refl (omega arith) (omega arith) held clean
    (record { values = fits; number = omega (arith, long); kind = omega arith; fixed = λ e. (ap (λ (n : ℕ). n + 1) long ∙ ap size_of (sym block), omega arith) }, tt)

-- such a line is the only one, as long as there is a place left: a second line says that the first is full
pub writes_one : (t : Settings) (bs : List Block) (x : Writes 1 8 false true 1 t bs) (r s : Sent) (ss : List Sent) → sent_fresh 1 8 x.calls ≡ r ∷ s ∷ ss
    → (length (joined r.pieces) ≡ blocks_end 1440 r.settings.block r.settings.flag) × (1 ≤ length s.pieces)
writes_one t bs x r s ss e = let p = subst (Packed 1) e x.packed in (p.0, p.1.0)

-- 287 places: 287 blocks stand on one line
pub writes_287 : (t : Settings) (bs : List Block) (x : Writes 1 8 false true 1 t bs) → t.block ≡ 0x21 → length bs ≡ 287 → length (sent_fresh 1 8 x.calls) ≡ 1
unfolding places_of pick
writes_287 t bs x block long = x.one_line (ap is_variable block) (subst (λ (k : ℕ). length bs ≤ places_of 1440 k) (sym block) (omega (arith, long)))

-- `closable`: so every accepted opening can be closed again, with a block of any type unfinished
pub record Closed (w : Writer) (f v : Bool) (n : ℕ) (t : Settings) (lent : List ℕ) : Type 0 where
  pub w' : Writer
  pub line : List ℕ
  pub pieces : List (List ℕ)
  pub written : Written w f v n t lent w' line pieces []

closed_by_lem : (w : Writer) (f v : Bool) (n : ℕ) (t : Settings) (lent : List ℕ) → (opening w f v n t lent).answer ≡ Done
    → Closable (opening w f v n t lent).state (opening w f v n t lent).line → Closed w f v n t lent
closed_by_lem w f v n t lent done c =
    record {
      w' = (closing c.last c.full).state;
      line = (closing c.last c.full).line;
      pieces = c.pieces;
      written = record { open_done = done; last = c.last; full = c.full; calls = c.calls; close_done = c.done; state_is = refl; line_is = refl };
    }

pub closed_again : (w : Writer) (f v : Bool) (n : ℕ) (t : Settings) (lent : List ℕ) → Held t → (kind many j : ℕ) → w.rest ≡ unfinished kind many j → kind ≤ 255
    → (opening w f v n t lent).answer ≡ Done → Closed w f v n t lent
closed_again w f v n t lent held kind many j r small done =
    let clear = open_clear w f v n t lent done in
    let can = can_open w n t (length lent) clear in
    let x = opening w f v n t lent in
    let o = opened_line w f v n t lent done in
    closed_by_lem w f v n t lent done
    (demand_2.closable x.state x.line
    (ap₂ (λ (s m : ℕ). fits_length s m (length x.line)) o.of_system o.of_mode
    ∙ fits_by w.system w.mode (length x.line) can.known can.moded (open_long w.system w.mode f v n t [] [] x.state x.line held can.known o))
    (open_possible w f v n t lent can.state) (subst TypeHeld (sym (ap (λ (y : Left). y.state.rest) (open_leaves w f v n t lent clear) ∙ r)) small) (ap is_at o.of_place))

-- `blocks`: the second block of the second line, laid in two pieces, in a 625-line system and 9-bit mode
pub blocks_1_9 : (cs : List Call) (r s : Sent) (ss : List Sent) (a b : Complete) (bs : List Complete) (p q : Piece) → sent_fresh 1 9 cs ≡ r ∷ s ∷ ss
    → s.blocks ≡ a ∷ b ∷ bs → b.pieces ≡ p ∷ q ∷ []
    → (p.words ++ (q.words ++ []) ≡ words_in s.settings.block 9 b.block.kind b.block.values) × ((1 ≤ length p.words) × (1 ≤ length q.words))
blocks_1_9 cs r s ss a b bs p q e eb ep =
    let h = (subst (All (HasBlocks 9)) e (demand_2.blocks 1 9 cs)).1.0 in
    let is = (subst (λ (l : List Complete). All (λ (c : Complete). (joined_pieces c.pieces ≡ words_in s.settings.block 9 c.block.kind c.block.values) × All (λ (x : Piece). 1 ≤ length x.words) c.pieces) l) eb h).1.0 in
    let some = subst (λ (l : List Piece). All (λ (x : Piece). 1 ≤ length x.words) l) ep is.1 in
    (sym (ap joined_pieces ep) ∙ is.0, (some.0, some.1.0))

-- `placed`: a piece of number 1, of a block that is finished on a later line, stands in the second line of a 625-line system
pub record In1440 (ws area : List ℕ) : Type 0 where
  pub place : ℕ
  pub within : place + length ws ≤ 1440
  pub there : take (length ws) (drop place area) ≡ ws

pub placed_1_9 : (cs : List Call) (r s : Sent) (ss : List Sent) (a b : Complete) (bs : List Complete) (p q : Piece) → sent_fresh 1 9 cs ≡ r ∷ s ∷ ss
    → blocks_of (r ∷ s ∷ ss) ≡ a ∷ b ∷ bs → b.pieces ≡ p ∷ q ∷ [] → q.line ≡ 1 → s.settings.flag ≡ 0
    → In1440 q.words (part (1728 - 1440) 1440 s.words)
unfolding area_length area_of pick
placed_1_9 cs r s ss a b bs p q e eb ep is flag =
    let all = subst (λ (l : List Sent). All (IsPlaced 1 l) (blocks_of l)) e (demand_2.placed 1 9 cs) in
    let two = (subst (All (IsPlaced 1 (r ∷ s ∷ ss))) eb all).1.0 in
    let on = (subst (All (λ (x : Piece). StandsOn 1 x.words (r ∷ s ∷ ss) x.line)) ep two).1.0 in
    let x = subst (StandsOn 1 q.words (r ∷ s ∷ ss)) is on in
    record {
      place = x.place;
      within = subst (λ (g : ℕ). x.place + length q.words ≤ area_length 1440 g) flag x.within;
      there = subst (λ (g : ℕ). take (length q.words) (drop x.place (area_of (system_of 1) g s.words)) ≡ q.words) flag x.there;
    }

-- `laid`: of a block of which 5 words were laid, from the sixth on
pub laid_sixth : (w : Writer) (line : List ℕ) (kind n : ℕ) (vs : List ℕ) → add_fault w (length line) kind vs ≡ 0 → w.rest ≡ unfinished kind n 5 → w.place ≡ Some 3
    → piece_of w line kind vs ≡ take (end_in w - 3) (drop 5 (words_in w.settings.block w.mode kind vs))
laid_sixth w line kind n vs clear r p =
    demand_2.laid w line kind vs clear
    ∙ ap₂ (λ (i j : ℕ). take (end_in w - i) (drop j (words_in w.settings.block w.mode kind vs))) (ap place_of p) (ap laid_of r)

-- `accepted`: with a last number, both ways
pub accepted_after_7 : (st : Reader) (line room : List ℕ) → read_fault st (length line) (length room) ≡ 0 → st.place ≡ None → st.last ≡ Some 7
    → line_fault st.system st.mode line ≡ 0 → is_begun_event (reading st line room).told.event ≡ true
accepted_after_7 st line room fit shut last clean = demand_2.accepted st line room fit shut ∙ ap (λ (n : ℕ). eqb n 0) clean

pub refused_after_7 : (st : Reader) (line room : List ℕ) → read_fault st (length line) (length room) ≡ 0 → st.place ≡ None → st.last ≡ Some 7
    → line_fault st.system st.mode line ≡ 16 → is_begun_event (reading st line room).told.event ≡ false
refused_after_7 st line room fit shut last bad = demand_2.accepted st line room fit shut ∙ ap (λ (n : ℕ). eqb n 0) bad

-- `told`: with a last number and no open block
pub told_after_7 : (st : Reader) (line room : List ℕ) → read_fault st (length line) (length room) ≡ 0 → st.place ≡ None → st.last ≡ Some 7 → st.phase ≡ Idle
    → line_fault st.system st.mode line ≡ 0
    → ((reading st line room).told.event ≡ Begun (number_of line) (jump_from (system_of st.system).lines (Some 7) (number_of line)) false)
    × (((reading st line room).told.state.last ≡ Some (number_of line)) × (((reading st line room).told.state.settings ≡ settings_of line) × ((reading st line room).room ≡ room)))
unfolding begun
told_after_7 st line room fit shut last idle clean =
    let e = (demand_2.told st line room fit shut clean).0 in
    let n = number_of line in (
      ap (λ (x : Answered). x.told.event) e
          ∙ ap₂ (λ (l : Option ℕ) (p : Phase). Begun n (jump_from (system_of st.system).lines l n) (is_busy p && not (goes_on st n (settings_of line)))) last idle,
      (ap (λ (x : Answered). x.told.state.last) e, (ap (λ (x : Answered). x.told.state.settings) e, ap (λ (x : Answered). x.room) e)),
    )

-- and behind a refused line, with AAI 1 kept
pub told_after_none : (st : Reader) (line room : List ℕ) → read_fault st (length line) (length room) ≡ 0 → st.place ≡ None → st.last ≡ None → st.phase ≡ Idle
    → st.settings.aai ≡ 1 → line_fault st.system st.mode line ≡ 0
    → ((reading st line room).told.event ≡ Begun (number_of line) None false)
    × (((reading st line room).told.state.last ≡ Some (number_of line)) × ((reading st line room).told.state.settings ≡ settings_of line))
unfolding begun
told_after_none st line room fit shut last idle kept clean =
    let e = (demand_2.told st line room fit shut clean).0 in
    let n = number_of line in (
      ap (λ (x : Answered). x.told.event) e
          ∙ ap₂ (λ (l : Option ℕ) (p : Phase). Begun n (jump_from (system_of st.system).lines l n) (is_busy p && not (goes_on st n (settings_of line)))) last idle,
      (ap (λ (x : Answered). x.told.state.last) e, ap (λ (x : Answered). x.told.state.settings) e),
    )

pub told_header : (st : Reader) (line room : List ℕ) → read_fault st (length line) (length room) ≡ 0 → st.place ≡ None → line_fault st.system st.mode line ≡ 0
    → part 4 53 line ≡ header_words (number_of line) (settings_of line)
told_header st line room fit shut clean = (demand_2.told st line room fit shut clean).1

-- `not_told`: with 16, and an open block, which is dropped
pub not_told_16 : (st : Reader) (line room : List ℕ) → read_fault st (length line) (length room) ≡ 0 → st.place ≡ None → is_busy st.phase ≡ true
    → line_fault st.system st.mode line ≡ 16
    → ((reading st line room).told.event ≡ Refused 16 true)
    × (((reading st line room).told.state ≡ record { system = st.system; mode = st.mode; last = None; settings = st.settings; place = None; phase = Idle })
    × ((reading st line room).room ≡ room))
not_told_16 st line room fit shut busy bad =
    let e = demand_2.not_told st line room fit shut 16 bad (λ z. omega arith) in (
      ap (λ (x : Answered). x.told.event) e ∙ ap (Refused 16) busy,
      (ap (λ (x : Answered). x.told.state) e, ap (λ (x : Answered). x.room) e),
    )

-- `heard`: of two lines of a 625-line system, in both modes
abbrev pub Told2 : ℕ → ℕ → Type 0
Told2 system mode =
    (cs : List Call) (r s : Sent) → sent_fresh system mode cs ≡ r ∷ s ∷ [] → (room : List ℕ) → length room ≡ 16384 → (hs : List Heard)
    → Reads (fresh system mode) room (map (λ (x : Sent). x.words) (sent_fresh system mode cs)) hs
    → hs ≡ is_begun r.number None false r.settings ∷ (map (λ (b : Complete). is_block b.block) r.blocks
    ++ (is_end ∷ is_begun s.number (jump_from 625 (Some r.number) s.number) false s.settings ∷ (map (λ (b : Complete). is_block b.block) s.blocks
    ++ (is_end ∷ []))))

pub heard_1_8 : Told2 1 8
unfolding given_back
heard_1_8 cs r s e room long hs x = demand_2.heard 1 8 cs room long hs x ∙ ap (given_back 625 None) e

pub heard_3_9 : Told2 3 9
unfolding given_back
heard_3_9 cs r s e room long hs x = demand_2.heard 3 9 cs room long hs x ∙ ap (given_back 625 None) e

-- `readable`
pub readable_1_9 : (cs : List Call) (room : List ℕ) → Readable (fresh 1 9) room (map (λ (s : Sent). s.words) (sent_fresh 1 9 cs))
readable_1_9 = demand_2.readable 1 9

pub readable_3_8 : (cs : List Call) (room : List ℕ) → Readable (fresh 3 8) room (map (λ (s : Sent). s.words) (sent_fresh 3 8 cs))
readable_3_8 = demand_2.readable 3 8

-- `rewritten`: in both modes
pub rewritten_1_9 : (line : List ℕ) → line_fault 1 9 line ≡ 0 → part 4 53 line ≡ header_words (number_of line) (settings_of line)
rewritten_1_9 = demand_2.rewritten 1 9

pub rewritten_2_8 : (line : List ℕ) → line_fault 2 8 line ≡ 0 → part 4 53 line ≡ header_words (number_of line) (settings_of line)
rewritten_2_8 = demand_2.rewritten 2 8

-- ---- the running CRC
-- `kept`: behind two calls, with five words laid on a line of system 3 in 9-bit mode; and with no line open, in system 1
pub kept_3_9 : (a b : Call) → let d = after (after (start 3 9) a) b in d.writer.place ≡ Some 5 → d.writer.crc ≡ crc_of 262143 (take 5 (drop 384 d.now.words))
unfolding desk_after
kept_3_9 a b at =
    let d = after (after (start 3 9) a) b in
    running.kept 3 9 (a ∷ b ∷ []) ∙ ap (λ (p : Option ℕ). crc_of 262143 (take (place_of p) (drop 384 d.now.words))) at

pub kept_none : (a b : Call) → let d = after (after (start 1 8) a) b in d.writer.place ≡ None → d.writer.crc ≡ 262143
unfolding desk_after
kept_none a b shut =
    let d = after (after (start 1 8) a) b in
    running.kept 1 8 (a ∷ b ∷ []) ∙ ap (λ (p : Option ℕ). crc_of 262143 (take (place_of p) (drop 288 d.now.words))) shut ∙ crc_none 262143 (lit< tt)

-- `any_line`: with flag 00h, whatever number was stored before
pub any_kept : (w : Writer) (f v : Bool) (n : ℕ) (t : Settings) (lent : List ℕ) (w' : Writer) (line : List ℕ) (ps : List (List ℕ)) (qs : List Packet) → Held t → t.flag ≡ 0
    → (opening w f v n t lent).answer ≡ Done → Filling (opening w f v n t lent).state (opening w f v n t lent).line w' line ps qs → w.system ≡ 2 → w'.place ≡ Some 7
    → w'.crc ≡ crc_of 262143 (take 7 (drop 368 line))
any_kept w f v n t lent w' line ps qs held flag done calls system at =
    running.any_line w f v n t lent w' line ps qs held done calls
    ∙ ap₂ (λ (s : ℕ) (p : Option ℕ). crc_of 262143 (part (payload_at (system_of s)) (place_of p) line)) system at

-- `listed_back`: of the second line of a 625-line system, whatever words are lent for the list
pub listed_3_9 : (cs : List Call) (r s : Sent) (ss : List Sent) (out : List ℕ) → sent_fresh 3 9 cs ≡ r ∷ s ∷ ss → length out ≡ 323
    → listing 3 9 s.words out
    ≡ record {
      answer = record { fault = 0; packets = length s.packets; words = length (flat s.packets); gap = length (packed s.packets); stop = 0 };
      out = flat s.packets ++ drop (length (flat s.packets)) out;
    }
listed_3_9 cs r s ss out e long = (subst (All (IsListed 3 9)) e (demand_2.listed_back 3 9 cs)).1.0 out long

-- `relisted`: of an accepted line of system 1, where a bad packet ended the list
pub relisted_1_8 : (line out : List ℕ) → line_fault 1 8 line ≡ 0 → length out ≡ 227 → (listing 1 8 line out).answer.stop ≡ 23
    → let x = demand_2.relisted 1 8 line out in (clean : line_fault 1 8 line ≡ 0) (long : length out ≡ 227)
    → ((x clean long).stop ≡ 23) × (packed (x clean long).packets ≡ take (length (packed (x clean long).packets)) (take 227 (drop 57 line)))
unfolding gap_of
relisted_1_8 line out c l e clean long =
    let x = demand_2.relisted 1 8 line out clean long in
    (sym (ap (λ (o : Outcome). o.answer.stop) x.listed) ∙ e, x.again)

-- ---- demand 3
-- `handed`: of a 625-line system, in both modes, from no more than the four conditions
abbrev pub Handed625 : ℕ → ℕ → Type 0
Handed625 system mode =
    (cs : List Call) (fs : List Fate) → Consecutive 625 (sent_fresh system mode cs) → length fs ≡ length (sent_fresh system mode cs) → longest_run fs < 625
    → All (RefusedIfReplaced system mode) fs → (room : List ℕ) → length room ≡ 16384 → (hs : List Heard)
    → Reads (fresh system mode) room (remain fs (sent_fresh system mode cs)) hs
    → handed_out hs ≡ survivors (kept_at fs) (blocks_of (sent_fresh system mode cs))

pub handed_1_8 : Handed625 1 8
handed_1_8 cs fs numbers each runs refusing = demand_3.handed 1 8 cs fs (record { numbers = numbers; each_line = each; runs = runs; refusing = refusing })

pub handed_3_9 : Handed625 3 9
handed_3_9 cs fs numbers each runs refusing = demand_3.handed 3 9 cs fs (record { numbers = numbers; each_line = each; runs = runs; refusing = refusing })

-- `needed`: with runs of 525 lines it is false
pub needed_525 : ((cs : List Call) (fs : List Fate) → Transmission 0 8 526 cs fs → (room : List ℕ) → length room ≡ 16384 → (hs : List Heard)
    → Reads (fresh 0 8) room (remain fs (sent_fresh 0 8 cs)) hs → handed_out hs ≡ survivors (kept_at fs) (blocks_of (sent_fresh 0 8 cs))) → ⊥
needed_525 = demand_3.needed

-- `lent`: of a new block, whatever is held; and of a block of which 20 words were laid, lent unchanged
pub lent_new : (d : Desk) (vs : List ℕ) → d.writer.rest ≡ None → as_laid (laid_of d.writer.rest) d.values vs ≡ vs
lent_new d vs e = demand_3.lent d vs (inl e)

pub lent_again : (d : Desk) (kind n : ℕ) (vs : List ℕ) → d.writer.rest ≡ unfinished kind n 20 → d.values ≡ vs → take 14 d.values ++ drop 14 vs ≡ vs
lent_again d kind n vs r e = sym (ap (λ (x : Option Part). as_laid (laid_of x) d.values vs) r) ∙ demand_3.lent d vs (inr e)

-- `as_demanded`: of system 3 in 9-bit mode, from the demand's conditions and no more
pub as_demanded_3_9 : (t : Settings) (cs : List Call) (fs : List Fate) → t.block ≡ 0xC1 → All (λ (s : Sent). s.settings ≡ t) (sent_fresh 3 9 cs)
    → Unchanged (start 3 9) cs → Transmission 3 9 625 cs fs → (room : List ℕ) → length room ≡ 16384 → (hs : List Heard)
    → Reads (fresh 3 9) room (remain fs (sent_fresh 3 9 cs)) hs → handed_out hs ≡ survivors (kept_at fs) (lent_fresh 3 9 cs)
as_demanded_3_9 t cs fs variable one_set unchanged x =
    demand_3.as_demanded 3 9 t cs fs (record { variable = variable; one_set = one_set; unchanged = unchanged; transmission = x })

-- `readable`: any lines
pub any_readable : (room : List ℕ) (lines : List (List ℕ)) → Readable (fresh 3 9) room lines
any_readable = demand_3.readable 3 9

-- `ends`: a line of system 1 with flag 01h, whatever the state holds but a begun line
pub ends_1440 : (st : Reader) (line room : List ℕ) → st.place ≡ None → st.system ≡ 1 → (settings_of line).flag ≡ 1
    → (hs : List Heard) (st' : Reader) (room' : List ℕ) → Lends line st room hs st' room' → length hs ≤ 1440
unfolding area_length pick
ends_1440 st line room shut system flag hs st' room' x =
    subst (λ (n : ℕ). length hs ≤ n) (ap₂ (λ (s g : ℕ). area_length (system_of s).payload g + 2) system flag) (demand_3.ends st line room shut hs st' room' x)

-- `served`: of a 625-line system: a refusal heard first has a number from 3 on
pub served_1_9 : (cs : List Call) (fs : List Fate) → Transmission 1 9 625 cs fs → (room : List ℕ) → length room ≡ 16384
    → (n : ℕ) (dropped : Bool) (hs : List Heard) → Reads (fresh 1 9) room (remain fs (sent_fresh 1 9 cs)) (is_refused n dropped ∷ hs) → 3 ≤ n
served_1_9 cs fs x room long n dropped hs r = (demand_3.served 1 9 cs fs x room long (is_refused n dropped ∷ hs) r).0

-- and so has one heard second
pub served_3_8 : (cs : List Call) (fs : List Fate) → Transmission 3 8 625 cs fs → (room : List ℕ) → length room ≡ 16384
    → (h : Heard) (n : ℕ) (dropped : Bool) (hs : List Heard) → Reads (fresh 3 8) room (remain fs (sent_fresh 3 8 cs)) (h ∷ is_refused n dropped ∷ hs) → 3 ≤ n
served_3_8 cs fs x room long h n dropped hs r = (demand_3.served 3 8 cs fs x room long (h ∷ is_refused n dropped ∷ hs) r).1.0
