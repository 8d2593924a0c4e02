-- What a call does to the desk: it opens a line, lays a piece, closes the line, or is quiet. One law a kind is then enough of any course of calls.
-- Assumes nothing.
use mathlib.Core.Path.{◌≡◌, refl, sym, ap, ◌∙◌, subst}
use mathlib.Core.Bool.{Bool, true, false}
use mathlib.Core.List.{List, [], ◌∷◌, ◌++◌}
use Prim.Native.Nat.{ℕ, ◌<◌}
use lib.ListN.{length}
use Rattle.line.specs.declared.settings.Settings.{Settings}
use Rattle.line.specs.Settings.{Held}
use Rattle.course.specs.Course.{is_at}
use Rattle.writer.specs.declared.state.Writer.{Writer}
use Rattle.writer.specs.declared.state.Answer.{Answer}
use Rattle.writer.specs.declared.state.Answer.TheVariants.{Refused, Done}
use Rattle.writer.specs.declared.state.Laid.{Laid}
use Rattle.writer.specs.declared.state.Laid.TheVariants.{Refused as NotLaid, Finished, Unfinished}
use Rattle.writer.specs.State.{impossible}
use Rattle.writer.specs.Opening.{opening}
use Rattle.writer.specs.Adding.{add_fault, adding}
use Rattle.writer.specs.Answers.{Left}
use Rattle.writer.specs.Packing.{packing}
use Rattle.writer.specs.Closing.{closing}
use Rattle.writer.specs.Filling.{joined}
use Rattle.writer.proofs.Pieces.{finished_clear, unfinished_clear}
use Rattle.packets.specs.Packet.{Packet, packed}
use Rattle.packets.proofs.ListLaws.{packed_append, AllSound, sound_more}
use Rattle.writer.proofs.Packs.{can_pack, pack_clear, pack_leaves}
use Rattle.writer.proofs.Stays.{pack_possible}
use Rattle.writer.proofs.Writing.{Open, packs_by_lem}
use Rattle.demands.specs.Sending.{Call, opens, adds, packs, closes, Sent, Desk, with, opened_by, added_by, closed_by, sends_by, after, sends}
use Rattle.demands.proofs.DeskOk.{Openable, DeskOk}
use Rattle.demands.proofs.DeskCalls.{moves, after_opened, open_refused_same, after_finished, after_unfinished, add_refused_same, after_packed, pack_refused_same, after_closed, close_refused_same, owes_stays}

-- Quiet: the call lays nothing in the area and leaves the unfinished block. The state and the packets and words of the line opened last may change, but
-- the line is still what it was opened with and what was laid on it. `told`: with no line open the last number may change.
pub record Quiet (told : Bool) (d : Desk) (w : Writer) (qs : List Packet) (ws : List ℕ) : Type 0 where
  pub of_system : w.system ≡ d.writer.system
  pub of_mode : w.mode ≡ d.writer.mode
  pub last : told ≡ false → w.last ≡ d.writer.last
  pub open_last : is_at d.writer.place ≡ true → w.last ≡ d.writer.last
  pub settings : w.settings ≡ d.writer.settings
  pub place : w.place ≡ d.writer.place
  pub rest : w.rest ≡ d.writer.rest
  pub crc : w.crc ≡ d.writer.crc
  pub possible : impossible d.writer ≡ false → impossible w ≡ false
  pub sound : AllSound d.now.packets → AllSound qs
  pub still : (system mode : ℕ) → Openable system mode d.now.number d.now.settings
      → Open system mode d.now.f d.now.v d.now.number d.now.settings (packed d.now.packets) (joined d.now.pieces) d.writer d.now.words
      → Open system mode d.now.f d.now.v d.now.number d.now.settings (packed qs) (joined d.now.pieces) w ws

-- the desk and the lines closed, behind a call
pub data Does (told : Bool) (d : Desk) : Call → Desk → List Sent → Type 0 where
  is_quiet : {c : Call} (w : Writer) (qs : List Packet) (ws : List ℕ) → Quiet told d w qs ws → Does told d c (moves d w qs ws) []
  is_opened : (f v : Bool) (n : ℕ) (t : Settings) (held : Held t) (lent : List ℕ) → (opening d.writer f v n t lent).answer ≡ Done
      → Does told d (opens f v n t held lent) (opened_by Done (opening d.writer f v n t lent) d f v n t) []
  is_finished : (kind : ℕ) (vs : List ℕ) → add_fault d.writer (length d.now.words) kind vs ≡ 0 → (adding d.writer d.now.words kind vs).answer ≡ Finished
      → Does told d (adds kind vs) (added_by Finished (adding d.writer d.now.words kind vs) d kind vs) []
  is_unfinished : (kind : ℕ) (vs : List ℕ) → add_fault d.writer (length d.now.words) kind vs ≡ 0 → (adding d.writer d.now.words kind vs).answer ≡ Unfinished
      → Does told d (adds kind vs) (added_by Unfinished (adding d.writer d.now.words kind vs) d kind vs) []
  is_closed : (closing d.writer d.now.words).answer ≡ Done
      → Does told d closes (closed_by Done (closing d.writer d.now.words) d)
      (with d.now d.now.pieces d.now.blocks (closing d.writer d.now.words).line ∷ [])

-- ---- each call does one of these; a refused call is quiet
refused : (told : Bool) (d : Desk) (c : Call) → Does told d c d []
refused told d c =
    is_quiet d.writer d.now.packets d.now.words
    (record { of_system = refl; of_mode = refl; last = λ z. refl; open_last = λ z. refl; settings = refl; place = refl; rest = refl; crc = refl; possible = λ p. p; sound = λ s. s; still = λ system mode a o. o })

-- an accepted packet
packed_quiet : (told : Bool) (d : Desk) (did second : ℕ) (vs : List ℕ) → did < 256 → second < 256 → (packing d.writer d.now.words did second vs).answer ≡ Done
    → let x = packing d.writer d.now.words did second vs in
    Quiet told d x.state (d.now.packets ++ (record { did = did; second = second; values = vs } ∷ [])) x.line
packed_quiet told d did second vs p q e =
    let w = d.writer in
    let line = d.now.words in
    let ok = pack_clear w line did second vs e in
    let is = pack_leaves w line did second vs ok in
    let c = can_pack w line vs ok in
    let new : Packet = record { did = did; second = second; values = vs } in
    record {
      of_system = ap (λ (x : Left). x.state.system) is;
      of_mode = ap (λ (x : Left). x.state.mode) is;
      last = λ z. ap (λ (x : Left). x.state.last) is;
      open_last = λ z. ap (λ (x : Left). x.state.last) is;
      settings = ap (λ (x : Left). x.state.settings) is;
      place = ap (λ (x : Left). x.state.place) is;
      rest = ap (λ (x : Left). x.state.rest) is;
      crc = ap (λ (x : Left). x.state.crc) is;
      possible = pack_possible w line did second vs;
      sound = λ s. sound_more d.now.packets new s (record { did = p; second = q; few = c.few; nine = c.nine });
      still = λ system mode a o.
          subst (λ (l : List ℕ). Open system mode d.now.f d.now.v d.now.number d.now.settings l (joined d.now.pieces) (packing w line did second vs).state (packing w line did second vs).line)
          (sym (packed_append d.now.packets (new ∷ [])))
          (packs_by_lem system mode d.now.f d.now.v d.now.number d.now.settings a.held a.known a.row a.clean (packed d.now.packets) (joined d.now.pieces) w line o did second vs Done e);
    }

pub does : (told : Bool) (d : Desk) (c : Call) → Does told d c (after d c) (sends d c)
unfolding sends
does told d (opens f v n t held lent) = by (opening d.writer f v n t lent).answer refl
  where
    by : (a : Answer) → (opening d.writer f v n t lent).answer ≡ a → Does told d (opens f v n t held lent) (after d (opens f v n t held lent)) []
    by (Refused k) e = subst (λ (x : Desk). Does told d (opens f v n t held lent) x []) (sym (open_refused_same d f v n t held lent k e)) (refused told d (opens f v n t held lent))
    by Done e = subst (λ (x : Desk). Does told d (opens f v n t held lent) x []) (sym (after_opened d f v n t held lent e)) (is_opened f v n t held lent e)
does told d (adds kind vs) = by (adding d.writer d.now.words kind vs).answer refl
  where
    by : (a : Laid) → (adding d.writer d.now.words kind vs).answer ≡ a → Does told d (adds kind vs) (after d (adds kind vs)) []
    by (NotLaid k) e = subst (λ (x : Desk). Does told d (adds kind vs) x []) (sym (add_refused_same d kind vs k e)) (refused told d (adds kind vs))
    by Finished e = subst (λ (x : Desk). Does told d (adds kind vs) x []) (sym (after_finished d kind vs e)) (is_finished kind vs (finished_clear d.writer d.now.words kind vs e) e)
    by Unfinished e = subst (λ (x : Desk). Does told d (adds kind vs) x []) (sym (after_unfinished d kind vs e)) (is_unfinished kind vs (unfinished_clear d.writer d.now.words kind vs e) e)
does told d (packs did second p q vs) = by (packing d.writer d.now.words did second vs).answer refl
  where
    by : (a : Answer) → (packing d.writer d.now.words did second vs).answer ≡ a → Does told d (packs did second p q vs) (after d (packs did second p q vs)) []
    by (Refused k) e =
        subst (λ (x : Desk). Does told d (packs did second p q vs) x []) (sym (pack_refused_same d did second p q vs k e)) (refused told d (packs did second p q vs))
    by Done e =
        subst (λ (x : Desk). Does told d (packs did second p q vs) x []) (sym (after_packed d did second p q vs e)) (is_quiet _ _ _ (packed_quiet told d did second vs p q e))
does told d closes = by (closing d.writer d.now.words).answer refl
  where
    by : (a : Answer) → (closing d.writer d.now.words).answer ≡ a
        → Does told d closes (after d closes) (sends_by (closing d.writer d.now.words).answer (closing d.writer d.now.words) d)
    by (Refused k) e =
        subst (λ (z : Answer). Does told d closes (after d closes) (sends_by z (closing d.writer d.now.words) d)) (sym e)
        (subst (λ (x : Desk). Does told d closes x []) (sym (close_refused_same d k e)) (refused told d closes))
    by Done e =
        subst (λ (z : Answer). Does told d closes (after d closes) (sends_by z (closing d.writer d.now.words) d)) (sym e)
        (subst (λ (x : Desk). Does told d closes x (with d.now d.now.pieces d.now.blocks (closing d.writer d.now.words).line ∷ [])) (sym (after_closed d e)) (is_closed e))

-- ---- the desk holds what it held behind a quiet call
pub quiet_ok : (system mode : ℕ) (told : Bool) (d : Desk) (w : Writer) (qs : List Packet) (ws : List ℕ) → Quiet told d w qs ws → DeskOk system mode d → DeskOk system mode (moves d w qs ws)
quiet_ok system mode told d w qs ws q ok =
    record {
      of_system = q.of_system ∙ ok.of_system;
      possible = q.possible ok.possible;
      opened = λ at.
          let was = sym (ap is_at q.place) ∙ at in
          let o = ok.opened was in
          record {
            is_open = q.still system mode o.openable o.is_open;
            openable = o.openable;
            last_is = q.open_last was ∙ o.last_is;
            sound = q.sound o.sound;
            placed = o.placed;
          };
      owes = owes_stays mode d w _ d.closed q.of_mode q.rest (λ z. ap (λ (t : Settings). t.block) q.settings) ok.owes;
    }
