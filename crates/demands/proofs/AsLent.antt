-- Blocks lent unchanged until finished are, as laid, the blocks as lent.
-- Assumes nothing.
use Rattle.std.specs.Prelude.{Option, Some, None}
use Prim.Native.Nat.{ℕ, ◌-◌}
use mathlib.Core.Bool.{Bool, true}
use mathlib.Core.List.{List, [], ◌∷◌, ◌++◌, append-nil}
use mathlib.Core.Logic.{◌⊎◌, inl, inr, ⊎_elim}
use mathlib.Core.Path.{◌≡◌, refl, sym, ap, ◌∙◌}
use lib.ListN.{take-append-drop}
use Rattle.line.specs.declared.settings.Settings.{Settings}
use Rattle.writer.specs.declared.state.Answer.{Answer}
use Rattle.writer.specs.declared.state.Answer.TheVariants.{Refused, Done}
use Rattle.writer.specs.declared.state.Laid.{Laid}
use Rattle.writer.specs.declared.state.Laid.TheVariants.{Refused as NotLaid, Finished, Unfinished}
use Rattle.writer.specs.State.{is_part, laid_of}
use Rattle.writer.specs.Answers.{Left, Added}
use Rattle.writer.specs.Opening.{opening}
use Rattle.writer.specs.Adding.{adding}
use Rattle.packets.specs.Packet.{Packet}
use Rattle.writer.specs.Packing.{packing}
use Rattle.writer.specs.Closing.{closing}
use Rattle.writer.specs.Filling.{as_laid}
use Rattle.writer.proofs.Pieces.{finished_clear}
use Rattle.demands.specs.Sending.{Call, opens, adds, packs, closes, Complete, Sent, Desk, start, values_now, piece_now, opened_by, added_by, packs_by, closed_by, sends_by, after, sends, sent_by, sent_fresh, blocks_of}
use Rattle.demands.specs.Lent.{Unchanged, finished_by, opened_with, closed_with, lent_by, lent_fresh}
use Rattle.writer.specs.declared.state.Part.{Part}

-- ---- the values as laid are those lent: of a new block, and of one lent again unchanged
pub as_lent : (d : Desk) (vs : List ℕ) → (d.writer.rest ≡ None) ⊎ (d.values ≡ vs) → values_now d vs ≡ vs
as_lent d vs =
    ⊎_elim (λ e. ap (λ (r : Option Part). as_laid (laid_of r) d.values vs) e)
    (λ e. ap (λ (l : List ℕ). as_laid (laid_of d.writer.rest) l vs) e ∙ take-append-drop (laid_of d.writer.rest - 6) vs)

whole_or : (r : Option Part) → (r ≡ None) ⊎ (is_part r ≡ true)
whole_or None = inl refl
whole_or (Some p) = inr refl

-- ---- each call: the blocks finished on the line opened last
opened_blocks : (a : Answer) (x : Left) (d : Desk) (f v : Bool) (n : ℕ) (t : Settings) → opened_with a d.now.blocks ≡ (opened_by a x d f v n t).now.blocks
opened_blocks (Refused k) x d f v n t = refl
opened_blocks Done x d f v n t = refl

added_blocks : (a : Laid) (x : Added) (d : Desk) (kind : ℕ) (vs : List ℕ) → (a ≡ Finished → values_now d vs ≡ vs)
    → d.now.blocks ++ finished_by a d kind vs ≡ (added_by a x d kind vs).now.blocks
added_blocks (NotLaid k) x d kind vs h = append-nil d.now.blocks
added_blocks Finished x d kind vs h =
    ap (λ (l : List ℕ). d.now.blocks ++ (record { block = record { kind = kind; values = l }; pieces = d.pieces ++ (piece_now d kind vs ∷ []) } ∷ [])) (sym (h refl))
added_blocks Unfinished x d kind vs h = append-nil d.now.blocks

packed_blocks : (a : Answer) (x : Left) (d : Desk) (p : Packet) → d.now.blocks ≡ (packs_by a x d p).now.blocks
packed_blocks (Refused k) x d p = refl
packed_blocks Done x d p = refl

closed_blocks : (a : Answer) (x : Left) (d : Desk) → d.now.blocks ≡ (closed_by a x d).now.blocks
closed_blocks (Refused k) x d = refl
closed_blocks Done x d = refl

closed_sends : (a : Answer) (x : Left) (d : Desk) (ss : List Sent) → closed_with a d.now.blocks ++ blocks_of ss ≡ blocks_of (sends_by a x d ++ ss)
closed_sends (Refused k) x d ss = refl
closed_sends Done x d ss = refl

-- ---- any course of calls
lent_is : (cs : List Call) (d : Desk) → Unchanged d cs → lent_by d d.now.blocks cs ≡ blocks_of (sent_by d cs)
unfolding Unchanged lent_by sent_by sends after
lent_is [] d u = refl
lent_is (opens f v n t held lent ∷ cs) d u =
    let x = opening d.writer f v n t lent in
    ap (λ (bs : List Complete). lent_by (after d (opens f v n t held lent)) bs cs) (opened_blocks x.answer x d f v n t) ∙ lent_is cs (after d (opens f v n t held lent)) u
lent_is (adds kind vs ∷ cs) d u =
    let x = adding d.writer d.now.words kind vs in
    let unchanged : x.answer ≡ Finished → values_now d vs ≡ vs =
    λ e. as_lent d vs (⊎_elim (λ w. inl w) (λ p. inr (u.0 (finished_clear d.writer d.now.words kind vs e) p)) (whole_or d.writer.rest)) in
    ap (λ (bs : List Complete). lent_by (after d (adds kind vs)) bs cs) (added_blocks x.answer x d kind vs unchanged) ∙ lent_is cs (after d (adds kind vs)) u.1
lent_is (packs did second p q vs ∷ cs) d u =
    let x = packing d.writer d.now.words did second vs in
    let c = packs did second p q vs in
    ap (λ (bs : List Complete). lent_by (after d c) bs cs) (packed_blocks x.answer x d (record { did = did; second = second; values = vs })) ∙ lent_is cs (after d c) u
lent_is (closes ∷ cs) d u =
    let x = closing d.writer d.now.words in
    ap (λ (bs : List Complete). closed_with x.answer d.now.blocks ++ bs)
    (ap (λ (bs : List Complete). lent_by (after d closes) bs cs) (closed_blocks x.answer x d) ∙ lent_is cs (after d closes) u)
    ∙ closed_sends x.answer x d (sent_by (after d closes) cs)

pub lent_fresh_lem : (system mode : ℕ) (cs : List Call) → Unchanged (start system mode) cs → lent_fresh system mode cs ≡ blocks_of (sent_fresh system mode cs)
lent_fresh_lem system mode cs u = lent_is cs (start system mode) u
