-- What a call leaves of the desk, by its answer: a refused call leaves all of it.
-- Assumes nothing.
use Rattle.std.specs.Prelude.{Some, None, Option}
use mathlib.Core.Path.{◌≡◌, refl, sym, ap, ap₂, ◌∙◌, subst}
use mathlib.Core.Bool.{Bool, true, false}
use mathlib.Core.List.{List, [], ◌∷◌, ◌++◌, append_assoc}
use Prim.Native.Nat.{ℕ, ◌<◌}
use native.Mathlib.Omega.{arith}
use lib.ListN.{length}
use Rattle.lists.specs.Tests.{pick}
use Rattle.lists.proofs.Tests.{true_false}
use Rattle.line.specs.declared.settings.Settings.{Settings}
use Rattle.line.specs.Settings.{Held}
use Rattle.line.specs.Fixed.{is_variable}
use Rattle.course.specs.Course.{is_at}
use Rattle.writer.specs.declared.state.Writer.{Writer}
use Rattle.writer.specs.declared.state.Answer.{Answer}
use Rattle.writer.specs.declared.state.Answer.TheVariants.{Refused, Done}
use Rattle.writer.specs.declared.state.Laid.{Laid}
use Rattle.writer.specs.declared.state.Laid.TheVariants.{Refused as NotLaid, Finished, Unfinished}
use Rattle.writer.specs.State.{is_part}
use Rattle.writer.specs.Answers.{laid_numbers, Added}
use Rattle.writer.specs.Opening.{opening}
use Rattle.writer.specs.Adding.{add_fault, adding}
use Rattle.writer.specs.Packing.{packing}
use Rattle.writer.specs.Closing.{closing}
use Rattle.writer.specs.Filling.{joined}
use Rattle.writer.proofs.Keeps.{open_keeps, close_keeps, add_stays, add_leaves}
use Rattle.packets.specs.Packet.{Packet}
use Rattle.writer.proofs.Packs.{pack_keeps}
use Rattle.demands.specs.Sending.{opens, adds, packs, closes, with_packets, packs_by, Piece, Complete, Sent, Desk, opened_by, with, piece_now, added_by, closed_by, after, joined_pieces}
use Rattle.demands.proofs.DeskOk.{Owes, DeskOk}
use Rattle.writer.specs.declared.state.Part.{Part}

-- ---- joined
pub joined_pieces_append : (ps qs : List Piece) → joined_pieces (ps ++ qs) ≡ joined_pieces ps ++ joined_pieces qs
joined_pieces_append [] qs = refl
joined_pieces_append (p ∷ ps) qs =
    ap (λ (l : List ℕ). p.words ++ l) (joined_pieces_append ps qs) ∙ sym (append_assoc p.words (joined_pieces ps) (joined_pieces qs))

pub joined_append : (ps qs : List (List ℕ)) → joined (ps ++ qs) ≡ joined ps ++ joined qs
joined_append [] qs = refl
joined_append (p ∷ ps) qs = ap (λ (l : List ℕ). p ++ l) (joined_append ps qs) ∙ sym (append_assoc p (joined ps) (joined qs))

-- ---- a line is open or not
pub shut_at : (p : ℕ) → None ≡ Some p → ⊥
shut_at p e = true_false (sym (ap is_at e))

-- ---- opening
module _ (d : Desk) (f v : Bool) (n : ℕ) (t : Settings) (held : Held t) (lent : List ℕ) where
  pub after_opened : (opening d.writer f v n t lent).answer ≡ Done → after d (opens f v n t held lent) ≡ opened_by Done (opening d.writer f v n t lent) d f v n t
  unfolding after
  after_opened e = ap (λ (a : Answer). opened_by a (opening d.writer f v n t lent) d f v n t) e

  pub open_refused_same : (k : ℕ) → (opening d.writer f v n t lent).answer ≡ Refused k → after d (opens f v n t held lent) ≡ d
  unfolding after
  open_refused_same k e =
      ap (λ (a : Answer). opened_by a (opening d.writer f v n t lent) d f v n t) e
      ∙ ap {B = Desk} (λ (w : Writer). record { writer = w; now = d.now; closed = d.closed; values = d.values; pieces = d.pieces })
      (open_keeps d.writer f v n t lent k e).0

-- ---- adding
-- the desk with another state, and other packets and words of the line opened last
abbrev pub moves : Desk → Writer → List Packet → List ℕ → Desk
moves d w qs ws = record { writer = w; now = with_packets d.now qs ws; closed = d.closed; values = d.values; pieces = d.pieces }

-- the desk behind an accepted addition: a piece more on the line, these blocks finished on it, and of an unfinished block these values and pieces
abbrev pub laid_desk : Desk → ℕ → List ℕ → List Complete → List ℕ → List Piece → Desk
laid_desk d kind vs bs us ps =
    let x = adding d.writer d.now.words kind vs in
    record { writer = x.state; now = with d.now (d.now.pieces ++ ((piece_now d kind vs).words ∷ [])) bs x.line; closed = d.closed; values = us; pieces = ps }

laid_not : (k : ℕ) (b : Bool) → pick b Finished Unfinished ≡ NotLaid k → ⊥
unfolding pick
laid_not k true h = omega (arith, ap (λ (a : Laid). length (laid_numbers a)) h)
laid_not k false h = omega (arith, ap (λ (a : Laid). length (laid_numbers a)) h)

module _ (d : Desk) (kind : ℕ) (vs : List ℕ) where
  abbrev x : Added
  x = adding d.writer d.now.words kind vs

  pub after_finished : (adding d.writer d.now.words kind vs).answer ≡ Finished
      → after d (adds kind vs) ≡ added_by Finished (adding d.writer d.now.words kind vs) d kind vs
  unfolding after
  after_finished e = ap (λ (a : Laid). added_by a x d kind vs) e

  pub after_unfinished : (adding d.writer d.now.words kind vs).answer ≡ Unfinished
      → after d (adds kind vs) ≡ added_by Unfinished (adding d.writer d.now.words kind vs) d kind vs
  unfolding after
  after_unfinished e = ap (λ (a : Laid). added_by a x d kind vs) e

  -- a refused addition has a fault
  pub refused_fault : (k : ℕ) → (adding d.writer d.now.words kind vs).answer ≡ NotLaid k → add_fault d.writer (length d.now.words) kind vs ≡ 0 → ⊥
  refused_fault k e ok = laid_not k _ (sym (ap (λ (y : Added). y.answer) (add_leaves d.writer d.now.words kind vs ok)) ∙ e)

  pub add_refused_same : (k : ℕ) → (adding d.writer d.now.words kind vs).answer ≡ NotLaid k → after d (adds kind vs) ≡ d
  unfolding after
  add_refused_same k e =
      let s = add_stays d.writer d.now.words kind vs (refused_fault k e) in
      ap (λ (a : Laid). added_by a x d kind vs) e
      ∙ ap₂ (λ (w : Writer) (l : List ℕ). moves d w d.now.packets l) (ap (λ (y : Added). y.state) s) (ap (λ (y : Added). y.line) s)

-- ---- packing
module _ (d : Desk) (did second : ℕ) (p : did < 256) (q : second < 256) (vs : List ℕ) where
  pub after_packed : (packing d.writer d.now.words did second vs).answer ≡ Done
      → let x = packing d.writer d.now.words did second vs in
      after d (packs did second p q vs) ≡ moves d x.state (d.now.packets ++ (record { did = did; second = second; values = vs } ∷ [])) x.line
  unfolding after
  after_packed e = ap (λ (a : Answer). packs_by a (packing d.writer d.now.words did second vs) d (record { did = did; second = second; values = vs })) e

  pub pack_refused_same : (k : ℕ) → (packing d.writer d.now.words did second vs).answer ≡ Refused k → after d (packs did second p q vs) ≡ d
  unfolding after
  pack_refused_same k e =
      let z = pack_keeps d.writer d.now.words did second vs k e in
      ap (λ (a : Answer). packs_by a (packing d.writer d.now.words did second vs) d (record { did = did; second = second; values = vs })) e
      ∙ ap₂ (λ (w : Writer) (l : List ℕ). moves d w d.now.packets l) z.0 z.1

-- ---- closing
module _ (d : Desk) where
  pub after_closed : (closing d.writer d.now.words).answer ≡ Done → after d closes ≡ closed_by Done (closing d.writer d.now.words) d
  unfolding after
  after_closed e = ap (λ (a : Answer). closed_by a (closing d.writer d.now.words) d) e

  pub close_refused_same : (k : ℕ) → (closing d.writer d.now.words).answer ≡ Refused k → after d closes ≡ d
  unfolding after
  close_refused_same k e =
      let z = close_keeps d.writer d.now.words k e in
      ap (λ (a : Answer). closed_by a (closing d.writer d.now.words) d) e ∙ ap₂ (λ (w : Writer) (l : List ℕ). moves d w d.now.packets l) z.0 z.1

-- ---- what holds of the desk, by the system and the mode of its state
pub own : (system mode : ℕ) (d : Desk) → DeskOk system mode d → DeskOk d.writer.system d.writer.mode d
own system mode d ok =
    subst (λ (s : ℕ). DeskOk s d.writer.mode d) (sym ok.of_system) (subst (λ (m : ℕ). DeskOk system m d) (sym ok.owes.of_mode) ok)

pub by_own : (system mode : ℕ) (d : Desk) (P : ℕ → ℕ → Type 0) → DeskOk system mode d → P d.writer.system d.writer.mode → P system mode
by_own system mode d P ok p = subst (λ (s : ℕ). P s mode) ok.of_system (subst (λ (m : ℕ). P d.writer.system m) ok.owes.of_mode p)

-- with no block unfinished nothing is owing, and so in a fixed line
pub none_left : (system mode : ℕ) (d : Desk) → DeskOk system mode d → is_part d.writer.rest ≡ false → d.pieces ≡ []
none_left system mode d ok e = by d.writer.rest refl
  where
    by : (r : Option Part) → d.writer.rest ≡ r → d.pieces ≡ []
    by None h = ok.owes.none_owing h
    by (Some p) h = absurd (true_false (sym (ap is_part h) ∙ e))

pub fixed_none : (system mode : ℕ) (d : Desk) → DeskOk system mode d → is_variable d.writer.settings.block ≡ false → d.pieces ≡ []
fixed_none system mode d ok v = by d.writer.rest refl
  where
    by : (r : Option Part) → d.writer.rest ≡ r → d.pieces ≡ []
    by None h = ok.owes.none_owing h
    by (Some p) h = absurd (true_false (sym (ok.owes.owing p.kind p.count p.laid h).variable ∙ v))

-- what is owed stays where the mode and the unfinished block do, and the block type with it; whatever becomes of the line
pub owes_stays : (mode : ℕ) (d : Desk) (w : Writer) (s : Sent) (c : ℕ) → w.mode ≡ d.writer.mode → w.rest ≡ d.writer.rest
    → (is_part d.writer.rest ≡ true → w.settings.block ≡ d.writer.settings.block) → Owes mode d
    → Owes mode (record { writer = w; now = s; closed = c; values = d.values; pieces = d.pieces })
owes_stays mode d w s c m rest block ow =
    record {
      of_mode = m ∙ ow.of_mode;
      none_owing = λ r. ow.none_owing (sym rest ∙ r);
      owing = λ kind n j r.
          let part = sym rest ∙ r in
          let o = ow.owing kind n j part in
          record {
            variable = ap is_variable (block (ap is_part part)) ∙ o.variable;
            long = o.long;
            values_fit = o.values_fit;
            some = o.some;
            short = o.short;
            words = o.words;
          };
    }
