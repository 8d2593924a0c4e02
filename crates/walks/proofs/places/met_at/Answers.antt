-- `walks::places::met_at` meets its contract: the form is asked first, and the table of a type word that has it not. Assumes nothing.
use Rattle.std.proofs.Common.{◌≡◌, ℕ, ◌-◌, ◌%◌, true, ◌&&◌, eqb, List, get_or, drop, sym, ap, ap₂, ◌∙◌, eq-eqb, ne_eqb}
use Rattle.words.specs.Forms.{is_byte}
use Rattle.words.specs.Class.{class_of, is_null}
use Rattle.words.proofs.TableLaws.{null_bit}
use Rattle.machine.specs.declared.step.Met.TheVariants.{Whole}
use Rattle.machine.specs.Places.{has_null}
use Rattle.machine.proofs.PlaceLaws.{met_null, met_formless, met_empty, met_void, met_whole}
use Rattle.walks.proofs.Lent.{to_last}
use Rattle.walks.proofs.places.met_at.Given.{Over}
use Rattle.walks.proofs.places.met_at.Goals as goal
use Rattle.walks.proofs.places.met_at.Goals.{After-bit_of, Else-not-is_byte, After-is_void}

-- what the table says of the type word; it is in byte form; and the test of the data is the definition's
nulled : (g : Over) (b : After-bit_of g) → eqb b.bit_of.result 32 ≡ is_null (class_of (get_or (g.P.Piece.words b.args.place.now) 0 0))
nulled g b = ap (λ (n : ℕ). eqb n 32) b.bit_of.ensures ∙ null_bit _ ∙ ap (λ (w : ℕ). is_null (class_of w)) b.word_at-w.ensures

byte : (g : Over) (o : Else-not-is_byte g) → is_byte (get_or (g.P.Piece.words o.args.place.now) 0 0) ≡ true
byte g o = ap is_byte (sym o.word_at-w.ensures) ∙ sym o.is_byte.ensures ∙ o.if-not-is_byte.false

asked : (g : Over) (v : After-is_void g) →
    let a = v.args in
    v.is_void.result ≡ (eqb a.mode 8 && has_null (drop 1 (g.P.Piece.words a.place.now)))
asked g v =
    let a = v.args in
    let x = g.P.Piece.words a.place.now in
    v.is_void.ensures
    ∙ ap (λ (l : List ℕ). eqb a.mode 8 && has_null l) (to_last _ _ v.count-n.ensures v.part.ensures)

pub returns-then-bit_of-eq-NULL_BIT : goal.returns-then-bit_of-eq-NULL_BIT
returns-then-bit_of-eq-NULL_BIT g c =
    sym (met_null _ _ (sym (nulled g (goal.at.returns-then-bit_of-eq-NULL_BIT g c).After-bit_of) ∙ eq-eqb _ _ c.if-bit_of-eq-NULL_BIT.true))

pub returns-then-not-is_byte : goal.returns-then-not-is_byte
returns-then-not-is_byte g c =
    let other = sym (nulled g (goal.at.returns-then-not-is_byte g c).After-bit_of) ∙ ne_eqb _ _ c.if-bit_of-eq-NULL_BIT.false in
    sym (met_formless _ _ other (ap is_byte (sym c.word_at-w.ensures) ∙ sym c.is_byte.ensures ∙ c.if-not-is_byte.true))

pub returns-then-kind-eq0 : goal.returns-then-kind-eq0
returns-then-kind-eq0 g c =
    sym (met_empty _ _ (byte g (goal.at.returns-then-kind-eq0 g c).Else-not-is_byte) (ap (λ (w : ℕ). w % 256) (sym c.word_at-w.ensures) ∙ c.if-kind-eq0.true))

pub returns-then-is_void : goal.returns-then-is_void
returns-then-is_void g c =
    let at = goal.at.returns-then-is_void g c in
    let kind : get_or (g.P.Piece.words c.args.place.now) 0 0 % 256 ≡ 0 → ⊥ = λ e. c.if-kind-eq0.false (ap (λ (w : ℕ). w % 256) c.word_at-w.ensures ∙ e) in
    sym (met_void _ _ (byte g at.Else-not-is_byte) kind (sym (asked g at.After-is_void) ∙ c.if-is_void.true))

pub returns : goal.returns
returns g c =
    let at = goal.at.returns g c in
    let kind : get_or (g.P.Piece.words c.args.place.now) 0 0 % 256 ≡ 0 → ⊥ = λ e. c.if-kind-eq0.false (ap (λ (w : ℕ). w % 256) c.word_at-w.ensures ∙ e) in
    ap₂ (λ (w n : ℕ). Whole (w % 256) (n - 1)) c.word_at-w.ensures c.count-n.ensures
    ∙ sym (met_whole _ _ (byte g at.Else-not-is_byte) kind (sym (asked g at.After-is_void) ∙ c.if-is_void.false))
