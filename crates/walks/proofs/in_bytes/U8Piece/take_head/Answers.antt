-- What is asked of a head are its six words. Assumes nothing.
use Rattle.std.proofs.Common.{ℕ, ◌<◌, ◌≤◌, List, [], ◌∷◌, length, ap, ◌∙◌, ap₂, arith}
use Rattle.octets.specs.Bytes.{words_of}
use Rattle.octets.proofs.BytesLaws.{length_words}
use Rattle.machine.specs.Heads.{head_taken, head_phase}
use Rattle.machine.proofs.HeadLaws.{head_short, head_not, head_none, head_six}
use Rattle.walks.proofs.in_bytes.U8Piece.take_head.Goals as goal

pub returns-then-pieces-lt6 : goal.returns-then-pieces-lt6
returns-then-pieces-lt6 c =
    let a = c.args in
    let ws = words_of a.pieces.now in
    let few : length ws < 6 = omega (arith, c.if-pieces-lt6.true, length_words a.pieces.now) in
    let h = head_none a.room ws a.phase (head_not _ _ a.phase (head_short _ _ few)) in
    (c.took.ensures.1 ∙ h.0, c.took.ensures.0 ∙ h.1)

pub returns : goal.returns
returns c =
    let a = c.args in
    let ws = words_of a.pieces.now in
    let add : ℕ → List ℕ → List ℕ = λ w ws. w ∷ ws in
    let spelt = ap₂ add c.word_at.ensures (ap₂ add c.word_at-2.ensures (ap₂ add c.word_at-3.ensures (ap₂ add c.word_at-4.ensures (ap₂ add c.word_at-5.ensures (ap (λ (w : ℕ). w ∷ []) c.word_at-6.ensures))))) in
    let many : 6 ≤ length ws = omega (arith, c.if-pieces-lt6.false, length_words a.pieces.now) in
    let h = head_six a.room a.phase ws many in
    (c.take_head.ensures.0 ∙ ap (head_taken a.room a.phase) spelt ∙ h.0, c.take_head.ensures.1 ∙ ap (head_phase a.room a.phase) spelt ∙ h.1)
