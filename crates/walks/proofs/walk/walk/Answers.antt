use Rattle.std.proofs.Common.{ℕ, ◌+◌, ◌<◌, List, length, sym, ap, ap₂, ◌∙◌, arith, rules}
use Rattle.words.specs.Modes.{value_of}
use Rattle.machine.specs.Machine.{step_of}
use Rattle.machine.specs.Walk.{collected_of, stored, walk_of}
use Rattle.machine.specs.Runs.{taken_by, ran_room}
use Rattle.machine.specs.Heads.{head_taken, head_phase}
use Rattle.machine.proofs.Going.{Going, going_head, going_run, going_end, going_word, going_stop}
use Rattle.machine.proofs.WalkNumberLaws.{walk_numbered}
use Rattle.walks.proofs.Lent.{to_last}
use Rattle.walks.proofs.walk.walk.Given.{Over}
use Rattle.walks.proofs.walk.walk.Goals as goal
use Rattle.walks.proofs.walk.walk.Goals.{After-take_head-head, After-take_run-ran}

-- after a head, or none
headed : (g : Over) (h : After-take_head-head g) →
    let a = h.args in
    let ws = g.P.Piece.words in
    Going a.mode (ws a.words.now) (walk_of a.mode a.phase (ws a.words.now) (ws a.room.now)) (ws h.loop-i.room) h.take_head-head.result.phase (h.loop-i.i + h.take_head-head.result.taken)
headed g h =
    let l = h.loop-i in
    let lent = to_last _ _ h.count-n.ensures h.part.ensures in
    going_head _ _ _ (g.P.Piece.words l.room) l.p l.i l.invariant _ _
    (h.take_head-head.ensures.0 ∙ ap₂ (λ (n : ℕ) (ws : List ℕ). head_taken n l.p ws) h.count.ensures lent)
    (h.take_head-head.ensures.1 ∙ ap₂ (λ (n : ℕ) (ws : List ℕ). head_phase n l.p ws) h.count.ensures lent)

-- after a run
ran : (g : Over) (t : After-take_run-ran g) →
    let a = t.args in
    let ws = g.P.Piece.words in
    let start = walk_of a.mode a.phase (ws a.words.now) (ws a.room.now) in
    let i = t.loop-i.i + t.take_head-head.result.taken in
    Going a.mode (ws a.words.now) start (ws t.loop-i.room) t.take_head-head.result.phase i
    → Going a.mode (ws a.words.now) start (ws t.take_run-ran.new.room) t.take_run-ran.result.phase (i + t.take_run-ran.result.taken)
ran g t by_headed =
    let a = t.args in
    let p = t.take_head-head.result.phase in
    let r = t.take_run-ran in
    let room = g.P.Piece.words t.loop-i.room in
    let lent = to_last _ _ t.count-n.ensures t.part-in-loop-i.ensures in
    going_run _ _ _ room p _ by_headed _ _ _
    (r.ensures.0 ∙ ap (taken_by a.mode p (length room)) lent)
    (r.ensures.2 ∙ ap (λ (ws : List ℕ). ran_room a.mode p ws r.result.taken room) lent)
    r.ensures.1

pub overflow_add-i : goal.overflow_add-i
overflow_add-i g c =
    let h = (headed g (goal.at.overflow_add-i g c).After-take_head-head).inside in
    let small : c.count-n.result < 18446744073709551616 = search rules in
    record { fits = omega (arith, h, c.count-n.ensures, small) }

pub part-requires-in-loop-i : goal.part-requires-in-loop-i
part-requires-in-loop-i g c =
    let h = (headed g (goal.at.part-requires-in-loop-i g c).After-take_head-head).inside in
    (omega (arith, h, c.count-n.ensures), omega (arith, c.count-n.ensures))

pub overflow_add-i-in-loop-i : goal.overflow_add-i-in-loop-i
overflow_add-i-in-loop-i g c =
    let at = goal.at.overflow_add-i-in-loop-i g c in
    let h = (ran g at.After-take_run-ran (headed g at.After-take_head-head)).inside in
    let small : c.count-n.result < 18446744073709551616 = search rules in
    record { fits = omega (arith, h, c.count-n.ensures, small) }

pub returns-then-n-i : goal.returns-then-n-i
returns-then-n-i g c =
    let at = goal.at.returns-then-n-i g c in
    walk_numbered _ _ _ _ _
    (going_end _ _ _ _ _ _ (ran g at.After-take_run-ran (headed g at.After-take_head-head)) (omega (arith, c.if-n-i.true, c.count-n.ensures)))

pub returns-then-not-is_nothing : goal.returns-then-not-is_nothing
returns-then-not-is_nothing g c =
    let a = c.args in
    let at = goal.at.returns-then-not-is_nothing g c in
    let r = g.P.Piece.words c.take_run-ran.new.room in
    let q = c.take_run-ran.result.phase in
    let s = c.take_word-s in
    walk_numbered _ _ _ _ _
    (going_stop _ _ _ _ _ _ (ran g at.After-take_run-ran (headed g at.After-take_head-head)) (omega (arith, c.if-n-i.false, c.count-n.ensures)) s.result
    (s.ensures.0 ∙ ap (λ (w : ℕ). step_of a.mode (length r) q w) c.word_at.ensures) _
    (s.ensures.1 ∙ ap (λ (w : ℕ). stored s.result.keeps (collected_of q) (value_of a.mode w) r) c.word_at.ensures)
    (sym c.is_nothing.ensures ∙ c.if-not-is_nothing.true))

pub loop-i-preserved : goal.loop-i-preserved
loop-i-preserved g c =
    let a = c.args in
    let at = goal.at.loop-i-preserved g c in
    let r = g.P.Piece.words c.take_run-ran.new.room in
    let q = c.take_run-ran.result.phase in
    let s = c.take_word-s in
    going_word _ _ _ _ _ _ (ran g at.After-take_run-ran (headed g at.After-take_head-head)) (omega (arith, c.if-n-i.false, c.count-n.ensures)) s.result
    (s.ensures.0 ∙ ap (λ (w : ℕ). step_of a.mode (length r) q w) c.word_at.ensures) _
    (s.ensures.1 ∙ ap (λ (w : ℕ). stored s.result.keeps (collected_of q) (value_of a.mode w) r) c.word_at.ensures)
    (sym c.is_nothing.ensures ∙ c.if-not-is_nothing.false)

pub returns : goal.returns
returns g c = walk_numbered _ _ _ _ _ (going_end _ _ _ _ _ _ c.loop-i.invariant (omega (arith, c.loop-i-test.false, c.count-n.ensures)))
