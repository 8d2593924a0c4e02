-- `walks::runs::take_run` meets its contract: of every phase the run is looked for in as many words as it may take. Assumes nothing.
use Rattle.std.proofs.Common.{◌≡◌, ℕ, ◌≤◌, List, map, length, take, refl, sym, ap, ap₂, ◌∙◌, arith, length-take-le}
use lib.Seq.{paste}
use Rattle.words.specs.Modes.{value_of}
use Rattle.machine.specs.declared.phase.Phase.{Phase}
use Rattle.machine.specs.declared.phase.Phase.TheVariants.{Data}
use Rattle.machine.specs.Runs.{run_of, most_by, taken_by, ran_phase, ran_room}
use Rattle.machine.proofs.RunLaws.{taken_within, most_again, run_fits, ran_kept}
use Rattle.walks.proofs.Lent.{from_first}
use Rattle.walks.proofs.runs.take_run.Given.{Over}
use Rattle.walks.proofs.runs.take_run.Goals as goal
use Rattle.walks.proofs.runs.take_run.Goals.{After-run_of-k, In-Data}

-- how many words were taken, of the phase that it is
found : (g : Over) (r : After-run_of-k g) (q : Phase) →
    let a = r.args in
    a.phase ≡ q → r.run_of-k.result ≡ taken_by a.mode q (length (g.P.Piece.words a.room.now)) (g.P.Piece.words a.words.now)
found g r q e =
    let a = r.args in
    let ws = g.P.Piece.words a.words.now in
    let most = r.most_of-most.ensures ∙ ap₂ (most_by a.phase) r.count-long.ensures r.count.ensures in
    r.run_of-k.ensures
    ∙ ap (run_of a.mode) (from_first _ _ r.part.ensures)
    ∙ ap (λ (n : ℕ). run_of a.mode (take n ws)) most
    ∙ ap (λ (p : Phase). taken_by a.mode p (length (g.P.Piece.words a.room.now)) ws) e

within : (g : Over) (r : After-run_of-k g) → r.run_of-k.result ≤ length (g.P.Piece.words r.args.words.now)
within g r =
    let a = r.args in
    omega (arith, found g r a.phase refl, taken_within a.mode a.phase (length (g.P.Piece.words a.room.now)) (g.P.Piece.words a.words.now))

pub part-requires-in-Data : goal.part-requires-in-Data
part-requires-in-Data g c = (omega arith, within g (goal.at.part-requires-in-Data g c).After-run_of-k)

pub put_run-requires : goal.put_run-requires
put_run-requires g c = λ some.
    let a = c.args in
    let ws = g.P.Piece.words a.words.now in
    let k = c.run_of-k.result in
    let q = Data c.in-Data.mark c.in-Data.announced c.in-Data.collected in
    let r = (goal.at.put_run-requires g c).After-run_of-k in
    let long = ap length (from_first _ _ c.part-in-Data.ensures) ∙ length-take-le k ws (within g r) in
    let h = run_fits a.mode q (length (g.P.Piece.words a.room.now)) ws k (found g r q c.in-Data.is) refl (λ z. some (long ∙ z)) in
    omega (arith, h, long)

pub returns-in-Data : goal.returns-in-Data
returns-in-Data g c =
    let a = c.args in
    let ws = g.P.Piece.words a.words.now in
    let room = g.P.Piece.words a.room.now in
    let k = c.run_of-k.result in
    let q = Data c.in-Data.mark c.in-Data.announced c.in-Data.collected in
    let e = c.in-Data.is in
    let is = found g (goal.at.returns-in-Data g c).After-run_of-k q e in
    let taken = c.behind.ensures.0 ∙ ap (λ (n : ℕ). most_by q n k) c.count-long.ensures in
    let again = taken ∙ most_again a.mode q (length room) ws k is in
    simp e (
      again ∙ is,
      c.behind.ensures.1 ∙ ap (ran_phase q) (sym c.behind.ensures.0),
      c.put_run.ensures
          ∙ ap (λ (l : List ℕ). paste room c.in-Data.collected (map (value_of a.mode) l) (length l)) (from_first _ _ c.part-in-Data.ensures)
          ∙ ran_kept a.mode q ws room k is refl
          ∙ ap (λ (n : ℕ). ran_room a.mode q ws n room) (sym again),
    )
