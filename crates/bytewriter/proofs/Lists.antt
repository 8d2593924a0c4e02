-- A list of blocks on a line, from the same list on another line as long, addition by addition.
-- Assumes nothing.
use mathlib.Core.Path.{◌≡◌, refl, sym, ap, ap₂, ◌∙◌, subst}
use mathlib.Core.List.{List, [], ◌∷◌}
use mathlib.Core.Logic.{⊎_elim}
use Prim.Native.Nat.{ℕ, suc}
use lib.ListN.{length}
use Rattle.writer.specs.declared.state.Writer.{Writer}
use Rattle.writer.specs.declared.state.Laid.{Laid}
use Rattle.writer.specs.declared.state.Laid.TheVariants.{Refused as NotLaid, Finished, Unfinished as PartLaid}
use Rattle.writer.specs.declared.batch.Stop.TheVariants.{Refused}
use Rattle.writer.specs.Answers.{Added}
use Rattle.writer.specs.Adding.{adding}
use Rattle.writer.specs.Batch.{Entry, whole, broken, entries_of, Batched, batched, behind, lay_all, batch_fault, batching}
use Rattle.writer.proofs.BatchLaws.{batch_refused, batch_laid}
use Rattle.writer.proofs.Writing.{either}
use Rattle.bytewriter.proofs.Over.{over, Moves, stays, over_none, moves_on, over_on}
use Rattle.bytewriter.proofs.Calls.{add_moves, add_over}

abbrev pub lays : Writer → List ℕ → Batched → Batched
lays w y b = batched b.finished b.stop b.state (over w b.state b.line y)

-- ---- behind an addition
behind_moves : {w : Writer} {x : List ℕ} (a : Laid) (z : Added) (done : ℕ) (b : Batched) → Moves w x z.state z.line → Moves w x b.state b.line
    → Moves w x (behind a z done b).state (behind a z done b).line
behind_moves (NotLaid k) z done b m n = m
behind_moves PartLaid z done b m n = m
behind_moves Finished z done b m n = n

behind_over : (a : Laid) (w : Writer) (y : List ℕ) (z z' : Added) (done : ℕ) (b b' : Batched) → z'.state ≡ z.state → z'.line ≡ over w z.state z.line y
    → b' ≡ lays w y b → behind a z' done b' ≡ lays w y (behind a z done b)
behind_over (NotLaid k) w y z z' done b b' s l e = ap₂ (batched done (Refused k)) s l
behind_over PartLaid w y z z' done b b' s l e = ap₂ (batched done _) s l
behind_over Finished w y z z' done b b' s l e = e

-- ---- the entries one after another
all_moves : (es : List Entry) (w : Writer) (x : List ℕ) (done : ℕ) → Moves w x (lay_all w x done es).state (lay_all w x done es).line
unfolding lay_all
all_moves [] w x done = stays w x
all_moves (broken ∷ es) w x done = stays w x
all_moves (whole kind vs ∷ es) w x done =
    let z = adding w x kind vs in
    let m = add_moves w kind vs x in
    behind_moves z.answer z done (lay_all z.state z.line (suc done) es) m (moves_on m (all_moves es z.state z.line (suc done)))

all_over : (es : List Entry) (w : Writer) (x y : List ℕ) (done : ℕ) → length x ≡ length y → lay_all w y done es ≡ lays w y (lay_all w x done es)
unfolding lay_all
all_over [] w x y done same = ap (batched done _ w) (over_none w x y)
all_over (broken ∷ es) w x y done same = ap (batched done _ w) (over_none w x y)
all_over (whole kind vs ∷ es) w x y done same =
    let z = adding w x kind vs in
    let z' = adding w y kind vs in
    let e = add_over w kind vs x y same in
    let m = add_moves w kind vs x in
    let long : length z.line ≡ length (over w z.state z.line y) =
    m.long ∙ same ∙ sym (add_moves w kind vs y).long ∙ ap (λ (q : Added). length q.line) e in
    let rest : lay_all z'.state z'.line (suc done) es ≡ lays w y (lay_all z.state z.line (suc done) es) =
    ap (λ (q : Added). lay_all q.state q.line (suc done) es) e
    ∙ all_over es z.state z.line (over w z.state z.line y) (suc done) long
    ∙ ap (batched _ _ _) (over_on m (all_moves es z.state z.line (suc done)) y same) in
    ap (λ (a : Laid). behind a z' done (lay_all z'.state z'.line (suc done) es)) (ap (λ (q : Added). q.answer) e)
    ∙ behind_over z.answer w y z z' done _ _ (ap (λ (q : Added). q.state) e) (ap (λ (q : Added). q.line) e) rest

-- ---- a whole call
module _ (w : Writer) (x blocks : List ℕ) where
  pub batch_moves : Moves w x (batching w x blocks).state (batching w x blocks).line
  batch_moves = ⊎_elim laid kept (either (batch_fault w (length x)))
    where
      laid : batch_fault w (length x) ≡ 0 → Moves w x (batching w x blocks).state (batching w x blocks).line
      laid e = subst (λ (b : Batched). Moves w x b.state b.line) (sym (batch_laid w x blocks e)) (all_moves (entries_of blocks) w x 0)

      kept : (batch_fault w (length x) ≡ 0 → ⊥) → Moves w x (batching w x blocks).state (batching w x blocks).line
      kept h = subst (λ (b : Batched). Moves w x b.state b.line) (batch_refused w x blocks _ refl h) (stays w x)

  pub batch_over : (y : List ℕ) → length x ≡ length y → batching w y blocks ≡ lays w y (batching w x blocks)
  batch_over y same = ⊎_elim laid kept (either (batch_fault w (length x)))
    where
      ys : batch_fault w (length x) ≡ batch_fault w (length y)
      ys = ap (batch_fault w) same

      laid : batch_fault w (length x) ≡ 0 → batching w y blocks ≡ lays w y (batching w x blocks)
      laid e = batch_laid w y blocks (sym ys ∙ e) ∙ all_over (entries_of blocks) w x y 0 same ∙ sym (ap (lays w y) (batch_laid w x blocks e))

      kept : (batch_fault w (length x) ≡ 0 → ⊥) → batching w y blocks ≡ lays w y (batching w x blocks)
      kept h =
          sym (batch_refused w y blocks _ ys h)
          ∙ ap (batched 0 _ w) (over_none w x y)
          ∙ ap (lays w y) (batch_refused w x blocks _ refl h)
