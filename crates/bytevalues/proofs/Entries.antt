-- The loop over a long list, entry by entry: what is left of the list, on what was left of state and line, gives what all of it gives.
-- Assumes nothing.
use mathlib.Core.Path.{◌≡◌, refl, sym, ap, ◌∙◌}
use mathlib.Core.List.{List}
use Prim.Native.Nat.{ℕ, suc, ◌+◌, ◌-◌, ◌≤◌, ◌<◌}
use native.Mathlib.Numerals.{add-one}
use native.Mathlib.Omega.{arith}
use lib.ListN.{length, get_or, take, drop, drop_of_length-le}
use Rattle.writer.specs.declared.state.Writer.{Writer}
use Rattle.writer.specs.declared.state.Laid.{Laid}
use Rattle.writer.specs.declared.state.Laid.TheVariants.{Refused as NotLaid, Finished, Unfinished as PartLaid}
use Rattle.writer.specs.declared.batch.Stop.TheVariants.{All, Unfinished, Refused}
use Rattle.writer.specs.Answers.{Added, added}
use Rattle.writer.specs.Adding.{adding}
use Rattle.writer.specs.Batch.{entries_of, Batched, batched, behind, lay_all}
use Rattle.writer.specs.Ground.{entry_end}
use Rattle.writer.proofs.BatchLaws.{entries_none, IsWhole, broken_at}

pub record Laying (w₀ : Writer) (line₀ ws : List ℕ) (w : Writer) (line : List ℕ) (at done : ℕ) : Type 0 where
  pub within : at ≤ length ws
  pub few : done ≤ at
  pub same : length line ≡ length line₀
  pub so : lay_all w line done (entries_of (drop at ws)) ≡ lay_all w₀ line₀ 0 (entries_of ws)

pub laying_start : (w : Writer) (line ws : List ℕ) → Laying w line ws w line 0 0
laying_start w line ws = record { within = omega arith; few = omega arith; same = refl; so = refl }

module _ {w₀ : Writer} {line₀ ws : List ℕ} {w : Writer} {line : List ℕ} {at done : ℕ} (l : Laying w₀ line₀ ws w line at done) where
  abbrev all : Batched
  all = lay_all w₀ line₀ 0 (entries_of ws)

  pub all_laid : length ws ≤ at → batched done All w line ≡ lay_all w₀ line₀ 0 (entries_of ws)
  unfolding lay_all
  all_laid none = sym (ap (lay_all w line done) (ap entries_of (drop_of_length-le ws {i = at} none) ∙ entries_none)) ∙ l.so

  pub breaks_off : at < length ws → (e : ℕ) → e ≡ entry_end at ws → e ≡ 0 → batched done (Refused 28) w line ≡ lay_all w₀ line₀ 0 (entries_of ws)
  unfolding lay_all
  breaks_off more e is z = sym (ap (lay_all w line done) (broken_at ws at more e is z)) ∙ l.so

  -- behind an entry
  module _ (e : ℕ) (x : IsWhole ws at e) (a : Laid) (st : Writer) (line' : List ℕ) (step : added a st line' ≡ adding w line (get_or ws at 0) (take (e - (at + 2)) (drop (at + 2) ws))) where
    abbrev later : Batched
    later = lay_all st line' (suc done) (entries_of (drop e ws))

    behind_it : behind a (added a st line') done later ≡ lay_all w₀ line₀ 0 (entries_of ws)
    unfolding lay_all
    behind_it =
        ap (λ (y : Added). behind y.answer y done (lay_all y.state y.line (suc done) (entries_of (drop e ws)))) step
        ∙ sym (ap (lay_all w line done) x.is)
        ∙ l.so

    by_answer : (b : Laid) → a ≡ b → behind b (added b st line') done later ≡ lay_all w₀ line₀ 0 (entries_of ws)
    by_answer b eq = sym (ap (λ (y : Laid). behind y (added y st line') done later) eq) ∙ behind_it

    pub stops_refused : (k : ℕ) → a ≡ NotLaid k → batched done (Refused k) st line' ≡ lay_all w₀ line₀ 0 (entries_of ws)
    stops_refused k eq = by_answer (NotLaid k) eq

    pub stops_unfinished : a ≡ PartLaid → batched done Unfinished st line' ≡ lay_all w₀ line₀ 0 (entries_of ws)
    stops_unfinished eq = by_answer PartLaid eq

    pub goes_on : a ≡ Finished → length line' ≡ length line → Laying w₀ line₀ ws st line' e (done + 1)
    goes_on eq same =
        record {
          within = x.within;
          few = omega (arith, l.few, x.head);
          same = same ∙ l.same;
          so = ap (λ (k : ℕ). lay_all st line' k (entries_of (drop e ws))) (add-one done) ∙ by_answer Finished eq;
        }
