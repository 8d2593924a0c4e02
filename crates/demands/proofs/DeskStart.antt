-- A course of calls may begin with a writer in any possible state with no line open; a fresh one is one of them. Of an unfinished block the state
-- tells the type, the number of values and how many words are laid; the values may be any that the mode has.
-- Assumes nothing.
use Rattle.std.specs.Prelude.{None, Option, Some}
use Prim.Native.Nat.{ℕ, ◌+◌, ◌≤◌}
use mathlib.Core.Bool.{true, false}
use mathlib.Core.List.{List, [], ◌∷◌, append-nil}
use mathlib.Core.Path.{◌≡◌, refl, sym, ap, ◌∙◌, subst}
use native.Mathlib.Omega.{arith}
use lib.Dec.{ltb}
use lib.ListN.{length, take, length-take}
use borrow.Author.Tests.{ltb-false}
use Rattle.lists.proofs.Tests.{true_false, or_left, or_false}
use Rattle.course.specs.Course.{is_at}
use Rattle.writer.specs.declared.state.Writer.{Writer}
use Rattle.writer.specs.State.{most, is_part, misshapen, impossible, fresh, unfinished}
use Rattle.writer.specs.Block.{block_words}
use Rattle.writer.specs.Adding.{valued}
use Rattle.writer.proofs.BlockLaws.{block_long}
use Rattle.writer.proofs.Refusals.{begun}
use Rattle.writer.proofs.Stays.{fresh_possible}
use Rattle.demands.specs.All.{All}
use Rattle.demands.specs.Sending.{Piece, Desk, start, joined_pieces}
use Rattle.demands.specs.Demand2.{HasWord}
use Rattle.demands.proofs.DeskOk.{Owing, DeskOk}
use Rattle.demands.proofs.DeskCloses.{varied_by}
use Rattle.writer.specs.declared.state.Part.{Part}

-- the values of an unfinished block: as many as the state says, and each fits the mode
abbrev pub ValuesOf : ℕ → Option Part → List ℕ → Type 0
ValuesOf mode None us = Unit {0}
ValuesOf mode (Some p) us = (length us ≡ p.count) × (valued mode us ≡ true)

-- what was laid of it, as one piece
abbrev pub laid_before : ℕ → Option Part → List ℕ → List Piece
laid_before mode None us = []
laid_before mode (Some p) us = record { line = 0; words = take p.laid (block_words mode p.kind us) } ∷ []

abbrev pub standing : Writer → List ℕ → Desk
standing w us = record { writer = w; now = (start w.system w.mode).now; closed = 0; values = us; pieces = laid_before w.mode w.rest us }

-- 1 to n+6 words are laid
shape_of : (kind n j : ℕ) → misshapen (unfinished kind n j) ≡ false → (1 ≤ j) × (j ≤ n + 6)
shape_of kind n j e =
    let a = or_false (ltb j 1) (ltb (n + 6) j) (or_false (ltb most n) _ e).1 in
    (ltb-false j 1 a.0, ltb-false (n + 6) j a.1)

module _ (w : Writer) (us : List ℕ) (possible : impossible w ≡ false) (values : ValuesOf w.mode w.rest us) where
  owing_part : (kind n j : ℕ) → w.rest ≡ unfinished kind n j → Owing w.mode (standing w us) kind n j
  owing_part kind n j r =
      let part = ap is_part r in
      let b = begun w possible (or_left (is_part w.rest) (is_at w.place) part) in
      let s = shape_of kind n j (ap misshapen (sym r) ∙ b.shaped) in
      let v = subst (λ (x : Option Part). ValuesOf w.mode x us) r values in
      record {
        variable = varied_by (is_part w.rest) _ b.course.varied part;
        long = v.0;
        values_fit = v.1;
        some = s.0;
        short = s.1;
        words = ap (λ (x : Option Part). joined_pieces (laid_before w.mode x us)) r ∙ append-nil _;
      }

  pub standing_ok : w.place ≡ None → DeskOk w.system w.mode (standing w us)
  standing_ok shut =
      record {
        of_system = refl;
        possible = possible;
        opened = λ at. absurd (true_false (sym at ∙ ap is_at shut));
        owes = record { of_mode = refl; none_owing = λ r. ap (λ (x : Option Part). laid_before w.mode x us) r; owing = owing_part };
      }

  pub standing_some : All HasWord (laid_before w.mode w.rest us)
  standing_some = by w.rest refl
    where
      by : (r : Option Part) → w.rest ≡ r → All HasWord (laid_before w.mode r us)
      by None e = tt
      by (Some p) e =
          let o = owing_part p.kind p.count p.laid e in
          let words = block_words w.mode p.kind us in
          (omega (arith, length-take p.laid words, block_long w.mode p.kind us, o.long, o.some, o.short), tt)

-- a fresh writer
pub start_ok : (system mode : ℕ) → DeskOk system mode (start system mode)
start_ok system mode = standing_ok (fresh system mode) [] (fresh_possible system mode) tt refl
