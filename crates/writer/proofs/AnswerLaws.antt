-- 01's numbers of an answer say which answer it is.
-- Assumes nothing.
use mathlib.Core.Path.{◌≡◌, refl, ap}
use mathlib.Core.List.{List}
use Prim.Native.Nat.{ℕ}
use native.Mathlib.Omega.{arith}
use lib.ListN.{length, get_or}
use Rattle.writer.specs.declared.state.Answer.{Answer}
use Rattle.writer.specs.declared.state.Answer.TheVariants.{Refused, Done}
use Rattle.writer.specs.declared.state.Laid.{Laid}
use Rattle.writer.specs.declared.state.Laid.TheVariants.{Refused as NotLaid, Finished, Unfinished}
use Rattle.writer.specs.Answers.{answer_numbers, laid_numbers}

-- the first and the second number, and how many there are
first : {k l : List ℕ} → k ≡ l → get_or k 0 0 ≡ get_or l 0 0
first e = ap (λ (x : List ℕ). get_or x 0 0) e

second : {k l : List ℕ} → k ≡ l → get_or k 1 0 ≡ get_or l 1 0
second e = ap (λ (x : List ℕ). get_or x 1 0) e

count : {k l : List ℕ} → k ≡ l → length k ≡ length l
count e = ap length e

pub answer_injective : (a b : Answer) → answer_numbers a ≡ answer_numbers b → a ≡ b
answer_injective (Refused n) (Refused m) e = ap Refused (first e)
answer_injective (Refused n) Done e = absurd (omega (arith, count e))
answer_injective Done (Refused m) e = absurd (omega (arith, count e))
answer_injective Done Done e = refl

pub laid_injective : (a b : Laid) → laid_numbers a ≡ laid_numbers b → a ≡ b
laid_injective (NotLaid n) (NotLaid m) e = ap NotLaid (first e)
laid_injective (NotLaid n) Finished e = absurd (omega (arith, count e))
laid_injective (NotLaid n) Unfinished e = absurd (omega (arith, count e))
laid_injective Finished (NotLaid m) e = absurd (omega (arith, count e))
laid_injective Finished Finished e = refl
laid_injective Finished Unfinished e = absurd (omega (arith, second e))
laid_injective Unfinished (NotLaid m) e = absurd (omega (arith, count e))
laid_injective Unfinished Finished e = absurd (omega (arith, second e))
laid_injective Unfinished Unfinished e = refl
