-- Too many values: the answer is 1, 2, 17 or 18, and of the values only 17 asks; so values as good, and too many too, have the same answer.
-- Assumes nothing.
use mathlib.Core.Path.{◌≡◌, refl, sym, ap, ap₂, ◌∙◌}
use mathlib.Core.Bool.{Bool, true, false, ◌&&◌, not}
use mathlib.Core.List.{List, ◌∷◌}
use mathlib.Core.Logic.{⊎_elim}
use Prim.Native.Nat.{ℕ, suc, ◌≤◌, ◌<◌}
use native.Mathlib.Nat.{le_refl}
use native.Mathlib.Omega.{arith}
use lib.Dec.{eqb, ltb}
use lib.ListN.{length, take, drop, replicate, set, length-set}
use lib.Seq.{take_all}
use borrow.Author.Tests.{lt-ltb, le-ltb, le-leb, lt-leb}
use Rattle.lists.specs.Tests.{pick, Refusal, when, lowest_of}
use Rattle.lists.specs.Lists.{each}
use Rattle.lists.proofs.Tests.{pick_true, pick_false, lt_or_le, or_left}
use Rattle.words.specs.Modes.{values}
use Rattle.line.specs.Check.{fits_length}
use Rattle.writer.specs.declared.state.Writer.{Writer}
use Rattle.writer.specs.State.{most, impossible}
use Rattle.writer.specs.Adding.{valued, ill_shaped, add_faults, add_fault, adding}
use Rattle.writer.specs.Packing.{pack_faults, pack_fault, packing}
use Rattle.writer.proofs.Calls.{add_refused}
use Rattle.writer.proofs.Packs.{pack_refused}
use Rattle.writer.proofs.Legal.{each_filler}
use Rattle.bytevalues.specs.Standing.{stand_in, standing}

-- ---- 1, 2, 17, and then 18
early : Bool → Bool → Bool → ℕ
early a b c = pick a 1 (pick b 2 (pick c 17 18))

some : (a b c : Bool) → early a b c ≡ 0 → ⊥
unfolding early pick
some true b c e = omega (arith, e)
some false true c e = omega (arith, e)
some false false true e = omega (arith, e)
some false false false e = omega (arith, e)

seen : (a b c d : Bool) (rs : List Refusal) → d ≡ true → lowest_of (when 1 a ∷ when 2 b ∷ when 17 c ∷ when 18 d ∷ rs) ≡ early a b c
unfolding early
seen a b c d rs e = ap (λ (n : ℕ). pick a 1 (pick b 2 (pick c 17 n))) (pick_true 18 (lowest_of rs) e)

module _ (w : Writer) (line : List ℕ) where
  abbrev unfit : Bool
  unfit = not (fits_length w.system w.mode (length line))

  add_early : (kind : ℕ) (vs : List ℕ) → most < length vs → add_fault w (length line) kind vs ≡ early unfit (impossible w) (not (valued w.mode vs))
  unfolding add_fault ill_shaped
  add_early kind vs h = seen unfit (impossible w) (not (valued w.mode vs)) _ (drop 4 (add_faults w (length line) kind vs)) (or_left _ _ (lt-ltb most (length vs) h))

  pub add_beyond : (kind : ℕ) (us vs : List ℕ) → most < length us → most < length vs → valued w.mode us ≡ valued w.mode vs
      → adding w line kind us ≡ adding w line kind vs
  add_beyond kind us vs hu hv same =
      let fault = early unfit (impossible w) (not (valued w.mode us)) in
      let n = some unfit (impossible w) (not (valued w.mode us)) in
      sym (add_refused w line kind us fault (sym (add_early kind us hu)) n)
      ∙ add_refused w line kind vs fault (ap (λ (b : Bool). early unfit (impossible w) (not b)) same ∙ sym (add_early kind vs hv)) n

  abbrev nine : List ℕ → Bool
  nine vs = each (λ v. ltb v 512) vs

  pack_early : (vs : List ℕ) → 255 < length vs → pack_fault w (length line) vs ≡ early unfit (impossible w) (not (nine vs))
  unfolding pack_fault
  pack_early vs h = seen unfit (impossible w) (not (nine vs)) _ (drop 4 (pack_faults w (length line) vs)) (lt-ltb 255 (length vs) h)

  pub pack_beyond : (did second : ℕ) (us vs : List ℕ) → 255 < length us → 255 < length vs → nine us ≡ nine vs
      → packing w line did second us ≡ packing w line did second vs
  pack_beyond did second us vs hu hv same =
      let fault = early unfit (impossible w) (not (nine us)) in
      let n = some unfit (impossible w) (not (nine us)) in
      sym (pack_refused w line did second us fault (sym (pack_early us hu)) n)
      ∙ pack_refused w line did second vs fault (ap (λ (b : Bool). early unfit (impossible w) (not b)) same ∙ sym (pack_early vs hv)) n

-- ---- one value that stands for all
stands_by : (limit : ℕ) (b : Bool) → 0 < limit → limit ≤ 65535 → ltb (pick b 0 65535) limit ≡ b
unfolding pick
stands_by limit true h k = lt-ltb 0 limit h
stands_by limit false h k = le-ltb 65535 limit k

and_end : (b : Bool) → (b && true) ≡ b
and_end true = refl
and_end false = refl

pub stands_for : (limit n v : ℕ) (b : Bool) → 0 < limit → limit ≤ 65535 → v ≡ pick b 0 65535 → each (λ u. ltb u limit) (set (replicate (suc n) 0) 0 v) ≡ b
stands_for limit n v b h k e =
    ap₂ ◌&&◌ (ap (λ (u : ℕ). ltb u limit) e ∙ stands_by limit b h k) (each_filler (λ u. ltb u limit) n 0 (lt-ltb 0 limit h)) ∙ and_end b

pub values_few : (mode : ℕ) → (0 < values mode) × (values mode ≤ 65535)
unfolding values pick
values_few mode = go (eqb mode 8)
  where
    go : (b : Bool) → (0 < pick b 256 512) × (pick b 256 512 ≤ 65535)
    go true = (omega arith, omega arith)
    go false = (omega arith, omega arith)

-- ---- as the code calls them
module _ (limit most : ℕ) (vs : List ℕ) where
  pub few_standing : length vs ≤ most → standing limit most vs ≡ vs
  unfolding standing
  few_standing h = pick_true _ _ (le-leb (length vs) most h)

  many_standing : most < length vs → standing limit most vs ≡ set (replicate most 0) 0 (stand_in limit vs)
  unfolding standing
  many_standing h = pick_false _ _ (lt-leb (length vs) most h)

-- others stand for them in a part of zeros
pub stood : (limit v : ℕ) (out vs : List ℕ) → out ≡ replicate (length out) 0 → length out < length vs → v ≡ stand_in limit vs → take (length out) (set out 0 v) ≡ standing limit (length out) vs
stood limit v out vs zeros h e =
    take_all (length out) (set out 0 v) (simp length-set (le_refl _))
    ∙ ap₂ (λ (o : List ℕ) (u : ℕ). set o 0 u) zeros e
    ∙ sym (many_standing limit (length out) vs h)

module _ (w : Writer) (line vs : List ℕ) where
  pub add_standing : (kind limit : ℕ) → limit ≡ values w.mode → adding w line kind (standing limit 16385 vs) ≡ adding w line kind vs
  unfolding valued
  add_standing kind limit el = ⊎_elim other same (lt_or_le 16385 (length vs))
    where
      other : 16385 < length vs → adding w line kind (standing limit 16385 vs) ≡ adding w line kind vs
      other h =
          let few = values_few w.mode in
          ap (adding w line kind) (many_standing limit 16385 vs h)
          ∙ add_beyond w line kind (set (replicate 16385 0) 0 (stand_in limit vs)) vs (omega arith) (omega (arith, h))
          (stands_for (values w.mode) 16384 (stand_in limit vs) (each (λ u. ltb u (values w.mode)) vs) few.0 few.1 (ap (λ (l : ℕ). stand_in l vs) el))

      same : length vs ≤ 16385 → adding w line kind (standing limit 16385 vs) ≡ adding w line kind vs
      same h = ap (adding w line kind) (few_standing limit 16385 vs h)

  pub pack_standing : (did second : ℕ) → packing w line did second (standing 512 256 vs) ≡ packing w line did second vs
  pack_standing did second = ⊎_elim other same (lt_or_le 256 (length vs))
    where
      other : 256 < length vs → packing w line did second (standing 512 256 vs) ≡ packing w line did second vs
      other h =
          ap (packing w line did second) (many_standing 512 256 vs h)
          ∙ pack_beyond w line did second (set (replicate 256 0) 0 (stand_in 512 vs)) vs (omega arith) (omega (arith, h))
          (stands_for 512 255 (stand_in 512 vs) (each (λ u. ltb u 512) vs) (omega arith) (omega arith) refl)

      same : length vs ≤ 256 → packing w line did second (standing 512 256 vs) ≡ packing w line did second vs
      same h = ap (packing w line did second) (few_standing 512 256 vs h)
