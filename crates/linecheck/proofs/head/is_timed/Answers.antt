-- `linecheck::head::is_timed` meets its contract. Assumes nothing.
use mathlib.Core.Path.{◌≡◌, refl, sym, ap, ap₂, ◌∙◌}
use mathlib.Core.Bool.{Bool, true, false, ◌&&◌}
use mathlib.Core.List.{List, [], ◌∷◌, ◌++◌}
use Prim.Native.Nat.{ℕ}
use lib.Dec.{eqb}
use lib.ListN.{length, get_or, take}
use Rattle.lists.specs.Lists.{part, same}
use Rattle.lists.proofs.Tests.{true_false}
use Rattle.words.specs.Forms.{bit}
use Rattle.line.specs.Timing.{timing_word, timing_words}
use Rattle.line.specs.Check.{timed}
use Rattle.line.proofs.Fronts.{stands, stands_at}
use Rattle.linecheck.proofs.head.is_timed.Goals as goal

-- words that do not stand in front, nor do they with others behind them
still : (b p q : Bool) → (p ≡ false → q ≡ false) → (b && p) ≡ false → (b && q) ≡ false
still true p q f e = f e
still false p q f e = refl

longer : (s ws vs : List ℕ) → same (take (length ws) s) ws ≡ false → same (take (length (ws ++ vs)) s) (ws ++ vs) ≡ false
longer s [] vs e = absurd (true_false e)
longer [] (w ∷ ws) vs e = refl
longer (x ∷ s) (w ∷ ws) vs e = still (eqb x w) (same (take (length ws) s) ws) (same (take (length (ws ++ vs)) s) (ws ++ vs)) (longer s ws vs) e

-- the flags that stand in the fourth word, and what they say of SAV
abbrev flag : ℕ → List ℕ → Bool
flag k s = eqb (bit k (get_or s 3 0)) 1

module _ (sav : ℕ) (s : List ℕ) where
  no-eav : same (take 4 s) (timing_words (flag 8 s) (flag 7 s) true) ≡ false → timed sav s ≡ false
  unfolding timed
  no-eav e = ap (λ (b : Bool). b && same (part sav 4 s) (timing_words (flag 8 s) (flag 7 s) false)) e

pub returns-then-not-starts_with : goal.returns-then-not-starts_with
unfolding timing_words
returns-then-not-starts_with c =
    let a = c.args in
    let s = a.line.now in
    let front = 0x3ff ∷ 0x000 ∷ 0x000 ∷ [] in
    let no = sym (stands _ front front s c.starts_with.ensures.value refl) ∙ c.if-not-starts_with.true in
    sym (no-eav a.sav s (longer s front (timing_word (flag 8 s) (flag 7 s) true ∷ []) no))

pub returns-then-not-starts_with-2 : goal.returns-then-not-starts_with-2
unfolding timing_words
returns-then-not-starts_with-2 c =
    let a = c.args in
    let s = a.line.now in
    sym (no-eav a.sav s (sym (stands _ _ _ s c.starts_with-2.ensures.value c.timing_words.ensures) ∙ c.if-not-starts_with-2.true))

pub returns : goal.returns
unfolding timed timing_words
returns c =
    let a = c.args in
    ap₂ ◌&&◌ (sym c.if-not-starts_with-2.false ∙ stands _ _ _ a.line.now c.starts_with-2.ensures.value c.timing_words.ensures) (stands_at _ a.sav _ _ a.line.now c.starts_with-3.ensures.value c.timing_words-2.ensures)
