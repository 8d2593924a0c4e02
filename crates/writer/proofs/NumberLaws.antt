-- The answers of opening, adding and closing have the numbers that the fault and the block say.
-- Assumes nothing.
use mathlib.Core.Path.{◌≡◌, refl, ap, ◌∙◌, sym}
use mathlib.Core.Bool.{Bool, true, false}
use mathlib.Core.List.{List, [], ◌∷◌}
use Prim.Native.Nat.{ℕ, zero, suc, ◌-◌, min}
use native.Mathlib.Omega.{arith}
use lib.Dec.{eqb, leb, eqb-suc-zero}
use lib.ListN.{length}
use borrow.Author.Tests.{eq-eqb, ne_eqb, leb-true, leb-false}
use Rattle.lists.specs.Tests.{pick}
use Rattle.lists.proofs.Tests.{pick_true, pick_false}
use Rattle.line.specs.declared.settings.Settings.{Settings}
use Rattle.course.specs.Course.{place_of}
use Rattle.writer.specs.declared.state.Writer.{Writer}
use Rattle.writer.specs.declared.state.Answer.TheVariants.{Refused, Done}
use Rattle.writer.specs.declared.state.Laid.TheVariants.{Refused as NotLaid, Finished, Unfinished}
use Rattle.writer.specs.Answers.{answer_numbers, laid_numbers, Left, left, Added, added}
use Rattle.writer.specs.State.{end_in}
use Rattle.writer.specs.Opening.{open_fault, opening}
use Rattle.writer.specs.Adding.{add_fault, todo, lay, adding}
use Rattle.writer.specs.Closing.{close_fault, closing}
use Rattle.writer.specs.Numbers.{answers_by, all_fits, laid_by}

-- ---- opening and closing
pub answer_by : (n : ℕ) (w s : Writer) (line l : List ℕ) → answer_numbers (pick (eqb n 0) (left Done s l) (left (Refused n) w line)).answer ≡ answers_by n
answer_by zero w s line l = ap (λ (x : Left). answer_numbers x.answer) (pick_true (left Done s l) (left (Refused 0) w line) refl)
answer_by (suc n) w s line l = ap (λ (x : Left). answer_numbers x.answer) (pick_false (left Done s l) (left (Refused (suc n)) w line) (eqb-suc-zero n))

pub open_numbers : (w : Writer) (f v : Bool) (n : ℕ) (t : Settings) (line : List ℕ) → answer_numbers (opening w f v n t line).answer ≡ answers_by (open_fault w n t (length line))
unfolding opening
open_numbers w f v n t line = answer_by (open_fault w n t (length line)) w _ line _

pub close_numbers : (w : Writer) (line : List ℕ) → answer_numbers (closing w line).answer ≡ answers_by (close_fault w (length line))
unfolding closing
close_numbers w line = answer_by (close_fault w (length line)) w _ line _

-- ---- adding
fits_by : (a b : ℕ) → eqb (min a b) b ≡ leb b a
fits_by a b = go (leb b a) refl
  where
    go : (t : Bool) → leb b a ≡ t → eqb (min a b) b ≡ leb b a
    go true e = let l = leb-true b a e in eq-eqb (min a b) b (omega (arith, l)) ∙ sym e
    go false e = let l = leb-false b a e in ne_eqb (min a b) b (λ z. omega (arith, l, z)) ∙ sym e

all_by : (t : Bool) → laid_numbers (pick t Finished Unfinished) ≡ 0 ∷ pick t 1 0 ∷ []
unfolding pick
all_by true = refl
all_by false = refl

lay_numbers : (w : Writer) (line : List ℕ) (kind : ℕ) (vs : List ℕ) → laid_numbers (lay w line kind vs).answer ≡ laid_by 0 (all_fits w kind vs)
lay_numbers w line kind vs =
    all_by (eqb (min (end_in w - place_of w.place) (length (todo w kind vs))) (length (todo w kind vs)))
    ∙ ap (λ (t : Bool). 0 ∷ pick t 1 0 ∷ []) (fits_by (end_in w - place_of w.place) (length (todo w kind vs)))

laid_by_lem : (n : ℕ) (t : Bool) (w : Writer) (line : List ℕ) (x : Added) → laid_numbers x.answer ≡ laid_by 0 t
    → laid_numbers (pick (eqb n 0) x (added (NotLaid n) w line)).answer ≡ laid_by n t
laid_by_lem zero t w line x e = ap (λ (y : Added). laid_numbers y.answer) (pick_true x (added (NotLaid 0) w line) refl) ∙ e
laid_by_lem (suc n) t w line x e = ap (λ (y : Added). laid_numbers y.answer) (pick_false x (added (NotLaid (suc n)) w line) (eqb-suc-zero n))

pub add_numbers : (w : Writer) (line : List ℕ) (kind : ℕ) (vs : List ℕ) → laid_numbers (adding w line kind vs).answer ≡ laid_by (add_fault w (length line) kind vs) (all_fits w kind vs)
unfolding adding
add_numbers w line kind vs = laid_by_lem (add_fault w (length line) kind vs) (all_fits w kind vs) w line (lay w line kind vs) (lay_numbers w line kind vs)

-- ---- what a call leaves, and the numbers beside it
pub opens_numbered : (w : Writer) (f v : Bool) (n : ℕ) (t : Settings) (line : List ℕ) (x : Left) → x ≡ opening w f v n t line
    → (x ≡ opening w f v n t line) × (answer_numbers x.answer ≡ answers_by (open_fault w n t (length line)))
opens_numbered w f v n t line x e = (e, ap (λ (y : Left). answer_numbers y.answer) e ∙ open_numbers w f v n t line)

pub closes_numbered : (w : Writer) (line : List ℕ) (x : Left) → x ≡ closing w line → (x ≡ closing w line) × (answer_numbers x.answer ≡ answers_by (close_fault w (length line)))
closes_numbered w line x e = (e, ap (λ (y : Left). answer_numbers y.answer) e ∙ close_numbers w line)

pub adds_numbered : (w : Writer) (line : List ℕ) (kind : ℕ) (vs : List ℕ) (x : Added) → x ≡ adding w line kind vs
    → (x ≡ adding w line kind vs) × (laid_numbers x.answer ≡ laid_by (add_fault w (length line) kind vs) (all_fits w kind vs))
adds_numbered w line kind vs x e = (e, ap (λ (y : Added). laid_numbers y.answer) e ∙ add_numbers w line kind vs)
