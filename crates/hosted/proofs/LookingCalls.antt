-- The line check and the listing of a gap from C, on the bytes of words, are the library's.
-- Assumes nothing.
use Prim.Native.Nat.{ℕ}
use mathlib.Core.Bool.{Bool, true, false, ◌&&◌, ◌||◌, not}
use mathlib.Core.List.{List}
use mathlib.Core.Path.{◌≡◌, refl, sym, ap, ap₂, ◌∙◌}
use lib.Dec.{eqb}
use lib.ListN.{length}
use borrow.Author.Tests.{eq-eqb, eqb-true}
use Rattle.lists.specs.Tests.{pick}
use Rattle.lists.proofs.Tests.{true_false, and_true, pick_elim}
use Rattle.octets.specs.Bytes.{bytes_of, is_even}
use Rattle.octets.proofs.BytesLaws.{words_back}
use Rattle.line.specs.Check.{checked_of}
use Rattle.packets.specs.Listing.{Outcome, list_fault, listing}
use Rattle.calls.specs.Looking.{header_length, header_bytes, looked, checks, listed_length, listed_bytes, listings, lists}
use Rattle.hosted.proofs.EvenBytes.{even_bytes}

-- 1 leaves what was lent, where buffers are in order
look_by : (s one : Bool) (n : ℕ) (before after : List ℕ) → s ≡ true → eqb n 1 ≡ one → pick (not s || one) (looked 1 before) (looked n after) ≡ looked n (pick one before after)
unfolding pick
look_by true true n before after p e = ap (λ (k : ℕ). looked k before) (sym (eqb-true n 1 e))
look_by true false n before after p e = refl
look_by false one n before after p e = absurd (true_false (sym p))

pub checks_by : (system mode : ℕ) (line header : List ℕ) → length header ≡ header_length
    → let c = checked_of system mode line in checks system mode (bytes_of line) header ≡ looked c.fault (pick (eqb c.fault 1) header (header_bytes c))
unfolding checks
checks_by system mode line header long =
    let shaped = is_even (bytes_of line) && eqb (length header) header_length in
    ap (λ (l : List ℕ). let c = checked_of system mode l in pick (not shaped || eqb c.fault 1) (looked 1 header) (looked c.fault (header_bytes c))) (words_back line)
    ∙ look_by shaped _ _ header _ (and_true (even_bytes line) (eq-eqb _ _ long)) refl

-- ---- the list
list_by_lem : (s one : Bool) (n : ℕ) (out out' before after : List ℕ) → s ≡ true → eqb n 1 ≡ one → (one ≡ true → out' ≡ out)
    → pick (not s || one) (listings 1 (bytes_of out) before) (listings n (bytes_of out') after) ≡ listings n (bytes_of out') (pick one before after)
unfolding pick
list_by_lem true true n out out' before after p e k = ap₂ (λ (m : ℕ) (o : List ℕ). listings m (bytes_of o) before) (sym (eqb-true n 1 e)) (sym (k refl))
list_by_lem true false n out out' before after p e k = refl
list_by_lem false one n out out' before after p e k = absurd (true_false (sym p))

list_keeps : (system mode : ℕ) (line out : List ℕ) → eqb (listing system mode line out).answer.fault 1 ≡ true → (listing system mode line out).out ≡ out
unfolding listing
list_keeps system mode line out =
    pick_elim (λ (x : Outcome). eqb x.answer.fault 1 ≡ true → x.out ≡ out) (eqb (list_fault system mode line (length out)) 0) (λ h e. absurd (true_false (sym e))) (λ h e. refl)

pub lists_by : (system mode : ℕ) (line out listed : List ℕ) → length listed ≡ listed_length
    → let x = listing system mode line out in
    lists system mode (bytes_of line) (bytes_of out) listed ≡ listings x.answer.fault (bytes_of x.out) (pick (eqb x.answer.fault 1) listed (listed_bytes x.answer))
unfolding lists
lists_by system mode line out listed long =
    let shaped = is_even (bytes_of line) && (is_even (bytes_of out) && eqb (length listed) listed_length) in
    ap₂
    (λ (l o : List ℕ).
    let x = listing system mode l o in
    pick (not shaped || eqb x.answer.fault 1) (listings 1 (bytes_of out) listed) (listings x.answer.fault (bytes_of x.out) (listed_bytes x.answer)))
    (words_back line) (words_back out)
    ∙ list_by_lem shaped _ _ out _ listed _ (and_true (even_bytes line) (and_true (even_bytes out) (eq-eqb _ _ long))) refl (list_keeps system mode line out)
