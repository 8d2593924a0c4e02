-- What the calls that look at a line answer, by their tests: 1 for a buffer that is odd, too long or of the wrong length, else what the library's call gave.
-- Assumes nothing.
use mathlib.Core.Path.{◌≡◌, refl, sym, ap, ap₂, ◌∙◌}
use mathlib.Core.Bool.{Bool, true, false, ◌&&◌, ◌||◌, not}
use mathlib.Core.List.{List, ◌++◌}
use Prim.Native.Nat.{ℕ, zero, suc, ◌*◌, ◌/◌, ◌%◌, ◌≤◌, ◌<◌, min}
use native.Mathlib.Omega.{arith}
use lib.Dec.{eqb, ltb}
use lib.ListN.{length, length-append}
use lib.Seq.{paste}
use borrow.Author.Tests.{ltb-true, ltb-false, eqb-true, eqb-false, eq-eqb, ne_eqb, not-false}
use Rattle.lists.proofs.Tests.{or_left, or_right, or_false, false_or, and_none, and_true, pick_true, pick_false}
use Rattle.words.specs.Modes.{is_mode}
use Rattle.line.specs.Systems.{system_of, is_system}
use Rattle.line.specs.Check.{fits_length, checked_of}
use Rattle.line.specs.declared.check.Checked.{Checked}
use Rattle.line.proofs.SystemLaws.{length_most}
use Rattle.line.proofs.CheckLaws.{fault_1, answer_1}
use Rattle.octets.specs.Bytes.{words_of, bytes_of, is_even}
use Rattle.octets.proofs.BytesLaws.{length_words, length_bytes}
use Rattle.octets.proofs.PartLaws.{paste_whole}
use Rattle.packets.specs.declared.list.Listed.{Listed}
use Rattle.packets.specs.Listing.{gap_length, Outcome, outcome, listing}
use Rattle.packets.proofs.ListingLaws.{list_1, list_fault_lem}
use Rattle.fields.specs.Fields.{bytes_for, settings_bytes}
use Rattle.calls.specs.Looking.{header_length, header_bytes, looked, checks, listed_length, listed_bytes, listings, lists}

-- ---- a buffer of bytes
-- even, and no more than n of them
pub record LentIn (n : ℕ) (s : List ℕ) : Type 0 where
  pub even : is_even s ≡ true
  pub most : length s ≤ n

pub lent_in : (n : ℕ) (s : List ℕ) → (not (is_even s) || ltb n (length s)) ≡ false → LentIn n s
lent_in n s e = let x = or_false (not (is_even s)) _ e in record { even = not-false _ x.0; most = ltb-false n (length s) x.1 }

-- a longer one has more words
more_words : (n : ℕ) (s : List ℕ) → is_even s ≡ true → ltb (2 * n) (length s) ≡ true → n < length (words_of s)
more_words n s e l = let two = eqb-true (length s % 2) 0 e in omega (arith, length_words s, ltb-true (2 * n) (length s) l, two)

-- odd, or too long where that is refused
not_lent : (even long rest f : Bool) → (not even || long) ≡ true → (even ≡ true → long ≡ true → f ≡ true) → (not (even && rest) || f) ≡ true
not_lent true long rest f e h = or_right (not rest) f (h refl e)
not_lent false long rest f e h = refl

-- also behind another test
behind : (a b f : Bool) → (not b || f) ≡ true → (not (a && b) || f) ≡ true
behind true b f e = e
behind false b f e = refl

-- ---- a line of more words fits no system
module _ (system mode : ℕ) (line : List ℕ) (even : is_even line ≡ true) (long : ltb 4608 (length line) ≡ true) where
  unfit : fits_length system mode (length (words_of line)) ≡ false
  unfolding fits_length
  unfit =
      let other : length (words_of line) ≡ (system_of system).length → ⊥ = λ e. omega (arith, length_most system, more_words 2304 line even long, e) in
      and_none (is_system system) _ (and_none (is_mode mode) _ (ne_eqb _ _ other))

  check_long : eqb (checked_of system mode (words_of line)).fault 1 ≡ true
  check_long = ap (λ (c : Checked). eqb c.fault 1) (answer_1 system mode (words_of line) unfit)

  list_long : (out : List ℕ) → eqb (listing system mode (words_of line) out).answer.fault 1 ≡ true
  list_long out = go (eqb (length out) (gap_length (system_of system))) refl
    where
      go : (b : Bool) → eqb (length out) (gap_length (system_of system)) ≡ b → eqb (listing system mode (words_of line) out).answer.fault 1 ≡ true
      go true e = ap (λ (x : Outcome). eqb x.answer.fault 1) (list_fault_lem system mode (words_of line) out (eqb-true _ _ e) 1 (fault_1 system mode (words_of line) unfit) (λ z. omega (arith, z)))
      go false e = ap (λ (x : Outcome). eqb x.answer.fault 1) (list_1 system mode (words_of line) out (eqb-false _ _ e))

-- a list of more words is longer than every gap
gap_most : (system : ℕ) → gap_length (system_of system) ≤ 512
gap_most zero = omega arith
gap_most (suc zero) = omega arith
gap_most (suc (suc zero)) = omega arith
gap_most (suc (suc (suc zero))) = omega arith
gap_most (suc (suc (suc (suc n)))) = omega arith

out_long : (system mode : ℕ) (ws out : List ℕ) → is_even out ≡ true → ltb 1024 (length out) ≡ true → eqb (listing system mode ws (words_of out)).answer.fault 1 ≡ true
out_long system mode ws out even long =
    ap (λ (x : Outcome). eqb x.answer.fault 1) (list_1 system mode ws (words_of out) (λ e. omega (arith, gap_most system, more_words 512 out even long, e)))

-- ---- the check
module _ (system mode : ℕ) (line header : List ℕ) where
  pub check_unlent : (not (is_even line) || ltb 4608 (length line)) ≡ true → looked 1 header ≡ checks system mode line header
  unfolding checks
  check_unlent e = sym (pick_true _ _ (not_lent (is_even line) _ (eqb (length header) header_length) _ e (check_long system mode line)))

  pub check_misshaped : (length header ≡ header_length → ⊥) → looked 1 header ≡ checks system mode line header
  unfolding checks
  check_misshaped h = sym (pick_true _ _ (or_left _ _ (ap not (and_none (is_even line) _ (ne_eqb _ _ h)))))

  module _ (c : Checked) (is : c ≡ checked_of system mode (words_of line)) where
    pub check_1 : c.fault ≡ 1 → looked 1 header ≡ checks system mode line header
    unfolding checks
    check_1 e = sym (pick_true _ _ (or_right (not (is_even line && eqb (length header) header_length)) _ (eq-eqb _ 1 (ap (λ (x : Checked). x.fault) (sym is) ∙ e))))

    pub check_told : is_even line ≡ true → length header ≡ header_length → (h : List ℕ) → (c.fault ≡ 1 → ⊥) → h ≡ bytes_for 2 c.number ++ settings_bytes c.settings → looked c.fault h ≡ checks system mode line header
    unfolding checks header_bytes
    check_told even long h n e =
        let goes = false_or (ap not (and_true even (eq-eqb _ _ long))) (ap (λ (x : Checked). eqb x.fault 1) (sym is) ∙ ne_eqb _ 1 n) in
        ap (λ (b : List ℕ). looked c.fault b) e ∙ ap (λ (x : Checked). looked x.fault (header_bytes x)) is ∙ sym (pick_false _ _ goes)

-- ---- the list
module _ (system mode : ℕ) (line out listed : List ℕ) where
  pub list_unlent : (not (is_even line) || ltb 4608 (length line)) ≡ true → listings 1 out listed ≡ lists system mode line out listed
  unfolding lists
  list_unlent e = sym (pick_true _ _ (not_lent (is_even line) _ (is_even out && eqb (length listed) listed_length) _ e (λ x y. list_long system mode line x y (words_of out))))

  pub list_no_room : (not (is_even out) || ltb 1024 (length out)) ≡ true → listings 1 out listed ≡ lists system mode line out listed
  unfolding lists
  list_no_room e =
      sym (pick_true _ _ (behind (is_even line) _ _ (not_lent (is_even out) _ (eqb (length listed) listed_length) _ e (out_long system mode (words_of line) out))))

  pub list_misshaped : (length listed ≡ listed_length → ⊥) → listings 1 out listed ≡ lists system mode line out listed
  unfolding lists
  list_misshaped h = sym (pick_true _ _ (or_left _ _ (ap not (and_none (is_even line) _ (and_none (is_even out) _ (ne_eqb _ _ h))))))

  module _ (r : Listed) (flat : List ℕ) (is : outcome r flat ≡ listing system mode (words_of line) (words_of out)) where
    pub list_refused : r.fault ≡ 1 → listings 1 out listed ≡ lists system mode line out listed
    unfolding lists
    list_refused e =
        sym (pick_true _ _ (or_right (not (is_even line && (is_even out && eqb (length listed) listed_length))) _ (eq-eqb _ 1 (ap (λ (x : Outcome). x.answer.fault) (sym is) ∙ e))))

    pub list_told : is_even line ≡ true → is_even out ≡ true → length listed ≡ listed_length → (o l : List ℕ) → (r.fault ≡ 1 → ⊥) → o ≡ bytes_of flat → l ≡ bytes_for 4 r.packets ++ (bytes_for 4 r.words ++ (bytes_for 4 r.gap ++ bytes_for 4 r.stop))
        → listings r.fault o l ≡ lists system mode line out listed
    unfolding lists listed_bytes
    list_told even room long o l n eo el =
        let goes = false_or (ap not (and_true even (and_true room (eq-eqb _ _ long)))) (ap (λ (x : Outcome). eqb x.answer.fault 1) (sym is) ∙ ne_eqb _ 1 n) in
        ap₂ (λ (x y : List ℕ). listings r.fault x y) eo el
        ∙ ap (λ (x : Outcome). listings x.answer.fault (bytes_of x.out) (listed_bytes x.answer)) is
        ∙ sym (pick_false _ _ goes)

-- the array holds the part that was lent
pub part_in : (ws rest : List ℕ) (n : ℕ) → length ws ≡ n → n ≤ length (ws ++ rest)
part_in ws rest n e = omega (arith, length-append ws rest, e)

-- the words are laid over bytes that are twice as many
pub written : (out flat ws o : List ℕ) → is_even out ≡ true → length flat ≡ length out / 2 → ws ≡ flat → o ≡ paste out 0 (bytes_of ws) (2 * min (length ws) (length out / 2)) → o ≡ bytes_of flat
written out flat ws o even long e is =
    let two = eqb-true (length out % 2) 0 even in
    let all : 2 * min (length ws) (length out / 2) ≡ length out = omega (arith, long, ap length e, two) in
    is ∙ ap (paste out 0 (bytes_of ws)) all ∙ paste_whole out (bytes_of ws) (length out) (omega arith) (omega (arith, length_bytes ws, long, ap length e, two)) ∙ ap bytes_of e
