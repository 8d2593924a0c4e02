-- Laws of a reader between two lines: where a line's last event was reported no line is begun, so that the next line is a new one.
-- Assumes nothing.
use Rattle.std.specs.Prelude.{Some, None}
use mathlib.Core.Path.{◌≡◌, refl, sym, ap, ap₂, ◌∙◌, subst}
use mathlib.Core.Bool.{Bool, true, false}
use mathlib.Core.List.{List}
use mathlib.Core.Logic.{⊎_elim}
use Prim.Native.Nat.{ℕ, zero, suc}
use native.Mathlib.Omega.{arith}
use lib.Dec.{eqb}
use lib.ListN.{length}
use borrow.Author.Tests.{eqb-true}
use Rattle.lists.proofs.Tests.{true_false, pick_false}
use Rattle.line.specs.Check.{fits, line_fault}
use Rattle.reader.specs.declared.state.Reader.{Reader}
use Rattle.reader.specs.Reading.{Reply, reply, refused, begun, read_fault, reading_in, reading}
use Rattle.reader.specs.Lending.{is_last}
use Rattle.reader.proofs.Ends.{Ended, Further}
use Rattle.reader.proofs.AtCapacity.{ready, unfaulted, accepts, refuses, read_possible, call_moves}
use Rattle.listing.specs.Lines.{Listed, called, called_by}
use Rattle.listing.proofs.LineLaws.{one_more, none_behind}

-- no line is begun, and the system is the same
pub record Rests (st : Reader) (t : Listed) : Type 0 where
  pub shut : t.state.place ≡ None
  pub same : t.state.system ≡ st.system

-- a call that reported the last event is the last
by_last : (n : ℕ) (line : List ℕ) (s : Listed) (x : Reply) → reading s.state line s.room ≡ x → is_last x.told.event ≡ true
    → x.told.state.place ≡ None → x.told.state.system ≡ s.state.system → Rests s.state (called_by n line (called line s))
by_last n line s x is last shut same =
    subst (Rests s.state) (sym (none_behind n line (called line s) (ap (λ (y : Reply). is_last y.told.event) is ∙ last)))
    (record { shut = ap (λ (y : Reply). y.told.state.place) is ∙ shut; same = ap (λ (y : Reply). y.told.state.system) is ∙ same })

over_then : (n : ℕ) (line : List ℕ) (s : Listed) → s.over ≡ false → (called_by (suc n) line s).over ≡ true → (called_by n line (called line s)).over ≡ true
over_then n line s o e = sym (ap (λ (x : Listed). x.over) (one_more n line s o)) ∙ e

-- ---- from a place on
pub rest_shut : (n : ℕ) (line : List ℕ) (s : Listed) (q : ℕ) → s.over ≡ false → read_fault s.state (length line) (length s.room) ≡ 0 → s.state.place ≡ Some q
    → (called_by n line s).over ≡ true → Rests s.state (called_by n line s)
unfolding called_by
rest_shut zero line s q o fit at e = absurd (true_false (sym e ∙ o))
rest_shut (suc n) line s q o fit at e =
    let m = call_moves s.state q line s.room fit at in
    subst (Rests s.state) (sym (one_more n line s o))
    (⊎_elim (λ (d : Ended (reading s.state line s.room)). by_last n line s _ refl (ap is_last d.event) d.place m.stands.same.system)
    (λ (f : Further q _ (reading s.state line s.room)).
    let r = rest_shut n line (called line s) f.next f.event m.fit f.place (over_then n line s o e) in
    record { shut = r.shut; same = r.same ∙ m.stands.same.system })
    m.stands.moved)

-- ---- from a line's start on
module _ (n : ℕ) (line : List ℕ) (s : Listed) (shut : s.state.place ≡ None) (o : s.over ≡ false) (e : (called_by (suc n) line s).over ≡ true) where
  abbrev st : Reader
  st = s.state

  begun_shut : read_fault s.state (length line) (length s.room) ≡ 0 → line_fault s.state.system s.state.mode line ≡ 0 → Rests s.state (called_by n line (called line s))
  unfolding begun
  begun_shut fit good =
      let is = accepts st line s.room fit shut good in
      let r = ready st line s.room fit in
      let system : (reading st line s.room).told.state.system ≡ st.system = ap (λ (y : Reply). y.told.state.system) is in
      let mode : (reading st line s.room).told.state.mode ≡ st.mode = ap (λ (y : Reply). y.told.state.mode) is in
      let again = unfaulted (reading st line s.room).told.state line (reading st line s.room).room
      (record {
        fit = ap₂ (λ (i j : ℕ). fits i j line) system mode ∙ r.fit;
        long = ap (λ (y : Reply). length y.room) is ∙ r.long;
        state = read_possible st line s.room r.state;
      }) in
      let x = rest_shut n line (called line s) 0 (ap (λ (y : Reply). is_last y.told.event) is) again (ap (λ (y : Reply). y.told.state.place) is) (over_then n line s o e) in
      record { shut = x.shut; same = x.same ∙ system }

  fit_shut : read_fault s.state (length line) (length s.room) ≡ 0 → (k : ℕ) → line_fault s.state.system s.state.mode line ≡ k → Rests s.state (called_by n line (called line s))
  fit_shut fit zero is = begun_shut fit is
  fit_shut fit (suc k) is = by_last n line s (reply (refused st (suc k)) s.room) (refuses st line s.room fit shut (suc k) is (λ z. omega arith)) refl refl refl

  any_shut : (b : Bool) → eqb (read_fault s.state (length line) (length s.room)) 0 ≡ b → Rests s.state (called_by n line (called line s))
  unfolding reading_in
  any_shut true is = fit_shut (eqb-true _ 0 is) _ refl
  any_shut false is = by_last n line s _ (pick_false _ _ is) refl shut refl

pub line_shut : (n : ℕ) (line : List ℕ) (s : Listed) → s.state.place ≡ None → s.over ≡ false → (called_by n line s).over ≡ true → Rests s.state (called_by n line s)
unfolding called_by
line_shut zero line s shut o e = absurd (true_false (sym e ∙ o))
line_shut (suc n) line s shut o e = subst (Rests s.state) (sym (one_more n line s o)) (any_shut n line s shut o e _ refl)
