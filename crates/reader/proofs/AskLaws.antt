-- Laws of what a call asks before it reads: the fault, and what is found where there is none.
-- Assumes nothing.
use mathlib.Core.Path.{◌≡◌, refl, sym, ap, ◌∙◌}
use mathlib.Core.Bool.{Bool, true, false}
use Prim.Native.Nat.{ℕ}
use lib.Dec.{eqb}
use borrow.Author.Tests.{eq-eqb, eqb-true}
use Rattle.lists.specs.Tests.{pick}
use Rattle.lists.proofs.Tests.{pick_true, pick_false}
use Rattle.line.specs.Systems.{system_of}
use Rattle.line.specs.Fixed.{size_of}
use Rattle.course.specs.Course.{blocks_end}
use Rattle.reader.specs.declared.state.Reader.{Reader}
use Rattle.reader.specs.declared.read.Asked.{Asked}
use Rattle.reader.specs.Reading.{read_fault_in}
use Rattle.reader.specs.Asking.{barred, cleared, asked}

module _ (c : ℕ) (st : Reader) (long room : ℕ) where
  pub asked_fault : (asked c st long room).fault ≡ read_fault_in c st long room
  unfolding asked
  asked_fault = go (read_fault_in c st long room) (eqb (read_fault_in c st long room) 0) refl
    where
      go : (n : ℕ) (b : Bool) → eqb n 0 ≡ b → (pick b (cleared st) (barred n)).fault ≡ n
      go n true e = ap (λ (x : Asked). x.fault) (pick_true (cleared st) (barred n) refl) ∙ sym (eqb-true n 0 e)
      go n false e = ap (λ (x : Asked). x.fault) (pick_false (cleared st) (barred n) refl)

  -- neither
  pub asks_cleared : 0 ≡ read_fault_in c st long room → cleared st ≡ asked c st long room
  unfolding asked
  asks_cleared e = sym (pick_true _ _ (eq-eqb _ 0 (sym e)))

  pub asked_found : read_fault_in c st long room ≡ 0 → (x : Asked) → x ≡ asked c st long room
      → (x.end ≡ blocks_end (system_of st.system).payload st.settings.block st.settings.flag) × (x.size ≡ size_of st.settings.block)
  asked_found e x is = let y = is ∙ sym (asks_cleared (sym e)) in (ap (λ (z : Asked). z.end) y, ap (λ (z : Asked). z.size) y)
