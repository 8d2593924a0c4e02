-- 01's numbers of a jump say which jump it is, and those of an event which event.
-- Assumes nothing.
use Rattle.std.specs.Prelude.{Option, Some, None}
use mathlib.Core.Path.{◌≡◌, refl, sym, ap, ◌∙◌}
use mathlib.Core.Bool.{Bool, true, false}
use mathlib.Core.List.{List, [], ◌∷◌}
use Prim.Native.Nat.{zero, suc}
use lib.IntN.{ℤ, pos, negsuc, nat_abs}
use Rattle.reader.specs.declared.state.Event.{Event}
use Rattle.reader.specs.declared.state.Event.TheVariants.{Refused, Begun, Block, Drop, End}
use Rattle.reader.specs.Jump.{jump_numbers}
use Rattle.reader.specs.Events.{yes_no, event_numbers}

-- ---- the jump that numbers spell
jump_back : List ℤ → Option ℤ
jump_back [] = None
jump_back (z ∷ l) = Some z

jump_back_lem : (x : Option ℤ) → jump_back (jump_numbers x) ≡ x
unfolding jump_back
jump_back_lem None = refl
jump_back_lem (Some z) = refl

pub jump_injective : (x y : Option ℤ) → jump_numbers x ≡ jump_numbers y → x ≡ y
jump_injective x y e = sym (jump_back_lem x) ∙ ap jump_back e ∙ jump_back_lem y

-- ---- the event that numbers spell
is_yes : ℤ → Bool
is_yes (pos zero) = false
is_yes (pos (suc n)) = true
is_yes (negsuc n) = false

yes_back : (b : Bool) → is_yes (yes_no b) ≡ b
unfolding is_yes
yes_back true = refl
yes_back false = refl

refused_by : List ℤ → Event
refused_by (n ∷ d ∷ l) = Refused (nat_abs n) (is_yes d)
refused_by (n ∷ []) = End
refused_by [] = End

begun_by : List ℤ → Event
begun_by (n ∷ d ∷ l) = Begun (nat_abs n) (jump_back l) (is_yes d)
begun_by (n ∷ []) = End
begun_by [] = End

block_by : List ℤ → Event
block_by (k ∷ n ∷ l) = Block (nat_abs k) (nat_abs n)
block_by (k ∷ []) = End
block_by [] = End

drop_by : List ℤ → Event
drop_by (n ∷ l) = Drop (nat_abs n)
drop_by [] = End

event_back : List ℤ → Event
event_back [] = End
event_back (negsuc n ∷ l) = End
event_back (pos zero ∷ l) = refused_by l
event_back (pos (suc zero) ∷ l) = begun_by l
event_back (pos (suc (suc zero)) ∷ l) = block_by l
event_back (pos (suc (suc (suc zero))) ∷ l) = drop_by l
event_back (pos (suc (suc (suc (suc n)))) ∷ l) = End

event_back_lem : (x : Event) → event_back (event_numbers x) ≡ x
unfolding event_back refused_by begun_by block_by drop_by
event_back_lem (Refused n dropped) = ap (Refused n) (yes_back dropped)
event_back_lem (Begun n jump dropped) = ap (λ (x : Option ℤ). Begun n x (is_yes (yes_no dropped))) (jump_back_lem jump) ∙ ap (Begun n jump) (yes_back dropped)
event_back_lem (Block k n) = refl
event_back_lem (Drop n) = refl
event_back_lem End = refl

pub event_injective : (x y : Event) → event_numbers x ≡ event_numbers y → x ≡ y
event_injective x y e = sym (event_back_lem x) ∙ ap event_back e ∙ event_back_lem y
