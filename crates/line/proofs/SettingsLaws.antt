-- What settings without fault have, and what equal settings have; and that the five reserved bytes are no fault of theirs.
-- Assumes nothing.
use mathlib.Core.Path.{◌≡◌, refl, ap}
use mathlib.Core.Bool.{Bool, true, false, ◌&&◌}
use mathlib.Core.List.{List, [], ◌∷◌}
use Prim.Native.Nat.{ℕ}
use lib.Dec.{eqb}
use lib.Pointwise.{pointwise}
use borrow.Author.Tests.{eqb-true}
use Rattle.lists.specs.Lists.{same}
use Rattle.lists.proofs.Tests.{both_true}
use Rattle.lists.proofs.Refusals.{lowest_clear}
use Rattle.line.specs.declared.settings.Settings.{Settings}
use Rattle.line.specs.Systems.{system_of}
use Rattle.line.specs.Fixed.{block_refused}
use Rattle.line.specs.Settings.{settings_faults, settings_fault, same_settings}
use Rattle.line.proofs.CheckLaws.{settings_rising}

-- 12 lets the block type pass
pub block_passes : (system : ℕ) (t : Settings) → settings_fault system t ≡ 0 → block_refused (system_of system).payload t.block t.flag ≡ false
unfolding settings_fault settings_faults
block_passes system t e = (lowest_clear (settings_faults (system_of system) t) (settings_rising (system_of system) t) e).1.1.0

-- ---- equal settings
-- `==` of two arrays asks what `same` asks
pub pointwise_same : (s t : List ℕ) → pointwise eqb s t ≡ same s t
pointwise_same [] [] = refl
pointwise_same [] (y ∷ t) = refl
pointwise_same (x ∷ s) [] = refl
pointwise_same (x ∷ s) (y ∷ t) = ap (λ (b : Bool). eqb x y && b) (pointwise_same s t)

behind_source : (t u : Settings) → same_settings t u ≡ true → (eqb t.block u.block && (eqb t.flag u.flag && same t.reserved u.reserved)) ≡ true
unfolding same_settings
behind_source t u e =
    let a = (both_true (eqb t.code u.code) _ e).1 in
    let b = (both_true (eqb t.aai u.aai) _ a).1 in
    let c = (both_true (same t.destination u.destination) _ b).1 in
    (both_true (same t.source u.source) _ c).1

pub same_block : (t u : Settings) → same_settings t u ≡ true → t.block ≡ u.block
same_block t u e = eqb-true _ _ (both_true (eqb t.block u.block) _ (behind_source t u e)).0

-- the five reserved bytes too
pub same_five : (t u : Settings) → same_settings t u ≡ true → same t.reserved u.reserved ≡ true
same_five t u e = (both_true (eqb t.flag u.flag) _ (both_true (eqb t.block u.block) _ (behind_source t u e)).1).1

-- ---- the settings with other reserved bytes: what 10 to 13 answer is the same
abbrev pub with_five : Settings → List ℕ → Settings
with_five s five =
    record {
      code = s.code;
      aai = s.aai;
      destination = s.destination;
      source = s.source;
      block = s.block;
      flag = s.flag;
      reserved = five;
    }

pub any_five : (system : ℕ) (s : Settings) (five : List ℕ) → settings_fault system (with_five s five) ≡ settings_fault system s
unfolding settings_fault settings_faults
any_five system s five = refl
