-- `images::reader_image::mark_by` meets its contract. Assumes nothing.
use mathlib.Core.Path.{◌≡◌, refl}
use Prim.Native.Nat.{ℕ, zero, suc, ◌<◌, ◌≤◌}
use native.Mathlib.Omega.{arith}
use Rattle.machine.specs.declared.phase.Mark.TheVariants.{Typed, Nulled}
use Rattle.images.specs.ReaderImage.{mark_by}
use Rattle.images.proofs.reader_image.mark_by.Goals as goal

typed : (n k : ℕ) → n < 2 → Typed k ≡ mark_by n k
typed zero k h = refl
typed (suc zero) k h = refl
typed (suc (suc n)) k h = absurd (omega arith)

nulled : (n k : ℕ) → 2 ≤ n → Nulled ≡ mark_by n k
nulled zero k h = absurd (omega arith)
nulled (suc zero) k h = absurd (omega arith)
nulled (suc (suc n)) k h = refl

pub returns-then-n-lt2 : goal.returns-then-n-lt2
returns-then-n-lt2 c = typed _ _ c.if-n-lt2.true

pub returns-else-n-lt2 : goal.returns-else-n-lt2
returns-else-n-lt2 c = nulled _ _ c.if-n-lt2.false
