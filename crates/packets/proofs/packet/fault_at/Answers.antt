-- `packets::packet::fault_at` meets its contract. Assumes nothing.
use mathlib.Core.Path.{◌≡◌, ap, ap₂, ◌∙◌}
use mathlib.Core.Bool.{◌&&◌, not}
use mathlib.Core.List.{List}
use Prim.Native.Nat.{ℕ, ◌+◌, ◌-◌}
use native.Mathlib.Omega.{arith}
use lib.Dec.{eqb}
use lib.ListN.{length, get_or, take, drop}
use borrow.Author.Tests.{le-ltb}
use Rattle.lists.specs.Lists.{part, each}
use Rattle.lists.proofs.Refusals.{LowestOf, low_none, low_miss, low_step}
use Rattle.words.specs.Forms.{is_data}
use Rattle.words.specs.Checksum.{checksum}
use Rattle.packets.specs.Gap.{count_at, faults_at, fault_at}
use Rattle.packets.proofs.PacketLaws.{runs_past}
use Rattle.packets.proofs.packet.fault_at.Goals as goal

-- the part of a gap that ends m words past its start
ends_at : (a c m n : ℕ) (g : List ℕ) → c + m - a ≡ c + n → take (c + m - a) (drop a g) ≡ part a (c + n) g
ends_at a c m n g e = ap (λ (k : ℕ). take k (drop a g)) e

pub returns-then-gap-lt7 : goal.returns-then-gap-lt7
returns-then-gap-lt7 c = runs_past c.args.gap.now (omega (arith, c.if-gap-lt7.true))

pub returns-then-gap-long : goal.returns-then-gap-long
returns-then-gap-long c = runs_past c.args.gap.now c.if-gap-long.true

pub returns : goal.returns
unfolding fault_at faults_at
returns c =
    let g = c.args.gap.now in
    let n = count_at g in
    let users = c.all_data.ensures ∙ ap (each is_data) (ends_at 6 n 7 1 g (omega arith)) in
    let sum = c.checksum_of-sum.ensures ∙ ap checksum (ends_at 3 n 6 3 g (omega arith)) in
    let lowest : LowestOf (faults_at g) c.or_else.result =
    low_miss 21 (le-ltb (length g) (n + 7) c.if-gap-long.false)
    (low_step 22 c.or_else.ensures (ap not (ap₂ ◌&&◌ c.all_byte.ensures users))
    (low_step 23 c.or_else-r23.ensures (ap (λ (x : ℕ). not (eqb (get_or g (n + 6) 0) x)) sum) low_none)) in
    lowest.is
