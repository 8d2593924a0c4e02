-- `packets::packet::look_at` meets its contract. Assumes nothing.
use mathlib.Core.Path.{sym, ap, ◌∙◌}
use Prim.Native.Nat.{◌≤◌}
use native.Mathlib.Omega.{arith}
use lib.ListN.{length}
use Rattle.packets.specs.declared.packet.Look.TheVariants.{Bad}
use Rattle.packets.proofs.PacketLaws.{good, look_nothing, look_bad, look_whole}
use Rattle.packets.proofs.packet.look_at.Goals as goal
use Rattle.packets.proofs.packet.look_at.Goals.{Else-fault-ne0}

-- a packet without fault has seven words or more
seven : (e : Else-fault-ne0) → 7 ≤ length e.args.gap.now
seven e =
    let g = e.args.gap.now in
    let k = (good g (sym e.fault_at-fault.ensures ∙ e.if-fault-ne0.false)).long in
    omega arith

pub returns-then-not-is_flag : goal.returns-then-not-is_flag
returns-then-not-is_flag c = sym (look_nothing c.args.gap.now (sym c.is_flag.ensures ∙ c.if-not-is_flag.true))

pub returns-then-fault-ne0 : goal.returns-then-fault-ne0
returns-then-fault-ne0 c =
    let g = c.args.gap.now in
    ap Bad c.fault_at-fault.ensures
    ∙ sym (look_bad g (sym c.is_flag.ensures ∙ c.if-not-is_flag.false) (λ e. c.if-fault-ne0.true (c.fault_at-fault.ensures ∙ e)))

pub bounds-gap-3 : goal.bounds-gap-3
bounds-gap-3 c = omega (arith, seven (goal.at.bounds-gap-3 c).Else-fault-ne0)

pub bounds-gap-4 : goal.bounds-gap-4
bounds-gap-4 c = omega (arith, seven (goal.at.bounds-gap-4 c).Else-fault-ne0)

pub bounds-gap-5 : goal.bounds-gap-5
bounds-gap-5 c = omega (arith, seven (goal.at.bounds-gap-5 c).Else-fault-ne0)

pub returns : goal.returns
returns c =
    let g = c.args.gap.now in
    sym (look_whole g (sym c.is_flag.ensures ∙ c.if-not-is_flag.false) (sym c.fault_at-fault.ensures ∙ c.if-fault-ne0.false))
