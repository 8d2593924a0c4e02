-- `lines::packing::add_packet` meets its contract. Assumes nothing.
use mathlib.Core.Path.{◌≡◌, sym, ◌∙◌}
use Prim.Native.Nat.{◌+◌, ◌≤◌}
use native.Mathlib.Omega.{arith}
use lib.ListN.{length}
use Rattle.writer.specs.Packing.{pack_fault}
use Rattle.writer.proofs.Packs.{can_pack, packs_in, packs_numbered, pack_refused, pack_done}
use borrow.Author.Rules.{rules}
use Rattle.lines.proofs.packing.add_packet.Goals as goal
use Rattle.lines.proofs.packing.add_packet.Goals.{Else-fault-ne0}

-- what an accepted packet finds
found : (e : Else-fault-ne0) → let a = e.args in pack_fault a.w (length a.line.now) a.values.now ≡ 0
found e = sym e.pack_fault-fault.ensures ∙ e.if-fault-ne0.false

inside : (e : Else-fault-ne0) → let a = e.args in
    (57 + a.w.used + (length a.values.now + 7) ≤ length a.line.now) × (a.w.used + (length a.values.now + 7) ≤ 2304)
inside e =
    let a = e.args in
    packs_in a.w a.line.now a.values.now (can_pack a.w a.line.now a.values.now (found e))

pub returns-then-fault-ne0 : goal.returns-then-fault-ne0
returns-then-fault-ne0 c =
    let a = c.args in
    packs_numbered a.w a.line.now a.did a.second a.values.now _
    (pack_refused a.w a.line.now a.did a.second a.values.now _ c.pack_fault-fault.ensures c.if-fault-ne0.true)

pub slice_bounds-lay-end : goal.slice_bounds-lay-end
slice_bounds-lay-end c = omega (arith, (inside (goal.at.slice_bounds-lay-end c).Else-fault-ne0).0)

pub overflow_cast-w-2 : goal.overflow_cast-w-2
overflow_cast-w-2 c = let h = (inside (goal.at.overflow_cast-w-2 c).Else-fault-ne0).1 in search rules

pub returns : goal.returns
returns c =
    let a = c.args in
    packs_numbered a.w a.line.now a.did a.second a.values.now _
    (pack_done a.w a.line.now a.did a.second a.values.now (found (goal.at.returns c).Else-fault-ne0) _ _ c.used_to.ensures c.lay.ensures)
