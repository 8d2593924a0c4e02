-- `lines::closing::close_line` meets its contract. Assumes nothing.
use mathlib.Core.Path.{◌≡◌, sym, ap₂, ◌∙◌, subst}
use lib.ListN.{length}
use Prim.Native.Nat.{ℕ, ◌+◌, ◌≤◌}
use Rattle.line.specs.declared.systems.System.{System}
use Rattle.writer.specs.Closing.{sealed}
use Rattle.writer.proofs.Refusals.{can_close}
use Rattle.writer.proofs.Calls.{close_refused, close_done}
use Rattle.writer.proofs.NumberLaws.{closes_numbered}
use borrow.Author.Rules.{rules}
use Rattle.lines.proofs.closing.close_line.Goals as goal

pub close_fault-fault-requires : goal.close_fault-fault-requires
close_fault-fault-requires c = search rules

pub returns-then-fault-ne0 : goal.returns-then-fault-ne0
returns-then-fault-ne0 c =
    let a = c.args in
    closes_numbered a.w a.line.now _
    (close_refused a.w a.line.now _ c.close_fault-fault.ensures c.if-fault-ne0.true)

pub system_of-s-requires : goal.system_of-s-requires
system_of-s-requires c = search rules

pub place_of-requires : goal.place_of-requires
place_of-requires c = search rules

pub seal-requires : goal.seal-requires
seal-requires c =
    let a = c.args in
    let fit = (can_close a.w a.line.now (sym c.close_fault-fault.ensures ∙ c.if-fault-ne0.false)).fit in
    subst (λ (s : System). (s.payload + 61 ≤ s.length) × (2 ≤ s.payload) × (s.length ≡ length a.line.now)) (sym c.system_of-s.ensures)
    (fit.row.room, fit.row.area, fit.long)

pub moved-requires : goal.moved-requires
moved-requires c = search rules

pub shape_of-line : goal.shape_of-line
shape_of-line c = search rules

pub returns : goal.returns
returns c =
    let a = c.args in
    closes_numbered a.w a.line.now _
    (close_done a.w a.line.now _ c.close_fault-fault.ensures c.if-fault-ne0.false _ _ c.moved.ensures
    (c.seal.ensures ∙ ap₂ (λ (s : System) (p : ℕ). sealed s a.w.settings.flag p a.w.crc a.line.now) c.system_of-s.ensures c.place_of.ensures))
