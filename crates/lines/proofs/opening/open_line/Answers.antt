-- `lines::opening::open_line` meets its contract. Assumes nothing.
use mathlib.Core.Path.{sym, ◌∙◌}
use Rattle.writer.proofs.StateLaws.{open_fits, not_opened, opened}
use Rattle.line.proofs.SystemLaws.{fitting}
use Rattle.writer.proofs.NumberLaws.{opens_numbered}
use borrow.Author.Rules.{rules}
use Rattle.lines.proofs.opening.open_line.Goals as goal

pub open_fault-fault-requires : goal.open_fault-fault-requires
open_fault-fault-requires c = search rules

pub returns-then-fault-ne0 : goal.returns-then-fault-ne0
returns-then-fault-ne0 c =
    let a = c.args in
    let fault = c.open_fault-fault in
    opens_numbered a.w a.f a.v a.n a.t a.line.now _
    (not_opened a.w a.f a.v a.n a.t a.line.now fault.result fault.ensures c.if-fault-ne0.true)

pub put_line-requires : goal.put_line-requires
put_line-requires c =
    let a = c.args in
    let fault = sym c.open_fault-fault.ensures ∙ c.if-fault-ne0.false in
    let k = fitting a.w.system a.w.mode a.line.now (open_fits a.w a.n a.t _ fault) in
    (k.row.room, sym k.long)

pub opened-requires : goal.opened-requires
opened-requires c = search rules

pub shape_of-line : goal.shape_of-line
shape_of-line c = search rules

pub returns : goal.returns
returns c =
    let a = c.args in
    let fault = c.open_fault-fault in
    opens_numbered a.w a.f a.v a.n a.t a.line.now _
    (opened a.w a.f a.v a.n a.t a.line.now _ _ fault.result fault.ensures c.if-fault-ne0.false c.put_line.ensures c.opened.ensures)
