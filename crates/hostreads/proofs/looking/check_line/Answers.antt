-- `hostreads::looking::check_line` meets its contract: the tests in their order, then the line check's answer. Assumes nothing.
use native.Mathlib.Omega.{arith}
use Rattle.octets.proofs.BytesLaws.{length_words}
use Rattle.calls.proofs.LookLaws.{LentIn, lent_in, check_unlent, check_misshaped, check_1, check_told}
use Rattle.calls.proofs.CallLaws.{filled}
use Rattle.hostreads.proofs.looking.check_line.Goals as goal
use Rattle.hostreads.proofs.looking.check_line.Goals.{Else-line}

lent : (e : Else-line) → LentIn 4608 e.args.line.now
lent e = lent_in 4608 e.args.line.now e.if-line.false

pub returns-then-line : goal.returns-then-line
returns-then-line c = let a = c.args in check_unlent a.system a.mode a.line.now a.header.now c.if-line.true

pub returns-then-header-ne43 : goal.returns-then-header-ne43
returns-then-header-ne43 c = let a = c.args in check_misshaped a.system a.mode a.line.now a.header.now c.if-header-ne43.true

pub check_bytes-c-requires : goal.check_bytes-c-requires
check_bytes-c-requires c = omega (arith, (lent (goal.at.check_bytes-c-requires c).Else-line).most, length_words c.args.line.now)

pub returns-then-c-eq1 : goal.returns-then-c-eq1
returns-then-c-eq1 c =
    let a = c.args in
    check_1 a.system a.mode a.line.now a.header.now _ c.check_bytes-c.ensures c.if-c-eq1.true

pub returns : goal.returns
returns c =
    let a = c.args in
    check_told a.system a.mode a.line.now a.header.now _ c.check_bytes-c.ensures (lent (goal.at.returns c).Else-line).even c.if-header-ne43.false _ c.if-c-eq1.false
    (filled 43 a.header.now _ _ c.if-header-ne43.false c.put_header.ensures)
