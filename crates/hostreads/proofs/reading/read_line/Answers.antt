-- `hostreads::reading::read_line` meets its contract: an allowance that no line uses up is none. Assumes nothing.
use native.Mathlib.Omega.{arith}
use Rattle.calls.specs.Reading.{gave, reads, reads_within}
use Rattle.calls.proofs.CallLaws.{plain_refused, plain_long, plain_told}
use Rattle.hostreads.proofs.reading.read_line.Goals as goal

pub returns-then-n : goal.returns-then-n
unfolding reads reads_within
returns-then-n c =
    plain_refused 18446744073709551615 (omega arith) c.args.state.now c.args.line.now c.args.room.now c.args.event.now (gave c.serve-n.result c.serve-n.new.state c.serve-n.new.room c.serve-n.new.event) c.serve-n.ensures c.if-n.true

pub uncount-requires : goal.uncount-requires
unfolding reads_within
uncount-requires c =
    plain_long 18446744073709551615 (omega arith) c.args.state.now c.args.line.now c.args.room.now c.args.event.now (gave c.serve-n.result c.serve-n.new.state c.serve-n.new.room c.serve-n.new.event) c.serve-n.ensures c.if-n.false

pub returns : goal.returns
unfolding reads reads_within
returns c =
    plain_told 18446744073709551615 (omega arith) c.args.state.now c.args.line.now c.args.room.now c.args.event.now (gave c.serve-n.result c.serve-n.new.state c.serve-n.new.room c.serve-n.new.event) c.serve-n.ensures c.if-n.false c.uncount.ensures
