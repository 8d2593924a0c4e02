-- `line::forms::off_bytes` meets its contract. Assumes nothing.
use Prim.Native.Nat.{◌<◌}
use Rattle.line.proofs.FormPairs.{off_is}
use borrow.Author.Rules.{rules}
use Rattle.line.proofs.forms.off_bytes.Goals as goal

pub returns : goal.returns
returns c =
    let a = c.args in
    let small : a.v < 65536 = search rules in
    off_is a.v a.w small
