-- `line::header::lay_bytes` meets its contract. Assumes nothing.
use mathlib.Core.Path.{◌≡◌}
use Prim.Native.Nat.{◌+◌}
use mathlib.Core.List.{◌++◌, map}
use lib.ListN.{length, take}
use Rattle.words.specs.Forms.{byte_word}
use Rattle.line.proofs.header.lay_bytes.Given as goal

abbrev pub invariant-loop-i : goal.invariant-loop-i
invariant-loop-i l = (length l.out ≡ length l.initial.out) × (take (l.at + l.i) l.out ≡ take l.at l.initial.out ++ take l.i (map byte_word l.src))
