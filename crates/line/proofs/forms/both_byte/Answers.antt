use mathlib.Core.Path.{sym, ap₂, ◌∙◌, subst}
use mathlib.Core.Bool.{◌&&◌}
use Prim.Native.Nat.{ℕ}
use lib.Bits.{bit_or}
use lib.ListN.{length-append}
use borrow.Author.Rules.{rules}
use Rattle.std.proofs.lemmas.Slice.Zip.{zip_turn}
use Rattle.words.specs.Forms.{is_byte}
use Rattle.line.proofs.FormPairs.{Pairs, pairs_turn}
use Rattle.line.proofs.forms.both_byte.Goals as goal

pub loop-v-preserved : goal.loop-v-preserved
loop-v-preserved c =
    let a = c.args in
    let l = c.loop-v in
    let here = zip_turn a.s.now a.t.now l.yielded _ l.v-iterator c.next.new.self c.next.result (search rules) (search rules) l.yielded_by (c.in-Some.v, c.in-Some.w) c.in-Some.is c.next.ensures.steps in
    subst (λ (n : ℕ). Pairs a.s.now a.t.now (bit_or l.off c.off_bytes-off.result) n) (sym (length-append l.yielded _))
    (pairs_turn _ _ _ _ _ c.requires l.invariant here.0 (c.off_bytes-off.ensures ∙ ap₂ (λ (v w : ℕ). is_byte v && is_byte w) (here.2 0) (here.3 0)))
