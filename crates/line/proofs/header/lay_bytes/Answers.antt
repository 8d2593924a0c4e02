use mathlib.Core.Path.{◌≡◌, refl, sym, ap, ◌∙◌}
use Prim.Native.Nat.{◌<◌}
use mathlib.Core.List.{map}
use native.Mathlib.Omega.{arith}
use lib.ListN.{length, length-map}
use Rattle.lists.proofs.Lists.{get_d_map_in}
use Rattle.lists.proofs.Loops.{lay_none, lay_next, lay_end}
use Rattle.words.specs.Forms.{byte_word}
use borrow.Author.Rules.{rules}
use Rattle.line.proofs.header.lay_bytes.Goals as goal

pub loop-i-init : goal.loop-i-init
loop-i-init c = (refl, lay_none c.args.at c.args.out.now)

pub loop-i-preserved : goal.loop-i-preserved
loop-i-preserved c =
    let l = c.loop-i in
    let a = c.args in
    let src = a.src.now in
    let inside : l.i < length src = search rules in
    let more : l.i < length (map byte_word src) = omega (arith, length-map src byte_word) in
    let word = c.byte_word.ensures ∙ ap byte_word c.from.ensures ∙ sym (get_d_map_in byte_word src l.i inside) in
    (search rules, lay_next a.at l.i _ l.out a.out.now (map byte_word src) (search rules) more word l.invariant.1)

pub returns : goal.returns
returns c =
    let l = c.loop-i in
    let a = c.args in
    let whole : l.i ≡ length (map byte_word a.src.now) = search (rules, length-map a.src.now byte_word) in
    record { kept = l.invariant.0; front = lay_end a.at l.i l.out a.out.now (map byte_word a.src.now) whole l.invariant.1 }
