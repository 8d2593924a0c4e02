use mathlib.Core.Path.{◌≡◌, sym, ap, ap₂, ◌∙◌}
use mathlib.Core.List.{List}
use Prim.Native.Nat.{ℕ, ◌+◌, ◌<◌, min}
use native.Mathlib.Numerals.{add-one}
use native.Mathlib.Nat.{zero-add}
use native.Mathlib.Omega.{arith}
use lib.ListN.{length, set, get_or}
use lib.Seq.{paste, paste-suc}
use Rattle.octets.specs.Bytes.{words_of}
use Rattle.octets.proofs.BytesLaws.{length_words, word_at}
use borrow.Author.Rules.{rules}
use Rattle.octets.proofs.words_of.Goals as goal

pub loop-i-preserved : goal.loop-i-preserved
loop-i-preserved c =
    let l = c.loop-i in
    let a = c.args in
    let ws = words_of a.bytes.now in
    let inside : l.i < length ws = omega (arith, length_words a.bytes.now) in
    let room : 0 + l.i < length a.out.now = omega arith in
    let word = c.joined.ensures ∙ sym (word_at a.bytes.now l.i inside) in (
      search rules,
      ap₂ (λ (d : List ℕ) (x : ℕ). set d l.i x) l.invariant.1 word
          ∙ ap (λ (k : ℕ). set (paste a.out.now 0 ws l.i) k (get_or ws l.i 0)) (sym (zero-add l.i))
          ∙ paste-suc a.out.now 0 ws l.i 0 room inside
          ∙ ap (paste a.out.now 0 ws) (sym (add-one l.i)),
    )

pub returns : goal.returns
returns c =
    let l = c.loop-i in
    let a = c.args in
    let all : l.i ≡ min (length (words_of a.bytes.now)) (length a.out.now) = omega (arith, length_words a.bytes.now) in
    l.invariant.1 ∙ ap (paste a.out.now 0 (words_of a.bytes.now)) all
