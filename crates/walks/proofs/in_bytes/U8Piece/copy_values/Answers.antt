use Rattle.std.proofs.Common.{◌≡◌, ℕ, ◌+◌, ◌<◌, List, map, length, set, sym, ap, ap₂, ◌∙◌, arith, rules}
use native.Mathlib.Numerals.{add-one}
use lib.ListN.{length-map}
use lib.Seq.{paste, paste-suc}
use Rattle.lists.proofs.Lists.{get_d_map_in}
use Rattle.words.specs.Modes.{value_of}
use Rattle.octets.specs.Bytes.{words_of}
use Rattle.octets.proofs.BytesLaws.{length_words}
use Rattle.walks.proofs.in_bytes.U8Piece.copy_values.Goals as goal
use Rattle.walks.proofs.in_bytes.U8Piece.copy_values.Goals.{In-loop-i}

-- a word is left, and there is room for it
inside : (t : In-loop-i) → t.loop-i.i < length (words_of t.args.pieces.now)
inside t = omega (arith, t.loop-i-test.true, length_words t.args.pieces.now)

fits : (t : In-loop-i) → t.args.m + t.loop-i.i < length (words_of t.loop-i.room)
fits t =
    omega (arith, inside t, t.requires, t.loop-i.invariant.1, length_words t.args.room.now, length_words t.loop-i.room)

pub overflow_add-m : goal.overflow_add-m
overflow_add-m c =
    let h = fits (goal.at.overflow_add-m c).In-loop-i in
    let k = length_words c.loop-i.room in
    search rules

pub put_word-requires : goal.put_word-requires
put_word-requires c = fits (goal.at.put_word-requires c).In-loop-i

pub loop-i-preserved : goal.loop-i-preserved
loop-i-preserved c =
    let a = c.args in
    let l = c.loop-i in
    let t = (goal.at.loop-i-preserved c).In-loop-i in
    let ws = words_of a.pieces.now in
    let room = words_of a.room.now in
    let vs = map (value_of a.mode) ws in
    let v = c.value_of-v.ensures ∙ ap (value_of a.mode) c.word_at.ensures ∙ sym (get_d_map_in (value_of a.mode) ws l.i (inside t)) in
    let one = paste-suc room a.m vs l.i 0 (omega (arith, fits t, l.invariant.1, length_words a.room.now, length_words l.room)) (omega (arith, inside t, length-map ws (value_of a.mode))) in (
      omega (arith, inside t),
      c.put_word.auto.pieces ∙ l.invariant.1,
      c.put_word.ensures
          ∙ ap₂ (λ (r : List ℕ) (x : ℕ). set r (a.m + l.i) x) l.invariant.2 v
          ∙ one
          ∙ ap (paste room a.m vs) (sym (add-one l.i)),
    )

pub returns : goal.returns
returns c =
    let a = c.args in
    let l = c.loop-i in
    let ws = words_of a.pieces.now in
    let all : l.i ≡ length ws = omega (arith, l.invariant.0, c.loop-i-test.false, length_words a.pieces.now) in
    l.invariant.2 ∙ ap (paste (words_of a.room.now) a.m (map (value_of a.mode) ws)) all
