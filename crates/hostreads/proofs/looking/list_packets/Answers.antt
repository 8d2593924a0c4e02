-- `hostreads::looking::list_packets` meets its contract: the tests in their order, then the library's list, on the words of the buffers. Assumes nothing.
use mathlib.Core.Path.{◌≡◌, refl, sym, ap, ◌∙◌}
use Prim.Native.Nat.{◌/◌, ◌≤◌}
use native.Mathlib.Omega.{arith}
use lib.ListN.{length, take, replicate}
use lib.Seq.{length-take-le, take_at}
use Rattle.octets.specs.Bytes.{words_of}
use Rattle.octets.proofs.BytesLaws.{length_words}
use Rattle.octets.proofs.PartLaws.{converted}
use Rattle.packets.specs.Listing.{outcome, listing}
use Rattle.calls.proofs.LookLaws.{LentIn, lent_in, list_unlent, list_no_room, list_misshaped, list_refused, list_told, part_in, written}
use Rattle.calls.proofs.CallLaws.{filled}
use Rattle.hostreads.proofs.looking.list_packets.Goals as goal
use Rattle.hostreads.proofs.looking.list_packets.Goals.{Else-listed-ne16, After-words_of, After-list_bytes-x}

-- line and list are lent whole
lent : (e : Else-listed-ne16) → LentIn 4608 e.args.line.now
lent e = lent_in 4608 e.args.line.now e.if-line.false

room : (e : Else-listed-ne16) → LentIn 1024 e.args.out.now
room e = lent_in 1024 e.args.out.now e.if-out.false

-- the words of the list in front of the array
fits : (x : After-words_of) → (by_room : LentIn 1024 x.args.out.now)
    → length x.args.out.now / 2 ≤ length x.words_of.new.out
fits x by_room = omega (arith, (by_room).most, x.words_of.auto.out)

front : (x : After-words_of) → (by_room : LentIn 1024 x.args.out.now)
    → let out = x.args.out.now in take (length out / 2) x.words_of.new.out ≡ words_of out
front x by_room =
    let out = x.args.out.now in
    converted out (replicate 512 0) _ (length out / 2) x.words_of.ensures refl (omega (arith, (by_room).most))

-- the list's words as the call left them
long : (y : After-list_bytes-x) → (by_fits : length y.args.out.now / 2 ≤ length y.words_of.new.out)
    → let a = y.args in length y.list_bytes-x.new.out ≡ length a.out.now / 2
long y by_fits = y.list_bytes-x.auto.out ∙ length-take-le _ _ (by_fits)

told : (y : After-list_bytes-x) → (by_front : let out = y.args.out.now in take (length out / 2) y.words_of.new.out ≡ words_of out)
    → let a = y.args in
    outcome y.list_bytes-x.result y.list_bytes-x.new.out ≡ listing a.system a.mode (words_of a.line.now) (words_of a.out.now)
told y by_front =
    let a = y.args in
    y.list_bytes-x.ensures ∙ ap (listing a.system a.mode (words_of a.line.now)) (by_front)

pub returns-then-line : goal.returns-then-line
returns-then-line c = let a = c.args in list_unlent a.system a.mode a.line.now a.out.now a.listed.now c.if-line.true

pub returns-then-out : goal.returns-then-out
returns-then-out c = let a = c.args in list_no_room a.system a.mode a.line.now a.out.now a.listed.now c.if-out.true

pub returns-then-listed-ne16 : goal.returns-then-listed-ne16
returns-then-listed-ne16 c = let a = c.args in list_misshaped a.system a.mode a.line.now a.out.now a.listed.now c.if-listed-ne16.true

pub slice_bounds-flat-end : goal.slice_bounds-flat-end
slice_bounds-flat-end c = fits (goal.at.slice_bounds-flat-end c).After-words_of (room (goal.at.slice_bounds-flat-end c).Else-listed-ne16)

pub slice_bounds-list_bytes-end : goal.slice_bounds-list_bytes-end
slice_bounds-list_bytes-end c = sym (length-take-le _ _ (fits (goal.at.slice_bounds-list_bytes-end c).After-words_of (room (goal.at.slice_bounds-list_bytes-end c).Else-listed-ne16)))

pub list_bytes-x-requires : goal.list_bytes-x-requires
list_bytes-x-requires c =
    omega (arith, (lent (goal.at.list_bytes-x-requires c).Else-listed-ne16).most, length_words c.args.line.now)

pub returns-then-x-eq1 : goal.returns-then-x-eq1
returns-then-x-eq1 c =
    let a = c.args in
    list_refused a.system a.mode a.line.now a.out.now a.listed.now _ _ (told (goal.at.returns-then-x-eq1 c).After-list_bytes-x (front (goal.at.returns-then-x-eq1 c).After-words_of (room (goal.at.returns-then-x-eq1 c).Else-listed-ne16))) c.if-x-eq1.true

pub slice_bounds-flat-end-2 : goal.slice_bounds-flat-end-2
slice_bounds-flat-end-2 c = part_in c.list_bytes-x.new.out _ _ (long (goal.at.slice_bounds-flat-end-2 c).After-list_bytes-x (fits (goal.at.slice_bounds-flat-end-2 c).After-words_of (room (goal.at.slice_bounds-flat-end-2 c).Else-listed-ne16)))

pub slice_bounds-bytes_of-end : goal.slice_bounds-bytes_of-end
slice_bounds-bytes_of-end c = sym (ap length (take_at c.list_bytes-x.new.out _ _ (long (goal.at.slice_bounds-bytes_of-end c).After-list_bytes-x (fits (goal.at.slice_bounds-bytes_of-end c).After-words_of (room (goal.at.slice_bounds-bytes_of-end c).Else-listed-ne16)))) ∙ long (goal.at.slice_bounds-bytes_of-end c).After-list_bytes-x (fits (goal.at.slice_bounds-bytes_of-end c).After-words_of (room (goal.at.slice_bounds-bytes_of-end c).Else-listed-ne16)))

pub returns : goal.returns
returns c =
    let a = c.args in
    list_told a.system a.mode a.line.now a.out.now a.listed.now _ _ (told (goal.at.returns c).After-list_bytes-x (front (goal.at.returns c).After-words_of (room (goal.at.returns c).Else-listed-ne16))) (lent (goal.at.returns c).Else-listed-ne16).even (room (goal.at.returns c).Else-listed-ne16).even c.if-listed-ne16.false _ _ c.if-x-eq1.false
    (written a.out.now c.list_bytes-x.new.out _ _ (room (goal.at.returns c).Else-listed-ne16).even (long (goal.at.returns c).After-list_bytes-x (fits (goal.at.returns c).After-words_of (room (goal.at.returns c).Else-listed-ne16))) (take_at c.list_bytes-x.new.out _ _ (long (goal.at.returns c).After-list_bytes-x (fits (goal.at.returns c).After-words_of (room (goal.at.returns c).Else-listed-ne16)))) c.bytes_of.ensures)
    (filled 16 a.listed.now _ _ c.if-listed-ne16.false c.put_four.ensures)
