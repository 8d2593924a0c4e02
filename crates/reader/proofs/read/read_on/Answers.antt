-- `reader::read::read_on` meets its contract. Assumes nothing.
use mathlib.Core.Path.{◌≡◌, refl, ap, ◌∙◌}
use Prim.Native.Nat.{◌+◌, ◌≤◌}
use native.Mathlib.Omega.{arith}
use lib.ListN.{length}
use Rattle.line.specs.Systems.{system_of}
use Rattle.reader.specs.declared.state.Told.{Told}
use Rattle.machine.specs.Walk.{Walk, leaves}
use Rattle.reader.specs.Reading.{reply, walk_from, goes_from}
use Rattle.reader.proofs.Ready.{ReadyIn, ready, in_end}
use Rattle.reader.proofs.Stays.{walk_goes}
use Rattle.reader.proofs.ReadLaws.{next_small, whole_walk}
use borrow.Author.Rules.{rules}
use Rattle.reader.proofs.read.read_on.Goals as goal
use Rattle.reader.proofs.read.read_on.Goals.{After-walk_from-x}

-- neither 1 nor 2
is-ready : (x : After-walk_from-x) → let g = x.args in ReadyIn (length g.room.now) g.st g.line.now g.room.now
is-ready x = let g = x.args in ready (length g.room.now) g.st g.line.now g.room.now x.requires.1

-- the walk to where blocks end
walked : (x : After-walk_from-x) →
    let g = x.args in
    leaves x.walk_from-x.result x.walk_from-x.new.room ≡ walk_from g.st g.q g.line.now g.room.now
walked x =
    let g = x.args in
    x.walk_from-x.ensures ∙ whole_walk g.st g.q g.line.now g.room.now x.requires.0 (is-ready x) x.requires.2 g.end x.requires.3

-- the place after the walk
small : (x : After-walk_from-x) → x.args.q + x.walk_from-x.result.taken ≤ 1920
small x =
    let g = x.args in
    let at = x.requires.0 in
    let r = is-ready x in
    let n = next_small g.st g.q g.line.now g.room.now at r (system_of g.st.system) refl _ (walk_goes g.st g.q g.line.now g.room.now at r) in
    omega (arith, n, ap (λ (y : Walk). y.answer.taken) (walked x))

pub walk_from-x-requires : goal.walk_from-x-requires
walk_from-x-requires c =
    let g = c.args in
    let p = c.requires in
    let low = in_end g.st g.q g.line.now g.room.now p.0 (ready (length g.room.now) g.st g.line.now g.room.now p.1) in
    (p.0, p.1, omega (arith, low, p.3), omega (arith, p.3), p.4)

pub overflow_add-q : goal.overflow_add-q
overflow_add-q c = let h = small (goal.at.overflow_add-q c).After-walk_from-x in search rules

pub returns : goal.returns
returns c =
    let g = c.args in
    ap (λ (t : Told). reply t c.walk_from-x.new.room) c.tell.ensures ∙ ap (goes_from g.st g.q) (walked (goal.at.returns c).After-walk_from-x)
