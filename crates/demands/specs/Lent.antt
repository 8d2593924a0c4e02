-- The blocks of a course of calls as they were lent: type and values are those of the call that finishes a block, whatever the desk holds.
-- Assumes nothing.
use Rattle.std.specs.Prelude.{ℕ, true, List, [], ◌∷◌, ◌++◌, ◌≡◌, length}
use Rattle.writer.specs.declared.state.Answer.{Answer}
use Rattle.writer.specs.declared.state.Answer.TheVariants.{Refused, Done}
use Rattle.writer.specs.declared.state.Laid.{Laid}
use Rattle.writer.specs.declared.state.Laid.TheVariants.{Refused as NotLaid, Finished, Unfinished}
use Rattle.writer.specs.State.{is_part}
use Rattle.writer.specs.Opening.{opening}
use Rattle.writer.specs.Adding.{add_fault, adding}
use Rattle.writer.specs.Closing.{closing}
use Rattle.demands.specs.Sending.{Call, opens, adds, packs, closes, Complete, Desk, start, piece_now, after}

-- ---- each block lent unchanged until finished
-- an accepted addition made while a block is unfinished lends the values that were laid
abbrev pub LendsAgain : Desk → ℕ → List ℕ → Type 0
LendsAgain d kind vs = add_fault d.writer (length d.now.words) kind vs ≡ 0 → is_part d.writer.rest ≡ true → d.values ≡ vs

unfoldable pub Unchanged : Desk → List Call → Type 0
Unchanged d [] = Unit {0}
Unchanged d (opens f v n t held lent ∷ cs) = Unchanged (after d (opens f v n t held lent)) cs
Unchanged d (adds kind vs ∷ cs) = LendsAgain d kind vs × Unchanged (after d (adds kind vs)) cs
Unchanged d (packs did second p q vs ∷ cs) = Unchanged (after d (packs did second p q vs)) cs
Unchanged d (closes ∷ cs) = Unchanged (after d closes) cs

-- ---- the blocks, with the pieces in which they were laid
-- what an addition finishes
abbrev pub finished_by : Laid → Desk → ℕ → List ℕ → List Complete
finished_by (NotLaid k) d kind vs = []
finished_by Finished d kind vs = record { block = record { kind = kind; values = vs }; pieces = d.pieces ++ (piece_now d kind vs ∷ []) } ∷ []
finished_by Unfinished d kind vs = []

-- the blocks finished on the line opened last, bs before the call: an opened line has none
abbrev pub opened_with : Answer → List Complete → List Complete
opened_with (Refused k) bs = bs
opened_with Done bs = []

-- those that a closing sends
abbrev pub closed_with : Answer → List Complete → List Complete
closed_with (Refused k) bs = []
closed_with Done bs = bs

-- the blocks finished on lines that are closed, in order; bs: those finished on the line opened last
unfoldable pub lent_by : Desk → List Complete → List Call → List Complete
lent_by d bs [] = []
lent_by d bs (opens f v n t held lent ∷ cs) = lent_by (after d (opens f v n t held lent)) (opened_with (opening d.writer f v n t lent).answer bs) cs
lent_by d bs (adds kind vs ∷ cs) = lent_by (after d (adds kind vs)) (bs ++ finished_by (adding d.writer d.now.words kind vs).answer d kind vs) cs
lent_by d bs (packs did second p q vs ∷ cs) = lent_by (after d (packs did second p q vs)) bs cs
lent_by d bs (closes ∷ cs) = closed_with (closing d.writer d.now.words).answer bs ++ lent_by (after d closes) bs cs

-- of calls on a fresh writer
abbrev pub lent_fresh : ℕ → ℕ → List Call → List Complete
lent_fresh system mode cs = lent_by (start system mode) [] cs
