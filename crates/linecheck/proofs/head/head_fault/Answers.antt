-- `linecheck::head::head_fault` meets its contract. Assumes nothing.
use mathlib.Core.Path.{◌≡◌, refl, sym, ap, ◌∙◌}
use mathlib.Core.Bool.{false, not}
use mathlib.Core.List.{◌++◌}
use Rattle.lists.proofs.Refusals.{LowestOf, low_hit, low_miss}
use Rattle.line.specs.Header.{flag_words, id_words}
use Rattle.line.proofs.Fronts.{stands_at}
use Rattle.line.specs.Layout.{sav_at}
use Rattle.line.specs.Check.{timed, head_faults}
use Rattle.linecheck.proofs.head.head_fault.Goals as goal
use Rattle.linecheck.proofs.head.head_fault.Goals.{Else-not-is_timed}

-- EAV and SAV stand
in-time : (c : Else-not-is_timed) → let a = c.args in not (timed (sav_at a.s) a.line.now) ≡ false
in-time c = sym (ap not c.is_timed.ensures) ∙ ap not c.if-not-is_timed.false

pub returns-then-not-is_timed : goal.returns-then-not-is_timed
unfolding head_faults
returns-then-not-is_timed c =
    let a = c.args in
    let lowest : LowestOf (head_faults a.s a.line.now) 3 = low_hit 3 (sym (ap not c.is_timed.ensures) ∙ ap not c.if-not-is_timed.true) in
    lowest.is

pub returns-then-not-starts_with : goal.returns-then-not-starts_with
unfolding head_faults
returns-then-not-starts_with c =
    let a = c.args in
    let lowest : LowestOf (head_faults a.s a.line.now) 4 =
    low_miss 3 (in-time (goal.at.returns-then-not-starts_with c).Else-not-is_timed) (low_hit 4 (sym (ap not (stands_at _ 4 (flag_words ++ id_words) (flag_words ++ id_words) a.line.now c.starts_with.ensures.value refl)) ∙ ap not c.if-not-starts_with.true)) in
    lowest.is

pub returns : goal.returns
unfolding head_faults
returns c =
    let a = c.args in
    let lowest : LowestOf (head_faults a.s a.line.now) c.words_fault.result =
    low_miss 3 (in-time (goal.at.returns c).Else-not-is_timed) (low_miss 4 (sym (ap not (stands_at _ 4 (flag_words ++ id_words) (flag_words ++ id_words) a.line.now c.starts_with.ensures.value refl)) ∙ ap not c.if-not-starts_with.false) (record { is = c.words_fault.ensures })) in
    lowest.is
