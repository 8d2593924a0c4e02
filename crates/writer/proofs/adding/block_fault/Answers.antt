-- `writer::adding::block_fault` meets its contract. Assumes nothing.
use mathlib.Core.Path.{◌≡◌, sym, ap, ap₂, ◌∙◌}
use mathlib.Core.Bool.{Bool, false, ◌||◌, not}
use lib.ListN.{length}
use Rattle.lists.proofs.Refusals.{LowestOf, low_none, low_hit, low_miss, low_step}
use Rattle.writer.specs.Adding.{valued, ill_shaped}
use Rattle.writer.specs.Ground.{block_faults}
use Rattle.writer.proofs.adding.block_fault.Goals as goal
use Rattle.writer.proofs.adding.block_fault.Goals.{Else-not-all_valued, Else-is_ill_shaped}

-- the conditions of the tests that were passed
good : (c : Else-not-all_valued) →
    let a = c.args in
    not (valued a.g.mode a.values.now) ≡ false
unfolding valued
good c = sym (ap not c.all_valued.ensures) ∙ ap not c.if-not-all_valued.false

shaped : (c : Else-is_ill_shaped) →
    let a = c.args in
    ill_shaped a.h.place a.g.block a.kind (length a.values.now) ≡ false
shaped c = sym c.is_ill_shaped.ensures ∙ c.if-is_ill_shaped.false

pub returns-then-not-all_valued : goal.returns-then-not-all_valued
unfolding valued
returns-then-not-all_valued c =
    let a = c.args in
    let l : LowestOf (block_faults a.g a.h a.kind a.values.now) 17 = low_hit 17 (sym (ap not c.all_valued.ensures) ∙ ap not c.if-not-all_valued.true) in
    l.is

pub is_ill_shaped-requires : goal.is_ill_shaped-requires
is_ill_shaped-requires c = c.requires

pub returns-then-is_ill_shaped : goal.returns-then-is_ill_shaped
returns-then-is_ill_shaped c =
    let a = c.args in
    let l : LowestOf (block_faults a.g a.h a.kind a.values.now) 18 = low_miss 17 (good (goal.at.returns-then-is_ill_shaped c).Else-not-all_valued) (low_hit 18 (sym c.is_ill_shaped.ensures ∙ c.if-is_ill_shaped.true)) in
    l.is

pub returns-then-is_full : goal.returns-then-is_full
returns-then-is_full c =
    let a = c.args in
    let l : LowestOf (block_faults a.g a.h a.kind a.values.now) 19 =
    low_miss 17 (good (goal.at.returns-then-is_full c).Else-not-all_valued) (low_miss 18 (shaped (goal.at.returns-then-is_full c).Else-is_ill_shaped) (low_hit 19 (sym c.is_full.ensures ∙ c.if-is_full.true))) in
    l.is

pub returns : goal.returns
returns c =
    let a = c.args in
    let bad = ap₂ (λ (x y : Bool). not x || y) c.is_at.ensures c.is_other.ensures in
    let l : LowestOf (block_faults a.g a.h a.kind a.values.now) c.or_else.result =
    low_miss 17 (good (goal.at.returns c).Else-not-all_valued)
    (low_miss 18 (shaped (goal.at.returns c).Else-is_ill_shaped)
    (low_miss 19 (sym c.is_full.ensures ∙ c.if-is_full.false)
    (low_step 20 c.or_else.ensures bad low_none))) in
    l.is
