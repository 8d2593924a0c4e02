-- An ear to which what remains of a writer's lines comes, followed call by call.
-- Assumes nothing.
use Rattle.std.specs.Prelude.{Option, Some, None}
use Prim.Native.Nat.{ℕ, suc}
use mathlib.Core.Bool.{Bool, true, false}
use mathlib.Core.List.{List, [], ◌∷◌, ◌++◌, append_assoc}
use mathlib.Core.Path.{◌≡◌, refl, sym, ap, ◌∙◌, subst}
use native.Mathlib.Omega.{arith}
use lib.ListN.{length}
use borrow.Author.Tests.{eq-eqb}
use Rattle.lists.proofs.Tests.{true_false, and_true}
use Rattle.line.proofs.CheckLaws.{from_three}
use Rattle.line.specs.Systems.{system_of}
use Rattle.line.specs.Check.{fits_length, line_fault}
use Rattle.course.specs.Course.{is_at}
use Rattle.writer.specs.declared.state.Answer.TheVariants.{Done}
use Rattle.writer.specs.State.{is_part}
use Rattle.writer.specs.Closing.{closing}
use Rattle.writer.proofs.Keeps.{close_clear}
use Rattle.writer.proofs.Refusals.{can_close}
use Rattle.machine.specs.Phases.{is_busy}
use Rattle.reader.specs.Jump.{jump_from}
use Rattle.demands.specs.All.{All}
use Rattle.demands.specs.Sending.{Call, closes, Sent, Desk, with, closed_by, sent_by}
use Rattle.demands.specs.Hearing.{Heard, is_begun, is_end}
use Rattle.demands.specs.Damage.{Fate, kept, removed, replaced, remain, RefusedIfReplaced, all_on, survivors}
use Rattle.demands.proofs.Run.{Now}
use Rattle.demands.proofs.LineRun.{block_part}
use Rattle.demands.proofs.Ear.{Ear, Input, own, refusal, loses, start_now, ear_after, heard_along, input_of, inputs_of}
use Rattle.demands.proofs.DeskOk.{OpenNow, DeskOk}
use Rattle.demands.proofs.Outcomes.{Closes}
use Rattle.demands.proofs.DeskDoes.{Does, is_quiet, is_opened, is_finished, is_unfinished, is_closed}
use Rattle.demands.proofs.DeskOpens.{opens_say}
use Rattle.demands.proofs.DeskCloses.{closes_say}
use Rattle.demands.proofs.DeskLaws.{along}
use Rattle.demands.proofs.Ahead.{blocks_heard, Noted, Ahead, RoomFor, Agrees, Noticed, Tells, nothing_more, one_kept, one_removed, one_replaced}
use Rattle.demands.proofs.StartLine.{opened_ahead}
use Rattle.demands.proofs.AddLine.{finished_ahead, unfinished_ahead}
use Rattle.demands.proofs.QuietLine.{quiet_ahead}
use Rattle.demands.proofs.EndLine.{Found, found, own_input, refusal_input, area_heard, area_left, shut_ahead, kept_between, removed_between, replaced_between}

at_some : (p : Option ℕ) → is_at p ≡ true → (P : Type 0) → ((q : ℕ) → p ≡ Some q → P) → P
at_some None e P h = absurd (true_false (sym e))
at_some (Some q) e P h = h q refl

module _ (system mode cap : ℕ) (keeps : ℕ → Bool) (told : Bool) where
  abbrev lines : ℕ
  lines = (system_of system).lines

  -- the ear is where the desk is; from there on it hears what was to be told
  abbrev Goal : Desk → List Call → List Sent → Type 0
  Goal d cs ss =
      All (RoomFor cap) cs → (fs : List Fate) (gone : Bool) (ear : Ear) → Agrees keeps d.closed fs → All (RefusedIfReplaced system mode) fs → length fs ≡ length ss
      → Noticed (system_of system).lines told ear.last gone fs ss → Ahead system mode cap keeps told gone d ear
      → Tells (system_of system).lines keeps ear.last gone fs ss (heard_along system mode ear (inputs_of system mode (remain fs ss)))

  -- ---- a line closed
  module _ (d : Desk) (e : (closing d.writer d.now.words).answer ≡ Done) (dk : DeskOk system mode d) where
    abbrev line : List ℕ
    line = (closing d.writer d.now.words).line

    abbrev behind : Desk
    behind = closed_by Done (closing d.writer d.now.words) d

    abbrev s : Sent
    s = with d.now d.now.pieces d.now.blocks (closing d.writer d.now.words).line

    c : Closes system mode d
    c = closes_say system mode d dk e

    at : is_at d.writer.place ≡ true
    at = (can_close d.writer d.now.words (close_clear d.writer d.now.words e)).begun

    o : OpenNow system mode d
    o = dk.opened at

    f : Found system mode d.now.number d.now.settings line
    f = found system mode d.now.number d.now.settings line c.accepts.checked

    fit_by : (l : List ℕ) → length l ≡ (system_of system).length → fits_length system mode (length l) ≡ true
    unfolding fits_length
    fit_by l long = and_true o.openable.known (and_true o.openable.moded (eq-eqb (length l) (system_of system).length long))

    -- an unfinished block has words on this line
    lost_words : (gone : Bool) (ear : Ear) → Ahead system mode cap keeps told gone d ear → keeps d.closed ≡ false
        → is_part d.writer.rest ≡ true → all_on keeps d.pieces ≡ false
    lost_words gone ear a k part =
        at_some d.writer.place at (all_on keeps d.pieces ≡ false) (λ p is. a.missing k p is (c.begun part p is) part)

    -- ---- a line kept
    abbrev Hearing : List Fate → List Sent → Bool → Ear → Type 0
    Hearing fs ss gone ear = Tells (system_of system).lines keeps ear.last gone fs ss (heard_along system mode ear (inputs_of system mode (remain fs ss)))

    mine : Input
    mine = own d.now.number d.now.settings (block_part system d.now.settings line)

    is_mine : input_of system mode line ≡ mine
    unfolding mine
    is_mine = own_input system mode d.now.number d.now.settings line (fit_by line c.accepts.long) f

    module _ (gone : Bool) (ear : Ear) (a : Ahead system mode cap keeps told gone d ear) (k : keeps d.closed ≡ true)
        (noted : Noted (system_of system).lines told ear.last gone d.now.number) where
      abbrev start : Now
      start = start_now system mode ear d.now.number d.now.settings

      kept_ahead : Ahead system mode cap keeps told false behind (ear_after system mode ear mine)
      unfolding mine
      kept_ahead =
          let m = area_left system mode cap keeps d dk o c start (a.inside at k noted) in
          shut_ahead system mode cap keeps told d c false (ear_after system mode ear mine) (record { long = m.long; numbered = (o.openable.one, o.openable.most_lines) })
          (kept_between system mode cap keeps told d c (ear_after system mode ear mine) m refl refl)

      -- begun, the blocks, the end; nothing is dropped unless lines were removed before
      kept_tells : (fs : List Fate) (ss : List Sent) → Hearing fs ss false (ear_after system mode ear mine) → Hearing (kept ∷ fs) (s ∷ ss) gone ear
      unfolding mine
      kept_tells fs ss more =
          let ks = heard_along system mode (ear_after system mode ear mine) (inputs_of system mode (remain fs ss)) in
          let is : heard_along system mode ear (inputs_of system mode (line ∷ remain fs ss))
          ≡ is_begun d.now.number (jump_from (system_of system).lines ear.last d.now.number) (loses system mode ear mine) d.now.settings
          ∷ (blocks_heard (survivors keeps d.now.blocks) ++ (is_end ∷ ks)) =
          ap (λ (i : Input). heard_along system mode ear (i ∷ inputs_of system mode (remain fs ss))) is_mine
          ∙ ap (λ (l : List Heard). is_begun d.now.number (jump_from (system_of system).lines ear.last d.now.number) (loses system mode ear mine) d.now.settings ∷ ((l ++ (is_end ∷ [])) ++ ks))
          (area_heard system mode cap keeps d dk o c start (a.inside at k noted))
          ∙ ap (λ (l : List Heard). is_begun d.now.number (jump_from (system_of system).lines ear.last d.now.number) (loses system mode ear mine) d.now.settings ∷ l)
          (append_assoc (blocks_heard (survivors keeps d.now.blocks)) (is_end ∷ []) ks) in
          subst (Tells (system_of system).lines keeps ear.last gone (kept ∷ fs) (s ∷ ss)) (sym is) (one_kept (loses system mode ear mine) (λ z. a.none_dropped at noted z) more)

    -- ---- a line replaced
    module _ (gone : Bool) (ear : Ear) (a : Ahead system mode cap keeps told gone d ear) (k : keeps d.closed ≡ false) (ws : List ℕ)
        (long : length ws ≡ (system_of system).length) (bad : line_fault system mode ws ≡ 0 → ⊥) where
      abbrev bad_input : Input
      bad_input = refusal (line_fault system mode ws)

      replaced_ahead : Ahead system mode cap keeps told false behind (ear_after system mode ear bad_input)
      replaced_ahead =
          shut_ahead system mode cap keeps told d c false (ear_after system mode ear bad_input) (record { long = a.listens.long; numbered = tt })
          (replaced_between system mode cap keeps told d c (ear_after system mode ear bad_input) dk refl a.listens.long (lost_words gone ear a k))

      replaced_tells : (fs : List Fate) (ss : List Sent) → Hearing fs ss false (ear_after system mode ear (refusal (line_fault system mode ws)))
          → Hearing (replaced ws ∷ fs) (s ∷ ss) gone ear
      replaced_tells fs ss more =
          subst (λ (i : Input). Tells (system_of system).lines keeps ear.last gone (replaced ws ∷ fs) (s ∷ ss) (heard_along system mode ear (i ∷ inputs_of system mode (remain fs ss))))
          (sym (refusal_input system mode ws (fit_by ws long) bad))
          (one_replaced (line_fault system mode ws) (is_busy ear.phase) (from_three system mode ws (fit_by ws long) bad) more)

    -- ---- whatever its fate
    removed_ahead : (gone : Bool) (ear : Ear) → Ahead system mode cap keeps told gone d ear → keeps d.closed ≡ false → Ahead system mode cap keeps told true behind ear
    removed_ahead gone ear a k = shut_ahead system mode cap keeps told d c true ear a.listens (removed_between system mode cap keeps told d c ear (lost_words gone ear a k))

    done_goal : (cs : List Call) (ss : List Sent) → Goal behind cs ss → Goal d (closes ∷ cs) (s ∷ ss)
    unfolding mine
    done_goal cs ss ih r [] gone ear agrees refusing long noticed a = absurd (none_not_some long)
      where
        none_not_some : 0 ≡ suc (length ss) → ⊥
        none_not_some h = omega arith
    done_goal cs ss ih r (kept ∷ fs) gone ear agrees refusing long noticed a =
        kept_tells gone ear a agrees.0 noticed.0 fs ss
        (ih r.1 fs false _ agrees.1 refusing.1 (omega (arith, long)) noticed.1 (kept_ahead gone ear a agrees.0 noticed.0))
    done_goal cs ss ih r (removed ∷ fs) gone ear agrees refusing long noticed a =
        one_removed (ih r.1 fs true ear agrees.1 refusing.1 (omega (arith, long)) noticed (removed_ahead gone ear a agrees.0))
    done_goal cs ss ih r (replaced ws ∷ fs) gone ear agrees refusing long noticed a =
        replaced_tells gone ear a agrees.0 ws refusing.0.0 refusing.0.1 fs ss
        (ih r.1 fs false _ agrees.1 refusing.1 (omega (arith, long)) noticed (replaced_ahead gone ear a agrees.0 ws refusing.0.0 refusing.0.1))

  -- ---- any call
  none_goal : (d : Desk) → Goal d [] []
  none_goal d r [] gone ear agrees refusing long noticed a = nothing_more
  none_goal d r (x ∷ fs) gone ear agrees refusing long noticed a = absurd (some_not_none long)
    where
      some_not_none : suc (length fs) ≡ 0 → ⊥
      some_not_none h = omega arith

  goal_by : (d : Desk) (c : Call) (d' : Desk) (ts : List Sent) → Does told d c d' ts → DeskOk system mode d → DeskOk system mode d' → (cs : List Call) (ss : List Sent)
      → Goal d' cs ss → Goal d (c ∷ cs) (ts ++ ss)
  goal_by d c _ _ (is_quiet w qs ws q) dk k cs ss ih r fs gone ear agrees refusing long noticed a =
      ih r.1 fs gone ear agrees refusing long noticed (quiet_ahead system mode cap keeps told gone d ear w qs ws q a)
  goal_by d _ _ _ (is_opened f v n t held lent e) dk k cs ss ih r fs gone ear agrees refusing long noticed a =
      let o = opens_say system mode d f v n t lent dk e in
      let now = k.opened (ap is_at o.place) in
      ih r.1 fs gone ear agrees refusing long noticed (opened_ahead system mode cap keeps told gone d ear f v n t lent dk o now.openable.one now.openable.most_lines a k)
  goal_by d _ _ _ (is_finished kind vs clear e) dk k cs ss ih r fs gone ear agrees refusing long noticed a =
      ih r.1 fs gone ear agrees refusing long noticed (finished_ahead system mode cap keeps told gone d ear kind vs dk clear r.0 a e)
  goal_by d _ _ _ (is_unfinished kind vs clear e) dk k cs ss ih r fs gone ear agrees refusing long noticed a =
      ih r.1 fs gone ear agrees refusing long noticed (unfinished_ahead system mode cap keeps told gone d ear kind vs dk clear r.0 a e)
  goal_by d _ _ _ (is_closed e) dk k cs ss ih r fs gone ear agrees refusing long noticed a =
      done_goal d e dk cs ss ih r fs gone ear agrees refusing long noticed a

  pub follow : (cs : List Call) (d : Desk) → DeskOk system mode d → Goal d cs (sent_by d cs)
  follow = along system mode told Goal none_goal goal_by
