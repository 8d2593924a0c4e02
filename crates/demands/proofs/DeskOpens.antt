-- A line opened: what an accepted opening says, and that the desk holds what it held.
-- Assumes nothing.
use Rattle.std.specs.Prelude.{Option, Some, None}
use mathlib.Core.Path.{◌≡◌, refl, ap, ◌∙◌, subst}
use mathlib.Core.Bool.{Bool, false}
use mathlib.Core.List.{List}
use Prim.Native.Nat.{ℕ}
use lib.ListN.{length}
use Rattle.lists.proofs.Tests.{true_false}
use Rattle.line.specs.declared.settings.Settings.{Settings}
use Rattle.line.specs.Settings.{Held}
use Rattle.line.proofs.SettingsLaws.{same_block}
use Rattle.course.specs.Course.{is_at}
use Rattle.writer.specs.declared.state.Answer.TheVariants.{Done}
use Rattle.writer.specs.State.{open_state}
use Rattle.writer.specs.Answers.{Left, left}
use Rattle.writer.specs.Opening.{open_words, opening}
use Rattle.writer.proofs.Keeps.{open_clear, open_leaves}
use Rattle.writer.proofs.Refusals.{CanOpen, can_open}
use Rattle.writer.proofs.Stays.{open_possible}
use Rattle.writer.proofs.Writing.{opened_line}
use Rattle.demands.specs.Sending.{Desk, opened_by}
use Rattle.demands.proofs.DeskOk.{DeskOk}
use Rattle.demands.proofs.Outcomes.{Opens}
use Rattle.demands.proofs.DeskCalls.{own, by_own, owes_stays}

-- ---- what 20 lets pass
is_shut : (p : Option ℕ) → is_at p ≡ false → p ≡ None
is_shut None e = refl
is_shut (Some q) e = absurd (true_false e)

module _ (d : Desk) (f v : Bool) (n : ℕ) (t : Settings) (lent : List ℕ) (done : (opening d.writer f v n t lent).answer ≡ Done) where
  finds : CanOpen d.writer n t (length lent)
  finds = can_open d.writer n t (length lent) (open_clear d.writer f v n t lent done)

  leaves : opening d.writer f v n t lent ≡ left Done (open_state d.writer n t) (open_words d.writer.system f v n t)
  leaves = open_leaves d.writer f v n t lent (open_clear d.writer f v n t lent done)

  own_opens : Opens d.writer.system d f v n t lent
  own_opens =
      record {
        was_shut = is_shut d.writer.place finds.shut;
        place = ap (λ (x : Left). x.state.place) leaves;
        rest = ap (λ (x : Left). x.state.rest) leaves;
        last = ap (λ (x : Left). x.state.last) leaves;
        settings = ap (λ (x : Left). x.state.settings) leaves;
        goes_on = finds.goes;
      }

  own_opened : Held t → DeskOk d.writer.system d.writer.mode d
      → DeskOk d.writer.system d.writer.mode (opened_by Done (opening d.writer f v n t lent) d f v n t)
  own_opened held ok =
      let line = opened_line d.writer f v n t lent done in
      record {
        of_system = line.of_system;
        possible = open_possible d.writer f v n t lent ok.possible;
        opened = λ at. record {
          is_open = line;
          openable = record { held = held; known = finds.known; moded = finds.moded; row = finds.row; clean = finds.clean; one = finds.one; most_lines = finds.last };
          last_is = own_opens.last;
          sound = tt;
          placed = λ fixed. tt;
        };
        owes = owes_stays d.writer.mode d (opening d.writer f v n t lent).state _ d.closed line.of_mode own_opens.rest
            (λ part. ap (λ (u : Settings). u.block) own_opens.settings ∙ same_block t d.writer.settings (own_opens.goes_on part).0) ok.owes;
      }

-- ---- an accepted opening
pub opens_say : (system mode : ℕ) (d : Desk) (f v : Bool) (n : ℕ) (t : Settings) (lent : List ℕ) → DeskOk system mode d
    → (opening d.writer f v n t lent).answer ≡ Done → Opens system d f v n t lent
opens_say system mode d f v n t lent ok done = subst (λ (s : ℕ). Opens s d f v n t lent) ok.of_system (own_opens d f v n t lent done)

pub opened_ok : (system mode : ℕ) (d : Desk) (f v : Bool) (n : ℕ) (t : Settings) (lent : List ℕ) → Held t → DeskOk system mode d
    → (opening d.writer f v n t lent).answer ≡ Done → DeskOk system mode (opened_by Done (opening d.writer f v n t lent) d f v n t)
opened_ok system mode d f v n t lent held ok done =
    by_own system mode d (λ (s m : ℕ). DeskOk s m (opened_by Done (opening d.writer f v n t lent) d f v n t)) ok
    (own_opened d f v n t lent done held (own system mode d ok))
