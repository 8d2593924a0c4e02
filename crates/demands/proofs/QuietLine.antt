-- A quiet call: the ear is where the desk is, as before.
-- Assumes nothing.
use Prim.Native.Nat.{ℕ}
use mathlib.Core.Bool.{Bool, true}
use mathlib.Core.List.{List}
use mathlib.Core.Path.{◌≡◌, sym, ap, ◌∙◌}
use Rattle.packets.specs.Packet.{Packet}
use Rattle.course.specs.Course.{is_at}
use Rattle.writer.specs.declared.state.Writer.{Writer}
use Rattle.writer.specs.State.{is_part}
use Rattle.demands.specs.Sending.{Desk}
use Rattle.demands.proofs.Ear.{Ear}
use Rattle.demands.proofs.DeskCalls.{moves}
use Rattle.demands.proofs.DeskDoes.{Quiet}
use Rattle.demands.proofs.Ahead.{Ahead}

module _ (system mode cap : ℕ) (keeps : ℕ → Bool) (told gone : Bool) (d : Desk) (ear : Ear) (w : Writer) (qs : List Packet) (ws : List ℕ) (q : Quiet told d w qs ws)
    (a : Ahead system mode cap keeps told gone d ear) where
  was_at : is_at w.place ≡ true → is_at d.writer.place ≡ true
  was_at e = sym (ap is_at q.place) ∙ e

  was_part : is_part w.rest ≡ true → is_part d.writer.rest ≡ true
  was_part e = sym (ap is_part q.rest) ∙ e

  pub quiet_ahead : Ahead system mode cap keeps told gone (moves d w qs ws) ear
  quiet_ahead = record {
    listens = a.listens;
    between = λ e.
        let b = a.between (sym q.place ∙ e) in
        record {
          here = b.here;
          same = λ g p k.
              let s = b.same g (was_part p) k in
              record { known = s.known; last = λ z. s.last z ∙ sym (q.last z); settings = s.settings ∙ sym q.settings };
          away = λ g p. b.away g (was_part p);
        };
    inside = λ e k h.
        let i = a.inside (was_at e) k h in
        record {
          by_words = λ v. let x = i.by_words v in record { heard = x.heard; matches = x.matches };
          by_places = λ v. let x = i.by_places v in record { heard = x.heard; phase = x.phase; long = x.long };
        };
    none_dropped = λ e h g. a.none_dropped (was_at e) h g;
    missing = λ k p e least part. a.missing k p (sym q.place ∙ e) least (was_part part);
  }
