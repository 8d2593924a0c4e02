-- Courses of calls under allowances: what is heard is what is heard without them; how often a line pauses, and that it comes to its end.
-- Assumes nothing.
use Prim.Native.Nat.{ℕ, suc, ◌+◌, ◌≤◌}
use mathlib.Core.Bool.{true, false}
use mathlib.Core.List.{List, [], ◌∷◌}
use mathlib.Core.Path.{◌≡◌, refl, sym, ap, ◌∙◌, subst}
use native.Mathlib.Omega.{arith}
use lib.ListN.{length}
use Rattle.reader.specs.declared.state.Reader.{Reader}
use Rattle.reader.specs.declared.state.Event.{Event}
use Rattle.reader.specs.declared.within.Report.{Report}
use Rattle.reader.specs.declared.within.Report.TheVariants.{Paused, Told}
use Rattle.reader.specs.Reading.{Reply, reply, reading}
use Rattle.reader.specs.Lending.{is_last}
use Rattle.reader.specs.Within.{within}
use Rattle.demands.specs.All.{All}
use Rattle.demands.specs.Hearing.{Heard, heard_of, Lends, ReadsTo}
use Rattle.demands.specs.Hearing as hearing
use Rattle.demands.specs.Allowed.{LendsWithin, pause, last, more, ReadsWithin, done, next, Served}
use Rattle.demands.proofs.WithinCalls.{telling, pausing, left, pause_less, told_less}

-- ---- by what a reading call replies
abbrev heard_by : Reply → Heard
heard_by x = heard_of x.told.event x.told.state.settings x.room

last_by : (line : List ℕ) (st : Reader) (room : List ℕ) (x : Reply) → reading st line room ≡ x → is_last x.told.event ≡ true → Lends line st room (heard_by x ∷ []) x.told.state x.room
last_by line st room x is h =
    subst (λ (y : Reply). Lends line st room (heard_by y ∷ []) y.told.state y.room) is (hearing.last (ap (λ (y : Reply). is_last y.told.event) is ∙ h))

more_by : (line : List ℕ) (st : Reader) (room : List ℕ) (x : Reply) (hs : List Heard) (st' : Reader) (room' : List ℕ) → reading st line room ≡ x → is_last x.told.event ≡ false
    → Lends line x.told.state x.room hs st' room' → Lends line st room (heard_by x ∷ hs) st' room'
more_by line st room x hs st' room' is h k =
    subst (λ (y : Reply). Lends line st room (heard_by y ∷ hs) st' room') is
    (hearing.more (ap (λ (y : Reply). is_last y.told.event) is ∙ h) (subst (λ (y : Reply). Lends line y.told.state y.room hs st' room') (sym is) k))

-- a line lent from another state and room, of which a reading call replies the same
lends_same : (line : List ℕ) (s st : Reader) (l room : List ℕ) (hs : List Heard) (st' : Reader) (room' : List ℕ) → reading s line l ≡ reading st line room
    → Lends line st room hs st' room' → Lends line s l hs st' room'
lends_same line s st l room _ _ _ is (hearing.last h) = last_by line s l (reading st line room) is h
lends_same line s st l room _ st' room' is (hearing.more {hs = hs} h k) = more_by line s l (reading st line room) hs st' room' is h k

-- ---- pauses left out
pub lends_all : (line al : List ℕ) (st : Reader) (room : List ℕ) (hs : List Heard) (st' : Reader) (room' : List ℕ) → LendsWithin line al st room hs st' room' → Lends line st room hs st' room'
lends_all line _ st room hs st' room' (pause {a} {al} e k) =
    lends_same line st (within a st line room).answer.state room (within a st line room).room hs st' room' (sym (pausing a st line room e).0.same)
    (lends_all line al (within a st line room).answer.state (within a st line room).room hs st' room' k)
lends_all line _ st room _ _ _ (last {a} {e} h f) = last_by line st room _ (telling a st line room e h).same f
lends_all line _ st room _ st' room' (more {a} {al} {e} {hs = hs} h f k) =
    more_by line st room _ hs st' room' (telling a st line room e h).same f (lends_all line al (within a st line room).answer.state (within a st line room).room hs st' room' k)

pub reads_all : (als : List (List ℕ)) (st : Reader) (room : List ℕ) (ls : List (List ℕ)) (hs : List Heard) (st' : Reader) (room' : List ℕ) → ReadsWithin als st room ls hs st' room'
    → ReadsTo st room ls hs st' room'
reads_all _ _ _ _ _ _ _ done = hearing.done
reads_all _ st room _ _ _ _ (next {al} {als} {st' = st₁} {st'' = st₂} {room' = room₁} {room'' = room₂} {line} {lines} {hs} {ks} k l) =
    hearing.next (lends_all line al st room hs st₁ room₁ k) (reads_all als st₁ room₁ lines ks st₂ room₂ l)

-- ---- how often a line pauses, with allowances of 1 or more
pub pauses_by : (line al : List ℕ) (st : Reader) (room : List ℕ) (hs : List Heard) (st' : Reader) (room' : List ℕ) → All (λ (a : ℕ). 1 ≤ a) al → LendsWithin line al st room hs st' room'
    → length al ≤ length hs + left st line
pauses_by line _ st room hs st' room' some (pause {a} {al} e k) =
    let s = (within a st line room).answer.state in
    let l = (within a st line room).room in
    let less = pause_less a st line room s l (pausing a st line room e).0 some.0 in
    let on = pauses_by line al s l hs st' room' some.1 k in
    omega (arith, less, on)
pauses_by line _ st room _ _ _ some (last h f) = omega arith
pauses_by line _ st room _ st' room' some (more {a} {al} {e} {hs = hs} h f k) =
    let s = (within a st line room).answer.state in
    let l = (within a st line room).room in
    let less = told_less st line room (record { event = e; state = s }) l (telling a st line room e h).same f in
    let on = pauses_by line al s l hs st' room' some.1 k in
    omega (arith, less, on)

-- ---- with so many of them it comes to its end
one_heard : (line : List ℕ) (st : Reader) (room : List ℕ) (hs : List Heard) (st' : Reader) (room' : List ℕ) → Lends line st room hs st' room' → 1 ≤ length hs
one_heard line st room _ _ _ (hearing.last h) = omega arith
one_heard line st room _ st' room' (hearing.more h k) = omega arith

-- one allowance more in front
module _ (line : List ℕ) (a : ℕ) (al : List ℕ) (st : Reader) (room : List ℕ) (st' : Reader) (room' : List ℕ) where
  abbrev answered : Reader
  answered = (within a st line room).answer.state

  abbrev left_room : List ℕ
  left_room = (within a st line room).room

  paused_more : (hs : List Heard) → (within a st line room).answer.report ≡ Paused
      → Served line al (within a st line room).answer.state (within a st line room).room hs st' room' → Served line (a ∷ al) st room hs st' room'
  paused_more hs e s = record { used = a ∷ s.used; left = s.left; all = ap (λ (l : List ℕ). a ∷ l) s.all; lends = pause e s.lends }

  module _ (e : Event) (h : (within a st line room).answer.report ≡ Told e) where
    same : reading st line room ≡ reply (record { event = e; state = (within a st line room).answer.state }) (within a st line room).room
    same = (telling a st line room e h).same

    told_last : is_last (reading st line room).told.event ≡ true
        → Served line (a ∷ al) st room (heard_by (reading st line room) ∷ []) (reading st line room).told.state (reading st line room).room
    told_last f =
        record {
          used = a ∷ [];
          left = al;
          all = refl;
          lends =
              subst (λ (x : Reply). LendsWithin line (a ∷ []) st room (heard_by x ∷ []) x.told.state x.room) (sym same)
              (last h (ap (λ (x : Reply). is_last x.told.event) (sym same) ∙ f));
        }

    told_more : (hs : List Heard) → is_last (reading st line room).told.event ≡ false
        → Served line al (within a st line room).answer.state (within a st line room).room hs st' room' → Served line (a ∷ al) st room (heard_by (reading st line room) ∷ hs) st' room'
    told_more hs f s =
        record {
          used = a ∷ s.used;
          left = s.left;
          all = ap (λ (l : List ℕ). a ∷ l) s.all;
          lends =
              subst (λ (x : Reply). LendsWithin line (a ∷ s.used) st room (heard_by x ∷ hs) st' room') (sym same)
              (more h (ap (λ (x : Reply). is_last x.told.event) (sym same) ∙ f) s.lends);
        }

    -- the calls behind it
    behind : (hs : List Heard) → Lends line (reading st line room).told.state (reading st line room).room hs st' room'
        → Lends line (within a st line room).answer.state (within a st line room).room hs st' room'
    behind hs k = subst (λ (x : Reply). Lends line x.told.state x.room hs st' room') same k

by_report : (line : List ℕ) (a : ℕ) (al : List ℕ) (st : Reader) (room : List ℕ) (hs : List Heard) (st' : Reader) (room' : List ℕ) → 1 ≤ a → Lends line st room hs st' room'
    → length hs + left st line ≤ suc (length al)
    → ((ks : List Heard) → Lends line (within a st line room).answer.state (within a st line room).room ks st' room'
    → length ks + left (within a st line room).answer.state line ≤ length al
    → Served line al (within a st line room).answer.state (within a st line room).room ks st' room')
    → (r : Report) → (within a st line room).answer.report ≡ r → Served line (a ∷ al) st room hs st' room'
by_report line a al st room hs st' room' some k few go Paused e =
    let p = (pausing a st line room e).0 in
    let s = (within a st line room).answer.state in
    let l = (within a st line room).room in
    paused_more line a al st room st' room' hs e
    (go hs (lends_same line s st l room hs st' room' p.same k) (omega (arith, few, pause_less a st line room s l p some)))
by_report line a al st room _ _ _ some (hearing.last f) few go (Told e) h = told_last line a al st room st room e h f
by_report line a al st room _ st' room' some (hearing.more {hs = hs} f k) few go (Told e) h =
    let s = (within a st line room).answer.state in
    let same = (telling a st line room e h).same in
    let on : is_last e ≡ false = ap (λ (x : Reply). is_last x.told.event) (sym same) ∙ f in
    let less = told_less st line room (record { event = e; state = s }) (within a st line room).room same on in
    told_more line a al st room st' room' e h hs f (go hs (behind line a al st room st' room' e h hs k) (omega (arith, few, less)))

pub served_by : (line al : List ℕ) (st : Reader) (room : List ℕ) (hs : List Heard) (st' : Reader) (room' : List ℕ) → All (λ (a : ℕ). 1 ≤ a) al → Lends line st room hs st' room'
    → length hs + left st line ≤ length al → Served line al st room hs st' room'
served_by line [] st room hs st' room' some k few = absurd (omega (arith, one_heard line st room hs st' room' k))
served_by line (a ∷ al) st room hs st' room' some k few =
    by_report line a al st room hs st' room' some.0 k few
    (λ ks l m. served_by line al (within a st line room).answer.state (within a st line room).room ks st' room' some.1 l m) _ refl
