-- Each field of the statement, cited at an instance that a weaker one would not give, its type written out.
-- Assumes nothing.
use Rattle.std.specs.Prelude.{None}
use mathlib.Core.Path.{◌≡◌, refl, sym, ap, ◌∙◌, subst}
use mathlib.Core.Bool.{true}
use mathlib.Core.List.{List, [], ◌∷◌, ◌++◌}
use mathlib.Core.Logic.{◌⊎◌, inl, inr, ⊎_elim}
use Prim.Native.Nat.{ℕ}
use lib.Dec.{lit<, lit≤}
use lib.ListN.{length}
use Rattle.lists.specs.Tests.{lowest_of}
use Rattle.words.specs.Modes.{is_mode}
use Rattle.line.specs.Systems.{row, system_of, is_system}
use Rattle.line.specs.Check.{settings_of, faults, line_fault}
use Rattle.course.specs.Course.{next_number}
use Rattle.machine.specs.declared.phase.Phase.TheVariants.{Idle}
use Rattle.machine.specs.Phases.{is_busy}
use Rattle.reader.specs.declared.state.Reader.{Reader}
use Rattle.reader.specs.declared.state.Event.TheVariants.{Refused}
use Rattle.reader.specs.State.{fresh}
use Rattle.reader.specs.Reading.{Reply as Answer, read_fault, reading}
use Rattle.demands.specs.Sending.{Call, Sent, sent_fresh, blocks_of}
use Rattle.demands.specs.Hearing.{Heard, Reads, handed_out}
use Rattle.demands.specs.Damage.{Fate, kept, replaced, remain, kept_at, survivors}
use Rattle.demands.specs.Demand3.{Consecutive}
use Rattle.bursts.specs.Burst.{Burst, Hit}
use Rattle.bursts.specs.Bursts.{Answered, AllHit}
use Rattle.bursts.proofs.BurstsHold.{bursts}

-- `once`: a row of 100 words, 30 of them payload, which is no system's
pub once_100 : (line line' : List ℕ) → lowest_of (faults (row 100 30 7 1) 9 line) ≡ 0 → (settings_of line).flag ≡ 1 → Burst (row 100 30 7 1) 18 line line'
    → (lowest_of (faults (row 100 30 7 1) 9 line') ≡ 15) ⊎ (lowest_of (faults (row 100 30 7 1) 9 line') ≡ 16)
once_100 = bursts.once (row 100 30 7 1) (lit≤ tt) 9

-- `checked`: of both rates and in both modes
abbrev Checked : ℕ → ℕ → Type 0
Checked system mode =
    (line line' : List ℕ) → line_fault system mode line ≡ 0 → (settings_of line).flag ≡ 1 → Burst (system_of system) 18 line line'
    → (line_fault system mode line' ≡ 15) ⊎ (line_fault system mode line' ≡ 16)

pub checked_1_9 : Checked 1 9
checked_1_9 line line' accepted guarded burst = bursts.checked 1 9 line line' (record { accepted = accepted; guarded = guarded; burst = burst })

pub checked_3_8 : Checked 3 8
checked_3_8 line line' accepted guarded burst = bursts.checked 3 8 line line' (record { accepted = accepted; guarded = guarded; burst = burst })

-- `read`: with an open block, which is dropped; and what it leaves
pub read_busy : (st : Reader) (line line' room : List ℕ) → read_fault st (length line') (length room) ≡ 0 → st.place ≡ None → is_busy st.phase ≡ true
    → Hit st.system st.mode 18 line line'
    → ((reading st line' room).told.event ≡ Refused 15 true) ⊎ ((reading st line' room).told.event ≡ Refused 16 true)
read_busy st line line' room fit shut busy h =
    let told : (n : ℕ) → line_fault st.system st.mode line' ≡ n → (reading st line' room).told.event ≡ Refused n true =
    (λ n is. ap (λ (x : Answer). x.told.event) (bursts.read st line line' room fit shut h) ∙ ap (λ (k : ℕ). Refused k (is_busy st.phase)) is ∙ ap (Refused n) busy) in
    ⊎_elim (λ e. inl (told 15 e)) (λ e. inr (told 16 e)) (bursts.checked st.system st.mode line line' h)

pub read_leaves : (st : Reader) (line line' room : List ℕ) → read_fault st (length line') (length room) ≡ 0 → st.place ≡ None → Hit st.system st.mode 18 line line'
    → ((reading st line' room).told.state ≡ record { system = st.system; mode = st.mode; last = None; settings = st.settings; place = None; phase = Idle })
    × ((reading st line' room).room ≡ room)
read_leaves st line line' room fit shut h =
    let e = bursts.read st line line' room fit shut h in
    (ap (λ (x : Answer). x.told.state) e, ap (λ (x : Answer). x.room) e)

-- `as_replaced`: of a 625-line system
pub as_replaced_3_9 : (line line' : List ℕ) → Hit 3 9 18 line line' → (length line' ≡ 2304) × (line_fault 3 9 line' ≡ 0 → ⊥)
as_replaced_3_9 = bursts.as_replaced 3 9

-- `handed`, by `covers`: two lines of a 625-line system, the second of which a burst hits
pub handed_1_9 : (cs : List Call) (r s : Sent) (ws : List ℕ) → sent_fresh 1 9 cs ≡ r ∷ s ∷ [] → s.number ≡ next_number 625 r.number → s.settings.flag ≡ 1
    → Burst (system_of 1) 18 s.words ws → (room : List ℕ) → length room ≡ 16384 → (hs : List Heard) → Reads (fresh 1 9) room (r.words ∷ ws ∷ []) hs
    → handed_out hs ≡ survivors (kept_at (kept ∷ replaced ws ∷ [])) (r.blocks ++ (s.blocks ++ []))
handed_1_9 cs r s ws e next flag burst room long hs x =
    let fs : List Fate = kept ∷ replaced ws ∷ [] in
    bursts.handed 1 9 cs fs
    (record {
      numbers = subst (Consecutive 625) (sym e) (next, tt);
      each_line = ap length (sym e);
      runs = lit< tt;
      hits = subst (AllHit 1 fs) (sym e) (tt, ((flag, burst), tt));
    })
    room long hs (subst (λ (ss : List Sent). Reads (fresh 1 9) room (remain fs ss) hs) (sym e) x)
    ∙ ap (λ (ss : List Sent). survivors (kept_at fs) (blocks_of ss)) e

-- `fifteen`, `sixteen` and `passing`
pub fifteen_2_8 : Answered 2 8 18 15
unfolding is_system is_mode
fifteen_2_8 = bursts.fifteen 2 8 refl refl

pub sixteen_1_8 : Answered 1 8 18 16
unfolding is_system is_mode
sixteen_1_8 = bursts.sixteen 1 8 refl refl

pub passing_3 : Answered 3 9 19 0
unfolding is_system
passing_3 = bursts.passing 3 refl

-- `sharp`
pub sharp_19 : ((system mode : ℕ) (line line' : List ℕ) → Hit system mode 19 line line' → (line_fault system mode line' ≡ 15) ⊎ (line_fault system mode line' ≡ 16)) → ⊥
sharp_19 = bursts.sharp
