-- Lines lent in order come to their ends: no line is begun behind one, each takes at most two calls more than its area has words, and any lines can be read.
-- Assumes nothing.
use Rattle.std.specs.Prelude.{None}
use mathlib.Core.Path.{◌≡◌, refl, sym, ap, ◌∙◌}
use mathlib.Core.Bool.{Bool, true, false, ◌||◌}
use mathlib.Core.List.{List, [], ◌∷◌, ◌++◌}
use Prim.Native.Nat.{ℕ, zero, suc, ◌+◌, ◌≤◌}
use native.Mathlib.Omega.{arith}
use lib.ListN.{length}
use Rattle.lists.proofs.Tests.{true_false}
use Rattle.line.specs.Systems.{system_of}
use Rattle.line.specs.Layout.{area_length}
use Rattle.line.specs.Check.{settings_of, line_fault}
use Rattle.reader.specs.declared.state.Reader.{Reader}
use Rattle.reader.specs.Reading.{read_fault, reading}
use Rattle.reader.specs.Lending.{is_last, ends_within}
use Rattle.reader.proofs.AtCapacity.{line_ends}
use Rattle.demands.specs.Hearing.{Heard, Lends, last, more, done, next, Readable}
use Rattle.demands.proofs.LineLends.{hears, refuses_line, leaves_line}

-- ---- behind a line no line is begun
pub shut_after : (st : Reader) (line room : List ℕ) (hs : List Heard) (st' : Reader) (room' : List ℕ) → st.place ≡ None
    → Lends line st room hs st' room' → st'.place ≡ None
shut_after st line room hs st' room' at lent = go (read_fault st (length line) (length room)) refl
  where
    by : read_fault st (length line) (length room) ≡ 0 → (k : ℕ) → line_fault st.system st.mode line ≡ k → st'.place ≡ None
    by fit zero is = ap (λ (x : Reader). x.place) (hears st line room hs st' room' fit at is lent).state
    by fit (suc k) is = ap (λ (x : Reader). x.place) (refuses_line st line room hs st' room' fit at (suc k) is (λ z. omega arith) lent).state

    go : (n : ℕ) → read_fault st (length line) (length room) ≡ n → st'.place ≡ None
    go zero e = by e _ refl
    go (suc k) e = ap (λ (x : Reader). x.place) (leaves_line st line room hs st' room' k e lent).state ∙ at

-- ---- how many calls
-- the first of n + 1 calls is not the last: one of the n that follow is
later : (a b : Bool) → a ≡ false → (a || b) ≡ true → b ≡ true
later true b e h = absurd (true_false e)
later false b e h = h

pub lends_within : (n : ℕ) (st : Reader) (line room : List ℕ) (hs : List Heard) (st' : Reader) (room' : List ℕ) → ends_within n st line room ≡ true
    → Lends line st room hs st' room' → length hs ≤ n
lends_within zero st line room hs st' room' e k = absurd (true_false (sym e))
lends_within (suc n) st line room hs st' room' e (last h) = omega arith
lends_within (suc n) st line room hs st' room' e (more {hs = ks} h k) =
    let x = reading st line room in
    omega (arith, lends_within n x.told.state line x.room ks st' room' (later (is_last x.told.event) _ h e) k)

pub line_within : (st : Reader) (line room : List ℕ) → st.place ≡ None → (hs : List Heard) (st' : Reader) (room' : List ℕ) → Lends line st room hs st' room'
    → length hs ≤ area_length (system_of st.system).payload (settings_of line).flag + 2
line_within st line room at hs st' room' k = lends_within _ st line room hs st' room' (line_ends st line room at) k

-- ---- such calls exist
pub record Lent (line : List ℕ) (st : Reader) (room : List ℕ) : Type 0 where
  pub hs : List Heard
  pub st' : Reader
  pub room' : List ℕ
  pub lends : Lends line st room hs st' room'

pub lends_exist : (n : ℕ) (st : Reader) (line room : List ℕ) → ends_within n st line room ≡ true → Lent line st room
lends_exist zero st line room e = absurd (true_false (sym e))
lends_exist (suc n) st line room e =
    go (is_last (reading st line room).told.event) refl (λ z. lends_exist n (reading st line room).told.state line (reading st line room).room z)
  where
    go : (b : Bool) → is_last (reading st line room).told.event ≡ b
        → (ends_within n (reading st line room).told.state line (reading st line room).room ≡ true
        → Lent line (reading st line room).told.state (reading st line room).room)
        → Lent line st room
    go true h k = record { hs = _; st' = _; room' = _; lends = last h }
    go false h k = let l = k (later (is_last (reading st line room).told.event) _ h e) in record { hs = _; st' = l.st'; room' = l.room'; lends = more h l.lends }

-- any lines can be lent once each and in order
pub readable : (st : Reader) (room : List ℕ) (lines : List (List ℕ)) → st.place ≡ None → Readable st room lines
readable st room [] at = record { heard = []; reads = record { st' = st; room' = room; reads_to = done } }
readable st room (line ∷ lines) at =
    let calls = area_length (system_of st.system).payload (settings_of line).flag + 2 in
    let l = lends_exist calls st line room (line_ends st line room at) in
    let r = readable l.st' l.room' lines (shut_after st line room l.hs l.st' l.room' at l.lends) in
    record { heard = l.hs ++ r.heard; reads = record { st' = r.reads.st'; room' = r.reads.room'; reads_to = next l.lends r.reads.reads_to } }
