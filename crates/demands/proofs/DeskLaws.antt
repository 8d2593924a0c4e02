-- The desk holds what it held, whatever is called and however it is answered; and the way to prove a law of all courses of calls.
-- Assumes nothing.
use mathlib.Core.Bool.{Bool, true}
use mathlib.Core.List.{List, [], ◌∷◌, ◌++◌}
use Prim.Native.Nat.{ℕ}
use Rattle.demands.specs.Sending.{Call, Sent, Desk, after, sends, sent_by}
use Rattle.demands.proofs.DeskOk.{DeskOk}
use Rattle.demands.proofs.DeskDoes.{Does, is_quiet, is_opened, is_finished, is_unfinished, is_closed, does, quiet_ok}
use Rattle.demands.proofs.DeskOpens.{opened_ok}
use Rattle.demands.proofs.DeskAdded.{finished_ok, unfinished_ok}
use Rattle.demands.proofs.DeskCloses.{closed_ok}

-- ---- each call, by what it does
ok_by : (system mode : ℕ) (told : Bool) (d : Desk) (c : Call) (d' : Desk) (ts : List Sent) → Does told d c d' ts → DeskOk system mode d → DeskOk system mode d'
ok_by system mode told d c _ _ (is_quiet w qs ws q) ok = quiet_ok system mode told d w qs ws q ok
ok_by system mode told d _ _ _ (is_opened f v n t held lent e) ok = opened_ok system mode d f v n t lent held ok e
ok_by system mode told d _ _ _ (is_finished kind vs clear e) ok = finished_ok system mode d kind vs ok clear e
ok_by system mode told d _ _ _ (is_unfinished kind vs clear e) ok = unfinished_ok system mode d kind vs ok clear e
ok_by system mode told d _ _ _ (is_closed e) ok = closed_ok system mode d ok e

pub after_ok : (system mode : ℕ) (d : Desk) (c : Call) → DeskOk system mode d → DeskOk system mode (after d c)
after_ok system mode d c ok = ok_by system mode true d c (after d c) (sends d c) (does true d c) ok

-- ---- any course of calls: what holds of no calls, and through each kind of call
pub along : (system mode : ℕ) (told : Bool) (P : Desk → List Call → List Sent → Type 0) → ((d : Desk) → P d [] [])
    → ((d : Desk) (c : Call) (d' : Desk) (ts : List Sent) → Does told d c d' ts → DeskOk system mode d → DeskOk system mode d' → (cs : List Call) (ss : List Sent)
    → P d' cs ss → P d (c ∷ cs) (ts ++ ss))
    → (cs : List Call) (d : Desk) → DeskOk system mode d → P d cs (sent_by d cs)
unfolding sent_by
along system mode told P none step [] d ok = none d
along system mode told P none step (c ∷ cs) d ok =
    let ok' = after_ok system mode d c ok in
    step d c (after d c) (sends d c) (does told d c) ok ok' cs (sent_by (after d c) cs) (along system mode told P none step cs (after d c) ok')
