-- Each field of the statement on allowances, cited at an instance that a weaker field would not give. The types are written out in the words of the crates below, so that a
-- weaker meaning of a name of specs/Allowed.antt is noticed too.
-- Assumes nothing.
use Rattle.std.specs.Prelude.{Some, None}
use Prim.Native.Nat.{ℕ, ◌+◌, ◌*◌, ◌≤◌, ◌<◌}
use mathlib.Core.Bool.{Bool, true, false}
use mathlib.Core.List.{List, [], ◌∷◌, ◌++◌, map}
use mathlib.Core.Path.{◌≡◌, refl, sym, ap, ap₂, ◌∙◌, subst}
use native.Mathlib.Omega.{arith}
use lib.Dec.{lit<}
use lib.ListN.{length}
use Rattle.lists.specs.Tests.{pick}
use Rattle.words.specs.Modes.{is_mode}
use Rattle.line.specs.declared.settings.Settings.{Settings}
use Rattle.line.specs.Systems.{system_of, is_system}
use Rattle.line.specs.Fixed.{places_of, size_of}
use Rattle.line.specs.Layout.{area_length}
use Rattle.line.specs.Check.{settings_of, line_fault}
use Rattle.course.specs.Course.{is_at, blocks_end}
use Rattle.reader.specs.declared.state.Reader.{Reader}
use Rattle.reader.specs.declared.state.Event.TheVariants.{Refused, Block, End}
use Rattle.reader.specs.declared.within.Report.TheVariants.{Paused, Told}
use Rattle.reader.specs.State.{fresh, impossible}
use Rattle.reader.specs.Reading.{reply, read_fault, reading}
use Rattle.reader.specs.Lending.{ends_within}
use Rattle.reader.proofs.AtCapacity.{fresh_possible}
use Rattle.reader.specs.Within.{Sliced, sliced, unit_of, within}
use Rattle.demands.specs.All.{All}
use Rattle.demands.specs.Sending.{Sent, sent_fresh}
use Rattle.demands.specs.Hearing.{Heard, is_end, Lends, handed_out}
use Rattle.demands.specs.Damage.{remain}
use Rattle.demands.specs.Allowed.{LendsWithin, pause, last, ReadsWithin, is_fresh, slices, count_in, Served, Longest}
use Rattle.demands.proofs.DemandSamples.{two_lines, two_heard, two_heard_by_all, five_lines, fates, left, five_survivors, transmission}
use Rattle.demands.proofs.AllowedHolds.{allowed}

-- `refused`: an impossible state is 2 with allowance 0 as well, and nothing is consumed
pub first_2 : (st : Reader) (line room : List ℕ) → read_fault st (length line) (length room) ≡ 2
    → (within 0 st line room).answer ≡ record { report = Told (Refused 2 false); consumed = 0; state = st }
first_2 st line room is = ap (λ (x : Sliced). x.answer) (allowed.refused 0 st line room 2 is (omega arith))

-- `none`: at a line's start, a refused line as well
pub none_refuses : (st : Reader) (line room : List ℕ) → read_fault st (length line) (length room) ≡ 0 → st.place ≡ None → (line_fault st.system st.mode line ≡ 0 → ⊥)
    → within 0 st line room ≡ sliced (record { report = Paused; consumed = 0; state = st }) room
none_refuses st line room fit at bad = allowed.none st line room fit

-- `opening`: allowance 1 does what `read` does, and costs nothing
pub opens_by_1 : (st : Reader) (line room : List ℕ) → st.place ≡ None
    → ((within 1 st line room).answer.report ≡ Told (reading st line room).told.event) × (((within 1 st line room).answer.consumed ≡ 0)
    × (((within 1 st line room).answer.state ≡ (reading st line room).told.state) × ((within 1 st line room).room ≡ (reading st line room).room)))
opens_by_1 st line room at =
    let e = allowed.opening 1 st line room (omega arith) at in
    (ap (λ (x : Sliced). x.answer.report) e, (ap (λ (x : Sliced). x.answer.consumed) e, (ap (λ (x : Sliced). x.answer.state) e, ap (λ (x : Sliced). x.room) e)))

-- `used`, `moved`: a pause of 64 words moves on by 64, and of 64 places of block 21h by 320
unit_c1 : (t : Settings) → t.block ≡ 0xC1 → unit_of t.block ≡ 1
unfolding unit_of pick
unit_c1 t e = ap unit_of e

unit_21 : (t : Settings) → t.block ≡ 0x21 → unit_of t.block ≡ 5
unfolding unit_of size_of pick
unit_21 t e = ap unit_of e

pub moves_64 : (st : Reader) (q next : ℕ) (line room : List ℕ) → (within 64 st line room).answer.report ≡ Paused → st.place ≡ Some q → (within 64 st line room).answer.state.place ≡ Some next
    → (st.settings.block ≡ 0xC1 → next ≡ q + 64) × (st.settings.block ≡ 0x21 → next ≡ q + 320)
moves_64 st q next line room p at to =
    let n = allowed.used 64 st line room p in
    let m : next ≡ q + 64 * unit_of st.settings.block = allowed.moved 64 st q next line room at to ∙ ap (λ (k : ℕ). q + k * unit_of st.settings.block) n in
    (λ e. m ∙ ap (λ (u : ℕ). q + 64 * u) (unit_c1 st.settings e), λ e. m ∙ ap (λ (u : ℕ). q + 64 * u) (unit_21 st.settings e))

-- `met`: with allowance 1 an event is met on the one word
pub met_by_1 : (st : Reader) (line room : List ℕ) (k n : ℕ) → (within 1 st line room).answer.report ≡ Told (Block k n) → is_at st.place ≡ true → (within 1 st line room).answer.consumed ≡ 1
met_by_1 st line room k n e at = let m = allowed.met 1 st line room (Block k n) e at refl in omega (arith, m.0, m.1)

-- `ended`: from the start of a line of system 0 with block 21h the end needs an allowance of 288, and consumes 287: the filler behind the last place counts for nothing
end_21 : (st : Reader) → st.system ≡ 0 → st.settings.block ≡ 0x21 → blocks_end (system_of st.system).payload st.settings.block st.settings.flag ≡ 1435
unfolding blocks_end places_of size_of pick
end_21 st s b = ap₂ (λ (k n : ℕ). blocks_end (system_of k).payload n st.settings.flag) s b

pub ends_288 : (a : ℕ) (st : Reader) (line room : List ℕ) → st.system ≡ 0 → st.settings.block ≡ 0x21 → st.place ≡ Some 0 → (within a st line room).answer.report ≡ Told End
    → ((within a st line room).answer.consumed ≡ 287) × (288 ≤ a)
ends_288 a st line room s b at e =
    let n = (within a st line room).answer.consumed in
    let k = allowed.ended a st 0 line room e at in
    let five : 0 + n * 5 ≡ 1435 = ap (λ (u : ℕ). 0 + n * u) (sym (unit_21 st.settings b)) ∙ k.0 ∙ end_21 st s b in
    (omega (arith, five), omega (arith, five, k.1))

-- `told`, `paused`: a block after a pause is the block before it, with its state and room
pub block_after_pause : (a b : ℕ) (st : Reader) (line room : List ℕ) (k n : ℕ) →
    let x = within a st line room in
    let y = within b x.answer.state line x.room in
    x.answer.report ≡ Paused → y.answer.report ≡ Told (Block k n)
    → reading st line room ≡ reply (record { event = Block k n; state = y.answer.state }) y.room
block_after_pause a b st line room k n p e =
    let x = within a st line room in
    sym (allowed.paused a st line room p) ∙ allowed.told b x.answer.state line x.room (Block k n) e

-- `lends`: a pause, and then the end
pub end_after_pause : (a b : ℕ) (st : Reader) (line room : List ℕ) →
    let x = within a st line room in
    let y = within b x.answer.state line x.room in
    x.answer.report ≡ Paused → y.answer.report ≡ Told End → Lends line st room (is_end ∷ []) y.answer.state y.room
end_after_pause a b st line room p e = allowed.lends line (a ∷ b ∷ []) st room (is_end ∷ []) _ _ (pause p (last e refl))

-- `heard`, `handed`: the samples of demands 2 and 3, read with any allowances
pub two_within : (room : List ℕ) → length room ≡ 16384 → (als : List (List ℕ)) (hs : List Heard) (st' : Reader) (room' : List ℕ)
    → ReadsWithin als (fresh 0 8) room (map (λ (s : Sent). s.words) (sent_fresh 0 8 two_lines)) hs st' room' → hs ≡ two_heard
two_within room long als hs st' room' r =
    two_heard_by_all room long hs (record { st' = st'; room' = room'; reads_to = allowed.lines als (fresh 0 8) room _ hs st' room' r })

pub two_given_within : (room : List ℕ) → length room ≡ 16384 → (als : List (List ℕ)) (hs ks : List Heard) (st' : Reader) (room' : List ℕ) (bls : List (List ℕ)) (s' : Reader) (l' : List ℕ)
    → ReadsWithin als (fresh 0 8) room (map (λ (s : Sent). s.words) (sent_fresh 0 8 two_lines)) hs st' room'
    → ReadsWithin bls (fresh 0 8) room (map (λ (s : Sent). s.words) (sent_fresh 0 8 two_lines)) ks s' l' → hs ≡ ks
two_given_within room long als hs ks st' room' bls s' l' r s =
    allowed.heard 0 8 two_lines room long als hs st' room' r ∙ sym (allowed.heard 0 8 two_lines room long bls ks s' l' s)

pub five_within : (room : List ℕ) → length room ≡ 16384 → (als : List (List ℕ)) (hs : List Heard) (st' : Reader) (room' : List ℕ)
    → ReadsWithin als (fresh 0 9) room (remain fates (sent_fresh 0 9 five_lines)) hs st' room' → handed_out hs ≡ left
five_within room long als hs st' room' r = allowed.handed 0 9 five_lines fates transmission room long als hs st' room' r ∙ five_survivors

-- `pauses`, `served`: by allowance 1, of a line of system 2 with block 21h and of a variable one with flag 01h
count_21 : (t : Settings) → t.block ≡ 0x21 → count_in 1920 t ≡ 383
unfolding count_in places_of pick
count_21 t e = ap (λ (n : ℕ). count_in 1920 (record { code = t.code; aai = t.aai; destination = t.destination; source = t.source; block = n; flag = t.flag; reserved = t.reserved })) e

count_c1 : (t : Settings) → t.block ≡ 0xC1 → t.flag ≡ 1 → count_in 1920 t ≡ 1918
unfolding count_in area_length pick
count_c1 t e f = ap₂ (λ (n k : ℕ). count_in 1920 (record { code = t.code; aai = t.aai; destination = t.destination; source = t.source; block = n; flag = k; reserved = t.reserved })) e f

pub pauses_383 : (line al : List ℕ) (st : Reader) (room : List ℕ) (hs : List Heard) (st' : Reader) (room' : List ℕ) → st.place ≡ None → st.system ≡ 2 → (settings_of line).block ≡ 0x21
    → All (λ (a : ℕ). 1 ≤ a) al → LendsWithin line al st room hs st' room' → length al ≤ length hs + 383
pauses_383 line al st room hs st' room' at s b some k =
    let c : count_in (system_of st.system).payload (settings_of line) ≡ 383 = ap (λ (i : ℕ). count_in (system_of i).payload (settings_of line)) s ∙ count_21 (settings_of line) b in
    subst (λ (n : ℕ). length al ≤ length hs + n) c (allowed.pauses line al st room hs st' room' at some k)

pub served_1918 : (line al : List ℕ) (st : Reader) (room : List ℕ) (hs : List Heard) (st' : Reader) (room' : List ℕ) → st.place ≡ None → st.system ≡ 2 → (settings_of line).block ≡ 0xC1
    → (settings_of line).flag ≡ 1 → All (λ (a : ℕ). 1 ≤ a) al → Lends line st room hs st' room' → length hs + 1918 ≤ length al → Served line al st room hs st' room'
served_1918 line al st room hs st' room' at s b f some k few =
    let c : count_in (system_of st.system).payload (settings_of line) ≡ 1918 = ap (λ (i : ℕ). count_in (system_of i).payload (settings_of line)) s ∙ count_c1 (settings_of line) b f in
    allowed.served line al st room hs st' room' at some k (subst (λ (n : ℕ). length hs + n ≤ length al) (sym c) few)

-- and what that says: calls with the first of these allowances, and no others, come to what is heard
pub served_so : (line al : List ℕ) (st : Reader) (room : List ℕ) (hs : List Heard) (st' : Reader) (room' : List ℕ) (x : Served line al st room hs st' room')
    → (al ≡ x.used ++ x.left) × LendsWithin line x.used st room hs st' room'
served_so line al st room hs st' room' x = (x.all, x.lends)

-- `enough`: in a line of system 1 with flag 01h an allowance of 1,439
pub enough_1439 : (st : Reader) (line room : List ℕ) → st.system ≡ 1 → st.settings.flag ≡ 1 → (within 1439 st line room).answer.report ≡ Paused → ⊥
unfolding area_length pick
enough_1439 st line room s f =
    allowed.enough 1439 st line room (subst (λ (n : ℕ). n < 1439) (sym (ap₂ (λ (i k : ℕ). area_length (system_of i).payload k) s f)) (lit< tt))

-- `possible`, `never_2`: after two calls of a fresh reader with allowances
pub never_2_so : (a b d : ℕ) (line room other lent : List ℕ) (dropped : Bool) →
    let x = (within a (fresh 2 9) line room).answer.state in
    let y = (within b x other lent).answer.state in
    (impossible y ≡ false) × ((within d y line room).answer.report ≡ Told (Refused 2 dropped) → ⊥)
never_2_so a b d line room other lent dropped =
    let x = (within a (fresh 2 9) line room).answer.state in (
      allowed.possible b x other lent (allowed.possible a (fresh 2 9) line room (fresh_possible 2 9)),
      allowed.never_2 2 9 _ (slices b other lent (slices a line room is_fresh)) d line room dropped,
    )

-- `calls`, `longest`: 1,442 calls in system 1, and 1,922 in system 3
pub within_1442 : (st : Reader) (line room : List ℕ) → st.system ≡ 1 → st.place ≡ None → ends_within 1442 st line room ≡ true
within_1442 st line room s at = ap (λ (k : ℕ). ends_within ((system_of k).payload + 2) st line room) (sym s) ∙ allowed.calls st line room at

pub exactly_1442 : Longest 1 9
unfolding is_system is_mode
exactly_1442 = allowed.longest 1 9 refl refl

pub not_1921 : (x : Longest 3 8)
    → (ends_within 1921 x.st x.line x.room ≡ false) × ((line_fault 3 8 x.line ≡ 0) × ((impossible x.st ≡ false) × ((x.st.system ≡ 3) × ((x.st.place ≡ None) × (length x.room ≡ 16384)))))
not_1921 x = (x.not_before, (x.accepted, (x.possible, (x.of_system, (x.shut, x.long)))))
