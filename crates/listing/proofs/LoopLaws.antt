-- Laws of the loop that lists a line: what is still to come is at every turn as it was at the start.
-- Assumes nothing.
use mathlib.Core.Path.{◌≡◌, refl, sym, ap, ap₂, ◌∙◌}
use mathlib.Core.Bool.{Bool, true, false, not}
use mathlib.Core.List.{List, [], ◌++◌}
use Prim.Native.Nat.{ℕ, suc, ◌+◌, ◌-◌, ◌*◌, ◌≤◌, ◌<◌}
use native.Mathlib.Omega.{arith}
use lib.ListN.{length, take}
use Rattle.reader.specs.declared.state.Reader.{Reader}
use Rattle.reader.specs.declared.state.Told.{Told}
use Rattle.reader.specs.Reading.{Reply, reply, reading}
use Rattle.reader.specs.Lending.{is_last}
use Rattle.rows.specs.Rows.{row_text}
use Rattle.listing.specs.Lines.{Listed, listed, called, called_by, most, listing, Between, Lists}
use Rattle.listing.proofs.LineLaws.{one_more, none_behind, enough_calls}
use Rattle.listing.proofs.BetweenLaws.{line_shut}

-- ---- after so many calls the first n bytes of the text are the rows so far, and what is still to come is as it was at the start
pub record Lines (line : List ℕ) (st : Reader) (before blank : List ℕ) (state : Reader) (room text : List ℕ) (calls n : ℕ) : Type 0 where
  pub is : called_by (most - calls) line (listed false state room (take n text)) ≡ listing st line before
  pub few : calls ≤ most
  pub short : n ≤ calls * 48
  pub same_room : length room ≡ length before
  pub same_text : length text ≡ length blank

pub lines_start : (line : List ℕ) (st : Reader) (before blank : List ℕ) → Lines line st before blank st before blank 0 0
unfolding listing
lines_start line st before blank = record { is = refl; few = omega arith; short = omega arith; same_room = refl; same_text = refl }

-- a call that was taken: what it told, the room and the text behind it
pub record Taken (line : List ℕ) (state : Reader) (room text : List ℕ) (n : ℕ) (told : Told) (room' text' : List ℕ) (n' : ℕ) : Type 0 where
  pub call_is : reply told room' ≡ reading state line room
  pub row_is : take n' text' ≡ take n text ++ row_text told.event
  pub at_most : n' ≤ n + 48
  pub room_long : length room' ≡ length room
  pub text_long : length text' ≡ length text

-- ---- what is listed at the loop's end is the line's listing
stays_by : (st : Reader) (line before : List ℕ) (after : Reader) → after ≡ (listing st line before).state → Between st → Between after
unfolding listing
stays_by st line before after e b =
    let r = line_shut most line (listed false st before []) b.shut refl (enough_calls st line before b) in
    record { zeroth = ap (λ (x : Reader). x.system) e ∙ r.same ∙ b.zeroth; shut = ap (λ (x : Reader). x.place) e ∙ r.shut }

lists_by : (line : List ℕ) (st : Reader) (before : List ℕ) (s : Listed) → s ≡ listing st line before → Lists st line before s.state s.room s.text
lists_by line st before s e =
    let state = ap (λ (x : Listed). x.state) e in
    record {
      same_state = state;
      same_room = ap (λ (x : Listed). x.room) e;
      same_text = ap (λ (x : Listed). x.text) e;
      is_over = enough_calls st line before;
      stays = stays_by st line before s.state state;
    }

flipped : (b c : Bool) → not b ≡ c → b ≡ not c
flipped true c e = ap not e
flipped false c e = ap not e

module _ (line : List ℕ) (st : Reader) (before blank : List ℕ) (state : Reader) (room text : List ℕ) (calls n : ℕ)
    (told : Told) (room' text' : List ℕ) (n' : ℕ)
    (l : Lines line st before blank state room text calls n) (h : calls < 1442) (t : Taken line state room text n told room' text' n') where
  -- what is listed then
  abbrev stands : Bool → Listed
  stands over = listed over told.state room' (take n' text')

  -- it is what a call more lists
  after_call : stands (is_last told.event) ≡ called line (listed false state room (take n text))
  after_call =
      ap (λ (s : List ℕ). listed (is_last told.event) told.state room' s) t.row_is
      ∙ ap (λ (x : Reply). listed (is_last x.told.event) x.told.state x.room (take n text ++ row_text x.told.event)) t.call_is

  on : called_by (most - (calls + 1)) line (stands (is_last told.event)) ≡ listing st line before
  on =
      let left : most - calls ≡ suc (most - (calls + 1)) = omega arith in
      let s = listed false state room (take n text) in
      ap (called_by (most - (calls + 1)) line) after_call
      ∙ sym (one_more (most - (calls + 1)) line s refl) ∙ ap (λ (m : ℕ). called_by m line s) (sym left)
      ∙ l.is

  pub lines_turn : not (is_last told.event) ≡ true → Lines line st before blank told.state room' text' (calls + 1) n'
  lines_turn goes =
      record {
        is = ap (λ (b : Bool). called_by (most - (calls + 1)) line (stands b)) (sym (flipped _ _ goes)) ∙ on;
        few = omega arith;
        short = omega (arith, l.short, t.at_most);
        same_room = t.room_long ∙ l.same_room;
        same_text = t.text_long ∙ l.same_text;
      }

  -- ---- the loop's end: by the line's last event, or by the number of calls
  pub lines_over : not (is_last told.event) ≡ false → Lists st line before told.state room' (take n' text')
  lines_over over =
      let s = stands (is_last told.event) in
      lists_by line st before s (sym (none_behind (most - (calls + 1)) line s (flipped _ _ over)) ∙ on)

pub lines_all : (line : List ℕ) (st : Reader) (before blank : List ℕ) (state : Reader) (room text : List ℕ) (calls n : ℕ)
    → Lines line st before blank state room text calls n → 1442 ≤ calls → Lists st line before state room (take n text)
unfolding called_by
lines_all line st before blank state room text calls n l h =
    let s = listed false state room (take n text) in
    let none : 0 ≡ most - calls = omega arith in
    lists_by line st before s (ap (λ (m : ℕ). called_by m line s) none ∙ l.is)
