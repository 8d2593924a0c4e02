-- Lines that a writer of system 0 sends in 8-bit mode with one set of settings, flag 00h and variable: lines without a block, and a block of 1,500 values
-- over two lines. The area is 1,440 words; the block's 1,507 words are laid 1,440 and 67.
-- Assumes nothing.
use Rattle.std.specs.Prelude.{Option, Some, None}
use Prim.Native.Nat.{ℕ, zero, suc, ◌+◌, ◌-◌, ◌≤◌, ◌<◌, min}
use mathlib.Core.Bool.{true, false, ◌&&◌, ◌||◌, not}
use mathlib.Core.List.{List, [], ◌∷◌, ◌++◌}
use mathlib.Core.Path.{◌≡◌, refl, sym, ap, ap₂, ◌∙◌, subst}
use native.Mathlib.Nat.{add-zero}
use native.Mathlib.Omega.{arith}
use lib.Dec.{eqb, leb}
use lib.ListN.{length, take, drop, replicate, length-append, length-drop, length-replicate}
use borrow.Author.Tests.{le-leb, lt-ltb}
use Rattle.lists.specs.Tests.{pick}
use Rattle.lists.proofs.Tests.{and_true, pick_true, pick_false}
use Rattle.words.specs.Modes.{is_mode}
use Rattle.words.specs.Crc.{crc_start, crc_of}
use Rattle.line.specs.declared.settings.Settings.{Settings}
use Rattle.line.specs.Systems.{system_of, is_system}
use Rattle.line.specs.Settings.{Held, settings_faults, settings_fault, same_settings}
use Rattle.line.specs.Fixed.{block_refused}
use Rattle.line.specs.Layout.{area_length}
use Rattle.line.specs.Check.{fits_length}
use Rattle.line.proofs.AreaLaws.{area_most}
use Rattle.course.specs.Course.{next_number, is_at, blocks_end}
use Rattle.writer.specs.declared.state.Writer.{Writer}
use Rattle.writer.specs.declared.state.Answer.{Answer}
use Rattle.writer.specs.declared.state.Answer.TheVariants.{Done}
use Rattle.writer.specs.declared.state.Laid.TheVariants.{Finished, Unfinished}
use Rattle.writer.specs.State.{is_part, impossible, end_in, moved, unfinished}
use Rattle.writer.specs.Answers.{Left, Added}
use Rattle.writer.specs.Block.{block_words, words_in}
use Rattle.writer.specs.Opening.{open_blocked, open_fault, open_words}
use Rattle.writer.specs.Adding.{valued, ill_shaped, is_full, is_other, add_fault, todo, fitting, adding}
use Rattle.writer.specs.Closing.{close_fault, closing}
use Rattle.writer.proofs.Refusals.{clear_open}
use Rattle.packets.specs.Packet.{packed}
use Rattle.writer.specs.Filling.{piece_of, joined, as_laid}
use Rattle.writer.proofs.Keeps.{open_leaves, add_leaves, close_leaves}
use Rattle.writer.proofs.Framing.{front, front_length, framed_front}
use Rattle.writer.proofs.BlockLaws.{words_variable, block_long}
use Rattle.writer.proofs.Pieces.{piece_laid, all_laid}
use Rattle.demands.specs.Sending.{Call, opens, adds, closes, Piece, Complete, Sent, Desk, opened_by, sends_by, after, sends, sent_by, blocks_of}
use Rattle.demands.specs.Demand3.{Follows}
use Rattle.demands.proofs.DeskOk.{DeskOk}
use Rattle.demands.proofs.DeskCalls.{after_opened, after_finished, after_unfinished, after_closed}
use Rattle.demands.proofs.DeskLaws.{after_ok}
use Rattle.writer.specs.declared.state.Part.{Part}

-- ---- the settings
abbrev pub one_set : Settings
one_set = record { code = 1; aai = 0; destination = replicate 16 0; source = replicate 16 0; block = 0xc1; flag = 0; reserved = replicate 5 0 }

pub set_held : Held one_set
set_held = record {
  to = refl;
  from = refl;
  five = refl;
  to_bytes = refl;
  from_bytes = refl;
  five_bytes = refl;
  block_byte = omega arith;
  flag_byte = omega arith;
}

set_clean : settings_fault 0 one_set ≡ 0
unfolding settings_fault settings_faults block_refused
set_clean = refl

-- the area
area_is : blocks_end 1440 0xc1 0 ≡ 1440
unfolding blocks_end area_length pick
area_is = refl

-- ---- a desk
abbrev pub writer : Option ℕ → Settings → Option ℕ → Option Part → ℕ → Writer
writer l u p r c = record { system = 0; mode = 8; last = l; settings = u; place = p; rest = r; crc = c; used = 0 }

-- with that CRC, and where no word is laid
abbrev pub desk_of : ℕ → Option ℕ → Settings → Option ℕ → Option Part → Sent → ℕ → List ℕ → List Piece → Desk
desk_of c l u p r s i vs ps = record { writer = writer l u p r c; now = s; closed = i; values = vs; pieces = ps }

abbrev pub desk : Option ℕ → Settings → Option ℕ → Option Part → Sent → ℕ → List ℕ → List Piece → Desk
desk l u p r s i vs ps = desk_of crc_start l u p r s i vs ps

-- a line of these settings, F and V 0
abbrev pub sent : ℕ → List (List ℕ) → List Complete → List ℕ → Sent
sent n qs bs ws = record { f = false; v = false; number = n; settings = one_set; pieces = qs; packets = []; blocks = bs; words = ws }

-- an open line is 1,716 words long
open_long : (d : Desk) → DeskOk 0 8 d → is_at d.writer.place ≡ true → length d.now.words ≡ 1716
open_long d ok at =
    let o = ok.opened at in
    let a = joined d.now.pieces in
    let s = d.now in
    let g = packed s.packets in
    let h = front (system_of 0) s.f s.v s.number s.settings g in
    let fill : List ℕ = replicate (1440 - length a) 0x200 in
    let whole : length d.now.words ≡ length h + length (a ++ fill) =
    ap length (o.is_open.is ∙ framed_front (system_of 0) s.f s.v s.number s.settings g (a ++ fill)) ∙ length-append h (a ++ fill) in
    let before : length h ≡ 276 = front_length (system_of 0) s.f s.v s.number s.settings g o.openable.held o.openable.row.room o.is_open.holds in
    let laid = length-append a fill in
    let filled : length {A = ℕ} (replicate (1440 - length a) 0x200) ≡ 1440 - length a = length-replicate (1440 - length a) 0x200 in
    omega (arith, o.is_open.within, area_most 1440 s.settings.flag)

fits_by : (n : ℕ) → n ≡ 1716 → not (fits_length 0 8 n) ≡ false
unfolding fits_length is_system is_mode
fits_by n e = ap (λ (m : ℕ). not (fits_length 0 8 m)) e

-- ---- calls without fault
open_free : (w : Writer) (n : ℕ) (long : ℕ) → not (fits_length w.system w.mode long) ≡ false → impossible w ≡ false
    → (leb 1 n && leb n (system_of w.system).lines) ≡ true → settings_fault w.system one_set ≡ 0 → open_blocked w n one_set ≡ false → open_fault w n one_set long ≡ 0
open_free w n long fit possible range clean free =
    clear_open w n one_set long fit possible (ap not range) clean free

add_free : (w : Writer) (long kind : ℕ) (vs : List ℕ) → not (fits_length w.system w.mode long) ≡ false → impossible w ≡ false → valued w.mode vs ≡ true
    → ill_shaped w.place w.settings.block kind (length vs) ≡ false → is_full (end_in w) w.place ≡ false
    → (not (is_at w.place) || is_other w.rest kind (length vs)) ≡ false → add_fault w long kind vs ≡ 0
unfolding add_fault
add_free w long kind vs fit possible values shape full other =
    pick_false _ _ fit ∙ pick_false _ _ possible ∙ pick_false _ _ (ap not values) ∙ pick_false _ _ shape ∙ pick_false _ _ full ∙ pick_false _ _ other

close_free : (w : Writer) (long : ℕ) → not (fits_length w.system w.mode long) ≡ false → impossible w ≡ false
    → (not (is_at w.place) || (is_part w.rest && not (is_full (end_in w) w.place))) ≡ false → close_fault w long ≡ 0
unfolding close_fault
close_free w long fit possible none_left = pick_false _ _ fit ∙ pick_false _ _ possible ∙ pick_false _ _ none_left

-- ---- a line opened, with lent words of a line's length
module _ (lent : List ℕ) (lent_long : length lent ≡ 1716) where
  abbrev opening_of : ℕ → Call
  opening_of n = opens false false n one_set set_held lent

  module _ (l : Option ℕ) (u : Settings) (r : Option Part) (s : Sent) (i : ℕ) (vs : List ℕ) (ps : List Piece) (n : ℕ) (ok : DeskOk 0 8 (desk l u None r s i vs ps))
      (range : (leb 1 n && leb n 525) ≡ true) (free : open_blocked (writer l u None r crc_start) n one_set ≡ false) where
    abbrev opened : Desk
    opened = desk (Some n) one_set (Some 0) r (sent n [] [] (open_words 0 false false n one_set)) i vs ps

    open_is : after (desk l u None r s i vs ps) (opening_of n) ≡ opened
    open_is =
        let d = desk l u None r s i vs ps in
        let clear = open_free d.writer n (length lent) (fits_by (length lent) lent_long) ok.possible range set_clean free in
        let x = open_leaves d.writer false false n one_set lent clear in
        after_opened d false false n one_set set_held lent (ap (λ (y : Left). y.answer) x)
        ∙ ap (λ (y : Left). opened_by Done y d false false n one_set) x

    open_ok : DeskOk 0 8 opened
    open_ok = subst (DeskOk 0 8) open_is (after_ok 0 8 (desk l u None r s i vs ps) (opening_of n) ok)

    open_sends : (cs : List Call) → sent_by (desk l u None r s i vs ps) (opening_of n ∷ cs) ≡ sent_by opened cs
    unfolding sent_by sends
    open_sends cs = ap (λ (d : Desk). sent_by d cs) open_is

-- ---- a line closed
module _ (n p : ℕ) (r : Option Part) (c : ℕ) (qs : List (List ℕ)) (bs : List Complete) (ws : List ℕ) (i : ℕ) (vs : List ℕ) (ps : List Piece)
    (ok : DeskOk 0 8 (desk_of c (Some n) one_set (Some p) r (sent n qs bs ws) i vs ps)) (none_left : (is_part r && not (is_full 1440 (Some p))) ≡ false) where
  abbrev before : Desk
  before = desk_of c (Some n) one_set (Some p) r (sent n qs bs ws) i vs ps

  -- its words
  shut : List ℕ
  shut = (closing (writer (Some n) one_set (Some p) r c) ws).line

  free_now : close_fault (writer (Some n) one_set (Some p) r c) (length ws) ≡ 0
  free_now =
      close_free (writer (Some n) one_set (Some p) r c) (length ws) (fits_by (length ws) (open_long before ok refl)) ok.possible
      (ap (λ (m : ℕ). is_part r && not (is_full m (Some p))) area_is ∙ none_left)

  leaves : (closing (writer (Some n) one_set (Some p) r c) ws).state ≡ writer (Some n) one_set None r crc_start
  leaves = ap (λ (y : Left). y.state) (close_leaves (writer (Some n) one_set (Some p) r c) ws free_now)

  done : (closing (writer (Some n) one_set (Some p) r c) ws).answer ≡ Done
  done = ap (λ (y : Left). y.answer) (close_leaves (writer (Some n) one_set (Some p) r c) ws free_now)

  close_is : after before closes ≡ desk (Some n) one_set None r (sent n qs bs shut) (suc i) vs ps
  unfolding shut
  close_is =
      after_closed before done
      ∙ ap {B = Desk} (λ (w : Writer). record { writer = w; now = sent n qs bs shut; closed = suc i; values = vs; pieces = ps }) leaves

  close_ok : DeskOk 0 8 (desk (Some n) one_set None r (sent n qs bs shut) (suc i) vs ps)
  close_ok = subst (DeskOk 0 8) close_is (after_ok 0 8 before closes ok)

  close_sends : (cs : List Call) → sent_by (desk_of c (Some n) one_set (Some p) r (sent n qs bs ws) i vs ps) (closes ∷ cs)
      ≡ sent n qs bs shut ∷ sent_by (desk (Some n) one_set None r (sent n qs bs shut) (suc i) vs ps) cs
  unfolding sent_by sends shut
  close_sends cs =
      let x = closing (writer (Some n) one_set (Some p) r c) ws in
      ap (λ (a : Answer). sends_by a x before ++ sent_by (after before closes) cs) done
      ∙ ap {B = List Sent} (λ (d : Desk). sent n qs bs shut ∷ sent_by d cs) close_is

-- ---- 1,500 values, each a value of the mode
pub record Values (vs : List ℕ) : Type 0 where
  pub long : length vs ≡ 1500
  pub fit : valued 8 vs ≡ true

-- what is laid on the first line, and on the second
abbrev pub head_of : List ℕ → List ℕ
head_of vs = take 1440 (block_words 8 1 vs)

abbrev pub tail_of : List ℕ → List ℕ
tail_of vs = drop 1440 (block_words 8 1 vs)

abbrev pub piece : ℕ → List ℕ → Piece
piece i ws = record { line = i; words = ws }

-- a finished block: the values of the words laid before are those lent then
abbrev pub block_of : ℕ → List Piece → List ℕ → List ℕ → Complete
block_of i ps us vs = record { block = record { kind = 1; values = as_laid 1440 us vs }; pieces = ps ++ (piece i (tail_of vs) ∷ []) }

block_is : (vs : List ℕ) → words_in 0xc1 8 1 vs ≡ block_words 8 1 vs
block_is vs = words_variable 0xc1 8 1 vs refl

words_are : (vs : List ℕ) → Values vs → length (words_in 0xc1 8 1 vs) ≡ 1507
words_are vs v = ap length (block_is vs) ∙ block_long 8 1 vs ∙ ap (λ (n : ℕ). n + 7) v.long

shape_is : (vs : List ℕ) → Values vs → ill_shaped (Some 0) 0xc1 1 (length vs) ≡ false
unfolding ill_shaped
shape_is vs v = ap (ill_shaped (Some 0) 0xc1 1) v.long

-- room for a word
not_full : is_full (blocks_end 1440 0xc1 0) (Some 0) ≡ false
not_full = ap (λ (m : ℕ). is_full m (Some 0)) area_is

-- ---- the first line of a block: it is filled
module _ (n : ℕ) (ws : List ℕ) (i : ℕ) (vs : List ℕ) (v : Values vs) (ok : DeskOk 0 8 (desk (Some n) one_set (Some 0) None (sent n [] [] ws) i [] [])) where
  abbrev w : Writer
  w = writer (Some n) one_set (Some 0) None crc_start

  abbrev fresh_line : Desk
  fresh_line = desk (Some n) one_set (Some 0) None (sent n [] [] ws) i [] []

  head_free : add_fault w (length ws) 1 vs ≡ 0
  head_free = add_free w (length ws) 1 vs (fits_by (length ws) (open_long fresh_line ok refl)) ok.possible v.fit (shape_is vs v) not_full refl

  head_room : fitting w (todo w 1 vs) ≡ 1440
  head_room = ap₂ (λ (e l : ℕ). min (e - 0) l) area_is (words_are vs v)

  head_more : eqb (fitting w (todo w 1 vs)) (length (todo w 1 vs)) ≡ false
  head_more = ap₂ eqb head_room (words_are vs v)

  head_leaves : (adding w ws 1 vs).state ≡ writer (Some n) one_set (Some 1440) (unfinished 1 1500 1440) (crc_of crc_start (head_of vs))
  head_leaves =
      ap (λ (x : Added). x.state) (add_leaves w ws 1 vs head_free)
      ∙ ap₂ (λ (k : ℕ) (r : Option Part). moved w (Some (0 + k)) r (crc_of crc_start (take (fitting w (todo w 1 vs)) (todo w 1 vs)))) head_room
      (pick_false _ _ head_more ∙ ap₂ (λ (m k : ℕ). unfinished 1 m (0 + k)) v.long head_room)
      ∙ ap (λ (l : List ℕ). writer (Some n) one_set (Some 1440) (unfinished 1 1500 1440) (crc_of crc_start l)) (ap₂ take head_room (block_is vs))

  head_answer : (adding w ws 1 vs).answer ≡ Unfinished
  head_answer = ap (λ (x : Added). x.answer) (add_leaves w ws 1 vs head_free) ∙ pick_false _ _ head_more

  head_piece : piece_of w ws 1 vs ≡ head_of vs
  head_piece = piece_laid w ws 1 vs head_free ∙ ap₂ take head_room (block_is vs)

  head_line : List ℕ
  head_line = (adding (writer (Some n) one_set (Some 0) None crc_start) ws 1 vs).line

  head_is : after fresh_line (adds 1 vs)
      ≡ desk_of (crc_of crc_start (head_of vs)) (Some n) one_set (Some 1440) (unfinished 1 1500 1440) (sent n (head_of vs ∷ []) [] head_line) i vs (piece i (head_of vs) ∷ [])
  unfolding head_line
  head_is =
      after_unfinished fresh_line 1 vs head_answer
      ∙ ap₂ {C = Desk} (λ (x : Writer) (p : List ℕ). record { writer = x; now = sent n (p ∷ []) [] head_line; closed = i; values = vs; pieces = piece i p ∷ [] })
      head_leaves head_piece

-- ---- the second line
module _ (n : ℕ) (ws : List ℕ) (i : ℕ) (us vs : List ℕ) (ps : List Piece) (v : Values vs)
    (ok : DeskOk 0 8 (desk (Some n) one_set (Some 0) (unfinished 1 1500 1440) (sent n [] [] ws) i us ps)) where
  abbrev w' : Writer
  w' = writer (Some n) one_set (Some 0) (unfinished 1 1500 1440) crc_start

  abbrev owing_line : Desk
  owing_line = desk (Some n) one_set (Some 0) (unfinished 1 1500 1440) (sent n [] [] ws) i us ps

  tail_free : add_fault w' (length ws) 1 vs ≡ 0
  tail_free =
      add_free w' (length ws) 1 vs (fits_by (length ws) (open_long owing_line ok refl)) ok.possible v.fit (shape_is vs v) not_full
      (ap (λ (m : ℕ). not (eqb 1500 m)) v.long)

  tail_long : length (todo w' 1 vs) ≡ 67
  tail_long = length-drop 1440 (words_in 0xc1 8 1 vs) ∙ ap (λ (m : ℕ). m - 1440) (words_are vs v)

  tail_room : fitting w' (todo w' 1 vs) ≡ 67
  tail_room = ap₂ (λ (e l : ℕ). min (e - 0) l) area_is tail_long

  tail_all : eqb (fitting w' (todo w' 1 vs)) (length (todo w' 1 vs)) ≡ true
  tail_all = ap₂ eqb tail_room tail_long

  tail_answer : (adding w' ws 1 vs).answer ≡ Finished
  tail_answer = ap (λ (x : Added). x.answer) (add_leaves w' ws 1 vs tail_free) ∙ pick_true _ _ tail_all

  tail_piece : piece_of w' ws 1 vs ≡ tail_of vs
  tail_piece = all_laid w' ws 1 vs tail_free tail_answer ∙ ap (drop 1440) (block_is vs)

  tail_leaves : (adding w' ws 1 vs).state ≡ writer (Some n) one_set (Some 67) None (crc_of crc_start (tail_of vs))
  tail_leaves =
      ap (λ (x : Added). x.state) (add_leaves w' ws 1 vs tail_free)
      ∙ ap₂ (λ (k : ℕ) (r : Option Part). moved w' (Some (0 + k)) r (crc_of crc_start (take (fitting w' (todo w' 1 vs)) (todo w' 1 vs)))) tail_room (pick_true _ _ tail_all)
      ∙ ap (λ (l : List ℕ). writer (Some n) one_set (Some 67) None (crc_of crc_start l)) (sym (piece_laid w' ws 1 vs tail_free) ∙ tail_piece)

  tail_line : List ℕ
  tail_line = (adding (writer (Some n) one_set (Some 0) (unfinished 1 1500 1440) crc_start) ws 1 vs).line

  tail_is : after owing_line (adds 1 vs) ≡ desk_of (crc_of crc_start (tail_of vs)) (Some n) one_set (Some 67) None (sent n (tail_of vs ∷ []) (block_of i ps us vs ∷ []) tail_line) i [] []
  unfolding tail_line
  tail_is =
      after_finished owing_line 1 vs tail_answer
      ∙ ap₂ {C = Desk} (λ (x : Writer) (p : List ℕ). record {
        writer = x;
        now = sent n (p ∷ []) (record { block = record { kind = 1; values = as_laid 1440 us vs }; pieces = ps ++ (piece i p ∷ []) } ∷ []) tail_line;
        closed = i;
        values = [];
        pieces = [];
      })
      tail_leaves tail_piece

-- ---- whole lines: what is sent, and the desk behind it
pub record Line (d : Desk) (calls : List Call → List Call) (s : List ℕ → Sent) (behind : Sent → Desk) : Type 0 where
  pub words : List ℕ
  pub is : (cs : List Call) → sent_by d (calls cs) ≡ s words ∷ sent_by (behind (s words)) cs
  pub ok : DeskOk 0 8 (behind (s words))

add_sends : (d d' : Desk) (vs : List ℕ) (cs : List Call) → after d (adds 1 vs) ≡ d' → sent_by d (adds 1 vs ∷ cs) ≡ sent_by d' cs
unfolding sent_by sends
add_sends d d' vs cs e = ap (λ (x : Desk). sent_by x cs) e

-- nothing owing: any number may come
any_number : (l : Option ℕ) (u : Settings) (n : ℕ) → open_blocked (writer l u None None crc_start) n one_set ≡ false
unfolding open_blocked
any_number l u n = refl

-- the second line has number 2 where the first has number 1
next_number_lem : open_blocked (writer (Some 1) one_set None (unfinished 1 1500 1440) crc_start) 2 one_set ≡ false
unfolding open_blocked same_settings next_number pick
next_number_lem = refl

goes_up : (x : ℕ) → x < 525 → next_number 525 x ≡ suc x
unfolding next_number
goes_up x h = pick_true _ _ (lt-ltb x 525 h)

-- a line without a block, and one with a block lent; opening is lent these words
abbrev pub empty_line : List ℕ → ℕ → List Call → List Call
empty_line lent n cs = opens false false n one_set set_held lent ∷ closes ∷ cs

abbrev pub block_line : List ℕ → ℕ → List ℕ → List Call → List Call
block_line lent n vs cs = opens false false n one_set set_held lent ∷ adds 1 vs ∷ closes ∷ cs

-- k lines without a block, the first with the number behind x
abbrev pub fillers : List ℕ → ℕ → ℕ → List Call → List Call
fillers lent zero x cs = cs
fillers lent (suc k) x cs = empty_line lent (suc x) (fillers lent k (suc x) cs)

-- the two lines of a block: lent with the values us, and then with the values vs, which the writer does not compare
abbrev pub first_of : List ℕ → List ℕ → Sent
first_of us ws = sent 1 (head_of us ∷ []) [] ws

abbrev pub second_of : ℕ → List ℕ → List ℕ → List ℕ → Sent
second_of i us vs ws = sent 2 (tail_of vs ∷ []) (block_of (suc i) (piece i (head_of us) ∷ []) us vs ∷ []) ws

module _ (lent : List ℕ) (lent_long : length lent ≡ 1716) where
  pub empty_sent : (l : Option ℕ) (u : Settings) (s : Sent) (i n : ℕ) → DeskOk 0 8 (desk l u None None s i [] []) → (leb 1 n && leb n 525) ≡ true
      → Line (desk l u None None s i [] []) (empty_line lent n) (sent n [] []) (λ x. desk (Some n) one_set None None x (suc i) [] [])
  empty_sent l u s i n ok range =
      let free = any_number l u n in
      let ws = open_words 0 false false n one_set in
      let ok₁ = open_ok lent lent_long l u None s i [] [] n ok range free in
      record {
        words = shut n 0 None crc_start [] [] ws i [] [] ok₁ refl;
        is = λ cs. open_sends lent lent_long l u None s i [] [] n ok range free (closes ∷ cs) ∙ close_sends n 0 None crc_start [] [] ws i [] [] ok₁ refl cs;
        ok = close_ok n 0 None crc_start [] [] ws i [] [] ok₁ refl;
      }

  pub head_sent : (l : Option ℕ) (u : Settings) (s : Sent) (i n : ℕ) (vs : List ℕ) → Values vs → DeskOk 0 8 (desk l u None None s i [] []) → (leb 1 n && leb n 525) ≡ true
      → Line (desk l u None None s i [] []) (block_line lent n vs) (sent n (head_of vs ∷ []) [])
      (λ x. desk (Some n) one_set None (unfinished 1 1500 1440) x (suc i) vs (piece i (head_of vs) ∷ []))
  head_sent l u s i n vs v ok range =
      let free = any_number l u n in
      let ws = open_words 0 false false n one_set in
      let ok₁ = open_ok lent lent_long l u None s i [] [] n ok range free in
      let d₁ = desk (Some n) one_set (Some 0) None (sent n [] [] ws) i [] [] in
      let ws₂ = head_line n ws i vs v ok₁ in
      let qs = head_of vs ∷ [] in
      let ps = piece i (head_of vs) ∷ [] in
      let c = crc_of crc_start (head_of vs) in
      let d₂ = desk_of c (Some n) one_set (Some 1440) (unfinished 1 1500 1440) (sent n qs [] ws₂) i vs ps in
      let is₂ = head_is n ws i vs v ok₁ in
      let ok₂ = subst (DeskOk 0 8) is₂ (after_ok 0 8 d₁ (adds 1 vs) ok₁) in
      record {
        words = shut n 1440 (unfinished 1 1500 1440) c qs [] ws₂ i vs ps ok₂ refl;
        is = λ cs. open_sends lent lent_long l u None s i [] [] n ok range free (adds 1 vs ∷ closes ∷ cs) ∙ add_sends d₁ d₂ vs (closes ∷ cs) is₂
            ∙ close_sends n 1440 (unfinished 1 1500 1440) c qs [] ws₂ i vs ps ok₂ refl cs;
        ok = close_ok n 1440 (unfinished 1 1500 1440) c qs [] ws₂ i vs ps ok₂ refl;
      }

  pub tail_sent : (s : Sent) (i : ℕ) (us vs : List ℕ) (ps : List Piece) → Values vs → DeskOk 0 8 (desk (Some 1) one_set None (unfinished 1 1500 1440) s i us ps)
      → Line (desk (Some 1) one_set None (unfinished 1 1500 1440) s i us ps) (block_line lent 2 vs) (sent 2 (tail_of vs ∷ []) (block_of i ps us vs ∷ []))
      (λ x. desk (Some 2) one_set None None x (suc i) [] [])
  tail_sent s i us vs ps v ok =
      let part = unfinished 1 1500 1440 in
      let ws = open_words 0 false false 2 one_set in
      let ok₁ = open_ok lent lent_long (Some 1) one_set part s i us ps 2 ok refl next_number_lem in
      let d₁ = desk (Some 2) one_set (Some 0) part (sent 2 [] [] ws) i us ps in
      let ws₂ = tail_line 2 ws i us vs ps v ok₁ in
      let qs = tail_of vs ∷ [] in
      let bs = block_of i ps us vs ∷ [] in
      let c = crc_of crc_start (tail_of vs) in
      let d₂ = desk_of c (Some 2) one_set (Some 67) None (sent 2 qs bs ws₂) i [] [] in
      let is₂ = tail_is 2 ws i us vs ps v ok₁ in
      let ok₂ = subst (DeskOk 0 8) is₂ (after_ok 0 8 d₁ (adds 1 vs) ok₁) in
      record {
        words = shut 2 67 None c qs bs ws₂ i [] [] ok₂ refl;
        is = λ cs. open_sends lent lent_long (Some 1) one_set part s i us ps 2 ok refl next_number_lem (adds 1 vs ∷ closes ∷ cs) ∙ add_sends d₁ d₂ vs (closes ∷ cs) is₂
            ∙ close_sends 2 67 None c qs bs ws₂ i [] [] ok₂ refl cs;
        ok = close_ok 2 67 None c qs bs ws₂ i [] [] ok₂ refl;
      }

  -- ---- lines without a block, one after another
  pub record Fillers (k x i : ℕ) (s : Sent) : Type 0 where
    pub lines : List Sent
    pub last_one : Sent
    pub is : (cs : List Call) → sent_by (desk (Some x) one_set None None s i [] []) (fillers lent k x cs)
        ≡ lines ++ sent_by (desk (Some (x + k)) one_set None None last_one (i + k) [] []) cs
    pub ok : DeskOk 0 8 (desk (Some (x + k)) one_set None None last_one (i + k) [] [])
    pub long : length lines ≡ k
    pub blocks : (rest : List Sent) → blocks_of (lines ++ rest) ≡ blocks_of rest
    pub follows : (rest : List Sent) → Follows 525 (x + k) rest → Follows 525 x (lines ++ rest)

  one_more : (k x i : ℕ) (s : Sent) → x < 525
      → (first : Line (desk (Some x) one_set None None s i [] []) (empty_line lent (suc x)) (sent (suc x) [] []) (λ y. desk (Some (suc x)) one_set None None y (suc i) [] []))
      → Fillers k (suc x) (suc i) (sent (suc x) [] [] first.words) → Fillers (suc k) x i s
  one_more k x i s below first more =
      let ex : suc x + k ≡ x + suc k = omega arith in
      let ei : suc i + k ≡ i + suc k = omega arith in
      let line = sent (suc x) [] [] first.words in
      let end = more.last_one in
      record {
        lines = line ∷ more.lines;
        last_one = end;
        is = λ cs. first.is (fillers lent k (suc x) cs)
            ∙ ap {B = List Sent} (λ (l : List Sent). line ∷ l)
            (more.is cs ∙ ap₂ (λ (y j : ℕ). more.lines ++ sent_by (desk (Some y) one_set None None end j [] []) cs) ex ei);
        ok = subst (λ (j : ℕ). DeskOk 0 8 (desk (Some (x + suc k)) one_set None None end j [] [])) ei
            (subst (λ (y : ℕ). DeskOk 0 8 (desk (Some y) one_set None None end (suc i + k) [] [])) ex more.ok);
        long = ap suc more.long;
        blocks = λ rest. more.blocks rest;
        follows = λ rest h. (sym (goes_up x below), more.follows rest (subst (λ (y : ℕ). Follows 525 y rest) (sym ex) h));
      }

  pub fillers_sent : (k x i : ℕ) (s : Sent) → x + k ≤ 525 → DeskOk 0 8 (desk (Some x) one_set None None s i [] []) → Fillers k x i s
  fillers_sent zero x i s most ok =
      let ex = sym (add-zero x) in
      let ei = sym (add-zero i) in
      record {
        lines = [];
        last_one = s;
        is = λ cs. ap₂ (λ (y j : ℕ). sent_by (desk (Some y) one_set None None s j [] []) cs) ex ei;
        ok = subst (λ (j : ℕ). DeskOk 0 8 (desk (Some (x + 0)) one_set None None s j [] [])) ei
            (subst (λ (y : ℕ). DeskOk 0 8 (desk (Some y) one_set None None s i [] [])) ex ok);
        long = refl;
        blocks = λ rest. refl;
        follows = λ rest h. subst (λ (y : ℕ). Follows 525 y rest) (add-zero x) h;
      }
  fillers_sent (suc k) x i s most ok =
      let below : suc x ≤ 525 = omega arith in
      let first = empty_sent (Some x) one_set s i (suc x) ok (and_true (le-leb 1 (suc x) (omega arith)) (le-leb (suc x) 525 below)) in
      one_more k x i s below first (fillers_sent k (suc x) (suc i) (sent (suc x) [] [] first.words) (omega arith) first.ok)

  -- ---- a block over two lines
  pub record Lays (d : Desk) (i : ℕ) (us vs : List ℕ) : Type 0 where
    pub first : List ℕ
    pub second : List ℕ
    pub is : (cs : List Call) → sent_by d (block_line lent 1 us (block_line lent 2 vs cs))
        ≡ first_of us first ∷ (second_of i us vs second ∷ sent_by (desk (Some 2) one_set None None (second_of i us vs second) (suc (suc i)) [] []) cs)
    pub ok : DeskOk 0 8 (desk (Some 2) one_set None None (second_of i us vs second) (suc (suc i)) [] [])

  pub block_sent : (l : Option ℕ) (u : Settings) (s : Sent) (i : ℕ) (us vs : List ℕ) → Values us → Values vs → DeskOk 0 8 (desk l u None None s i [] [])
      → Lays (desk l u None None s i [] []) i us vs
  block_sent l u s i us vs x y ok =
      let p = head_sent l u s i 1 us x ok refl in
      let line = first_of us p.words in
      let q = tail_sent line (suc i) us vs (piece i (head_of us) ∷ []) y p.ok in
      record {
        first = p.words;
        second = q.words;
        is = λ cs. p.is (block_line lent 2 vs cs) ∙ ap {B = List Sent} (λ (z : List Sent). line ∷ z) (q.is cs);
        ok = q.ok;
      }

pub none_sent : (d : Desk) → sent_by d [] ≡ []
unfolding sent_by
none_sent d = refl
