-- Instances of demands 2 and 3, computed: what two courses of calls send, and what every fresh reader hears of it by the theorems.
-- Assumes nothing.
use Rattle.std.specs.Prelude.{Some, None}
use Prim.Native.Nat.{ℕ, ◌<◌}
use mathlib.Core.Bool.{true, false}
use mathlib.Core.List.{List, [], ◌∷◌, map}
use mathlib.Core.Path.{◌≡◌, refl, sym, ap, ◌∙◌, subst}
use native.Mathlib.Omega.{arith}
use lib.Dec.{lit<}
use lib.IntN.{pos}
use lib.ListN.{length, replicate, length-replicate}
use Rattle.lists.specs.Tests.{pick}
use Rattle.lists.proofs.Tests.{true_false}
use Rattle.words.specs.Forms.{byte_word}
use Rattle.words.specs.Modes.{is_mode, values, word_of}
use Rattle.words.specs.Crc.{crc_of, crc_words}
use Rattle.line.specs.declared.settings.Settings.{Settings}
use Rattle.line.specs.Systems.{is_system}
use Rattle.line.specs.Timing.{timing_words}
use Rattle.line.specs.Fixed.{block_refused}
use Rattle.line.specs.Settings.{Held, settings_fault, settings_faults, same_settings}
use Rattle.line.specs.Header.{number_words, settings_bytes, settings_words, summed_words, header_words}
use Rattle.line.specs.Layout.{area_length, end_words, framed}
use Rattle.line.specs.Check.{fits_length, timed, head_faults, faults, line_fault}
use Rattle.course.specs.Course.{next_number, blocks_end, off_grid}
use Rattle.writer.specs.State.{impossible}
use Rattle.writer.specs.Block.{words_in}
use Rattle.writer.specs.Answers.{answer_numbers, laid_numbers}
use Rattle.writer.specs.Opening.{open_blocked, open_fault, open_words, opening}
use Rattle.writer.specs.Adding.{valued, ill_shaped, add_fault, adding}
use Rattle.writer.specs.Packing.{packing}
use Rattle.writer.specs.Closing.{close_fault, sealed, closing}
use Rattle.writer.specs.Batch.{entries_in, entries_of, lay_all, batch_fault, batching}
use Rattle.writer.specs.Filling.{piece_of}
use Rattle.reader.specs.State.{capacity, fresh}
use Rattle.reader.specs.Jump.{folded}
use Rattle.demands.specs.All.{All}
use Rattle.demands.specs.Sending.{Call, opens, adds, packs, closes, Block, Piece, Complete, Sent, Desk, start, after, sends, sent_by, sent_fresh, blocks_of}
use Rattle.demands.specs.Lent.{Unchanged, lent_by, lent_fresh}
use Rattle.demands.specs.Hearing.{Heard, is_begun, is_block, is_end, Reads, handed_out}
use Rattle.demands.specs.Damage.{Fate, kept, removed, replaced, remain, RefusedIfReplaced, longest_run, kept_at, survivors}
use Rattle.demands.specs.Demand2.{given_back}
use Rattle.demands.specs.Demand3.{Consecutive, Transmission}
use Rattle.demands.specs.Batches.{Mixed, single, many, singly, batch_calls, done_by, spelled, lines_fresh, spelled_fresh}
use Rattle.demands.proofs.Demand2Holds.{demand_2}
use Rattle.demands.proofs.Demand3Holds.{demand_3}
use Rattle.demands.proofs.BatchesHold.{batches}
use Rattle.demands.proofs.FrameCourse.{head_of, piece as frame_piece, block_of}
use Rattle.demands.proofs.FrameNeeded.{mixed, mixes_them, all_values}

-- ---- for both
-- settings of system 0 with that block type and flag
settings : ℕ → ℕ → Settings
settings k flag = record { code = 1; aai = 0; destination = replicate 16 0; source = replicate 16 0; block = k; flag = flag; reserved = replicate 5 0 }

held : (k flag : ℕ) → k < 256 → flag < 256 → Held (settings k flag)
unfolding settings
held k flag a b = record { to = refl; from = refl; five = refl; to_bytes = refl; from_bytes = refl; five_bytes = refl; block_byte = a; flag_byte = b }

-- a lent line, all 0
blank : List ℕ
blank = replicate 1716 0

abbrev block : ℕ → List ℕ → Block
block k vs = record { kind = k; values = vs }

abbrev piece : ℕ → List ℕ → Piece
piece i ws = record { line = i; words = ws }

-- the lines that calls on a fresh writer close: this names all that is unfolded to compute them
sent : ℕ → ℕ → List Call → List Sent
unfolding settings blank byte_word word_of is_mode values crc_of crc_words is_system timing_words block_refused settings_fault settings_faults same_settings number_words settings_bytes settings_words summed_words header_words area_length end_words framed fits_length next_number blocks_end off_grid impossible words_in open_blocked open_fault open_words opening valued ill_shaped add_fault adding close_fault sealed closing piece_of after sends sent_by
sent system mode cs = sent_fresh system mode cs

-- 01's numbers for the answers of calls, one after another: nothing for done; 0 1 for finished and 0 0 for unfinished; else the refusal's number
answer_of : Desk → Call → List ℕ
answer_of d (opens f v n t h lent) = answer_numbers (opening d.writer f v n t lent).answer
answer_of d (adds kind vs) = laid_numbers (adding d.writer d.now.words kind vs).answer
answer_of d (packs did second p q vs) = answer_numbers (packing d.writer d.now.words did second vs).answer
answer_of d closes = answer_numbers (closing d.writer d.now.words).answer

answers_by : Desk → List Call → List (List ℕ)
answers_by d [] = []
answers_by d (c ∷ cs) = answer_of d c ∷ answers_by (after d c) cs

pub answers : ℕ → ℕ → List Call → List (List ℕ)
unfolding answer_of answers_by
answers system mode cs = answers_by (start system mode) cs

-- ---- demand 2: system 0, 8 bits; line 20 with 01's block, and then line 21, which is fixed, of places of 5 words
pub variable : Settings
variable = settings 0xC1 0

pub fixed : Settings
fixed = settings 0x21 0

pub opens_20 : Call
unfolding variable
opens_20 = opens false false 20 variable (held 0xC1 0 (lit< tt) (lit< tt)) blank

opens_21 : Call
unfolding fixed
opens_21 = opens true true 21 fixed (held 0x21 0 (lit< tt) (lit< tt)) blank

-- four of the calls are refused: a value above 255; a line open already; closing, none open; and three values where a place takes four
pub two_lines : List Call
unfolding opens_20 opens_21
two_lines =
    opens_20 ∷ adds 1 (0 ∷ 255 ∷ 1 ∷ []) ∷ adds 2 (256 ∷ []) ∷ opens_21 ∷ closes
    ∷ closes ∷ opens_21 ∷ adds 7 (1 ∷ 2 ∷ 3 ∷ 4 ∷ []) ∷ adds 7 (1 ∷ 2 ∷ 3 ∷ []) ∷ closes ∷ []

pub two_answers : answers 0 8 two_lines ≡ [] ∷ (0 ∷ 1 ∷ []) ∷ (17 ∷ []) ∷ (20 ∷ []) ∷ [] ∷ (20 ∷ []) ∷ [] ∷ (0 ∷ 1 ∷ []) ∷ (18 ∷ []) ∷ [] ∷ []
unfolding sent answers two_lines
two_answers = refl

pub two_numbers : map (λ (s : Sent). s.number) (sent_fresh 0 8 two_lines) ≡ 20 ∷ 21 ∷ []
unfolding sent two_lines
two_numbers = refl

-- the words of the first block are those that 01 prints
pub two_blocks : blocks_of (sent_fresh 0 8 two_lines)
    ≡ record { block = block 1 (0 ∷ 255 ∷ 1 ∷ []); pieces = piece 0 (0x309 ∷ 0x101 ∷ 0x203 ∷ 0x200 ∷ 0x200 ∷ 0x200 ∷ 0x200 ∷ 0x2FF ∷ 0x101 ∷ 0x30A ∷ []) ∷ [] }
    ∷ record { block = block 7 (1 ∷ 2 ∷ 3 ∷ 4 ∷ []); pieces = piece 1 (0x107 ∷ 0x101 ∷ 0x102 ∷ 0x203 ∷ 0x104 ∷ []) ∷ [] }
    ∷ []
unfolding sent two_lines
two_blocks = refl

abbrev pub two_heard : List Heard
two_heard =
    is_begun 20 None false variable ∷ is_block (block 1 (0 ∷ 255 ∷ 1 ∷ [])) ∷ is_end
    ∷ is_begun 21 (Some (pos 0)) false fixed ∷ is_block (block 7 (1 ∷ 2 ∷ 3 ∷ 4 ∷ [])) ∷ is_end ∷ []

two_given : given_back 525 None (sent_fresh 0 8 two_lines) ≡ two_heard
unfolding sent two_lines given_back folded
two_given = refl

-- so this is what every fresh reader hears of these lines
pub two_heard_by_all : (room : List ℕ) → length room ≡ capacity → (hs : List Heard) → Reads (fresh 0 8) room (map (λ (s : Sent). s.words) (sent_fresh 0 8 two_lines)) hs
    → hs ≡ two_heard
two_heard_by_all room long hs r = demand_2.heard 0 8 two_lines room long hs r ∙ two_given

-- and a fresh reader with a room of 16,384 words, all 0, is one
pub two_heard_once : (demand_2.readable 0 8 two_lines (replicate 16384 0)).heard ≡ two_heard
two_heard_once =
    let x = demand_2.readable 0 8 two_lines (replicate 16384 0) in
    two_heard_by_all (replicate 16384 0) (length-replicate {A = ℕ} 16384 0) x.heard x.reads

-- ---- 02, Item 9: the same first block by a list, with a block whose value is refused and a word left over behind it
pub by_list : List Mixed
unfolding opens_20
by_list = single opens_20 ∷ many (1 ∷ 3 ∷ 0 ∷ 255 ∷ 1 ∷ 2 ∷ 1 ∷ 256 ∷ 9 ∷ []) ∷ single closes ∷ []

-- the single calls that it is: the entry behind the refused one is not reached
pub list_spelled : spelled_fresh 0 8 by_list ≡ opens_20 ∷ adds 1 (0 ∷ 255 ∷ 1 ∷ []) ∷ adds 2 (256 ∷ []) ∷ closes ∷ []
unfolding sent by_list entries_in entries_of lay_all batch_fault batching singly batch_calls done_by spelled
list_spelled = refl

list_given : given_back 525 None (sent_fresh 0 8 (spelled_fresh 0 8 by_list)) ≡ is_begun 20 None false variable ∷ is_block (block 1 (0 ∷ 255 ∷ 1 ∷ [])) ∷ is_end ∷ []
unfolding sent by_list entries_in entries_of lay_all batch_fault batching singly batch_calls done_by spelled given_back folded
list_given = refl

-- what every fresh reader hears of its line
pub list_heard : (room : List ℕ) → length room ≡ capacity → (hs : List Heard) → Reads (fresh 0 8) room (lines_fresh 0 8 by_list) hs
    → hs ≡ is_begun 20 None false variable ∷ is_block (block 1 (0 ∷ 255 ∷ 1 ∷ [])) ∷ is_end ∷ []
list_heard room long hs r = batches.heard 0 8 by_list room long hs r ∙ list_given

-- ---- demand 3: system 0, 9 bits, variable lines of flag 01h: lines 523, 524, 525, 1 and 2. No line is full, because the CRC of each word
-- laid is computed here.
guarded : Settings
guarded = settings 0xC1 1

line : ℕ → Call
unfolding guarded
line n = opens false false n guarded (held 0xC1 1 (lit< tt) (lit< tt)) blank

pub five_lines : List Call
unfolding line
five_lines =
    line 523 ∷ adds 1 (0 ∷ 255 ∷ 1 ∷ []) ∷ adds 2 (257 ∷ []) ∷ closes
    ∷ line 524 ∷ adds 3 [] ∷ closes
    ∷ line 525 ∷ adds 4 (4 ∷ 4 ∷ []) ∷ adds 5 (5 ∷ []) ∷ closes
    ∷ line 1 ∷ adds 6 (6 ∷ []) ∷ closes
    ∷ line 2 ∷ adds 7 (511 ∷ 7 ∷ []) ∷ closes
    ∷ []

pub five_answers : answers 0 9 five_lines
    ≡ [] ∷ (0 ∷ 1 ∷ []) ∷ (0 ∷ 1 ∷ []) ∷ []
    ∷ [] ∷ (0 ∷ 1 ∷ []) ∷ []
    ∷ [] ∷ (0 ∷ 1 ∷ []) ∷ (0 ∷ 1 ∷ []) ∷ []
    ∷ [] ∷ (0 ∷ 1 ∷ []) ∷ []
    ∷ [] ∷ (0 ∷ 1 ∷ []) ∷ []
    ∷ []
unfolding sent answers five_lines
five_answers = refl

pub five_numbers : map (λ (s : Sent). s.number) (sent_fresh 0 9 five_lines) ≡ 523 ∷ 524 ∷ 525 ∷ 1 ∷ 2 ∷ []
unfolding sent five_lines
five_numbers = refl

-- each block's type, and the lines on which its pieces lie, the first line being 0
pub five_pieces : map (λ (b : Complete). b.block.kind ∷ map (λ (p : Piece). p.line) b.pieces) (blocks_of (sent_fresh 0 9 five_lines))
    ≡ (1 ∷ 0 ∷ []) ∷ (2 ∷ 0 ∷ []) ∷ (3 ∷ 1 ∷ []) ∷ (4 ∷ 2 ∷ []) ∷ (5 ∷ 2 ∷ []) ∷ (6 ∷ 3 ∷ []) ∷ (7 ∷ 4 ∷ []) ∷ []
unfolding sent five_lines
five_pieces = refl

-- line 525 is removed, and line 1 is replaced by words all 0, which the line check refuses
pub fates : List Fate
fates = kept ∷ kept ∷ removed ∷ replaced blank ∷ kept ∷ []

-- the blocks 4, 5 and 6 are lost
abbrev pub left : List Block
left = block 1 (0 ∷ 255 ∷ 1 ∷ []) ∷ block 2 (257 ∷ []) ∷ block 3 [] ∷ block 7 (511 ∷ 7 ∷ []) ∷ []

pub five_survivors : survivors (kept_at fates) (blocks_of (sent_fresh 0 9 five_lines)) ≡ left
unfolding sent five_lines fates
five_survivors = refl

one_removed : longest_run fates < 525
unfolding fates
one_removed = lit< tt

pub refused_3 : line_fault 0 9 (replicate 1716 0) ≡ 3
unfolding pick is_system is_mode timing_words timed head_faults faults fits_length line_fault
refused_3 = refl

refused_is : All (RefusedIfReplaced 0 9) fates
unfolding fates blank
refused_is = (tt, (tt, (tt, ((length-replicate {A = ℕ} 1716 0, λ e. let n : ◌≡◌ {A = ℕ} 3 0 = sym refused_3 ∙ e in omega (arith, n)), (tt, tt)))))

consecutive : Consecutive 525 (sent_fresh 0 9 five_lines)
unfolding sent five_lines
consecutive = (refl, (refl, (refl, (refl, tt))))

five_long : length fates ≡ length (sent_fresh 0 9 five_lines)
unfolding sent five_lines fates
five_long = refl

pub transmission : Transmission 0 9 525 five_lines fates
transmission = record { numbers = consecutive; each_line = five_long; runs = one_removed; refusing = refused_is }

-- so this is what every fresh reader hands out
pub five_handed_by_all : (room : List ℕ) → length room ≡ capacity → (hs : List Heard) → Reads (fresh 0 9) room (remain fates (sent_fresh 0 9 five_lines)) hs → handed_out hs ≡ left
five_handed_by_all room long hs r = demand_3.handed 0 9 five_lines fates transmission room long hs r ∙ five_survivors

-- and a fresh reader with a room of 16,384 words, all 0, is one
pub five_handed_once : handed_out (demand_3.readable 0 9 (replicate 16384 0) (remain fates (sent_fresh 0 9 five_lines))).heard ≡ left
five_handed_once =
    let x = demand_3.readable 0 9 (replicate 16384 0) (remain fates (sent_fresh 0 9 five_lines)) in
    five_handed_by_all (replicate 16384 0) (length-replicate {A = ℕ} 16384 0) x.heard x.reads

-- in the demand's own words: each block was lent unchanged until finished, and these are the blocks as lent that survive
one_set : All (λ (s : Sent). s.settings ≡ guarded) (sent_fresh 0 9 five_lines)
unfolding sent five_lines guarded
one_set = (refl, (refl, (refl, (refl, (refl, tt)))))

-- where no block is unfinished, none has to be lent again
none_again : {A B : Type 0} → A → false ≡ true → B
none_again c p = absurd (true_false (sym p))

unchanged : Unchanged (start 0 9) five_lines
unfolding sent five_lines Unchanged
unchanged = (none_again, (none_again, (none_again, (none_again, (none_again, (none_again, (none_again, tt)))))))

pub five_lent : survivors (kept_at fates) (lent_fresh 0 9 five_lines) ≡ left
unfolding sent five_lines fates lent_by
five_lent = refl

pub five_as_demanded : (room : List ℕ) → length room ≡ capacity → (hs : List Heard) → Reads (fresh 0 9) room (remain fates (sent_fresh 0 9 five_lines)) hs → handed_out hs ≡ left
unfolding guarded settings
five_as_demanded room long hs r =
    demand_3.as_demanded 0 9 guarded five_lines fates (record { variable = refl; one_set = one_set; unchanged = unchanged; transmission = transmission }) room long hs r ∙ five_lent

-- ---- demand 3, a block over two lines: system 0, 8 bits, 1,500 values on lines 1 and 2, by the laws of such lines (proofs/FrameCourse.antt)
abbrev ones : List ℕ
ones = replicate 1500 1

-- what the calls send, lent a line of zeros
abbrev zeros_long : length (replicate {A = ℕ} 1716 0) ≡ 1716
zeros_long = length-replicate {A = ℕ} 1716 0

abbrev pub over_two : List Call
over_two = mixed (replicate 1716 0) zeros_long (replicate 1500 1) (replicate 1500 1) (all_values 1 refl) (all_values 1 refl)

-- with these fates of the two lines, these blocks are handed out
over_by : (fs : List Fate) (bs : List Block) → length fs ≡ 2 → longest_run fs < 525 → All (RefusedIfReplaced 0 8) fs
    → survivors (kept_at fs) (block_of 1 (frame_piece 0 (head_of ones) ∷ []) ones ones ∷ []) ≡ bs
    → (room : List ℕ) → length room ≡ capacity → (hs : List Heard) → Reads (fresh 0 8) room (remain fs (sent_fresh 0 8 over_two)) hs → handed_out hs ≡ bs
unfolding next_number pick
over_by fs bs two runs refusing e room long hs r =
    let x = mixes_them (replicate 1716 0) zeros_long ones ones (all_values 1 refl) (all_values 1 refl) in
    demand_3.handed 0 8 over_two fs
    (record { numbers = subst (Consecutive 525) (sym x.is) (refl, tt); each_line = two ∙ ap length (sym x.is); runs = runs; refusing = refusing })
    room long hs r
    ∙ ap (λ (ss : List Sent). survivors (kept_at fs) (blocks_of ss)) x.is
    ∙ e

-- both kept: the block; the second or the first removed: none
pub over_kept : (room : List ℕ) → length room ≡ capacity → (hs : List Heard) → Reads (fresh 0 8) room (remain (kept ∷ kept ∷ []) (sent_fresh 0 8 over_two)) hs
    → handed_out hs ≡ block 1 (replicate 1500 1) ∷ []
unfolding pick
over_kept = over_by (kept ∷ kept ∷ []) (block 1 ones ∷ []) refl (lit< tt) (tt, (tt, tt)) refl

pub over_cut : (room : List ℕ) → length room ≡ capacity → (hs : List Heard) → Reads (fresh 0 8) room (remain (kept ∷ removed ∷ []) (sent_fresh 0 8 over_two)) hs
    → handed_out hs ≡ []
unfolding pick
over_cut = over_by (kept ∷ removed ∷ []) [] refl (lit< tt) (tt, (tt, tt)) refl

pub over_headless : (room : List ℕ) → length room ≡ capacity → (hs : List Heard) → Reads (fresh 0 8) room (remain (removed ∷ kept ∷ []) (sent_fresh 0 8 over_two)) hs
    → handed_out hs ≡ []
unfolding pick
over_headless = over_by (removed ∷ kept ∷ []) [] refl (lit< tt) (tt, (tt, tt)) refl
